-- What a pool is opened with, and when that is refused.
use Rattle.std.specs.Prelude.{ℕ, Bool, not, ◌||◌, List, ◌∷◌, Option}
use Rattle.terms.specs.Table.{first_of}
use Rattle.terms.specs.Refusals.{refuse_order}
use Rattle.terms.specs.declared.refusal.Refusal.{Refusal}
use Rattle.terms.specs.declared.refusal.Cause.TheVariants as cause
use Rattle.book.specs.declared.Book.{Ghosts as BookMeaning}
use Rattle.book.specs.Ledgers.{Ledger, ledger, fits}
use Rattle.share.specs.declared.SharingRule.{Ghosts as RuleMeaning}
use Rattle.records.specs.Openings.{figures_rules, opened_records}
use Rattle.records.specs.declared.opening.Figures.{Figures}
use Rattle.pool.specs.State.{State}
use Rattle.pool.specs.declared.opening.Parts.{Parts}

pub record Opening : Type 0 where
  pub bonds : Ledger
  pub cash : Ledger
  pub rule : List ℕ → ℕ → List ℕ
  pub figures : Figures

abbrev pub opening_of : {X Y Z : Type 0} → BookMeaning X → BookMeaning Y → RuleMeaning Z → Parts X Y Z → Figures → Opening
opening_of b c r p f = record { bonds = ledger b p.bonds; cash = ledger c p.cash; rule = r.meaning p.rule; figures = f }

-- both books have their places and the largest amount, and hold none above it; then every figure is in its range
abbrev pub opening_rules : Ledger → Ledger → Figures → List (Bool × Refusal)
opening_rules bonds cash f =
    (not (fits 1024 bonds) || not (fits 32 cash), refuse_order cause.Figure 0) ∷ figures_rules f

abbrev pub opening_verdict : Opening → Option Refusal
opening_verdict o = first_of (opening_rules o.bonds o.cash o.figures)

abbrev pub opening_state : Opening → State
opening_state o = record { bonds = o.bonds; cash = o.cash; rule = o.rule; kept = opened_records o.figures }
