-- A pool as the rules speak of it: what its books hold, how its rule shares, and its records.
use Rattle.std.specs.Prelude.{ℕ, List}
use Rattle.book.specs.declared.Book.{Ghosts as BookMeaning}
use Rattle.book.specs.Ledgers.{Ledger, ledger}
use Rattle.share.specs.declared.SharingRule.{Ghosts as RuleMeaning}
use Rattle.pool.specs.declared.Pool.{Pool}
use Rattle.records.specs.declared.kept.Records.{Records}

pub record State : Type 0 where
  pub bonds : Ledger
  pub cash : Ledger
  -- limits and a want, in units, to shares
  pub rule : List ℕ → ℕ → List ℕ
  pub kept : Records

-- what a pool over any books and rule stands for, by what these say that they mean
abbrev pub state_of : {X Y Z : Type 0} → BookMeaning X → BookMeaning Y → RuleMeaning Z → Pool X Y Z → State
state_of b c r p = record {
  bonds = ledger b p.parts.bonds;
  cash = ledger c p.parts.cash;
  rule = r.meaning p.parts.rule;
  kept = p.records;
}

-- a state with one part changed
abbrev pub with_bonds : State → List ℕ → State
with_bonds s xs = record s { bonds = record s.bonds { amounts = xs } }

abbrev pub with_cash : State → List ℕ → State
with_cash s xs = record s { cash = record s.cash { amounts = xs } }

abbrev pub with_kept : State → Records → State
with_kept s k = record s { kept = k }
