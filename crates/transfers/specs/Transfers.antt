-- The calls that move available amounts between members.
use Rattle.std.specs.Prelude.{ℕ, Bool, not, ◌||◌, List, [], ◌∷◌, ◌==◌, nat_lt, slice_index}
use Rattle.terms.specs.Faces.{good_face}
use Rattle.terms.specs.Ranges.{allowed}
use Rattle.terms.specs.Refusals.{refuse, refuse_order}
use Rattle.terms.specs.declared.range.Range.TheVariants as range
use Rattle.terms.specs.declared.refusal.Refusal.{Refusal}
use Rattle.terms.specs.declared.refusal.Cause.TheVariants as cause
use Rattle.terms.specs.declared.refusal.Layer.TheVariants as layer
use Rattle.book.specs.Ledgers.{Ledger}
use Rattle.book.specs.Moves.{room}
use Rattle.book.specs.Places.{available}
use Rattle.records.specs.Kept.{no_member, no_bond, bond_at}
use Rattle.records.specs.Times.{not_open}
use Rattle.records.specs.declared.kept.Records.{Records}

-- a move of n: short where the source holds less, then over where the target has no room.
-- A place that a book does not have holds nothing and has room for nothing.
abbrev pub move_rules : Ledger → ℕ → ℕ → ℕ → Refusal → Refusal → List (Bool × Refusal)
move_rules l source target n short over =
    (nat_lt (slice_index l.amounts source) n, short) ∷ (not (room l.most l.amounts target n), over) ∷ []

abbrev pub deliver_rules : Ledger → Records → ℕ → ℕ → ℕ → ℕ → ℕ → List (Bool × Refusal)
deliver_rules bonds k day from to bond face =
    (not_open k day, refuse_order cause.Time 0)
    ∷ (no_member from, refuse_order cause.Account from)
    ∷ (no_member to || (from == to), refuse_order cause.Account to)
    ∷ (no_bond bond, refuse_order cause.Bond 0)
    ∷ (not (good_face face (bond_at k bond).unit), refuse_order cause.Face 0)
    ∷ move_rules bonds (available from bond) (available to bond) face (refuse cause.Short from layer.BondBook) (refuse cause.Over to layer.BondBook)

abbrev pub remit_rules : Ledger → Records → ℕ → ℕ → ℕ → ℕ → List (Bool × Refusal)
remit_rules cash k day from to fen =
    (not_open k day, refuse_order cause.Time 0)
    ∷ (no_member from, refuse_order cause.Account from)
    ∷ (no_member to || (from == to), refuse_order cause.Account to)
    ∷ (fen == 0 || not (allowed range.Amount fen), refuse_order cause.Figure 0)
    ∷ move_rules cash from to fen (refuse cause.Short from layer.CashBook) (refuse cause.Over to layer.CashBook)
