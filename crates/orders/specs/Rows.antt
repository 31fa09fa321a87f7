-- The rows that a borrower pledges: what each has to meet, and the pledge that they make.
use Rattle.std.specs.Prelude.{ℕ, suc, Bool, not, ◌||◌, List, [], ◌∷◌, ◌++◌, take, Result, ◌==◌, nat_le, nat_lt, slice_index}
use Rattle.terms.specs.Faces.{good_face}
use Rattle.terms.specs.Refusals.{refuse, refuse_order}
use Rattle.terms.specs.Table.{first_of, answered}
use Rattle.terms.specs.declared.order.Order.{Order}
use Rattle.terms.specs.declared.order.OrderRow.{OrderRow}
use Rattle.terms.specs.declared.refusal.Refusal.{Refusal}
use Rattle.terms.specs.declared.refusal.Cause.TheVariants as cause
use Rattle.terms.specs.declared.refusal.Layer.TheVariants as layer
use Rattle.book.specs.Ledgers.{Ledger}
use Rattle.book.specs.Places.{available}
use Rattle.records.specs.Kept.{no_bond, bond_at}
use Rattle.pledge.specs.Rows.{any_of, with_row}
use Rattle.pledge.specs.declared.rows.Pledge.{Pledge}
use Rattle.pledge.specs.declared.rows.PledgeRow.{PledgeRow}
use Rattle.orders.specs.declared.terms_of.Terms.{Terms}
use Rattle.records.specs.declared.kept.Records.{Records}

-- a row pledged on these terms beside the rows of p; the spot is the row's index
abbrev pub row_rules : Ledger → Records → Terms → Pledge → ℕ → OrderRow → List (Bool × Refusal)
row_rules bonds k t p i row =
    (no_bond row.bond || row.bond == t.bond || any_of row.bond p.rows || not (good_face row.face (bond_at k row.bond).unit), refuse_order cause.Rows i)
    ∷ (((bond_at k row.bond).discount == 0), refuse_order cause.Eligibility i)
    ∷ (nat_le (bond_at k row.bond).maturity t.due, refuse_order cause.Maturity i)
    ∷ (nat_lt (slice_index bonds.amounts (available t.borrower row.bond)) row.face, refuse cause.Short i layer.BondBook)
    ∷ []

abbrev pub row_of : OrderRow → PledgeRow
row_of row = record { bond = row.bond; face = row.face }

-- the rows from index i on, each beside the rows before it
abbrev pub rows_rules : Ledger → Records → Terms → Pledge → ℕ → List OrderRow → List (Bool × Refusal)
rows_rules bonds k t p i [] = []
rows_rules bonds k t p i (row ∷ rows) =
    row_rules bonds k t p i row ++ rows_rules bonds k t (with_row p i (row_of row)) (suc i) rows

-- a pledge with these rows from index i on
abbrev pub filled : Pledge → ℕ → List OrderRow → Pledge
filled p i [] = p
filled p i (row ∷ rows) = filled (with_row p i (row_of row)) (suc i) rows

-- the pledge that the rows from index i on make beside the rows of p, or the first that is refused
abbrev pub outcome : Ledger → Records → Terms → Pledge → ℕ → List OrderRow → Result Pledge Refusal
outcome bonds k t p i rows = answered (first_of (rows_rules bonds k t p i rows)) (filled p i rows)

-- four rows, none used
abbrev pub unpledged : Pledge
unpledged = record { rows = none ∷ none ∷ none ∷ none ∷ [] }
  where
    none : PledgeRow
    none = record { bond = 0; face = 0 }

-- the rows of an order that are looked at
abbrev pub rows_of : Order → List OrderRow
rows_of o = take o.count o.rows

-- the pledge of an order
abbrev pub pledge_of : Order → Pledge
pledge_of o = filled unpledged 0 (rows_of o)
