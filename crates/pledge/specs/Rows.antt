-- The rows of a pledge: what they are worth, and the face of one bond in them.
use Rattle.std.specs.Prelude.{ℕ, Bool, false, cond, ◌&&◌, ◌||◌, List, [], ◌∷◌, sum_by, ◌==◌, nat_lt, slice_index_or, slice_set}
use Rattle.figures.specs.Values.{row_value}
use Rattle.tables.specs.declared.bond.Bond.{Bond}
use Rattle.pledge.specs.declared.rows.Pledge.{Pledge}
use Rattle.pledge.specs.declared.rows.PledgeRow.{PledgeRow}

-- a bond of the table; past its end one without a price
abbrev pub bond_in : List Bond → ℕ → Bond
bond_in bonds bond =
    slice_index_or bonds bond (record { unit = 0; price = 0; discount = 0; adjustment = 0; lent_limit = 0; pledge_limit = 0; maturity = 0 })

-- a row's value at its own bond's price and discount, in fen; 0 where there is no such bond
abbrev pub row_worth : List Bond → ℕ → PledgeRow → ℕ
row_worth bonds multiplier row =
    row_value row.face (bond_in bonds row.bond).price (bond_in bonds row.bond).discount multiplier

-- the face that a row counts for a bond
abbrev pub row_face : ℕ → PledgeRow → ℕ
row_face bond row = cond (row.bond == bond) row.face 0

-- each row is rounded before the rows are summed
abbrev pub worth_of : List Bond → ℕ → Pledge → ℕ
worth_of bonds multiplier pledge = sum_by (row_worth bonds multiplier) pledge.rows

abbrev pub face_of : ℕ → Pledge → ℕ
face_of bond pledge = sum_by (row_face bond) pledge.rows

-- one of the rows is of the bond and used: its face is above 0
abbrev pub any_of : ℕ → List PledgeRow → Bool
any_of bond [] = false
any_of bond (row ∷ rows) = row.bond == bond && nat_lt 0 row.face || any_of bond rows

-- the pledge with a new row i
abbrev pub with_row : Pledge → ℕ → PledgeRow → Pledge
with_row pledge i new = record { rows = slice_set pledge.rows i new }
