-- Concentration: what one borrower has of a bond is held against the total of the bond.
use Rattle.std.specs.Prelude.{ℕ, suc, ◌+◌, ◌*◌, Bool, ◌&&◌, List, [], ◌∷◌, sum, nat_lt}
use Rattle.terms.specs.Refusals.{refuse}
use Rattle.terms.specs.declared.refusal.Refusal.{Refusal}
use Rattle.terms.specs.declared.refusal.Cause.TheVariants as cause
use Rattle.terms.specs.declared.refusal.Layer.TheVariants as layer
use Rattle.moves.specs.Columns.{available_column, pledged_column, column_amounts}
use Rattle.records.specs.Kept.{bond_at}
use Rattle.register.specs.Loans.{face_out, rows_out}
use Rattle.lending.specs.View.{View}
use Rattle.pledge.specs.declared.rows.PledgeRow.{PledgeRow}

-- the total of a bond: both places of all 32 accounts
abbrev pub bond_total : List ℕ → ℕ → ℕ
bond_total amounts bond =
    sum (column_amounts amounts (available_column bond)) + sum (column_amounts amounts (pledged_column bond))

-- a face is above so many thousandths of a total
abbrev pub above : ℕ → ℕ → ℕ → Bool
above limit total face = nat_lt (limit * total) (1_000 * face)

-- a face more of the bond out to a borrower would pass the bond's lent limit
abbrev pub lent_above : View → ℕ → ℕ → ℕ → Bool
lent_above v borrower bond face =
    above (bond_at v.records bond).lent_limit (bond_total v.bonds.amounts bond) (face_out v.loans borrower bond + face)

-- a face more of the bond in a borrower's rows would pass the bond's pledge limit
abbrev pub row_above : View → ℕ → ℕ → ℕ → Bool
row_above v borrower bond face =
    above (bond_at v.records bond).pledge_limit (bond_total v.bonds.amounts bond) (rows_out v.loans borrower bond + face)

-- a used row, beside what the borrower has in rows
abbrev pub row_over : View → ℕ → PledgeRow → Bool
row_over v borrower row =
    nat_lt 0 row.face && row_above v borrower row.bond row.face

-- the rows of a borrower from index i on, one by one
abbrev pub row_limits : View → ℕ → ℕ → List PledgeRow → List (Bool × Refusal)
row_limits v borrower i [] = []
row_limits v borrower i (row ∷ rows) =
    (row_over v borrower row, refuse cause.Concentration i layer.Worth)
    ∷ row_limits v borrower (suc i) rows
