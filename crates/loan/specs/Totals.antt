-- What a loan counts in the totals over loans.
use Rattle.std.specs.Prelude.{ℕ, cond, not, ◌&&◌, ◌==◌, slice_index}
use Rattle.pledge.specs.Rows.{face_of}
use Rattle.loan.specs.Kept.{is_closed}
use Rattle.loan.specs.Stages.{is_out}
use Rattle.loan.specs.declared.kept.LoanRow.{LoanRow}

-- an account's share, while a loan of the bond is out
abbrev pub lent_of : ℕ → ℕ → LoanRow → ℕ
lent_of account bond row = cond (is_out row.stage && row.bond == bond) (slice_index row.shares account) 0

-- the face, while a borrower's loan of the bond is out
abbrev pub out_of : ℕ → ℕ → LoanRow → ℕ
out_of borrower bond row =
    cond (is_out row.stage && row.borrower == borrower && row.bond == bond) row.face 0

-- 1 for a borrower's loan that is not closed
abbrev pub unclosed_of : ℕ → LoanRow → ℕ
unclosed_of borrower row = cond (row.borrower == borrower && not (is_closed row)) 1 0

-- the face of the bond in the rows of a borrower's loan, until it is closed
abbrev pub rows_of : ℕ → ℕ → LoanRow → ℕ
rows_of borrower bond row = cond (row.borrower == borrower && not (is_closed row)) (face_of bond row.pledge) 0
