-- The loans of a pool, in the order in which they were accepted: what is asked of them, and what calls make of them.
use Rattle.std.specs.Prelude.{ℕ, Bool, false, cond, List, [], ◌∷◌, ◌++◌, map, length, Some, sum_by, Option, nat_le, slice_index_or, slice_set}
use Rattle.terms.specs.Refusals.{refuse_order}
use Rattle.terms.specs.declared.refusal.Refusal.{Refusal}
use Rattle.terms.specs.declared.refusal.Cause.TheVariants as cause
use Rattle.pledge.specs.Rows.{with_row}
use Rattle.pledge.specs.Swaps.{swapped}
use Rattle.pledge.specs.declared.rows.Pledge.{Pledge}
use Rattle.pledge.specs.declared.swap.Exchange.{Exchange}
use Rattle.loan.specs.Kept.{shut_on}
use Rattle.loan.specs.Totals.{lent_of, out_of, unclosed_of, rows_of}
use Rattle.loan.specs.declared.kept.LoanRow.{LoanRow}
use Rattle.loan.specs.declared.stage.Stage.TheVariants.{Back}

pub record Loans : Type 0 where
  pub rows : List LoanRow
  -- the number of loan rows kept: no more loans than this are ever accepted
  pub most : ℕ

-- loan n does not exist where n or fewer loans have been accepted
abbrev pub no_such_loan : Loans → ℕ → Bool
no_such_loan l n = nat_le (length l.rows) n

-- stands for a loan that does not exist
abbrev pub no_loan : LoanRow
no_loan = record {
  borrower = 0;
  bond = 0;
  face = 0;
  shares = [];
  pledge = record { rows = [] };
  dues = record { rate = 0; term = 0; due = 0; fee_paid = false; figure = 0; rolled = false; late = false };
  stage = Back;
}

abbrev pub loan_at : Loans → ℕ → LoanRow
loan_at l n = slice_index_or l.rows n no_loan

-- as many loans have been accepted as rows are kept
abbrev pub is_full : Loans → Bool
is_full l = nat_le l.most (length l.rows)

abbrev pub with_loan : Loans → LoanRow → Loans
with_loan l row = record { rows = l.rows ++ (row ∷ []); most = l.most }

-- a loan with other rows pledged for it
abbrev pub pledging : LoanRow → Pledge → LoanRow
pledging row p = record {
  borrower = row.borrower;
  bond = row.bond;
  face = row.face;
  shares = row.shares;
  pledge = p;
  dues = row.dues;
  stage = row.stage;
}

abbrev pub with_pledge : Loans → ℕ → Pledge → Loans
with_pledge l n p = record { rows = slice_set l.rows n (pledging (loan_at l n) p); most = l.most }

-- why a row is refused the place of another: there is no such loan, or its pledge refuses it
abbrev pub swap_refused : Loans → ℕ → Exchange → Option Refusal
swap_refused l n e = cond (no_such_loan l n) (Some (refuse_order cause.Loan 0)) (swapped e (loan_at l n).pledge)

-- the loans with a row of a pledge exchanged
abbrev pub with_exchange : Loans → ℕ → Exchange → Loans
with_exchange l n e = with_pledge l n (with_row (loan_at l n).pledge e.row e.new)

-- the loans once the day is shut
abbrev pub all_shut : ℕ → Loans → Loans
all_shut day l = record { rows = map (shut_on day) l.rows; most = l.most }

-- the face of a bond that an account has lent
abbrev pub lent_face : Loans → ℕ → ℕ → ℕ
lent_face l account bond = sum_by (lent_of account bond) l.rows

-- the face of a bond that a borrower has out
abbrev pub face_out : Loans → ℕ → ℕ → ℕ
face_out l borrower bond = sum_by (out_of borrower bond) l.rows

-- the number of a borrower's loans that are not closed
abbrev pub unclosed : Loans → ℕ → ℕ
unclosed l borrower = sum_by (unclosed_of borrower) l.rows

-- the face of a bond in the rows of a borrower's loans that are not closed
abbrev pub rows_out : Loans → ℕ → ℕ → ℕ
rows_out l borrower bond = sum_by (rows_of borrower bond) l.rows

abbrev pub ask_rules : Loans → ℕ → List (Bool × Refusal)
ask_rules l n = (no_such_loan l n, refuse_order cause.Loan 0) ∷ []
