-- The row that a loan is kept as.
use Rattle.std.specs.Prelude.{◌≡◌, ℕ, Bool, cond, not, ◌&&◌, ◌||◌, List, Ok, Err, sum, Result, codes, ◌==◌, nat_le, nat_lt}
use Rattle.loan.specs.Stages.{is_out, is_unfunded, lapsed}
use Rattle.loan.specs.declared.kept.Dues.{Dues}
use Rattle.loan.specs.declared.kept.LoanRow.{LoanRow}
use Rattle.loan.specs.declared.whole.Loan.{Loan}
use Rattle.loan.specs.declared.whole.UnsoundRow.{UnsoundRow}

abbrev pub row_of : Loan → LoanRow
row_of loan = record {
  borrower = loan.borrower;
  bond = loan.bond;
  face = loan.shares.face;
  shares = loan.shares.by;
  pledge = loan.pledge;
  dues = loan.dues;
  stage = loan.stage;
}

-- the shares total the face
abbrev pub is_sound : LoanRow → Bool
is_sound row = sum row.shares == row.face

-- the row of the loan in an answer
abbrev pub row_in : {E : Type 0} → Result Loan E → Result LoanRow E
row_in (Ok loan) = Ok (row_of loan)
row_in (Err e) = Err e

-- what a kept row reads as: a loan that is kept as this row, exactly where the row is sound
abbrev pub RowRead : LoanRow → Result Loan UnsoundRow → Type 0
RowRead row r = row_in r ≡ cond (is_sound row) (Ok row) (Err (record {}))

abbrev pub unsound_text : List ℕ
unsound_text = codes "the shares do not total the face"

-- the fee is paid, no interest is owed, and the loan is back or delivered
abbrev pub is_closed : LoanRow → Bool
is_closed row = row.dues.fee_paid && row.dues.figure == 0 && not (is_out row.stage)

-- interest is owed; or the due day has come, and the fee is unpaid or the loan is out and not funded
abbrev pub falls_late : ℕ → LoanRow → Bool
falls_late day row =
    nat_lt 0 row.dues.figure || nat_le row.dues.due day && (not row.dues.fee_paid || is_unfunded row.stage)

-- a loan that is late once stays late
abbrev pub marked_late : Bool → Dues → Dues
marked_late falls dues = record {
  rate = dues.rate;
  term = dues.term;
  due = dues.due;
  fee_paid = dues.fee_paid;
  figure = dues.figure;
  rolled = dues.rolled;
  late = dues.late || falls;
}

-- the loan once the day is shut
abbrev pub shut_on : ℕ → LoanRow → LoanRow
shut_on day row = record {
  borrower = row.borrower;
  bond = row.bond;
  face = row.face;
  shares = row.shares;
  pledge = row.pledge;
  dues = marked_late (falls_late day row) row.dues;
  stage = lapsed row.stage;
}
