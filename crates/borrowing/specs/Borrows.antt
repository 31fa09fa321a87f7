-- An order to borrow: its refusals in their order, and what an accepted one makes of the book and the loans.
use Rattle.std.specs.Prelude.{ℕ, Bool, List, [], ◌∷◌, ◌++◌, length, Result}
use Rattle.terms.specs.Refusals.{Settles, refuse_order}
use Rattle.terms.specs.Table.{first_of}
use Rattle.terms.specs.declared.order.Order.{Order}
use Rattle.terms.specs.declared.refusal.Refusal.{Refusal}
use Rattle.terms.specs.declared.refusal.Cause.TheVariants as cause
use Rattle.book.specs.Places.{available}
use Rattle.moves.specs.Columns.{available_column}
use Rattle.moves.specs.Many.{Move, after_moves, moves_by, pledged_by}
use Rattle.moves.specs.declared.many.Way.TheVariants.{Into}
use Rattle.records.specs.Times.{not_open}
use Rattle.pledge.specs.declared.rows.PledgeRow.{PledgeRow}
use Rattle.loan.specs.declared.kept.LoanRow.{LoanRow}
use Rattle.register.specs.Loans.{Loans, with_loan}
use Rattle.lending.specs.View.{View}
use Rattle.orders.specs.Terms.{terms_rules, terms_of}
use Rattle.orders.specs.Rows.{rows_rules, rows_of, unpledged, pledge_of}
use Rattle.borrowing.specs.Deals.{deal_rules, shares_of, begun}

-- its own terms, its rows, and then what the pool has for it
abbrev pub order_rules : View → Order → List (Bool × Refusal)
order_rules v o =
    terms_rules v.records o
    ++ (rows_rules v.bonds v.records (terms_of v.records o) unpledged 0 (rows_of o)
    ++ deal_rules v (terms_of v.records o) (pledge_of o))

abbrev pub borrow_rules : View → ℕ → Order → List (Bool × Refusal)
borrow_rules v day o = (not_open v.records day, refuse_order cause.Time 0) ∷ order_rules v o

-- the loan as it begins
abbrev pub loan_of : (List ℕ → ℕ → List ℕ) → View → Order → LoanRow
loan_of rule v o =
    begun v.records (terms_of v.records o) (pledge_of o) (shares_of rule v (terms_of v.records o))

-- a row moves from what the borrower has available to what it has pledged
abbrev pub row_move : ℕ → PledgeRow → Move
row_move borrower row = pledged_by borrower row.bond row.face

abbrev pub row_moves : ℕ → List PledgeRow → List Move
row_moves borrower [] = []
row_moves borrower (row ∷ rows) = row_move borrower row ∷ row_moves borrower rows

-- the rows are pledged, and each share moves from its lender to the borrower
abbrev pub loan_moves : LoanRow → List Move
loan_moves l =
    row_moves l.borrower l.pledge.rows ++ moves_by (available_column l.bond) (Into (available l.borrower l.bond)) 0 l.shares

-- what the bond book and the loans are after a loan is made
abbrev pub lent : View → LoanRow → List ℕ × Loans
lent v l = (after_moves v.bonds.most v.bonds.amounts (loan_moves l), with_loan v.loans l)

-- what the call answers, the number of the loan, and what it leaves of the bond book and the loans
abbrev pub Borrowed : (List ℕ → ℕ → List ℕ) → View → ℕ → Order → Result ℕ Refusal → List ℕ × Loans → Type 0
Borrowed rule v day o r after =
    Settles (first_of (borrow_rules v day o)) (length v.loans.rows) (v.bonds.amounts, v.loans) (lent v (loan_of rule v o)) r after
