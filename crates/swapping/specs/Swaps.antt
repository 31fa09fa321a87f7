-- A swap of a pledge row: its refusals in their order, and what an accepted one makes of the book and the loans.
use Rattle.std.specs.Prelude.{ℕ, Bool, not, ◌&&◌, ◌||◌, List, [], ◌∷◌, ◌++◌, Result, nat_le, nat_lt, slice_index, slice_index_or}
use Rattle.terms.specs.Refusals.{Settles, refuse, refuse_order}
use Rattle.terms.specs.Table.{first_of}
use Rattle.terms.specs.declared.order.OrderRow.{OrderRow}
use Rattle.terms.specs.declared.refusal.Refusal.{Refusal}
use Rattle.terms.specs.declared.refusal.Cause.TheVariants as cause
use Rattle.terms.specs.declared.refusal.Layer.TheVariants as layer
use Rattle.book.specs.Ledgers.{Ledger}
use Rattle.book.specs.Moves.{room}
use Rattle.book.specs.Places.{available, pledged}
use Rattle.moves.specs.Many.{Move, after_moves, pledged_by, freed_by}
use Rattle.records.specs.Times.{not_open}
use Rattle.pledge.specs.Rows.{with_row}
use Rattle.pledge.specs.declared.rows.PledgeRow.{PledgeRow}
use Rattle.loan.specs.Kept.{is_closed}
use Rattle.loan.specs.declared.kept.LoanRow.{LoanRow}
use Rattle.register.specs.Loans.{Loans, no_such_loan, loan_at, with_pledge}
use Rattle.lending.specs.View.{View}
use Rattle.worth.specs.Concentration.{row_above}
use Rattle.worth.specs.Cover.{covered}
use Rattle.orders.specs.Rows.{row_rules, row_of}
use Rattle.orders.specs.declared.terms_of.Terms.{Terms}
use Rattle.records.specs.declared.kept.Records.{Records}

-- the terms of a kept loan
abbrev pub terms_in : LoanRow → Terms
terms_in l = record { borrower = l.borrower; bond = l.bond; face = l.face; term = l.dues.term; due = l.dues.due }

-- row i of a loan's pledge; past its rows one of face 0
abbrev pub row_at : LoanRow → ℕ → PledgeRow
row_at l i = slice_index_or l.pledge.rows i (record { bond = 0; face = 0 })

-- the loan is closed, or has no such row; it is late; its due day has come
abbrev pub loan_rules : Records → LoanRow → ℕ → List (Bool × Refusal)
loan_rules k l i =
    (is_closed l || not (nat_lt 0 (row_at l i).face), refuse_order cause.Stage 0)
    ∷ (l.dues.late, refuse_order cause.Late 0)
    ∷ (nat_le l.dues.due k.time.day, refuse_order cause.Time 0)
    ∷ []

-- the pledged place of the old row holds less than the row
abbrev pub pledged_short : Ledger → LoanRow → ℕ → Bool
pledged_short bonds l i =
    nat_lt (slice_index bonds.amounts (pledged l.borrower (row_at l i).bond)) (row_at l i).face

-- the pledged place of the new row, or the available place of the old one, would pass the largest amount
abbrev pub swap_over : Ledger → LoanRow → ℕ → OrderRow → Bool
swap_over bonds l i new =
    not (room bonds.most bonds.amounts (pledged l.borrower new.bond) new.face && room bonds.most bonds.amounts (available l.borrower (row_at l i).bond) (row_at l i).face)

-- after the value: the pledge limit, and then what the places hold
abbrev pub place_rules : View → LoanRow → ℕ → OrderRow → List (Bool × Refusal)
place_rules v l i new =
    (row_above v l.borrower new.bond new.face, refuse cause.Concentration i layer.Worth)
    ∷ (pledged_short v.bonds l i, refuse cause.Short l.borrower layer.BondBook)
    ∷ (swap_over v.bonds l i new, refuse cause.Over l.borrower layer.BondBook)
    ∷ []

-- the new row in the place of row i of a loan
abbrev pub kept_rules : View → LoanRow → ℕ → OrderRow → List (Bool × Refusal)
kept_rules v l i new =
    loan_rules v.records l i
    ++ (row_rules v.bonds v.records (terms_in l) l.pledge i new
    ++ ((not (covered v.records (terms_in l) l.dues.rate (with_row l.pledge i (row_of new))), refuse cause.Value 0 layer.Worth) ∷ place_rules v l i new))

abbrev pub swap_rules : View → ℕ → ℕ → ℕ → OrderRow → List (Bool × Refusal)
swap_rules v day n i new =
    (not_open v.records day, refuse_order cause.Time 0)
    ∷ (no_such_loan v.loans n, refuse_order cause.Loan 0)
    ∷ kept_rules v (loan_at v.loans n) i new

-- the new row is pledged, and the old one is freed
abbrev pub swap_moves : LoanRow → ℕ → OrderRow → List Move
swap_moves l i new =
    pledged_by l.borrower new.bond new.face ∷ freed_by l.borrower (row_at l i).bond (row_at l i).face ∷ []

-- what the bond book and the loans are after the swap
abbrev pub exchanged : View → ℕ → ℕ → OrderRow → List ℕ × Loans
exchanged v n i new =
    (after_moves v.bonds.most v.bonds.amounts (swap_moves (loan_at v.loans n) i new), with_pledge v.loans n (with_row (loan_at v.loans n).pledge i (row_of new)))

-- the same of the loan's own row, on an open day
unfoldable pub SwappedIn : View → LoanRow → ℕ → ℕ → OrderRow → Result (Unit {0}) Refusal → List ℕ × Loans → Type 0
SwappedIn v l n i new r after =
    Settles (first_of (kept_rules v l i new)) tt (v.bonds.amounts, v.loans) (exchanged v n i new) r after

-- what the call answers, and what it leaves of the bond book and the loans
unfoldable pub Swapped : View → ℕ → ℕ → ℕ → OrderRow → Result (Unit {0}) Refusal → List ℕ × Loans → Type 0
Swapped v day n i new r after =
    Settles (first_of (swap_rules v day n i new)) tt (v.bonds.amounts, v.loans) (exchanged v n i new) r after
