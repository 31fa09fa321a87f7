-- An accepted order is booked.
use Rattle.std.proofs.Common.{◌≡◌, ℕ, false, cond, List, ◌++◌, length, Some, None, Ok, Err, Option, Result, sym, refl, ap, ◌∙◌, ap₂}
use Rattle.std.proofs.lemmas.Bool.{or_parts}
use Rattle.std.specs.Option.{ok_or}
use Rattle.terms.specs.Refusals.{Settles, refuse_order}
use Rattle.terms.specs.Table.{first_of, answered}
use Rattle.terms.specs.declared.order.Order.{Order}
use Rattle.terms.specs.declared.refusal.Cause.TheVariants as cause
use Rattle.terms.specs.declared.refusal.Refusal.{Refusal}
use Rattle.terms.proofs.Rows.{none_holds, none_both, was_accepted, was_refused, refused_settles, accepted_settles}
use Rattle.moves.specs.Many.{after_moves}
use Rattle.records.specs.Times.{not_open}
use Rattle.loan.specs.declared.kept.LoanRow.{LoanRow}
use Rattle.register.specs.Loans.{Loans, is_full, with_loan}
use Rattle.lending.specs.View.{View}
use Rattle.orders.specs.Rows.{rows_rules, rows_of, unpledged, pledge_of}
use Rattle.orders.specs.Terms.{terms_rules, terms_of}
use Rattle.borrowing.specs.Borrows.{order_rules, borrow_rules, loan_of, loan_moves, lent}
use Rattle.borrowing.specs.Deals.{deal_rules}

-- there is a row for it
not_full : (v : View) (o : Order) → first_of (order_rules v o) ≡ None → is_full v.loans ≡ false
not_full v o e =
    let rows = rows_rules v.bonds v.records (terms_of v.records o) unpledged 0 (rows_of o) in
    let deal = deal_rules v (terms_of v.records o) (pledge_of o) in
    let h = none_holds deal (none_both rows deal (none_both (terms_rules v.records o) (rows ++ deal) e).1).1 in
    (or_parts _ (is_full v.loans) h.0).1

booked : (v : View) (after : Loans) (l row : LoanRow) (ys : List ℕ) → is_full v.loans ≡ false → row ≡ l → ys ≡ after_moves v.bonds.most v.bonds.amounts (loan_moves row) → after ≡ cond (is_full v.loans) v.loans (with_loan v.loans row) → ◌≡◌ {A = List ℕ × Loans} (ys, after) (lent v l)
booked v after l row ys room same moved kept =
    let kept' : after ≡ with_loan v.loans row = kept ∙ rw room in
    ap₂ {C = List ℕ × Loans} (λ a b. (a, b)) (moved ∙ ap (λ (x : LoanRow). after_moves v.bonds.most v.bonds.amounts (loan_moves x)) same) (kept' ∙ ap (with_loan v.loans) same)

-- on an open day the order's rules decide
module _ (v : View) (rule : List ℕ → ℕ → List ℕ) (day : ℕ) (o : Order) (today : false ≡ not_open v.records day) where
  abbrev made : LoanRow
  made = loan_of rule v o

  verdict : first_of (borrow_rules v day o) ≡ first_of (order_rules v o)
  verdict = ap (λ b. cond b (Some (refuse_order cause.Time 0)) (first_of (order_rules v o))) (sym today)

  pub order_refused : (r : Refusal) → Err r ≡ answered (first_of (order_rules v o)) made → Settles {S = List ℕ × Loans} (first_of (borrow_rules v day o)) (length v.loans.rows) (v.bonds.amounts, v.loans) (lent v made) (Err r) (v.bonds.amounts, v.loans)
  order_refused r e =
      refused_settles (first_of (borrow_rules v day o)) (length v.loans.rows) (v.bonds.amounts, v.loans) (lent v made) r (verdict ∙ was_refused (first_of (order_rules v o)) made r e)

  pub order_booked : (row : LoanRow) (ys : List ℕ) (after : Loans) (n : Option ℕ) (e : Refusal) (r : Result ℕ Refusal) → Ok row ≡ answered (first_of (order_rules v o)) made → ys ≡ after_moves v.bonds.most v.bonds.amounts (loan_moves row) → n ≡ cond (is_full v.loans) None (Some (length v.loans.rows)) → after ≡ cond (is_full v.loans) v.loans (with_loan v.loans row) → r ≡ ok_or n e → Settles {S = List ℕ × Loans} (first_of (borrow_rules v day o)) (length v.loans.rows) (v.bonds.amounts, v.loans) (lent v made) r (ys, after)
  order_booked row ys after n e r h moved number kept is =
      let w = was_accepted (first_of (order_rules v o)) made row h in
      let room = not_full v o w.0 in
      let found : n ≡ Some (length v.loans.rows) = number ∙ rw room in
      let answer : r ≡ Ok (length v.loans.rows) = is ∙ ap (λ (m : Option ℕ). ok_or m e) found in
      rw answer (accepted_settles (first_of (borrow_rules v day o)) (length v.loans.rows) (length v.loans.rows) (v.bonds.amounts, v.loans) (lent v made) (ys, after) (verdict ∙ w.0) refl (booked v after made row ys room w.1 moved kept))
