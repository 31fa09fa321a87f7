-- From the checks of an order to the loan that it makes.
use Rattle.std.proofs.Common.{◌≡◌, ℕ, ◌<◌, true, List, ◌++◌, None, Ok, Err, sum, Result, sym, ap, ◌∙◌, subst, subst₂, arith}
use Rattle.std.proofs.lemmas.Bool.{eq-eqb}
use Rattle.std.specs.Result.{result_or}
use Rattle.terms.specs.Faces.{good_face}
use Rattle.terms.specs.Table.{first_of, answered}
use Rattle.terms.specs.declared.order.Order.{Order}
use Rattle.terms.specs.declared.refusal.Refusal.{Refusal}
use Rattle.terms.proofs.Rows.{Passed, Refused, was_accepted, accepts, first_after, refused_before, refused_after, answered_after}
use Rattle.records.specs.Kept.{bond_at}
use Rattle.pledge.specs.declared.rows.Pledge.{Pledge}
use Rattle.loan.specs.Kept.{row_in, is_sound, RowRead}
use Rattle.loan.specs.declared.kept.LoanRow.{LoanRow}
use Rattle.loan.specs.declared.whole.Loan.{Loan}
use Rattle.loan.specs.declared.whole.UnsoundRow.{UnsoundRow}
use Rattle.lending.specs.View.{View}
use Rattle.orders.specs.Rows.{rows_rules, rows_of, unpledged, pledge_of}
use Rattle.orders.specs.Terms.{terms_rules, terms_of}
use Rattle.orders.specs.declared.terms_of.Terms.{Terms}
use Rattle.orders.proofs.Accepted.{terms_good}
use Rattle.borrowing.specs.Borrows.{order_rules, loan_of}
use Rattle.borrowing.specs.Deals.{loans_rules, pool_rules, worth_rules, room_rules, deal_rules, shares_of, begun}

-- a row whose shares total its face is a loan's
found : (row : LoanRow) (o : Result Loan UnsoundRow) (e : Refusal) → row_in o ≡ Ok row → row_in (result_or o (Err e)) ≡ Ok row
found row (Err u) e h = let z : ◌≡◌ {A = ℕ} 0 1 = cc in absurd (omega arith)
found row (Ok l) e h = cc

pub whole_row : (l row : LoanRow) (o : Result Loan UnsoundRow) (e : Refusal) (r : Result Loan Refusal) → row ≡ l → sum l.shares ≡ l.face → RowRead row o → r ≡ result_or o (Err e) → row_in r ≡ Ok l
whole_row l row o e r same whole h is =
    let sound : is_sound l ≡ true = eq-eqb (sum l.shares) l.face whole in
    let one = subst (λ (x : LoanRow). RowRead x o) same h in
    ap row_in is ∙ found l o e (one ∙ rw sound)

-- a deal that passes the loans' rule and the pool's
module _ (v : View) (rule : List ℕ → ℕ → List ℕ) (t : Terms) (p : Pledge) (shares : List ℕ) (few : Passed (loans_rules v t)) (made : Ok shares ≡ answered (first_of (pool_rules v t)) (shares_of rule v t)) where
  abbrev dealt : LoanRow
  dealt = begun v.records t p (shares_of rule v t)

  past_loans : first_of (loans_rules v t) ≡ None
  past_loans = (was_accepted (first_of (loans_rules v t)) tt tt few).0

  past_pool : (first_of (pool_rules v t) ≡ None) × (shares ≡ shares_of rule v t)
  past_pool = was_accepted (first_of (pool_rules v t)) (shares_of rule v t) shares made

  rest : (r : Result LoanRow Refusal) → r ≡ answered (first_of (worth_rules v t p ++ room_rules v.bonds t p)) dealt → r ≡ answered (first_of (deal_rules v t p)) dealt
  rest r e =
      let last = worth_rules v t p ++ room_rules v.bonds t p in
      answered_after (loans_rules v t) (pool_rules v t ++ last) dealt r past_loans
      (answered_after (pool_rules v t) last dealt r past_pool.0 e)

  pub worth_refused : (r : Refusal) → Refused (worth_rules v t p) r → Err r ≡ answered (first_of (deal_rules v t p)) dealt
  worth_refused r e = rest (Err r) (refused_before (worth_rules v t p) (room_rules v.bonds t p) tt dealt r e)

  module _ (worthy : Passed (worth_rules v t p)) where
    past_worth : first_of (worth_rules v t p) ≡ None
    past_worth = (was_accepted (first_of (worth_rules v t p)) tt tt worthy).0

    pub room_refused : (r : Refusal) → Refused (room_rules v.bonds t p) r → Err r ≡ answered (first_of (deal_rules v t p)) dealt
    room_refused r e = rest (Err r) (refused_after (worth_rules v t p) (room_rules v.bonds t p) tt dealt r past_worth e)

    pub all_passed : Passed (room_rules v.bonds t p) → (r : Result LoanRow Refusal) → r ≡ Ok (begun v.records t p shares) → r ≡ answered (first_of (deal_rules v t p)) dealt
    all_passed fits r e =
        let room = was_accepted (first_of (room_rules v.bonds t p)) tt tt fits in
        let none = first_after (worth_rules v t p) (room_rules v.bonds t p) past_worth ∙ room.0 in
        rest r (e ∙ accepts (first_of (worth_rules v t p ++ room_rules v.bonds t p)) dealt (begun v.records t p shares) none (ap (begun v.records t p) past_pool.1))

-- an order whose own terms are accepted
module _ (v : View) (rule : List ℕ → ℕ → List ℕ) (o : Order) (t : Terms) (good : Ok t ≡ answered (first_of (terms_rules v.records o)) (terms_of v.records o)) where
  accepted : (first_of (terms_rules v.records o) ≡ None) × (t ≡ terms_of v.records o)
  accepted = was_accepted (first_of (terms_rules v.records o)) (terms_of v.records o) t good

  pub good_bond : t.bond < 16
  good_bond = omega (arith, (terms_good v.records o accepted.0).bond, ap (λ (x : Terms). x.bond) accepted.1)

  pub good_face_kept : good_face t.face (bond_at v.records t.bond).unit ≡ true
  good_face_kept =
      subst (λ (x : Terms). good_face x.face (bond_at v.records x.bond).unit ≡ true) (sym accepted.1) (terms_good v.records o accepted.0).face

  pub rows_refused : (r : Refusal) → Err r ≡ answered (first_of (rows_rules v.bonds v.records t unpledged 0 (rows_of o))) (pledge_of o) → Err r ≡ answered (first_of (order_rules v o)) (loan_of rule v o)
  rows_refused r e =
      let rows = rows_rules v.bonds v.records (terms_of v.records o) unpledged 0 (rows_of o) in
      let deal = deal_rules v (terms_of v.records o) (pledge_of o) in
      let l = loan_of rule v o in
      refused_after (terms_rules v.records o) (rows ++ deal) l l r accepted.0
      (refused_before rows deal (pledge_of o) l r (subst (λ (x : Terms). Err r ≡ answered (first_of (rows_rules v.bonds v.records x unpledged 0 (rows_of o))) (pledge_of o)) accepted.1 e))

  pub deal_on : (p : Pledge) (r : Result LoanRow Refusal) → Ok p ≡ answered (first_of (rows_rules v.bonds v.records t unpledged 0 (rows_of o))) (pledge_of o) → r ≡ answered (first_of (deal_rules v t p)) (begun v.records t p (shares_of rule v t)) → r ≡ answered (first_of (order_rules v o)) (loan_of rule v o)
  deal_on p r e h =
      let rows = rows_rules v.bonds v.records (terms_of v.records o) unpledged 0 (rows_of o) in
      let deal = deal_rules v (terms_of v.records o) (pledge_of o) in
      let l = loan_of rule v o in
      let e' = subst (λ (x : Terms). Ok p ≡ answered (first_of (rows_rules v.bonds v.records x unpledged 0 (rows_of o))) (pledge_of o)) accepted.1 e in
      let w = was_accepted (first_of rows) (pledge_of o) p e' in
      answered_after (terms_rules v.records o) (rows ++ deal) l r accepted.0
      (answered_after rows deal l r w.0 (subst₂ (λ (x : Terms) (y : Pledge). r ≡ answered (first_of (deal_rules v x y)) (begun v.records x y (shares_of rule v x))) accepted.1 w.1 h))
