use Rattle.std.proofs.Common.{◌≡◌, ◌++◌, Ok, Err, Result, subst}
use Rattle.std.proofs.lemmas.Result.{err_from_is_err_and}
use Rattle.terms.proofs.Rows.{refused_before}
use Rattle.terms.specs.Table.{first_of, answered}
use Rattle.terms.specs.declared.order.Order.{Order}
use Rattle.terms.specs.declared.refusal.Refusal.{Refusal}
use Rattle.lending.specs.View.{View}
use Rattle.pledge.specs.declared.rows.Pledge.{Pledge}
use Rattle.orders.specs.declared.terms_of.Terms.{Terms}
use Rattle.orders.specs.Rows.{rows_rules, rows_of, unpledged, pledge_of}
use Rattle.orders.specs.Terms.{terms_rules, terms_of}
use Rattle.borrowing.specs.Borrows.{loan_of}
use Rattle.borrowing.specs.Deals.{deal_rules}
use Rattle.borrowing.proofs.Made.{good_bond, good_face_kept, rows_refused, deal_on}
use Rattle.borrowing.proofs.call.check_order.Goals as goal

-- what was said of the book and the records in the view
abbrev TermsRead : View → Order → Result Terms Refusal → Type 0
TermsRead v o r = r ≡ answered (first_of (terms_rules v.records o)) (terms_of v.records o)

abbrev RowsRead : View → Order → Terms → Result Pledge Refusal → Type 0
RowsRead v o t r = r ≡ answered (first_of (rows_rules v.bonds v.records t unpledged 0 (rows_of o))) (pledge_of o)

pub returns-in_err-terms : goal.returns-in_err-terms
returns-in_err-terms g c =
    let p = err_from_is_err_and c.from_residual.result c.from_residual.ensures.1 in
    let v = c.args.view.now in
    let o = c.args.order.now in
    let terms = subst (λ (w : View). TermsRead w o (Err c.in_err-terms.field-0.0)) c.view.view_is c.in_err-terms.ensures in
    rw (p.1, p.2) (refused_before (terms_rules v.records o) (rows_rules v.bonds v.records (terms_of v.records o) unpledged 0 (rows_of o) ++ deal_rules v (terms_of v.records o) (pledge_of o)) (terms_of v.records o) (loan_of (g.S.SharingRule.meaning c.args.rule.now) v o) _ terms)

pub returns-in_err-pledge : goal.returns-in_err-pledge
returns-in_err-pledge g c =
    let p = err_from_is_err_and c.from_residual-in_err-pledge.result c.from_residual-in_err-pledge.ensures.1 in
    let a = c.args in
    let o = a.order.now in
    let t = c.in_ok-terms.terms in
    let terms = subst (λ (w : View). TermsRead w o (Ok t)) c.view.view_is c.in_ok-terms.ensures in
    let rows = subst (λ (w : View). RowsRead w o t (Err c.in_err-pledge.field-0.0)) c.view.view_is c.in_err-pledge.ensures in
    rw (p.1, p.2) (rows_refused a.view.now (g.S.SharingRule.meaning a.rule.now) o t terms _ rows)

pub check_deal-requires : goal.check_deal-requires
check_deal-requires g c =
    let a = c.args in
    let m = g.S.SharingRule.meaning a.rule.now in
    let t = c.in_ok-terms.terms in
    let terms = subst (λ (w : View). TermsRead w a.order.now (Ok t)) c.view.view_is c.in_ok-terms.ensures in
    record { bond = good_bond a.view.now m a.order.now t terms; face = good_face_kept a.view.now m a.order.now t terms }

pub returns : goal.returns
returns g c =
    let a = c.args in
    let o = a.order.now in
    let t = c.in_ok-terms.terms in
    let terms = subst (λ (w : View). TermsRead w o (Ok t)) c.view.view_is c.in_ok-terms.ensures in
    let rows = subst (λ (w : View). RowsRead w o t (Ok c.in_ok-pledge.pledge)) c.view.view_is c.in_ok-pledge.ensures in
    deal_on a.view.now (g.S.SharingRule.meaning a.rule.now) o t terms c.in_ok-pledge.pledge _ rows c.check_deal.ensures
