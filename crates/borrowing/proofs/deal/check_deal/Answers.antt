use Rattle.std.proofs.lemmas.Result.{err_from_is_err_and}
use Rattle.borrowing.specs.Deals.{begun}
use Rattle.borrowing.proofs.Made.{whole_row, worth_refused, room_refused, all_passed}
use Rattle.borrowing.proofs.deal.check_deal.Goals as goal

pub returns-in_err-check_worth : goal.returns-in_err-check_worth
returns-in_err-check_worth g c =
    let p = err_from_is_err_and c.from_residual-in_err-check_worth.result c.from_residual-in_err-check_worth.ensures.1 in
    let a = c.args in
    rw (p.1, p.2) (worth_refused a.view.now (g.S.SharingRule.meaning a.rule.now) a.terms.now a.pledge.now c.in_ok-shares.shares c.in_ok-check_loans.ensures c.in_ok-shares.ensures.answer _ c.in_err-check_worth.ensures)

pub returns-in_err-check_room : goal.returns-in_err-check_room
returns-in_err-check_room g c =
    let p = err_from_is_err_and c.from_residual-in_err-check_room.result c.from_residual-in_err-check_room.ensures.1 in
    let a = c.args in
    rw (p.1, p.2) (room_refused a.view.now (g.S.SharingRule.meaning a.rule.now) a.terms.now a.pledge.now c.in_ok-shares.shares c.in_ok-check_loans.ensures c.in_ok-shares.ensures.answer c.in_ok-check_worth.ensures _ c.in_err-check_room.ensures)

pub returns : goal.returns
returns g c =
    let a = c.args in
    let k = a.view.now.records in
    let shares = c.in_ok-shares.shares in
    let row = whole_row (begun k a.terms.now a.pledge.now shares) c.begun_row-row.result c.try_from.result c.refuse.result c.or.result c.begun_row-row.ensures c.in_ok-shares.ensures.whole c.try_from.ensures c.or.ensures in
    all_passed a.view.now (g.S.SharingRule.meaning a.rule.now) a.terms.now a.pledge.now shares c.in_ok-check_loans.ensures c.in_ok-shares.ensures.answer c.in_ok-check_worth.ensures c.in_ok-check_room.ensures _ row
