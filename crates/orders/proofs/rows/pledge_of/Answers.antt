use Rattle.std.proofs.Common.{refl, ◌∙◌, arith, length-set}
use Rattle.std.proofs.lemmas.Result.{err_from_is_err_and}
use Rattle.book.specs.Ledgers.{ledger}
use Rattle.orders.specs.Rows.{unpledged, outcome}
use Rattle.orders.proofs.Filling.{row_refused, row_pledged}
use Rattle.orders.proofs.rows.pledge_of.Goals as goal

pub returns-in_err-pledge : goal.returns-in_err-pledge
returns-in_err-pledge g c =
    let p = err_from_is_err_and c.from_residual.result c.from_residual.ensures.1 in
    let a = c.args in
    let all = outcome (ledger g.B.Book a.bonds.now) a.records.now a.terms.now unpledged 0 c.front-used.result.now in
    rw (p.1, p.2, ← c.front-used.ensures.rows) (row_refused (ledger g.B.Book a.bonds.now) a.records.now a.terms.now c.front-used.result.now all c.loop-i.pledge c.loop-i.i c.loop-i.invariant.1 _ (record { bond = 0; face = 0 }) _ (omega arith) refl c.in_err-pledge.ensures)

pub loop-i-preserved : goal.loop-i-preserved
loop-i-preserved g c =
    let a = c.args in
    let all = outcome (ledger g.B.Book a.bonds.now) a.records.now a.terms.now unpledged 0 c.front-used.result.now in (
      length-set _ _ _ ∙ c.loop-i.invariant.0,
      row_pledged (ledger g.B.Book a.bonds.now) a.records.now a.terms.now c.front-used.result.now all c.loop-i.pledge c.loop-i.i c.loop-i.invariant.1 _ (record { bond = 0; face = 0 }) _ (omega arith) refl c.in_ok-pledge.ensures,
    )
