use Rattle.std.proofs.Common.{refl, ap}
use Rattle.records.specs.Openings.{opened_records}
use Rattle.records.specs.declared.kept.Records.{Records}
use Rattle.pool.specs.Opening.{opening_of, opening_verdict, opening_state}
use Rattle.pool.specs.State.{with_kept}
use Rattle.pool.proofs.Answered.{was_accepted, was_refused}
use Rattle.pool.proofs.Pool.open_by_rules.Goals as goal

pub returns-in-Ok : goal.returns-in-Ok
returns-in-Ok g c =
    let f = c.args.figures.now in
    let o = opening_of g.B.Book g.C.Book g.S.SharingRule c.args.parts f in
    let w = was_accepted (opening_verdict o) (opened_records f) c.in-Ok.records c.in-Ok.ensures in
    (w.0, ap (with_kept (opening_state o)) w.1, ap (λ (k : Records). k.time.day) w.1)

pub returns-in-Err : goal.returns-in-Err
returns-in-Err g c =
    let f = c.args.figures.now in
    let o = opening_of g.B.Book g.C.Book g.S.SharingRule c.args.parts f in
    (was_refused (opening_verdict o) (opened_records f) c.in-Err.refusal c.in-Err.ensures, refl)
