use Rattle.std.proofs.Common.{Err, refl, ap, ◌∙◌}
use Rattle.terms.specs.declared.call.Call.TheVariants.{Next}
use Rattle.pool.specs.Rules.{verdict}
use Rattle.pool.specs.State.{state_of}
use Rattle.pool.specs.declared.days.Day.TheVariants as held
use Rattle.pool.specs.declared.days.ShutDay.{ShutDay}
use Rattle.life.specs.declared.steps.CallError.TheVariants.{Refused}
use Rattle.life.proofs.Outcomes.{was_handed, step_refused}
use Rattle.life.proofs.steps.step_shut.Goals as goal

pub returns-in-Err-clause-answer : goal.returns-in-Err-clause-answer
returns-in-Err-clause-answer g c =
    let s = state_of g.B.Book g.C.Book g.S.SharingRule c.args.pool.now in
    let t = state_of g.B.Book g.C.Book g.S.SharingRule c.next.new.self in
    let this = Next c.in-Next.day c.in-Next.r001 in
    let p = c.in-Err.ensures in
    let h = was_handed (verdict s c.args.shut.number this) c.args.shut (record { number = c.in-Next.day }) (c.in-Err.refusal, c.in-Err.shut) p.answer in
    let m = step_refused s t (held.Shut c.args.shut) c.args.call this c.in-Err.refusal c.in-Next.is refl h.0 p.after in
    ap (λ (d : ShutDay). record { day = held.Shut d; outcome = Err (Refused c.in-Err.refusal) }) h.1 ∙ m.0
