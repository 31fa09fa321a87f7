use Rattle.pool.specs.State.{state_of}
use Rattle.life.proofs.Outcomes.{step_made}
use Rattle.life.proofs.steps.step_open.Goals as goal

pub returns-in_default : goal.returns-in_default
returns-in_default g c =
    let s = state_of g.B.Book g.C.Book g.S.SharingRule c.args.pool.now in
    let t = state_of g.B.Book g.C.Book g.S.SharingRule c.make-outcome.new.pool in
    let m = step_made s t c.args.today c.args.call c.make-outcome.result c.in_default.not-Shut c.make-outcome.ensures.answer c.make-outcome.ensures.after in
    record { answer = m.0; after = m.1 }
