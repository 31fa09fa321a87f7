use Rattle.std.proofs.Common.{◌+◌, drop, sym, ap, ◌∙◌}
use Rattle.std.proofs.lemmas.List.{at_drop_more, drop_all}
use Rattle.terms.specs.declared.call.Call.TheVariants.{Clock}
use Rattle.pool.specs.State.{State, state_of}
use Rattle.life.specs.Lives.{ended}
use Rattle.life.proofs.Histories.{stepped_on}
use Rattle.life.proofs.whole.run.Goals as goal

pub loop-call-preserved : goal.loop-call-preserved
loop-call-preserved g c =
    let s = state_of g.B.Book g.C.Book g.S.SharingRule c.loop-call.pool in
    let i = c.loop-call.call-index in
    let calls = c.args.calls.now in
    let m = stepped_on s (state_of g.B.Book g.C.Book g.S.SharingRule c.step-day.new.pool) c.loop-call.day _ c.step-day.result c.loop-call.invariant.0 c.step-day.ensures.answer c.step-day.ensures.after in (
      m.0,
      c.loop-call.invariant.1
          ∙ (at_drop_more (ended s) calls i (Clock 0) c.loop-call-test.true
          ∙ ap (λ (x : State). ended x (drop (i + 1) calls)) (sym m.1)),
    )

pub returns : goal.returns
returns g c =
    let t = state_of g.B.Book g.C.Book g.S.SharingRule c.loop-call.pool in
    record {
      held = c.loop-call.invariant.0;
      after =
          sym (c.loop-call.invariant.1 ∙ ap (ended t) (drop_all c.loop-call.call-index c.args.calls.now c.loop-call-test.false));
    }
