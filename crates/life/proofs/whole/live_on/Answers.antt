use Rattle.std.proofs.Common.{◌≡◌, sym, refl, ap, ◌∙◌, subst}
use Rattle.pool.specs.Opening.{opening_of, opening_state}
use Rattle.pool.specs.State.{State, state_of}
use Rattle.pool.specs.Life.{began, LeadsTo}
use Rattle.pool.proofs.Laws.{law}
use Rattle.life.specs.Lives.{told, ended}
use Rattle.life.proofs.Histories.{leads_on}
use Rattle.life.proofs.whole.live_on.Goals as goal

pub returns-in-Ok : goal.returns-in-Ok
returns-in-Ok g c =
    let o = opening_of g.B.Book g.C.Book g.S.SharingRule c.args.parts c.args.figures.now in
    let h = c.in-Ok.ensures.0 in
    let calls = c.args.calls.now in
    let t = state_of g.B.Book g.C.Book g.S.SharingRule c.run-day.new.pool in
    let e : t ≡ ended (opening_state o) calls = c.run-day.ensures.after ∙ ap (λ (s : State). ended s calls) h.1 in
    let l : LeadsTo (told (began o) (opening_state o) calls) t =
    subst (λ (s : State). LeadsTo (told (began o) (opening_state o) calls) s) (sym e) (leads_on (began o) (opening_state o) calls (h.0, refl))
    in
    (h.0, e, c.run-day.ensures.held, l, law (told (began o) (opening_state o) calls) t l)
