-- The history that some calls make, and the day that the caller holds meanwhile.
use Rattle.std.proofs.Common.{◌≡◌, ℕ, Bool, true, false, cond, not, List, [], ◌∷◌, Some, None, Option, sym, refl, ap, ◌∙◌, subst, arith}
use Rattle.terms.specs.Table.{settled}
use Rattle.terms.specs.declared.refusal.Refusal.{Refusal}
use Rattle.terms.specs.declared.call.Call.{Call}
use Rattle.terms.specs.declared.call.Call.TheVariants.{Clock, Quota, Mode, Price, Deliver, Remit, Shut, Next}
use Rattle.pool.specs.State.{State}
use Rattle.pool.specs.Rules.{accepted, verdict, next}
use Rattle.pool.specs.Life.{History, called, LeadsTo}
use Rattle.pool.specs.declared.days.Day.{Day}
use Rattle.pool.specs.declared.days.Day.TheVariants as held
use Rattle.life.specs.Steps.{number_of, takes, day_after, day_by, stepped, after_step}
use Rattle.life.specs.declared.steps.Stepped.{Stepped}
use Rattle.life.specs.Lives.{HoldsDay, comes, went, ended, told}

-- a call comes exactly where it takes the day in hand, and is made with the pool's own day
comes_takes : (s : State) (day : Day) (call : Call) → HoldsDay s day → comes s call ≡ takes day call
comes_takes s (held.Open d) (Clock minute) h = h.0
comes_takes s (held.Open d) (Quota account bond face) h = h.0
comes_takes s (held.Open d) (Mode account mode) h = h.0
comes_takes s (held.Open d) (Price bond price) h = h.0
comes_takes s (held.Open d) (Deliver from to bond face) h = h.0
comes_takes s (held.Open d) (Remit from to fen) h = h.0
comes_takes s (held.Open d) Shut h = h.0
comes_takes s (held.Open d) (Next number r001) h = ap not h.0
comes_takes s (held.Shut d) (Clock minute) h = h.0
comes_takes s (held.Shut d) (Quota account bond face) h = h.0
comes_takes s (held.Shut d) (Mode account mode) h = h.0
comes_takes s (held.Shut d) (Price bond price) h = h.0
comes_takes s (held.Shut d) (Deliver from to bond face) h = h.0
comes_takes s (held.Shut d) (Remit from to fen) h = h.0
comes_takes s (held.Shut d) Shut h = h.0
comes_takes s (held.Shut d) (Next number r001) h = ap not h.0

own_day : (s : State) (day : Day) → HoldsDay s day → s.kept.time.day ≡ number_of day
own_day s (held.Open d) h = h.1
own_day s (held.Shut d) h = h.1

went_by : (s : State) (day : Day) (call : Call) → HoldsDay s day → after_step s day call ≡ went s call
went_by s day call h =
    ap (λ (b : Bool). cond b (next s (number_of day) call) s) (sym (comes_takes s day call h))
    ∙ ap (λ (n : ℕ). cond (comes s call) (next s n call) s) (sym (own_day s day h))

-- the day in hand is still the pool's own after an accepted call that takes it
accepted_day : (s : State) (day : Day) (call : Call) → takes day call ≡ true → HoldsDay s day → HoldsDay (accepted s call) (day_after day call)
accepted_day s (held.Open d) (Clock minute) t h = h
accepted_day s (held.Open d) (Quota account bond face) t h = h
accepted_day s (held.Open d) (Mode account mode) t h = h
accepted_day s (held.Open d) (Price bond price) t h = h
accepted_day s (held.Open d) (Deliver from to bond face) t h = h
accepted_day s (held.Open d) (Remit from to fen) t h = h
accepted_day s (held.Open d) Shut t h = (refl, h.1)
accepted_day s (held.Open d) (Next number r001) t h = let z : ◌≡◌ {A = ℕ} 0 1 = cc in absurd (omega arith)
accepted_day s (held.Shut d) (Clock minute) t h = let z : ◌≡◌ {A = ℕ} 0 1 = cc in absurd (omega arith)
accepted_day s (held.Shut d) (Quota account bond face) t h = let z : ◌≡◌ {A = ℕ} 0 1 = cc in absurd (omega arith)
accepted_day s (held.Shut d) (Mode account mode) t h = let z : ◌≡◌ {A = ℕ} 0 1 = cc in absurd (omega arith)
accepted_day s (held.Shut d) (Price bond price) t h = let z : ◌≡◌ {A = ℕ} 0 1 = cc in absurd (omega arith)
accepted_day s (held.Shut d) (Deliver from to bond face) t h = let z : ◌≡◌ {A = ℕ} 0 1 = cc in absurd (omega arith)
accepted_day s (held.Shut d) (Remit from to fen) t h = let z : ◌≡◌ {A = ℕ} 0 1 = cc in absurd (omega arith)
accepted_day s (held.Shut d) Shut t h = let z : ◌≡◌ {A = ℕ} 0 1 = cc in absurd (omega arith)
accepted_day s (held.Shut d) (Next number r001) t h = (refl, refl)

settled_day : (s a : State) (old new : Day) (v : Option Refusal) → HoldsDay s old → HoldsDay a new → HoldsDay (settled v s a) (day_by v old new)
settled_day s a old new None h k = k
settled_day s a old new (Some r) h k = h

still_held : (s : State) (day : Day) (call : Call) → HoldsDay s day → HoldsDay (after_step s day call) (stepped s day call).day
still_held s day call h = by_kind (takes day call) refl
  where
    by_kind : (b : Bool) → takes day call ≡ b → HoldsDay (after_step s day call) (stepped s day call).day
    by_kind true t =
        rw t (settled_day s (accepted s call) day (day_after day call) (verdict s (number_of day) call) h (accepted_day s day call t h))
    by_kind false t = rw t h

pub stepped_on : (s t : State) (day : Day) (call : Call) (r : Stepped) → HoldsDay s day → r ≡ stepped s day call → t ≡ after_step s day call → HoldsDay t r.day × (t ≡ went s call)
stepped_on s t day call r h e f = (
  subst (λ (u : State). HoldsDay u r.day) (sym f) (subst (λ (d : Day). HoldsDay (after_step s day call) d) (sym (ap (λ (x : Stepped). x.day) e)) (still_held s day call h)),
  f ∙ went_by s day call h,
)

-- the history of some calls leads to where they end
grown : (b : Bool) (h : History) (s t : State) (day : ℕ) (call : Call) → LeadsTo h s → t ≡ cond b (next s day call) s → LeadsTo (cond b (called h day call (verdict s day call)) h) t
grown true h s t day call l e = (s, (l, refl, e))
grown false h s t day call l e = subst (λ (x : State). LeadsTo h x) (sym e) l

pub leads_on : (h : History) (s : State) (calls : List Call) → LeadsTo h s → LeadsTo (told h s calls) (ended s calls)
leads_on h s [] l = l
leads_on h s (call ∷ calls) l =
    leads_on
    (cond (comes s call) (called h s.kept.time.day call (verdict s s.kept.time.day call)) h)
    (went s call)
    calls
    (grown (comes s call) h s (went s call) s.kept.time.day call l refl)
