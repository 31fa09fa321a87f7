-- What a call answered, as an outcome and as a step.
use Rattle.std.proofs.Common.{◌≡◌, ℕ, Bool, true, cond, Some, None, Err, Option, Result, sym, refl, ap, ◌∙◌, arith}
use Rattle.terms.specs.Table.{answered}
use Rattle.terms.specs.declared.refusal.Refusal.{Refusal}
use Rattle.terms.specs.declared.call.Call.{Call}
use Rattle.terms.specs.declared.call.Call.TheVariants.{Clock, Quota, Mode, Price, Deliver, Remit, Shut, Next}
use Rattle.pool.specs.State.{State}
use Rattle.pool.specs.Rules.{verdict, next}
use Rattle.pool.specs.Promises.{handed}
use Rattle.pool.specs.declared.days.Day.{Day}
use Rattle.pool.specs.declared.days.Day.TheVariants as held
use Rattle.pool.specs.declared.days.OpenDay.{OpenDay}
use Rattle.life.specs.Steps.{outcome_of, by_verdict, made, outcome_made, number_of, takes, day_by, stepped, after_step}
use Rattle.life.specs.declared.steps.CallError.{CallError}
use Rattle.life.specs.declared.steps.CallError.TheVariants.{Refused}
use Rattle.life.specs.declared.steps.Stepped.{Stepped}

abbrev at_day : Day → Result Unit CallError → Stepped
at_day d o = record { day = d; outcome = o }

-- what came of a call that was answered by a verdict
pub outcome_answered : (v : Option Refusal) → outcome_of (answered v tt) ≡ by_verdict v
outcome_answered None = refl
outcome_answered (Some r) = refl

-- the refusal that came back with its day
pub was_handed : {D E : Type 0} (v : Option Refusal) (old : D) (new : E) (x : Refusal × D) → Err x ≡ handed v old new → (v ≡ Some x.0) × (x.1 ≡ old)
was_handed None old new x e = let z : ◌≡◌ {A = ℕ} 0 1 = cc in absurd (omega arith)
was_handed (Some r) old new x e = (cc, cc)

-- a refused call that took the day in hand
pub step_refused : (s t : State) (day : Day) (call this : Call) (r : Refusal) → call ≡ this → takes day this ≡ true → verdict s (number_of day) this ≡ Some r → t ≡ next s (number_of day) this → (at_day day (Err (Refused r)) ≡ stepped s day call) × (t ≡ after_step s day call)
step_refused s t day call this r same k v f =
    let e : stepped s day this ≡ at_day day (Err (Refused r)) = rw (k, v) in
    (sym (ap (stepped s day) same ∙ e), f ∙ (ap (λ (b : Bool). cond b (next s (number_of day) this) s) (sym k) ∙ ap (after_step s day) (sym same)))

day_by_same : (v : Option Refusal) (day : Day) → day_by v day day ≡ day
day_by_same None day = refl
day_by_same (Some r) day = refl

-- any call but a shut, with an open day in hand
pub step_made : (s t : State) (d : OpenDay) (call : Call) (o : Result Unit CallError) → (call ≡ Shut → ⊥) → o ≡ outcome_made s d.number call → t ≡ made s d.number call → (at_day (held.Open d) o ≡ stepped s (held.Open d) call) × (t ≡ after_step s (held.Open d) call)
step_made s t d call o other e f = by_call call other e f
  where
    same_day : (c : Call) (p : Result Unit CallError) → p ≡ by_verdict (verdict s d.number c) → at_day (held.Open d) p ≡ at_day (day_by (verdict s d.number c) (held.Open d) (held.Open d)) (by_verdict (verdict s d.number c))
    same_day c p q = rw (day_by_same (verdict s d.number c) (held.Open d)) (ap (at_day (held.Open d)) q)

    by_call : (c : Call) → (c ≡ Shut → ⊥) → o ≡ outcome_made s d.number c → t ≡ made s d.number c → (at_day (held.Open d) o ≡ stepped s (held.Open d) c) × (t ≡ after_step s (held.Open d) c)
    by_call (Clock minute) n p q = (same_day (Clock minute) o p, q)
    by_call (Quota account bond face) n p q = (same_day (Quota account bond face) o p, q)
    by_call (Mode account mode) n p q = (same_day (Mode account mode) o p, q)
    by_call (Price bond price) n p q = (same_day (Price bond price) o p, q)
    by_call (Deliver from to bond face) n p q = (same_day (Deliver from to bond face) o p, q)
    by_call (Remit from to fen) n p q = (same_day (Remit from to fen) o p, q)
    by_call Shut n p q = absurd (n refl)
    by_call (Next number r001) n p q = (ap (at_day (held.Open d)) p, q)
