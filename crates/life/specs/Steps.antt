-- One call of a life. With an open day in hand every call but next is made, with a shut day next alone.
use Rattle.std.specs.Prelude.{ℕ, Bool, true, false, cond, List, ◌++◌, Some, None, Ok, Err, Option, Result, codes}
use Rattle.terms.specs.Words.{refusal_text}
use Rattle.terms.specs.declared.refusal.Refusal.{Refusal}
use Rattle.terms.specs.declared.call.Call.{Call}
use Rattle.terms.specs.declared.call.Call.TheVariants.{Clock, Quota, Mode, Price, Deliver, Remit, Shut, Next}
use Rattle.pool.specs.State.{State}
use Rattle.pool.specs.Rules.{verdict, next}
use Rattle.pool.specs.declared.days.Day.{Day}
use Rattle.pool.specs.declared.days.Day.TheVariants as held
use Rattle.life.specs.declared.steps.CallError.{CallError}
use Rattle.life.specs.declared.steps.CallError.TheVariants.{Refused, NotMade}
use Rattle.life.specs.declared.steps.Stepped.{Stepped}

-- why a call did nothing, as it is told
abbrev pub error_text : CallError → List ℕ
error_text (Refused r) = codes "refused " ++ refusal_text r
error_text NotMade = codes "not made"

-- what came of a call, by its answer
abbrev pub outcome_of : Result Unit Refusal → Result Unit CallError
outcome_of (Ok x) = Ok tt
outcome_of (Err r) = Err (Refused r)

-- the outcome of a call under a verdict
abbrev pub by_verdict : Option Refusal → Result Unit CallError
by_verdict None = Ok tt
by_verdict (Some r) = Err (Refused r)

-- a call that neither ends nor begins a day
abbrev pub within_day : Call → Bool
within_day (Clock minute) = true
within_day (Quota account bond face) = true
within_day (Mode account mode) = true
within_day (Price bond price) = true
within_day (Deliver from to bond face) = true
within_day (Remit from to fen) = true
within_day Shut = false
within_day (Next number r001) = false

-- such a call, made with an open day of that number; other calls are not made
abbrev pub made : State → ℕ → Call → State
made s day call = cond (within_day call) (next s day call) s

abbrev pub outcome_made : State → ℕ → Call → Result Unit CallError
outcome_made s day call = cond (within_day call) (by_verdict (verdict s day call)) (Err NotMade)

-- the number of the day in hand
abbrev pub number_of : Day → ℕ
number_of (held.Open d) = d.number
number_of (held.Shut d) = d.number

-- the call takes a day of the kind in hand
abbrev pub takes : Day → Call → Bool
takes (held.Open d) (Clock minute) = true
takes (held.Open d) (Quota account bond face) = true
takes (held.Open d) (Mode account mode) = true
takes (held.Open d) (Price bond price) = true
takes (held.Open d) (Deliver from to bond face) = true
takes (held.Open d) (Remit from to fen) = true
takes (held.Open d) Shut = true
takes (held.Open d) (Next number r001) = false
takes (held.Shut d) (Clock minute) = false
takes (held.Shut d) (Quota account bond face) = false
takes (held.Shut d) (Mode account mode) = false
takes (held.Shut d) (Price bond price) = false
takes (held.Shut d) (Deliver from to bond face) = false
takes (held.Shut d) (Remit from to fen) = false
takes (held.Shut d) Shut = false
takes (held.Shut d) (Next number r001) = true

-- the day in hand after an accepted call that takes it: a shut gives the shut day, a next the new day
abbrev pub day_after : Day → Call → Day
day_after day (Clock minute) = day
day_after day (Quota account bond face) = day
day_after day (Mode account mode) = day
day_after day (Price bond price) = day
day_after day (Deliver from to bond face) = day
day_after day (Remit from to fen) = day
day_after day Shut = held.Shut (record { number = number_of day })
day_after day (Next number r001) = held.Open (record { number = number })

abbrev pub day_by : Option Refusal → Day → Day → Day
day_by None old new = new
day_by (Some r) old new = old

-- the day in hand after a call, and what came of it
abbrev pub stepped : State → Day → Call → Stepped
stepped s day call =
    cond (takes day call)
    (record { day = day_by (verdict s (number_of day) call) day (day_after day call); outcome = by_verdict (verdict s (number_of day) call) })
    (record { day = day; outcome = Err NotMade })

-- the pool after it
abbrev pub after_step : State → Day → Call → State
after_step s day call = cond (takes day call) (next s (number_of day) call) s
