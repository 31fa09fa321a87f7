-- A whole life: an opening and then a list of calls. After an accepted shut only a next comes, and a next comes only then.
use Rattle.std.specs.Prelude.{◌≡◌, Bool, true, false, cond, not, List, [], ◌∷◌, Some, None, Ok, Err, Result}
use Rattle.terms.specs.declared.call.Call.{Call}
use Rattle.terms.specs.declared.call.Call.TheVariants.{Clock, Quota, Mode, Price, Deliver, Remit, Shut, Next}
use Rattle.book.specs.declared.Book.{Ghosts as BookMeaning}
use Rattle.share.specs.declared.SharingRule.{Ghosts as RuleMeaning}
use Rattle.pool.specs.Opening.{Opening, opening_verdict, opening_state}
use Rattle.pool.specs.State.{State, state_of}
use Rattle.pool.specs.Rules.{verdict, next}
use Rattle.pool.specs.Life.{History, began, called, LeadsTo}
use Rattle.pool.specs.Law.{Law}
use Rattle.pool.specs.declared.days.Day.{Day}
use Rattle.pool.specs.declared.days.Day.TheVariants as held
use Rattle.pool.specs.declared.opening.Parts.{Parts}
use Rattle.pool.specs.declared.opening.Unopened.{Unopened}
use Rattle.life.specs.declared.whole.Lived.{Lived}

-- the day that a caller holds is the pool's own
abbrev pub HoldsDay : State → Day → Type 0
HoldsDay s (held.Open d) = (s.kept.time.opened ≡ true) × (s.kept.time.day ≡ d.number)
HoldsDay s (held.Shut d) = (s.kept.time.opened ≡ false) × (s.kept.time.day ≡ d.number)

-- a call comes while the day is open, and a next while it is shut
abbrev pub comes : State → Call → Bool
comes s (Clock minute) = s.kept.time.opened
comes s (Quota account bond face) = s.kept.time.opened
comes s (Mode account mode) = s.kept.time.opened
comes s (Price bond price) = s.kept.time.opened
comes s (Deliver from to bond face) = s.kept.time.opened
comes s (Remit from to fen) = s.kept.time.opened
comes s Shut = s.kept.time.opened
comes s (Next number r001) = not s.kept.time.opened

-- the pool after a call, made with the pool's own day, if it comes
abbrev pub went : State → Call → State
went s call = cond (comes s call) (next s s.kept.time.day call) s

-- the pool after some calls
abbrev pub ended : State → List Call → State
ended s [] = s
ended s (call ∷ calls) = ended (went s call) calls

-- a history, with some calls more, each that comes with its answer
abbrev pub told : History → State → List Call → History
told h s [] = h
told h s (call ∷ calls) =
    told (cond (comes s call) (called h s.kept.time.day call (verdict s s.kept.time.day call)) h) (went s call) calls

-- what a whole life promises: a refused opening hands everything back; else the pool is where the calls lead,
-- the caller holds its day, the history of these calls leads there, and the law holds
abbrev pub Lives : {X Y Z : Type 0} → BookMeaning X → BookMeaning Y → RuleMeaning Z → Parts X Y Z → Opening → List Call → Result (Lived X Y Z) (Unopened X Y Z) → Type 0
Lives b c r parts o calls (Ok l) =
    (opening_verdict o ≡ None)
    × (state_of b c r l.pool ≡ ended (opening_state o) calls)
    × HoldsDay (state_of b c r l.pool) l.day
    × LeadsTo (told (began o) (opening_state o) calls) (state_of b c r l.pool)
    × Law (told (began o) (opening_state o) calls) (state_of b c r l.pool)
Lives b c r parts o calls (Err u) = (opening_verdict o ≡ Some u.refusal) × (u.parts ≡ parts)
