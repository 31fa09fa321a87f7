-- What the public calls of a pool promise.
use Rattle.std.specs.Prelude.{◌≡◌, ℕ, Some, None, Ok, Err, Option, Result}
use Rattle.terms.specs.Table.{answered}
use Rattle.terms.specs.Refusals.{refused, WellNamed}
use Rattle.terms.specs.declared.refusal.Refusal.{Refusal}
use Rattle.terms.specs.declared.call.Call.{Call}
use Rattle.book.specs.declared.Book.{Ghosts as BookMeaning}
use Rattle.share.specs.declared.SharingRule.{Ghosts as RuleMeaning}
use Rattle.pool.specs.State.{State, state_of}
use Rattle.pool.specs.Opening.{Opening, opening_verdict, opening_state}
use Rattle.pool.specs.Rules.{verdict, next}
use Rattle.pool.specs.Life.{History, began, called, LeadsTo}
use Rattle.pool.specs.Law.{Law}
use Rattle.pool.specs.declared.Pool.{Pool}
use Rattle.pool.specs.declared.days.OpenDay.{OpenDay}
use Rattle.pool.specs.declared.opening.Parts.{Parts}
use Rattle.pool.specs.declared.opening.Unopened.{Unopened}

-- one call with its answer: every history that leads to s leads on by it to t, and the law holds there
abbrev pub GoesOn : State → ℕ → Call → Option Refusal → State → Type 0
GoesOn s day call answer t =
    (h : History) → LeadsTo h s → LeadsTo (called h day call answer) t × Law (called h day call answer) t

-- a call made with an open day: the answer and the pool after it are as the rules say, a refusal has a number
-- from 1 to 20 at a layer where that number may stand, and every life goes on by the call
pub record Obeys {X : Type 0} (s : State) (day : ℕ) (call : Call) (x : X) (r : Result X Refusal) (t : State) : Type 0 where
  pub answer : r ≡ answered (verdict s day call) x
  pub after : t ≡ next s day call
  pub named : WellNamed (refused r)
  pub life : GoesOn s day call (refused r) t

-- the answer of a call that takes a day: refused, that day comes back with the refusal
abbrev pub handed : {D E : Type 0} → Option Refusal → D → E → Result E (Refusal × D)
handed None old new = Ok new
handed (Some r) old new = Err (r, old)

abbrev pub refused_with : {X D : Type 0} → Result X (Refusal × D) → Option Refusal
refused_with (Ok x) = None
refused_with (Err r) = Some r.0

-- a call that takes the day it is made with, and gives another day
pub record PassesOn {D E : Type 0} (s : State) (day : ℕ) (call : Call) (old : D) (new : E) (r : Result E (Refusal × D)) (t : State) : Type 0 where
  pub answer : r ≡ handed (verdict s day call) old new
  pub after : t ≡ next s day call
  pub named : WellNamed (refused_with r)
  pub life : GoesOn s day call (refused_with r) t

-- an opening: the pool with its first day, or the first refusal with the books and the rule handed back
abbrev pub Opens : {X Y Z : Type 0} → BookMeaning X → BookMeaning Y → RuleMeaning Z → Parts X Y Z → Opening → Result (Pool X Y Z × OpenDay) (Unopened X Y Z) → Type 0
Opens b c r parts o (Ok p) =
    (opening_verdict o ≡ None) × (state_of b c r p.0 ≡ opening_state o) × (p.1.number ≡ o.figures.day)
Opens b c r parts o (Err u) = (opening_verdict o ≡ Some u.refusal) × (u.parts ≡ parts)

-- the same, and a life begins by an accepted opening
abbrev pub Begins : {X Y Z : Type 0} → BookMeaning X → BookMeaning Y → RuleMeaning Z → Parts X Y Z → Opening → Result (Pool X Y Z × OpenDay) (Unopened X Y Z) → Type 0
Begins b c r parts o (Ok p) =
    Opens b c r parts o (Ok p) × LeadsTo (began o) (state_of b c r p.0) × Law (began o) (state_of b c r p.0)
Begins b c r parts o (Err u) = Opens b c r parts o (Err u) × WellNamed (Some u.refusal)
