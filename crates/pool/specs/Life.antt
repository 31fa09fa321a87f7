-- The life of a pool, told from outside: its opening, and then each call with its numbers and whether it was accepted or why it was refused.
use Rattle.std.specs.Prelude.{◌≡◌, ℕ, ◌+◌, cond, ◌&&◌, List, Some, None, Option, ◌==◌, slice_index}
use Rattle.terms.specs.declared.refusal.Refusal.{Refusal}
use Rattle.terms.specs.declared.call.Call.{Call}
use Rattle.terms.specs.declared.call.Call.TheVariants.{Clock, Quota, Mode, Price, Deliver, Remit, Shut, Next}
use Rattle.book.specs.Places.{available, pledged}
use Rattle.pool.specs.Opening.{Opening, opening_verdict, opening_state}
use Rattle.pool.specs.State.{State}
use Rattle.pool.specs.Rules.{verdict, next}

pub data History : Type 0 where
  began : Opening → History
  -- one more call, made with a day of that number, and its refusal, if any
  called : History → ℕ → Call → Option Refusal → History

-- h leads to s: an accepted opening, then calls, each answered and booked as the rules say
abbrev pub LeadsTo : History → State → Type 0
LeadsTo (began o) s = (opening_verdict o ≡ None) × (s ≡ opening_state o)
LeadsTo (called h day call answer) s =
    (t : State) × (LeadsTo h t × (answer ≡ verdict t day call) × (s ≡ next t day call))

-- what an account holds of a bond in a list of amounts: available, pledged, and both
abbrev pub available_face : List ℕ → ℕ → ℕ → ℕ
available_face amounts account bond = slice_index amounts (available account bond)

abbrev pub pledged_face : List ℕ → ℕ → ℕ → ℕ
pledged_face amounts account bond = slice_index amounts (pledged account bond)

abbrev pub holding : List ℕ → ℕ → ℕ → ℕ
holding amounts account bond = available_face amounts account bond + pledged_face amounts account bond

-- what the bond book held when the pool was opened
abbrev pub opening_bonds : History → List ℕ
opening_bonds (began o) = o.bonds.amounts
opening_bonds (called h day call answer) = opening_bonds h

-- the face of a bond that is delivered to an account by one accepted call, and by an account
abbrev pub gets : Call → ℕ → ℕ → ℕ
gets (Clock minute) account bond = 0
gets (Quota a b face) account bond = 0
gets (Mode a mode) account bond = 0
gets (Price b price) account bond = 0
gets (Deliver from to b face) account bond = cond (to == account && b == bond) face 0
gets (Remit from to fen) account bond = 0
gets Shut account bond = 0
gets (Next number r001) account bond = 0

abbrev pub gives : Call → ℕ → ℕ → ℕ
gives (Clock minute) account bond = 0
gives (Quota a b face) account bond = 0
gives (Mode a mode) account bond = 0
gives (Price b price) account bond = 0
gives (Deliver from to b face) account bond = cond (from == account && b == bond) face 0
gives (Remit from to fen) account bond = 0
gives Shut account bond = 0
gives (Next number r001) account bond = 0

-- a figure of a call where it was accepted, and 0 where it was refused
abbrev pub if_accepted : Option Refusal → ℕ → ℕ
if_accepted None n = n
if_accepted (Some r) n = 0

-- over a history: the face of a bond delivered to an account, and by it
abbrev pub delivered_in : History → ℕ → ℕ → ℕ
delivered_in (began o) account bond = 0
delivered_in (called h day call answer) account bond =
    delivered_in h account bond + if_accepted answer (gets call account bond)

abbrev pub delivered_out : History → ℕ → ℕ → ℕ
delivered_out (began o) account bond = 0
delivered_out (called h day call answer) account bond =
    delivered_out h account bond + if_accepted answer (gives call account bond)
