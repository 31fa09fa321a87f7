-- The rules of every call: an ordered list of refusals, and what an accepted call makes of the pool. A day is known by its number, which the caller holds.
use Rattle.std.specs.Prelude.{ℕ, Bool, List, Option}
use Rattle.terms.specs.Table.{first_of, settled}
use Rattle.terms.specs.declared.refusal.Refusal.{Refusal}
use Rattle.terms.specs.declared.call.Call.{Call}
use Rattle.terms.specs.declared.call.Call.TheVariants.{Clock, Quota, Mode, Price, Deliver, Remit, Shut, Next}
use Rattle.book.specs.Moves.{moved}
use Rattle.book.specs.Places.{available}
use Rattle.records.specs.Times.{clock_rules, clocked, shut_rules, closed, next_rules, reopened}
use Rattle.records.specs.Quotas.{quota_rules, with_preset, mode_rules, with_mode, price_rules, with_price}
use Rattle.transfers.specs.Transfers.{deliver_rules, remit_rules}
use Rattle.pool.specs.State.{State, with_bonds, with_cash, with_kept}

abbrev pub rules : State → ℕ → Call → List (Bool × Refusal)
rules s day (Clock minute) = clock_rules s.kept day minute
rules s day (Quota account bond face) = quota_rules s.kept day account bond face
rules s day (Mode account mode) = mode_rules s.kept day account mode
rules s day (Price bond price) = price_rules s.kept day bond price
rules s day (Deliver from to bond face) = deliver_rules s.bonds s.kept day from to bond face
rules s day (Remit from to fen) = remit_rules s.cash s.kept day from to fen
rules s day Shut = shut_rules s.kept day
rules s day (Next number r001) = next_rules s.kept day number r001

-- what an accepted call makes of the pool
abbrev pub accepted : State → Call → State
accepted s (Clock minute) = with_kept s (clocked s.kept minute)
accepted s (Quota account bond face) = with_kept s (with_preset s.kept account bond face)
accepted s (Mode account mode) = with_kept s (with_mode s.kept account mode)
accepted s (Price bond price) = with_kept s (with_price s.kept bond price)
accepted s (Deliver from to bond face) =
    with_bonds s (moved s.bonds.amounts (available from bond) (available to bond) face)
accepted s (Remit from to fen) = with_cash s (moved s.cash.amounts from to fen)
accepted s Shut = with_kept s (closed s.kept)
accepted s (Next number r001) = with_kept s (reopened s.kept number r001)

-- the first rule that applies, if any
abbrev pub verdict : State → ℕ → Call → Option Refusal
verdict s day call = first_of (rules s day call)

-- the pool after a call: a refused one leaves it as it was
abbrev pub next : State → ℕ → Call → State
next s day call = settled (verdict s day call) s (accepted s call)
