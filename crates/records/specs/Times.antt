-- The calls that keep the time. A day is known by its number, which the caller holds.
use Rattle.std.specs.Prelude.{ℕ, Bool, true, false, not, ◌||◌, List, [], ◌∷◌, ◌==◌, nat_le, nat_lt}
use Rattle.terms.specs.Ranges.{allowed}
use Rattle.terms.specs.Refusals.{refuse_order}
use Rattle.terms.specs.declared.range.Range.TheVariants as range
use Rattle.terms.specs.declared.refusal.Refusal.{Refusal}
use Rattle.terms.specs.declared.refusal.Cause.TheVariants as cause
use Rattle.records.specs.declared.kept.Records.{Records}

-- an open day that is not this pool's
abbrev pub not_open : Records → ℕ → Bool
not_open k day = not k.time.opened || not (k.time.day == day)

-- a shut day that is not this pool's
abbrev pub not_shut : Records → ℕ → Bool
not_shut k day = k.time.opened || not (k.time.day == day)

abbrev pub clock_rules : Records → ℕ → ℕ → List (Bool × Refusal)
clock_rules k day minute =
    (not_open k day, refuse_order cause.Time 0)
    ∷ (nat_lt minute k.time.minute || not (allowed range.Minute minute), refuse_order cause.Figure 0)
    ∷ []

abbrev pub clocked : Records → ℕ → Records
clocked k minute = record k { time = record k.time { minute = minute } }

abbrev pub shut_rules : Records → ℕ → List (Bool × Refusal)
shut_rules k day =
    (not_open k day, refuse_order cause.Time 0)
    ∷ (nat_lt k.time.minute 1020, refuse_order cause.Time 0)
    ∷ []

abbrev pub closed : Records → Records
closed k = record k { time = record k.time { opened = false } }

abbrev pub next_rules : Records → ℕ → ℕ → ℕ → List (Bool × Refusal)
next_rules k shut day r001 =
    (not_shut k shut, refuse_order cause.Time 0)
    ∷ (nat_le day k.time.day || not (allowed range.Day day), refuse_order cause.Figure 0)
    ∷ (not (allowed range.R001 r001), refuse_order cause.Figure 0)
    ∷ []

-- the next day is open at minute 0
abbrev pub reopened : Records → ℕ → ℕ → Records
reopened k day r001 = record k { time = record { day = day; opened = true; minute = 0; r001 = r001 } }
