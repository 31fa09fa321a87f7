-- Reading a table of figures, row by row.
use Rattle.std.specs.Prelude.{ℕ, suc, Bool, cond, List, [], ◌∷◌, map, length, Ok, Err, Result, nat_lt}
use Rattle.terms.specs.Refusals.{refuse_order}
use Rattle.terms.specs.declared.refusal.Refusal.{Refusal}
use Rattle.terms.specs.declared.refusal.Cause.TheVariants as cause

-- the number of the first bad row, or the number of rows where none is bad
abbrev pub first_bad : {X : Type 0} → (X → Bool) → List X → ℕ
first_bad bad [] = 0
first_bad bad (x ∷ xs) = cond (bad x) 0 (suc (first_bad bad xs))

-- some row is bad
abbrev pub has_bad : {X : Type 0} → (X → Bool) → List X → Bool
has_bad bad xs = nat_lt (first_bad bad xs) (length xs)

-- a table read from figures, or the refusal that names its first bad row
abbrev pub read_table : {X Y : Type 0} → (X → Bool) → (X → Y) → List X → Result (List Y) Refusal
read_table bad meant xs = cond (has_bad bad xs) (Err (refuse_order cause.Figure (first_bad bad xs))) (Ok (map meant xs))
