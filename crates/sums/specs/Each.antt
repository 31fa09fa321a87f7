-- A list of values, one for each of some numbers.
use Rattle.std.specs.Prelude.{ℕ, zero, suc, List, [], ◌∷◌}

-- the values of f at n numbers, from one on
unfoldable pub each : (ℕ → ℕ) → ℕ → ℕ → List ℕ
each f from zero = []
each f from (suc n) = f from ∷ each f (suc from) n
