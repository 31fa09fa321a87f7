-- The fee of a loan and who gets it. Faces are in yuan, rates in millionths a year, money in fen.
use Rattle.std.specs.Prelude.{◌≡◌, ℕ, ◌+◌, ◌-◌, ◌*◌, ◌/◌, ◌≤◌, min, max, List, sum}
use Rattle.sums.specs.Parts.{floor_parts}

-- n / d rounded half up, for an even d
abbrev pub half_up : ℕ → ℕ → ℕ
half_up n d = (n + d / 2) / d

-- the overnight repo rate less 5,000, at least 5,000 and at most 15,000
abbrev pub rate_of : ℕ → ℕ
rate_of r001 = min (max (r001 - 5_000) 5_000) 15_000

-- the fee for a term of days, in a year of 365
abbrev pub fee_of : ℕ → ℕ → ℕ → ℕ
fee_of face rate days = half_up (face * rate * days) 3_650_000

-- the clearing fee: two hundredths of a fen a day for 100 yuan
abbrev pub clearing_of : ℕ → ℕ → ℕ
clearing_of face days = half_up (face * days) 5_000

-- lenders get the fee less the clearing fee by their shares, each part rounded down
abbrev pub lender_parts : ℕ → ℕ → List ℕ → List ℕ
lender_parts fee clearing shares = floor_parts (fee - clearing) shares

-- the house keeps the rest of the fee
abbrev pub house_keeps : ℕ → ℕ → List ℕ → ℕ
house_keeps fee clearing shares = fee - sum (lender_parts fee clearing shares)

-- the lowest rate of a loan: at it and above it the clearing fee is within the fee
pub record ClearingWithin (lowest : ℕ) : Type 0 where
  pub met : rate_of 0 ≡ lowest
  pub legal : (r001 : ℕ) → (lowest ≤ rate_of r001) × (rate_of r001 ≤ 15_000)
  pub within : (face rate days : ℕ) → lowest ≤ rate → clearing_of face days ≤ fee_of face rate days
