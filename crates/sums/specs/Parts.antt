-- An amount is parted by weights: each place gets amount × weight / total rounded down,
-- and then one unit each, until the amount is made, to the lowest places whose part was rounded down.
use Rattle.std.specs.Prelude.{ℕ, ◌+◌, ◌-◌, ◌*◌, ◌/◌, ◌%◌, min, cond, List, [], ◌∷◌, map, sum_by, sum, ◌==◌}

-- a place's part, rounded down; a total of 0 gives 0
abbrev pub floor_part : ℕ → ℕ → ℕ → ℕ
floor_part amount total weight = amount * weight / total

-- the parts of all places, rounded down
abbrev pub floor_parts : ℕ → List ℕ → List ℕ
floor_parts amount weights = map (floor_part amount (sum weights)) weights

-- 1 where the part was rounded down, else 0
abbrev pub rounded_down : ℕ → ℕ → ℕ → ℕ
rounded_down amount total weight = cond (amount * weight % total == 0) 0 1

-- the parts, with `left` units still to give, one to each place whose part was rounded down
abbrev pub topped : ℕ → ℕ → ℕ → List ℕ → List ℕ
topped amount total left [] = []
topped amount total left (weight ∷ weights) =
    let unit : ℕ = min left (rounded_down amount total weight) in
    (floor_part amount total weight + unit) ∷ topped amount total (left - unit) weights

-- the units that rounding down leaves
abbrev pub left_over : ℕ → List ℕ → ℕ
left_over amount weights = amount - sum_by (floor_part amount (sum weights)) weights

-- the parts of all places; a total of 0 gives every place 0
unfoldable pub parted : ℕ → List ℕ → List ℕ
parted amount weights = topped amount (sum weights) (left_over amount weights) weights
