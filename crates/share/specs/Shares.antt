-- The sharing rules: limits and a want, in units, to shares.
use Rattle.std.specs.Prelude.{◌≡◌, ℕ, ◌-◌, ◌≤◌, min, List, [], ◌∷◌, map, sum, slice_index}
use Rattle.sums.specs.Parts.{parted}

-- what a rule's law promises of its shares, where the limits total at least the want
pub record Shared (limits : List ℕ) (want : ℕ) (shares : List ℕ) : Type 0 where
  pub within : (k : ℕ) → slice_index shares k ≤ slice_index limits k
  pub made : sum shares ≡ want

-- the limits, each above the want counted as the want
abbrev pub capped_at : List ℕ → ℕ → List ℕ
capped_at limits want = map (λ limit. min limit want) limits

-- the first rule fills accounts in rising order
abbrev pub first_shares : List ℕ → ℕ → List ℕ
first_shares [] want = []
first_shares (limit ∷ limits) want = min limit want ∷ first_shares limits (want - min limit want)

-- the even rule parts the want by the limits
abbrev pub even_shares : List ℕ → ℕ → List ℕ
even_shares limits want = parted want (capped_at limits want)
