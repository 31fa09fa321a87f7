-- A loan's shares: the rule's list times the unit, for the face and each account's lendable face, in whole units.
use Rattle.std.specs.Prelude.{◌≡◌, ℕ, ◌*◌, ◌/◌, ◌%◌, ◌<◌, ◌≤◌, cond, List, map, length, Some, None, sum, Option, MatchOption, nat_le, slice_index}

abbrev pub in_units : ℕ → List ℕ → List ℕ
in_units unit lendable = map (λ x. x / unit) lendable

abbrev pub times_unit : ℕ → List ℕ → List ℕ
times_unit unit shares = map (λ s. s * unit) shares

-- the shares by the rule
abbrev pub rule_shares : (List ℕ → ℕ → List ℕ) → ℕ → List ℕ → ℕ → List ℕ
rule_shares rule unit lendable face = times_unit unit (rule (in_units unit lendable) (face / unit))

-- the shares, where the lendable faces in whole units total at least the face
abbrev pub allotted : (List ℕ → ℕ → List ℕ) → ℕ → List ℕ → ℕ → Option (List ℕ)
allotted rule unit lendable face =
    cond (nat_le (face / unit) (sum (in_units unit lendable))) (Some (rule_shares rule unit lendable face)) None

-- shares within the lendable faces that make the face
pub record Makes (lendable : List ℕ) (face : ℕ) (shares : List ℕ) : Type 0 where
  pub count : length shares ≡ length lendable
  pub within : (k : ℕ) → slice_index shares k ≤ slice_index lendable k
  pub made : sum shares ≡ face

-- no shares in whole units do
abbrev pub NoneMakes : ℕ → List ℕ → ℕ → Type 0
NoneMakes unit lendable face = (shares : List ℕ) → Makes lendable face (times_unit unit shares) → ⊥

-- of a face in whole units: the shares make it, and there are none only where none could
unfoldable pub ExactlyMade : ℕ → List ℕ → ℕ → Option (List ℕ) → Type 0
ExactlyMade unit lendable face r =
    0 < unit → face % unit ≡ 0 → MatchOption r (NoneMakes unit lendable face) (λ shares. Makes lendable face shares)
