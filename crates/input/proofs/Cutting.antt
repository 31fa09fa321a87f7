-- A text is cut at the first byte x.
use Rattle.std.proofs.Common.{◌≡◌, ℕ, ◌+◌, ◌≤◌, true, false, Bool, cond, not, List, [], ◌∷◌, length, take, refl, arith, ◌==◌, Some, None}
use Rattle.std.proofs.Math.Numerals.{one-add}
use Rattle.std.specs.List.{position, position_or_len, before_first, after_first}
use Rattle.std.proofs.lemmas.Grind.{common_steps}
use Rattle.input.specs.Lines.{up_to, past}

cut_step : (b : Bool) (c : ℕ) (cs ps : List ℕ) (n : ℕ) → ps ≡ take n cs → cond b [] (c ∷ ps) ≡ take (cond (not b) (1 + n) 0) (c ∷ cs)
cut_step true c cs ps n e = refl
cut_step false c cs ps n e = rw (one-add, e)

pub up_to_is : (x : ℕ) (bs : List ℕ) → up_to x bs ≡ before_first (λ b. b == x) bs
up_to_is x [] = refl
up_to_is x (c ∷ cs) = cut_step (c == x) c cs (up_to x cs) (position_or_len (λ b. b == x) cs) (up_to_is x cs)

pub past_is : (x : ℕ) (bs : List ℕ) → past x bs ≡ after_first (λ b. b == x) bs
past_is x [] = refl
past_is x (c ∷ cs) = let more = past_is x cs in grind (arith, common_steps)

-- where the first x is, and where there is none
module _ (x : ℕ) (bs : List ℕ) where
  pub found : (i : ℕ) → position (λ b. b == x) bs ≡ Some i → position_or_len (λ b. b == x) bs ≡ i
  found i at = grind (arith, common_steps)

  pub missing : position (λ b. b == x) bs ≡ None → length bs ≤ position_or_len (λ b. b == x) bs
  missing at = grind (arith, common_steps)
