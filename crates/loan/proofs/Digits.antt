-- From a word's binary digits to the accounts that they stand for.
use Rattle.std.proofs.Common.{◌≡◌, ℕ, zero, suc, ◌+◌, ◌-◌, ◌/◌, ◌%◌, ◌^◌, ◌<◌, Bool, true, false, cond, eqb, ltb, List, get_or, Some, None, Option, sym, refl, ap, ◌∙◌, ap₂, pow-suc, arith}
use lib.Bits.{bit_and, and_le_l}
use lib.Count.{ones, count_trailing_zeros, ones_step}
use Rattle.std.specs.Int.{w32}
use Rattle.std.proofs.lemmas.Bool.Decides.{nat_tests}
use Rattle.std.proofs.lemmas.Nat.Bits.{bit_at-lt, bit_at-suc, bit_at-zero, bit_at_and, bit_at_not, bit_at-trailing_zeros}
use Rattle.loan.specs.Asked.{holds, waits, count, lowest, one_on}

pub count_same : (p q : ℕ → Bool) (k : ℕ) → ((a : ℕ) → a < k → p a ≡ q a) → count p k ≡ count q k
unfolding count
count_same p q zero h = refl
count_same p q (suc k) h =
    ap₂ (λ b n. cond b 1 0 + n) (h 0 (omega arith)) (count_same (λ a. p (suc a)) (λ a. q (suc a)) k (λ a l. h (suc a) (omega arith)))

-- the ones of a word are how many accounts it holds
pub ones_count : (k n : ℕ) → n < 2 ^ k → ones n ≡ count (holds n) k
unfolding count ones
ones_count zero n h = let z : n ≡ 0 = omega arith in rw z
ones_count (suc k) n h =
    let low : n % 2 ≡ cond (holds n 0) 1 0 = grind (arith, nat_tests) in
    ones_step n
    ∙ ap₂ (λ x y. x + y) low (ones_count k (n / 2) (omega (arith, pow-suc 2 k)) ∙ count_same _ _ k (λ a l. ap (λ x. eqb x 1) (sym (bit_at-suc n a))))

-- r is the lowest of 0, 1, .., k - 1 that passes p, or None where none does
abbrev Lowest : (ℕ → Bool) → ℕ → Option ℕ → Type 0
Lowest p k None = (a : ℕ) → a < k → p a ≡ false
Lowest p k (Some a) = (a < k) × (p a ≡ true) × ((b : ℕ) → b < a → p b ≡ false)

lowest_is : (p : ℕ → Bool) (k : ℕ) (r : Option ℕ) → Lowest p k r → r ≡ lowest p k
unfolding lowest
lowest_is p zero None h = refl
lowest_is p zero (Some a) h = absurd (omega (arith, h.0))
lowest_is p (suc k) None h =
    rw (h 0 (omega arith)) (ap one_on (lowest_is (λ a. p (suc a)) k None (λ a l. h (suc a) (omega arith))))
lowest_is p (suc k) (Some zero) h = rw h.1
lowest_is p (suc k) (Some (suc a)) h =
    rw (h.2 0 (omega arith))
    (ap one_on (lowest_is (λ b. p (suc b)) k (Some a) (omega (arith, h.0), h.1, λ b l. h.2 (suc b) (omega arith))))

-- `m & !w`
abbrev left : ℕ → ℕ → ℕ
left m w = bit_and m (2 ^ 32 - 1 - w)

-- where `m` has a bit for each share above 0, and `w` one for each account that has answered, each lender that has not is left
pub left_waits : (by : List ℕ) (m w : ℕ) → w < 2 ^ 32 → ((a : ℕ) → a < 32 → holds m a ≡ ltb 0 (get_or by a 0)) → (a : ℕ) → a < 32 → holds (left m w) a ≡ waits by w a
left_waits by m w fits lends a l =
    let both = bit_at_and m (2 ^ 32 - 1 - w) a in
    let flipped = bit_at_not w32 w a fits l in
    let x = bit_at-lt m a in
    let y = bit_at-lt w a in
    let lender = lends a l in
    grind (arith, nat_tests)

-- of such `m` and `w`: how many are left, and which is the lowest
module _ (by : List ℕ) (m w : ℕ) (small : m < 2 ^ 32) (fits : w < 2 ^ 32) (lends : (a : ℕ) → a < 32 → holds m a ≡ ltb 0 (get_or by a 0)) where
  waiting : (a : ℕ) → a < 32 → holds (left m w) a ≡ waits by w a
  waiting = left_waits by m w fits lends

  left_small : left m w < 2 ^ 32
  left_small = omega (arith, and_le_l m (2 ^ 32 - 1 - w))

  pub left_many : ones (left m w) ≡ count (waits by w) 32
  left_many = ones_count 32 (left m w) left_small ∙ count_same (holds (left m w)) (waits by w) 32 waiting

  pub left_some : (left m w ≡ 0 → ⊥) → Some (count_trailing_zeros 32 (left m w)) ≡ lowest (waits by w) 32
  left_some some =
      let low = bit_at-trailing_zeros w32 (left m w) (omega arith) left_small in
      lowest_is (waits by w) 32 (Some (count_trailing_zeros 32 (left m w)))
      (low.0, sym (waiting _ low.0) ∙ ap (λ x. eqb x 1) low.1, λ b l. sym (waiting b (omega (arith, low.0))) ∙ ap (λ x. eqb x 1) (low.2 b l))

  pub left_none : left m w ≡ 0 → None ≡ lowest (waits by w) 32
  left_none none =
      lowest_is (waits by w) 32 None
      (λ a l. sym (waiting a l) ∙ ap (λ x. holds x a) none ∙ ap (λ x. eqb x 1) (bit_at-zero a))
