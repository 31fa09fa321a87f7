-- Shares in whole units: what they make, and where none make the face.
use Rattle.std.proofs.Common.{◌≡◌, ℕ, zero, suc, ◌+◌, ◌*◌, ◌/◌, ◌%◌, ◌<◌, ◌≤◌, List, [], ◌∷◌, length, get_or, Some, None, sum, sym, refl, ap, ◌∙◌, subst, mul-le-mul_right, add-mul, zero-mul, le_of_mul-le-mul_right, arith}
use native.Mathlib.Nat.{zero-div}
use lib.ListN.{length-map}
use Rattle.std.proofs.lemmas.Nat.{div-add-mod', le-div}
use Rattle.std.proofs.lemmas.List.Sums.{sum_by-cons}
use Rattle.share.specs.Shares.{Shared}
use Rattle.allot.specs.Allotments.{in_units, times_unit, allotted, Makes, NoneMakes, ExactlyMade}
use Rattle.std.proofs.lemmas.Bool.Decides.{nat_tests}

-- past the end both are 0
at_units : (u : ℕ) (xs : List ℕ) (k : ℕ) → get_or (in_units u xs) k 0 * u ≤ get_or xs k 0
at_units u [] k = omega (arith, zero-mul u)
at_units u (x ∷ xs) zero = omega (arith, div-add-mod' x u)
at_units u (x ∷ xs) (suc k) = at_units u xs k

at_times : (u : ℕ) (xs : List ℕ) (k : ℕ) → get_or (times_unit u xs) k 0 ≡ get_or xs k 0 * u
at_times u [] k = omega (arith, zero-mul u)
at_times u (x ∷ xs) zero = refl
at_times u (x ∷ xs) (suc k) = at_times u xs k

sum_times : (u : ℕ) (xs : List ℕ) → sum (times_unit u xs) ≡ sum xs * u
sum_times u [] = omega (arith, zero-mul u)
sum_times u (x ∷ xs) =
    let a = sum_by-cons (λ x. x) (x * u) (times_unit u xs) in
    let b = sum_by-cons (λ x. x) x xs in
    let c : (x + sum xs) * u ≡ x * u + sum xs * u = add-mul x (sum xs) u in
    rw (a, b, c, sum_times u xs)

sum_le : (xs ys : List ℕ) → length xs ≡ length ys → ((k : ℕ) → get_or xs k 0 ≤ get_or ys k 0) → sum xs ≤ sum ys
sum_le [] ys e h = omega arith
sum_le (x ∷ xs) [] e h = omega arith
sum_le (x ∷ xs) (y ∷ ys) e h = omega (arith, sum_by-cons (λ x. x) x xs, sum_by-cons (λ x. x) y ys, h 0, sum_le xs ys (omega arith) (λ k. h (suc k)))

-- a share within the limit in units is within what can be lent
pub share_fits : (u : ℕ) (shares lendable : List ℕ) (k : ℕ) → get_or shares k 0 ≤ get_or (in_units u lendable) k 0 → get_or shares k 0 * u ≤ get_or lendable k 0
share_fits u shares lendable k h = omega (arith, mul-le-mul_right u h, at_units u lendable k)

pub makes : (u : ℕ) (lendable shares : List ℕ) (face : ℕ) → face % u ≡ 0 → length shares ≡ length lendable → Shared (in_units u lendable) (face / u) shares → Makes lendable face (times_unit u shares)
makes u lendable shares face whole count s = record {
  count = length-map shares (λ x. x * u) ∙ count;
  within = λ k. omega (arith, at_times u shares k, share_fits u shares lendable k (s.within k));
  made = sum_times u shares ∙ ap (λ n. n * u) s.made ∙ omega (arith, div-add-mod' face u);
}

units_at : (u : ℕ) (xs : List ℕ) (k : ℕ) → get_or (in_units u xs) k 0 ≡ get_or xs k 0 / u
units_at u [] k = sym (zero-div u)
units_at u (x ∷ xs) zero = refl
units_at u (x ∷ xs) (suc k) = units_at u xs k

pub none_makes : (u : ℕ) (lendable : List ℕ) (face : ℕ) → 0 < u → sum (in_units u lendable) < face / u → NoneMakes u lendable face
none_makes u lendable face p h shares m =
    let le : sum shares ≤ sum (in_units u lendable) =
    sum_le shares (in_units u lendable) (sym (length-map shares (λ s. s * u)) ∙ m.count ∙ sym (length-map lendable (λ x. x / u)))
    (λ k. rw (units_at u lendable k) (le-div (get_or shares k 0) (get_or lendable k 0) u p (rw (at_times u shares k) at (m.within k)))) in
    let e : sum shares * u ≡ face = sym (sum_times u shares) ∙ m.made in
    let top : face / u * u ≤ sum shares * u = omega (arith, div-add-mod' face u) in
    omega (arith, le_of_mul-le-mul_right top p)

-- of a loan: its limits in units, and the shares by a rule that keeps its law
module _ (u face : ℕ) (lendable limits : List ℕ) (e : limits ≡ in_units u lendable) where
  pub none_meant : (rule : List ℕ → ℕ → List ℕ) → sum limits < face / u → None ≡ allotted rule u lendable face
  none_meant rule h = let few = ap sum e in grind (arith, nat_tests)

  pub none_exact : sum limits < face / u → ExactlyMade u lendable face None
  unfolding ExactlyMade
  none_exact h some whole = none_makes u lendable face some (omega (arith, ap sum e))

  pub some_exact : (shares : List ℕ) → length shares ≡ length lendable → Shared limits (face / u) shares → ExactlyMade u lendable face (Some (times_unit u shares))
  unfolding ExactlyMade
  some_exact shares count law some whole =
      makes u lendable shares face whole count (subst (λ ls. Shared ls (face / u) shares) e law)

  pub face_below : (n : ℕ) (shares : List ℕ) → Shared limits (face / u) shares → ((k : ℕ) → get_or lendable k 0 < n) → (k : ℕ) → get_or shares k 0 * u < n
  face_below n shares law small k =
      let le : get_or shares k 0 ≤ get_or (in_units u lendable) k 0 = omega (arith, law.within k, ap (λ ls. get_or ls k 0) e) in
      omega (arith, share_fits u shares lendable k le, small k)

-- what callers need of it
pub face_made : (u : ℕ) (lendable shares : List ℕ) (face : ℕ) → ExactlyMade u lendable face (Some shares) → 0 < u → face % u ≡ 0 → sum shares ≡ face
unfolding ExactlyMade
face_made u lendable shares face e some whole = (e some whole).made
