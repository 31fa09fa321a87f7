-- What parting an amount by weights gives. Assumes nothing.
use Rattle.std.proofs.Common.{◌≡◌, ℕ, zero, suc, ◌+◌, ◌-◌, ◌*◌, ◌/◌, ◌%◌, ◌<◌, ◌≤◌, min, true, false, cond, eqb, List, [], ◌∷◌, ◌++◌, map, length, get_or, take, drop, set, replicate, sum_by, sum, sym, refl, ap, ◌∙◌, ⊎_elim, mul-le-mul_right, mod-lt, mul_comm, add-mul, lt_of_mul-lt-mul_right, mul-le-mul_left, mul-zero, zero-mul, mul-add, le_of_mul-le-mul_right, arith}
use native.Mathlib.Nat.{div-zero}
use lib.ListN.{length-map}
use Rattle.std.proofs.lemmas.Nat.{div-add-mod'}
use Rattle.std.proofs.lemmas.List.{get_or-map, drop_more}
use Rattle.std.proofs.lemmas.List.Sums.{sum-map, sum_by-cons, get_or-le-sum_by}
use Rattle.std.proofs.lemmas.Bool.{cases_lt, eqb-true, eqb-false}
use Rattle.sums.specs.Parts.{floor_part, floor_parts, rounded_down, topped, left_over, parted}
use Rattle.sums.proofs.Fronts.{front_more}

-- n / t rounded up is at most x where n is at most x * t
ceil_le : (n t x : ℕ) → 0 < t → n ≤ x * t → n / t + cond (eqb (n % t) 0) 0 1 ≤ x
ceil_le n t x p le =
    let d = div-add-mod' n t in
    elim (eqb (n % t) 0) as (λ b. eqb (n % t) 0 ≡ b → n / t + cond b 0 1 ≤ x) [
      | true ↦ λ e. let k : n / t * t ≤ x * t = omega arith in omega (arith, le_of_mul-le-mul_right k p)
      | false ↦ λ e. let z = eqb-false (n % t) 0 e in let k : n / t * t < x * t = omega arith in omega (arith, lt_of_mul-lt-mul_right t k)
    ] refl

module _ (a t : ℕ) where
  -- a part, and the part with its unit, bracket the exact part
  floor_low : (w : ℕ) → floor_part a t w * t ≤ a * w
  floor_low w = omega (arith, div-add-mod' (a * w) t)

  floor_high : (w : ℕ) → 0 < t → a * w ≤ (floor_part a t w + rounded_down a t w) * t
  floor_high w p =
      let d = div-add-mod' (a * w) t in
      let m = mod-lt (a * w) p in
      elim (eqb (a * w % t) 0) as (λ b. eqb (a * w % t) 0 ≡ b → a * w ≤ (floor_part a t w + cond b 0 1) * t) [
        | true ↦ λ e. omega (arith, add-mul (floor_part a t w) 0 t, eqb-true (a * w % t) 0 e)
        | false ↦ λ e. omega (arith, add-mul (floor_part a t w) 1 t)
      ] refl

  -- the same of the sums
  floors_low : (ws : List ℕ) → sum_by (floor_part a t) ws * t ≤ a * sum ws
  floors_low [] = omega (arith, zero-mul t, mul-zero a)
  floors_low (w ∷ ws) =
      rw (sum_by-cons (floor_part a t) w ws, sum_by-cons (λ x. x) w ws)
      (omega (arith, floor_low w, floors_low ws, add-mul (floor_part a t w) (sum_by (floor_part a t) ws) t, mul-add a w (sum ws)))

  floors_high : (ws : List ℕ) → 0 < t → a * sum ws ≤ (sum_by (floor_part a t) ws + sum_by (rounded_down a t) ws) * t
  floors_high [] p = omega (arith, mul-zero a)
  floors_high (w ∷ ws) p =
      let f = floor_part a t w in
      let r = rounded_down a t w in
      let fs = sum_by (floor_part a t) ws in
      let rs = sum_by (rounded_down a t) ws in
      rw (sum_by-cons (floor_part a t) w ws, sum_by-cons (rounded_down a t) w ws, sum_by-cons (λ x. x) w ws)
      (omega (arith, floor_high w p, floors_high ws p, mul-add a w (sum ws), add-mul f r t, add-mul fs rs t, add-mul (f + fs) (r + rs) t, add-mul f fs t, add-mul r rs t))

  -- where enough parts were rounded down, all the units left are given
  topped_sum : (n : ℕ) (ws : List ℕ) → n ≤ sum_by (rounded_down a t) ws → sum (topped a t n ws) ≡ sum_by (floor_part a t) ws + n
  topped_sum n [] h = omega arith
  topped_sum n (w ∷ ws) h =
      let u : ℕ = min n (rounded_down a t w) in
      let more = rw (sum_by-cons (rounded_down a t) w ws) at h in
      let rest : sum (topped a t (n - u) ws) ≡ sum_by (floor_part a t) ws + (n - u) = topped_sum (n - u) ws (omega arith) in
      sum_by-cons (λ x. x) (floor_part a t w + u) (topped a t (n - u) ws) ∙ sym (rw (sum_by-cons (floor_part a t) w ws) (omega arith))

  topped_length : (n : ℕ) (ws : List ℕ) → length (topped a t n ws) ≡ length ws
  topped_length n [] = refl
  topped_length n (w ∷ ws) = ap suc (topped_length (n - min n (rounded_down a t w)) ws)

  -- where the amount is at most the total, no part passes its weight
  one_within : (w : ℕ) → 0 < t → a ≤ t → floor_part a t w + rounded_down a t w ≤ w
  one_within w p le = ceil_le (a * w) t w p (omega (arith, mul-le-mul_right w le, mul_comm t w))

  -- where the weight is at most the total, no part passes the amount
  one_below : (w : ℕ) → 0 < t → w ≤ t → floor_part a t w + rounded_down a t w ≤ a
  one_below w p le = ceil_le (a * w) t a p (mul-le-mul_left a le)

  topped_within : (n : ℕ) (ws : List ℕ) → 0 < t → a ≤ t → (k : ℕ) → get_or (topped a t n ws) k 0 ≤ get_or ws k 0
  topped_within n [] p le k = omega arith
  topped_within n (w ∷ ws) p le zero = omega (arith, one_within w p le)
  topped_within n (w ∷ ws) p le (suc k) = topped_within (n - min n (rounded_down a t w)) ws p le k

  -- one turn of the loop that gives the units
  pub topped_more : (left unit rest floor : ℕ) (ws out : List ℕ) (i : ℕ) → i < length ws → i < length out → floor ≡ floor_part a t (get_or ws i 0) → unit ≡ min left (rounded_down a t (get_or ws i 0)) → rest ≡ left - unit → take (i + 1) (set out i (floor + unit)) ++ topped a t rest (drop (i + 1) ws) ≡ take i out ++ topped a t left (drop i ws)
  topped_more left unit rest floor ws out i hw ho f e r =
      front_more out (topped a t rest (drop (i + 1) ws)) i (floor + unit) ho
      ∙ rw (r, f, e) (ap (λ ys. take i out ++ topped a t left ys) (sym (drop_more ws i 0 hw)))

-- a total of 0 gives every place 0
topped_none : (a n : ℕ) (ws : List ℕ) → sum ws ≡ 0 → topped a 0 n ws ≡ replicate (length ws) 0
topped_none a n [] h = refl
topped_none a n (w ∷ ws) h =
    let e = sum_by-cons (λ x. x) w ws in
    let w0 : 0 ≡ w = omega arith in
    let z : 0 + min n 0 ≡ 0 = omega arith in
    let m : n - min n 0 ≡ n = omega arith in
    rw (← w0, mul-zero a, div-zero, z, m) (ap (λ ts. 0 ∷ ts) (topped_none a n ws (omega arith)))

pub zeros_sum : (n : ℕ) → sum (replicate n 0) ≡ 0
zeros_sum zero = refl
zeros_sum (suc n) = sum_by-cons (λ x. x) 0 (replicate n 0) ∙ omega (arith, zeros_sum n)

pub zeros_within : (n k x : ℕ) → get_or (replicate n 0) k 0 ≤ x
zeros_within zero k x = omega arith
zeros_within (suc n) zero x = omega arith
zeros_within (suc n) (suc k) x = zeros_within n k x

floors_none : (a : ℕ) (ws : List ℕ) → map (floor_part a 0) ws ≡ replicate (length ws) 0
floors_none a [] = refl
floors_none a (w ∷ ws) = rw (div-zero (a * w)) (ap (λ xs. 0 ∷ xs) (floors_none a ws))

module _ (a : ℕ) (ws : List ℕ) where
  floors_le : 0 < sum ws → sum_by (floor_part a (sum ws)) ws ≤ a
  floors_le p = le_of_mul-le-mul_right (floors_low a (sum ws) ws) p

  left_le : 0 < sum ws → left_over a ws ≤ sum_by (rounded_down a (sum ws)) ws
  left_le p =
      let h : a ≤ sum_by (floor_part a (sum ws)) ws + sum_by (rounded_down a (sum ws)) ws = le_of_mul-le-mul_right (floors_high a (sum ws) ws p) p in
      omega arith

  -- the parts make the amount
  pub parted_sum : 0 < sum ws → sum (parted a ws) ≡ a
  unfolding parted
  parted_sum p = omega (arith, topped_sum a (sum ws) (left_over a ws) ws (left_le p), floors_le p)

  -- each weight has its part
  pub parted_length : length (parted a ws) ≡ length ws
  unfolding parted
  parted_length = topped_length a (sum ws) (left_over a ws) ws

  -- where the weights total at least the amount, no part passes its weight
  pub parted_within : 0 < sum ws → a ≤ sum ws → (k : ℕ) → get_or (parted a ws) k 0 ≤ get_or ws k 0
  unfolding parted
  parted_within p le k = topped_within a (sum ws) (left_over a ws) ws p le k

  -- where every weight is 0, so is every part
  pub parted_none : sum ws ≡ 0 → parted a ws ≡ replicate (length ws) 0
  unfolding parted
  parted_none e = rw e (topped_none a (a - sum_by (floor_part a 0) ws) ws e)

  pub floor_parts_length : length (floor_parts a ws) ≡ length ws
  floor_parts_length = length-map ws (floor_part a (sum ws))

  pub floor_parts_none : sum ws ≡ 0 → floor_parts a ws ≡ replicate (length ws) 0
  floor_parts_none e = rw e (floors_none a ws)

  -- the parts rounded down come to at most the amount
  pub floor_parts_le : sum (floor_parts a ws) ≤ a
  floor_parts_le =
      ⊎_elim
      (λ (p : 0 < sum ws). omega (arith, sum-map (floor_part a (sum ws)) ws, floors_le p))
      (λ (z : sum ws ≤ 0). let e : sum ws ≡ 0 = omega arith in omega (arith, ap sum (floor_parts_none e), zeros_sum (length ws)))
      (cases_lt 0 (sum ws))

  -- what is left over after the parts rounded down is what the topping starts from
  pub topped_start : (t n : ℕ) → t ≡ sum ws → n ≡ sum (floor_parts a ws) → topped a t (a - n) ws ≡ parted a ws
  unfolding parted
  topped_start t n whole made = rw (made ∙ sum-map (floor_part a (sum ws)) ws, whole)

-- at one place: its part is at most the amount, with its unit too
module _ (a t : ℕ) (ws : List ℕ) (i : ℕ) (whole : t ≡ sum ws) (here : i < length ws) where
  pub part_below : 0 < t → floor_part a t (get_or ws i 0) + rounded_down a t (get_or ws i 0) ≤ a
  part_below some = one_below a t (get_or ws i 0) some (omega (arith, get_or-le-sum_by (λ x. x) ws i 0 here))

  pub floor_below : floor_part a t (get_or ws i 0) ≤ a
  floor_below =
      ⊎_elim
      (λ (p : 0 < t). omega (arith, part_below p))
      (λ (z : t ≤ 0). let e : t ≡ 0 = omega arith in rw (e, div-zero (a * get_or ws i 0)) (omega arith))
      (cases_lt 0 t)

  pub floor_is : (floors : List ℕ) → floors ≡ floor_parts a ws → get_or floors i 0 ≡ floor_part a t (get_or ws i 0)
  floor_is floors e = rw (e, whole) (get_or-map (floor_part a (sum ws)) ws i 0 0 here)
