-- The two rules keep the law. Assumes nothing.
use Rattle.std.specs.Prelude.{◌≡◌, ℕ, zero, suc, ◌+◌, ◌-◌, ◌<◌, ◌≤◌, min, List, [], ◌∷◌, ◌++◌, length, take, drop, sum, slice_index, slice_set, refl}
use Rattle.std.proofs.Common.{sym, ap, ◌∙◌, ⊎_elim, arith}
use Rattle.std.proofs.lemmas.List.{drop_more, length-map}
use Rattle.std.proofs.lemmas.List.Sums.{sum_by-cons}
use Rattle.std.proofs.lemmas.Bool.{cases_lt}
use Rattle.sums.proofs.Fronts.{front_more}
use Rattle.sums.proofs.Parted.{parted_sum, parted_length, parted_within, parted_none, zeros_sum, zeros_within}
use Rattle.share.specs.Shares.{Shared, capped_at, first_shares, even_shares}

-- limits that total the want still do when those above it count as it
pub capped_sum : (ls : List ℕ) (w : ℕ) → w ≤ sum ls → w ≤ sum (capped_at ls w)
capped_sum ls w h = omega (arith, least ls w w h) where
  least : (ls : List ℕ) (w n : ℕ) → n ≤ sum ls → min n w ≤ sum (capped_at ls w)
  least [] w n h = omega arith
  least (l ∷ ls) w n h =
      let e = sum_by-cons (λ x. x) l ls in
      let f = sum_by-cons (λ x. x) (min l w) (capped_at ls w) in
      omega (arith, least ls w (n - l) (omega arith))

pub capped_within : (ls : List ℕ) (w k : ℕ) → slice_index (capped_at ls w) k ≤ slice_index ls k
capped_within [] w k = omega arith
capped_within (l ∷ ls) w zero = omega arith
capped_within (l ∷ ls) w (suc k) = capped_within ls w k

pub first_length : (ls : List ℕ) (w : ℕ) → length (first_shares ls w) ≡ length ls
first_length [] w = refl
first_length (l ∷ ls) w = ap suc (first_length ls (w - min l w))

first_within : (ls : List ℕ) (w k : ℕ) → slice_index (first_shares ls w) k ≤ slice_index ls k
first_within [] w k = omega arith
first_within (l ∷ ls) w zero = omega arith
first_within (l ∷ ls) w (suc k) = first_within ls (w - min l w) k

first_sum : (ls : List ℕ) (w : ℕ) → w ≤ sum ls → sum (first_shares ls w) ≡ w
first_sum [] w h = omega arith
first_sum (l ∷ ls) w h =
    let e = sum_by-cons (λ x. x) l ls in
    let f = sum_by-cons (λ x. x) (min l w) (first_shares ls (w - min l w)) in
    omega (arith, first_sum ls (w - min l w) (omega arith))

pub first_law : (ls : List ℕ) (w : ℕ) → w ≤ sum ls → Shared ls w (first_shares ls w)
first_law ls w h = record { within = first_within ls w; made = first_sum ls w h }

-- one turn of the loop that fills accounts
pub first_more : (ls out : List ℕ) (i left x rest : ℕ) → i < length ls → i < length out → x ≡ min (slice_index ls i) left → rest ≡ left - x → take (i + 1) (slice_set out i x) ++ first_shares (drop (i + 1) ls) rest ≡ take i out ++ first_shares (drop i ls) left
first_more ls out i left x rest hl ho e r =
    front_more out (first_shares (drop (i + 1) ls) rest) i x ho ∙ rw (r, e) (ap (λ ys. take i out ++ first_shares ys left) (sym (drop_more ls i 0 hl)))

pub even_length : (ls : List ℕ) (w : ℕ) → length (even_shares ls w) ≡ length ls
even_length ls w = parted_length w (capped_at ls w) ∙ length-map ls (λ l. min l w)

pub even_law : (ls : List ℕ) (w : ℕ) → w ≤ sum ls → Shared ls w (even_shares ls w)
even_law ls w h =
    let cs = capped_at ls w in
    let enough : w ≤ sum cs = capped_sum ls w h in
    ⊎_elim
    (λ p. record {
      within = λ k. omega (arith, parted_within w cs p enough k, capped_within ls w k);
      made = parted_sum w cs p;
    })
    (λ (z : sum cs ≤ 0). let e : sum cs ≡ 0 = omega arith in record {
      within = λ k. rw (parted_none w cs e) (zeros_within (length cs) k (slice_index ls k));
      made = rw (parted_none w cs e) (omega (arith, zeros_sum (length cs)));
    })
    (cases_lt 0 (sum cs))
