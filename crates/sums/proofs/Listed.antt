-- Lists of one value for each of some numbers: their length, what stands where, and the loop that writes one. Assumes nothing.
use Rattle.std.proofs.Common.{◌≡◌, ℕ, zero, suc, ◌+◌, ◌<◌, ◌≤◌, List, length, get_or, set, sym, refl, ap, ◌∙◌, arith}
use Rattle.std.proofs.lemmas.List.Edits.{fill_by_more}
use Rattle.std.proofs.lemmas.List.{ext_get_or}
use Rattle.sums.specs.Each.{each}

pub each_length : (f : ℕ → ℕ) (from n : ℕ) → length (each f from n) ≡ n
unfolding each
each_length f from zero = refl
each_length f from (suc n) = ap suc (each_length f (suc from) n)

pub each_at : (f : ℕ → ℕ) (from n k : ℕ) → k < n → get_or (each f from n) k 0 ≡ f (from + k)
unfolding each
each_at f from zero k h = let none : ⊥ = omega arith in absurd none
each_at f from (suc n) zero h = let e : from ≡ from + 0 = omega arith in ap f e
each_at f from (suc n) (suc k) h =
    let e : suc from + k ≡ from + suc k = omega arith in
    each_at f (suc from) n k (omega arith) ∙ ap f e

-- functions with the same values at these numbers
pub each_same : (f g : ℕ → ℕ) (from n : ℕ) → ((k : ℕ) → from ≤ k → k < from + n → f k ≡ g k) → each f from n ≡ each g from n
each_same f g from n same =
    ext_get_or 0 (each f from n) (each g from n) (each_length f from n ∙ sym (each_length g from n))
    (λ i h.
    let below : i < n = omega (arith, each_length f from n) in
    each_at f from n i below ∙ (same (from + i) (omega arith) (omega arith) ∙ sym (each_at g from n i below)))

-- a loop that writes the value at each number: one turn more, and the end
pub filled_more : (f : ℕ → ℕ) (out : List ℕ) (i y : ℕ) → i < length out → y ≡ f i → ((k : ℕ) → k < i → get_or out k 0 ≡ f k) → (k : ℕ) → k < i + 1 → get_or (set out i y) k 0 ≡ f k
filled_more f out i y h e done = rw e (fill_by_more f out i 0 h done)

pub filled_all : (f : ℕ → ℕ) (out : List ℕ) (n : ℕ) → length out ≡ n → ((k : ℕ) → k < n → get_or out k 0 ≡ f k) → out ≡ each f 0 n
filled_all f out n long done =
    ext_get_or 0 out (each f 0 n) (long ∙ sym (each_length f 0 n))
    (λ i h.
    let below : i < n = omega arith in
    let here : i ≡ 0 + i = omega arith in
    done i below ∙ (ap f here ∙ sym (each_at f 0 n i below)))
