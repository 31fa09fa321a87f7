-- What a move asks, and what it does at each place and to the total.
use Rattle.std.proofs.Common.{◌≡◌, ℕ, ◌+◌, ◌-◌, ◌<◌, ◌≤◌, cond, eqb, ◌≢◌, List, length, get_or, set, None, sum, sym, ap, ⊎_elim, arith, length-set, get_or-set_other, get_or-set_same}
use Rattle.std.proofs.lemmas.List.Sums.{sum_by-set}
use Rattle.std.proofs.lemmas.Bool.Decides.{nat_tests}
use Rattle.std.proofs.lemmas.Bool.{cases_eq}
use Rattle.book.specs.Moves.{refusal, moved}

-- a move between two places, of no more than the source holds and the target has room for, is not refused
pub accepted : (most : ℕ) (xs : List ℕ) (p q n : ℕ) → p < length xs → q < length xs → p ≢ q → n ≤ get_or xs p 0 → get_or xs q 0 + n ≤ most → refusal most xs p q n ≡ None
accepted most xs p q n hp hq ne enough room = grind (arith, nat_tests)

-- and only such a move is not refused
pub accepted_only : (most : ℕ) (xs : List ℕ) (p q n : ℕ) → refusal most xs p q n ≡ None → (p < length xs) × (q < length xs) × (p ≢ q) × (n ≤ get_or xs p 0) × (get_or xs q 0 + n ≤ most)
accepted_only most xs p q n e = grind (arith, nat_tests)

-- a move keeps the count of places
pub length_moved : (xs : List ℕ) (p q n : ℕ) → length (moved xs p q n) ≡ length xs
length_moved xs p q n = simp length-set

-- a move keeps the total
pub moved_sum : (xs : List ℕ) (p q n : ℕ) → p < length xs → q < length xs → p ≢ q → n ≤ get_or xs p 0 → sum (moved xs p q n) ≡ sum xs
moved_sum xs p q n hp hq ne enough =
    let ys : List ℕ = set xs p (get_or xs p 0 - n) in
    let first = sum_by-set (λ x. x) xs p (get_or xs p 0 - n) 0 hp in
    let second = sum_by-set (λ x. x) ys q (get_or xs q 0 + n) 0 (simp length-set hq) in
    let there : get_or ys q 0 ≡ get_or xs q 0 = get_or-set_other xs p q (get_or xs p 0 - n) 0 (λ e. ne (sym e)) in omega arith

-- what n more at the target and n less at the source come to, at each place
pub moved_at : (xs : List ℕ) (p q n k : ℕ) → p < length xs → q < length xs → p ≢ q → n ≤ get_or xs p 0 → get_or (moved xs p q n) k 0 + cond (eqb p k) n 0 ≡ get_or xs k 0 + cond (eqb q k) n 0
moved_at xs p q n k hp hq ne le =
    let ys : List ℕ = set xs p (get_or xs p 0 - n) in
    let hq' : q < length ys = simp length-set hq in
    ⊎_elim
    (λ (e : k ≡ q).
    let v : get_or (moved xs p q n) k 0 ≡ get_or xs q 0 + n = rw e (get_or-set_same ys q (get_or xs q 0 + n) 0 hq') in
    let w : get_or xs k 0 ≡ get_or xs q 0 = ap (λ j. get_or xs j 0) e in
    grind (arith, nat_tests))
    (λ (f : k ≡ q → ⊥).
    let u : get_or (moved xs p q n) k 0 ≡ get_or ys k 0 = get_or-set_other ys q k (get_or xs q 0 + n) 0 f in
    ⊎_elim
    (λ (e : k ≡ p).
    let v : get_or ys k 0 ≡ get_or xs p 0 - n = rw e (get_or-set_same xs p (get_or xs p 0 - n) 0 hp) in
    let w : get_or xs k 0 ≡ get_or xs p 0 = ap (λ j. get_or xs j 0) e in
    grind (arith, nat_tests))
    (λ (d : k ≡ p → ⊥).
    let v : get_or ys k 0 ≡ get_or xs k 0 = get_or-set_other xs p k (get_or xs p 0 - n) 0 d in
    grind (arith, nat_tests))
    (cases_eq k p))
    (cases_eq k q)
