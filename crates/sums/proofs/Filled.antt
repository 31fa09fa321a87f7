-- An array made from a function of the index, by a closure that leaves what it captured as it was.
use Rattle.std.proofs.Common.{◌≡◌, ℕ, zero, suc, ◌+◌, ◌<◌, ◌≤◌, List, length, map, get_or, sym, ◌∙◌, subst, ⊎_elim, arith}
use Rattle.std.specs.Array.{IsFromFnResult, IsFromFnResultFrom}
use Rattle.std.specs.Fn.{Called}
use Rattle.std.proofs.lemmas.Bool.{cases_lt}
use Rattle.std.proofs.lemmas.List.{ext_get_or, get_or-map, length-map}
use Rattle.sums.specs.Each.{each}
use Rattle.sums.proofs.Listed.{filled_all}
use denote.Param.Members.{Mut}

module _ {F : Type 0} (g : Mut F (ℕ × Unit {0}) ℕ) (f : F) (h : ℕ → ℕ) (n : ℕ) (gives : (i y : ℕ) (q : F) → i < n → Called g f (i, tt) y q → (q ≡ f) × (y ≡ h i)) (ys : List ℕ) where
  filled_at : (e i m k : ℕ) → IsFromFnResultFrom g f ys i m → i + m ≤ n → i ≤ k → k < i + m → get_or ys k e ≡ h k
  filled_at e i zero k r b l u = absurd (omega arith)
  filled_at e i (suc m) k (q, y, aty, call, rest) b l u =
      let one = gives i y q (omega arith) call in
      ⊎_elim
      (λ (p : i < k). filled_at e (i + 1) m k (subst (λ s. IsFromFnResultFrom g s ys (i + 1) m) one.0 rest) (omega arith) (omega arith) (omega arith))
      (λ (p : k ≤ i). let here : k ≡ i = omega arith in rw here (aty.1 e ∙ one.1))
      (cases_lt i k)

  -- what the array holds
  pub filled : IsFromFnResult g f ys n → ys ≡ each h 0 n
  filled r = filled_all h ys n r.long (λ k l. filled_at 0 0 n k r.each (omega arith) (omega arith) (omega arith))

  -- the same, made of another array place by place
  pub filled_from : (xs : List ℕ) (t : ℕ → ℕ) → length xs ≡ n → ((k : ℕ) → h k ≡ t (get_or xs k 0)) → IsFromFnResult g f ys n → ys ≡ map t xs
  filled_from xs t long same r =
      ext_get_or (t 0) ys (map t xs) (r.long ∙ sym (length-map xs t ∙ long))
      (λ k l. filled_at (t 0) 0 n k r.each (omega arith) (omega arith) (omega (arith, r.long)) ∙ same k ∙ sym (get_or-map t xs k 0 (t 0) (omega (arith, r.long))))
