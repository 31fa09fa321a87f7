use Rattle.std.proofs.Common.{◌≡◌, ℕ, ◌+◌, ◌*◌, ◌%◌, ◌^◌, ◌<◌, ◌≤◌, ◌&&◌, ltb, List, get_or, ap, ◌∙◌, ⊎_elim, arith}
use lib.Bits.{bit_or}
use Rattle.std.specs.Int.{w32}
use Rattle.std.proofs.lemmas.Bool.{cases_eq}
use Rattle.std.proofs.lemmas.Bool.Decides.{nat_tests}
use Rattle.std.proofs.lemmas.Nat.Bits.{bit_at-zero, bit_at_set_same, bit_at_set_other}
use Rattle.loan.specs.Asked.{holds}
use Rattle.loan.proofs.question.lenders.Goals as goal
use Rattle.loan.proofs.question.lenders.Goals.{then-share-gt0, else-share-gt0}

pub loop-a-init : goal.loop-a-init
loop-a-init c b = let e = bit_at-zero b in grind (arith, nat_tests)

marked : (by : List ℕ) (mask a b : ℕ) → a < 32 → 0 < get_or by a 0 → holds mask b ≡ (ltb b a && ltb 0 (get_or by b 0)) → holds (bit_or mask (1 * 2 ^ a % 2 ^ 32)) b ≡ (ltb b (a + 1) && ltb 0 (get_or by b 0))
marked by mask a b l h was =
    ⊎_elim
    (λ (e : b ≡ a). let s = bit_at_set_same w32 mask a l in rw e (grind (arith, nat_tests)))
    (λ (n : b ≡ a → ⊥). let o = bit_at_set_other w32 mask a l b n in grind (arith, nat_tests))
    (cases_eq b a)

unmarked : (by : List ℕ) (mask a b : ℕ) → get_or by a 0 ≤ 0 → holds mask b ≡ (ltb b a && ltb 0 (get_or by b 0)) → holds mask b ≡ (ltb b (a + 1) && ltb 0 (get_or by b 0))
unmarked by mask a b h was = grind (arith, nat_tests)

pub loop-a-preserved : goal.loop-a-preserved
loop-a-preserved c b =
    let a = c.loop-a.a in
    elim c.if-share-gt0.branch [
      | then-share-gt0 w ↦ ap (λ m. holds m b) w.mask-is ∙ marked _ _ a b (omega arith) w.if-share-gt0.true (c.loop-a.invariant b)
      | else-share-gt0 w ↦ ap (λ m. holds m b) w.mask-is ∙ unmarked _ _ a b w.if-share-gt0.false (c.loop-a.invariant b)
    ]

pub returns : goal.returns
returns c a l = let e = c.loop-a.invariant a in grind (arith, nat_tests)
