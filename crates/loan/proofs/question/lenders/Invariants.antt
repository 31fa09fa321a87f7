use Rattle.std.proofs.Common.{◌≡◌, ℕ, ◌&&◌, ltb, get_or}
use Rattle.loan.specs.Asked.{holds}
use Rattle.loan.proofs.question.lenders.Given as goal

-- the bits so far are those of the lenders so far
abbrev pub invariant-loop-a : goal.invariant-loop-a
invariant-loop-a l = (b : ℕ) → holds l.mask b ≡ (ltb b l.a && ltb 0 (get_or l.by b 0))
