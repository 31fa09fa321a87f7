use Rattle.std.proofs.Common.{◌≡◌, ◌++◌, length, take, drop}
use Rattle.sums.specs.Parts.{topped, parted}
use Rattle.sums.proofs.parts.part_by.Given as goal

-- what is written, and what is still given of the rest, is the whole
abbrev pub invariant-loop-i : goal.invariant-loop-i
invariant-loop-i l = (length l.parts ≡ 32) × (take l.i l.parts ++ topped l.amount l.all l.left (drop l.i l.weights) ≡ parted l.amount l.weights)
