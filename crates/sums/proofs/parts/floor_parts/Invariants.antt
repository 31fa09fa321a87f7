use Rattle.std.proofs.Common.{◌≡◌, map, length, take}
use Rattle.sums.specs.Parts.{floor_part}
use Rattle.sums.proofs.parts.floor_parts.Given as goal

-- what is written is the parts of the weights so far
abbrev pub invariant-loop-i : goal.invariant-loop-i
invariant-loop-i l = (length l.parts ≡ 32) × (take l.i l.parts ≡ map (floor_part l.amount l.all) (take l.i l.weights))
