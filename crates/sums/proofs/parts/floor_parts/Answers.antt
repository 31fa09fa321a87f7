use Rattle.std.proofs.Common.{◌≡◌, map, ap, ◌∙◌, arith}
use Rattle.sums.specs.Parts.{floor_part, floor_parts}
use Rattle.sums.proofs.Fronts.{mapped_all}
use Rattle.sums.proofs.Parted.{floor_parts_le}
use Rattle.sums.proofs.parts.floor_parts.Goals as goal

pub returns : goal.returns
returns c =
    let is : c.loop-i.parts ≡ floor_parts c.args.amount c.args.weights.now =
    mapped_all (floor_part c.args.amount c.total-all.result) c.args.weights.now c.loop-i.parts c.loop-i.i (omega arith) (omega arith) c.loop-i.invariant.1
    ∙ ap (λ t. map (floor_part c.args.amount t) c.args.weights.now) c.total-all.ensures.sum in
    record { parts = is; below = rw is (floor_parts_le c.args.amount c.args.weights.now) }
