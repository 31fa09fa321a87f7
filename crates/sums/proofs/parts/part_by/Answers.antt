use Rattle.std.proofs.Common.{◌≡◌, ◌<◌, length, sum, sym, refl, ap, ◌∙◌, arith}
use Rattle.sums.specs.Parts.{topped, parted}
use Rattle.sums.proofs.Fronts.{front_all}
use Rattle.sums.proofs.Parted.{parted_none, parted_sum, floor_parts_none, floor_parts_length, topped_start}
use Rattle.sums.proofs.parts.part_by.Goals as goal

pub returns-then-all-eq0 : goal.returns-then-all-eq0
returns-then-all-eq0 c =
    let none : sum c.args.weights.now ≡ 0 = omega arith in
    record {
      parts = c.floor_parts-floors.ensures.parts ∙ floor_parts_none c.args.amount c.args.weights.now none ∙ sym (parted_none c.args.amount c.args.weights.now none);
      made = λ p. omega arith;
    }

pub loop-i-init : goal.loop-i-init
loop-i-init c =
    let floors = c.floor_parts-floors.ensures.parts in (
      ap length floors ∙ floor_parts_length c.args.amount c.args.weights.now ∙ c.told-weights,
      topped_start c.args.amount c.args.weights.now c.total-all.result c.total.result c.total-all.ensures.sum (c.total.ensures.sum ∙ ap sum floors),
    )

pub returns : goal.returns
returns c =
    let is : c.loop-i.parts ≡ parted c.args.amount c.args.weights.now =
    front_all (topped c.args.amount c.total-all.result c.loop-i.left) c.args.weights.now c.loop-i.parts c.loop-i.i refl (omega arith) (omega arith) ∙ c.loop-i.invariant.1 in
    record { parts = is; made = λ p. rw is (parted_sum c.args.amount c.args.weights.now p) }
