use Rattle.std.proofs.Common.{◌/◌, get_or, refl, rules}
use Rattle.sums.proofs.Filled.{filled_from}
use Rattle.allot.proofs.in_units.Goals as goal

pub returns : goal.returns
returns c =
    let xs = c.args.amounts.now in
    let unit = c.args.unit in
    filled_from _ _ (λ k. get_or xs k 0 / unit) 32 (λ i y q l e. search rules) _ xs (λ x. x / unit) (search rules) (λ k. refl) c.from_fn.ensures.items
