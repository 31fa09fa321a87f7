use Rattle.std.proofs.Common.{min, get_or, refl, rules}
use Rattle.sums.proofs.Filled.{filled_from}
use Rattle.share.proofs.even.capped.Goals as goal

pub returns : goal.returns
returns c =
    let xs = c.args.limits.now in
    let want = c.args.want in
    filled_from _ _ (λ k. min (get_or xs k 0) want) 32 (λ i y q l e. search rules) _ xs (λ l. min l want) (search rules) (λ k. refl) c.from_fn.ensures.items
