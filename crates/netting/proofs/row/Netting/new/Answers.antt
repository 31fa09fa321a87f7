use Rattle.std.proofs.Common.{◌≡◌, ◌<◌, length, sym, ◌∙◌, arith, rules}
use Rattle.std.proofs.lemmas.Grind.{same_number_lists}
use Rattle.netting.proofs.row.Netting.new.Goals as goal

-- each place opens with the amount at its number
pub returns : goal.returns
returns g c =
    let made = c.map.ensures.items in
    let wide : length c.args.opening ≡ g.row.N = search rules in
    same_number_lists c.map.result c.args.opening (made.long ∙ sym wide) (λ k h. let here = made.at k 0 0 (omega (arith, made.long)) in search rules)
