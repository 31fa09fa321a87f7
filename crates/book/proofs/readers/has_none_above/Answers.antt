use Rattle.std.proofs.Common.{nat_le, get_or, refl, ◌∙◌, arith, rules}
use Rattle.std.proofs.lemmas.Iterator.{YieldsList-from_range}
use Rattle.std.proofs.lemmas.Iterator.Search.{all_from_yields_List}
use Rattle.book.proofs.Reading.{all_places}
use Rattle.book.proofs.readers.has_none_above.Goals as goal

pub returns : goal.returns
returns g c =
    let xs = g.B.Book.amounts c.args.book.now in
    let z = g.met.B.Book.sized c.args.book.now in
    all_from_yields_List (λ k. nat_le (get_or xs k 0) c.args.most) _ _ _ c.all.ensures.ran (YieldsList-from_range 0 c.PLACES.result c.PLACES.result refl (omega arith)) (λ x b q k. search rules)
    ∙ all_places c.args.most xs 0 c.PLACES.result (omega arith)
