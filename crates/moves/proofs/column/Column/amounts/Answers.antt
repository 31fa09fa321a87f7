use Rattle.std.proofs.Common.{get_or, rules}
use Rattle.sums.proofs.Filled.{filled}
use Rattle.moves.specs.Columns.{place}
use Rattle.moves.proofs.column.Column.amounts.Goals as goal

pub returns : goal.returns
returns g c =
    filled _ _ (λ k. get_or (g.B.Book.amounts c.args.book.now) (place c.args.self k) 0) 32 (λ i y q l e. search rules) _ c.from_fn.ensures.items
