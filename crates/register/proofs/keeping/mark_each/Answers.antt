use Rattle.std.proofs.Common.{set, ap, ◌∙◌, arith}
use Rattle.std.proofs.lemmas.List.{get_or_default}
use Rattle.std.proofs.lemmas.List.Edits.{map_over_more}
use Rattle.loan.specs.Kept.{shut_on}
use Rattle.loan.specs.declared.kept.LoanRow.{LoanRow}
use Rattle.register.proofs.keeping.mark_each.Goals as goal

pub loop-row-preserved : goal.loop-row-preserved
loop-row-preserved c =
    let rows = c.loop-row.rows in
    let i = c.loop-row.row-index in
    ap (λ (row : LoanRow). set rows i row) c.at_shut.ensures
    ∙ map_over_more (shut_on c.args.day) c.args.rows.now rows i _ (omega arith) c.loop-row.invariant (get_or_default rows i _ _ (omega arith))
