use Rattle.std.proofs.Common.{Err, Option, sym, ap, ◌∙◌, rules, tests}
use Rattle.std.specs.Option.{option_map}
use Rattle.std.proofs.lemmas.Iterator.{YieldsList-from_slice}
use Rattle.std.proofs.lemmas.Iterator.Search.{position_from_yields_List}
use Rattle.terms.specs.Table.{answered}
use Rattle.terms.specs.declared.refusal.Refusal.{Refusal}
use Rattle.worth.specs.Concentration.{row_over}
use Rattle.worth.proofs.Limits.{over_at, limits_first}
use Rattle.worth.proofs.concentration.check_row_limits.Goals as goal

pub returns-in-Some : goal.returns-in-Some
returns-in-Some g c =
    let a = c.args in
    let rows = a.pledge.now.rows in
    let found = position_from_yields_List (row_over a.view.now a.borrower) _ _ c.position.result c.position.ensures.ran (YieldsList-from_slice rows cc) (λ x b q k. search (rules, tests)) in
    let first = limits_first a.view.now a.borrower rows c.position.result found ∙ ap (option_map over_at) c.in-Some.is in
    ap Err c.refuse.ensures ∙ ap (λ (w : Option Refusal). answered {X = Unit {0}} w tt) (sym first)

pub returns-in-None : goal.returns-in-None
returns-in-None g c =
    let a = c.args in
    let rows = a.pledge.now.rows in
    let found = position_from_yields_List (row_over a.view.now a.borrower) _ _ c.position.result c.position.ensures.ran (YieldsList-from_slice rows cc) (λ x b q k. search (rules, tests)) in
    let first = limits_first a.view.now a.borrower rows c.position.result found ∙ ap (option_map over_at) c.in-None.is in
    ap (λ (w : Option Refusal). answered {X = Unit {0}} w tt) (sym first)
