use Rattle.std.proofs.Common.{arith}
use Rattle.pledge.specs.Rows.{row_worth}
use Rattle.pledge.proofs.Tried.{others_and, in_place}
use Rattle.pledge.proofs.rows.Pledge.swap_row.Goals as goal

pub returns : goal.returns
returns c =
    let p = c.args.self.now in
    let e = c.args.exchange.now in
    let worth = row_worth e.pricing.bonds.now e.pricing.multiplier in
    let all = others_and worth p.rows e.row e.new (omega arith) in
    in_place worth p e.row _ e.needed e.later e.new (record { bond = 0; face = 0 }) _ _ (cc) c.try_on.ensures
