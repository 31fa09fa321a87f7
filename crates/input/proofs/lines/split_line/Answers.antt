use Rattle.std.proofs.Common.{rules, arith, ◌+◌}
use Rattle.std.proofs.lemmas.List.{take_rest}
use Rattle.std.proofs.lemmas.Grind.{common_steps}
use Rattle.input.proofs.Cutting.{up_to_is, past_is, found, missing}
use Rattle.input.proofs.lines.split_line.Goals as goal

pub returns-in-Some-clause-line : goal.returns-in-Some-clause-line
returns-in-Some-clause-line c =
    let bs = c.args.bytes.now in rw (up_to_is, found 10 bs c.in-Some.end (search rules))

pub returns-in-Some-clause-rest : goal.returns-in-Some-clause-rest
returns-in-Some-clause-rest c =
    let bs = c.args.bytes.now in
    rw (past_is, found 10 bs c.in-Some.end (search rules)) (take_rest bs (c.in-Some.end + 1))

pub returns-in-None-clause-line : goal.returns-in-None-clause-line
returns-in-None-clause-line c =
    let over = missing 10 c.args.bytes.now (search rules) in grind (arith, common_steps, up_to_is)

pub returns-in-None-clause-rest : goal.returns-in-None-clause-rest
returns-in-None-clause-rest c =
    let over = missing 10 c.args.bytes.now (search rules) in grind (arith, common_steps, past_is)
