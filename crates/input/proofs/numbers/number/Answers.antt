use Rattle.std.proofs.Common.{rules, ◌∙◌, sym}
use Rattle.input.proofs.Reading.{all_digits_are, read}
use Rattle.input.proofs.numbers.number.Goals as goal

pub returns : goal.returns
returns c =
    let w = c.args.word.now in
    read w (search rules) (sym (all_digits_are w) ∙ (search rules)) c.parse.result c.map_err.result (search rules) (search rules)
