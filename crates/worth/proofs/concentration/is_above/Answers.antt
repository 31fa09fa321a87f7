use Rattle.std.proofs.Common.{◌≤◌, mul-le-mul_right, arith}
use Rattle.worth.proofs.concentration.is_above.Goals as goal

pub overflow_mul-result-2 : goal.overflow_mul-result-2
overflow_mul-result-2 c =
    let limit : c.from.result ≤ 65535 = omega arith in
    omega (arith, mul-le-mul_right c.args.total limit)
