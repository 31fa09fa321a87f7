-- The clearing fee is within the fee. Assumes nothing.
use Rattle.std.proofs.Common.{◌≡◌, ℕ, ◌+◌, ◌*◌, ◌≤◌, mul-le-mul_right, mul_assoc, mul_comm, mul-le-mul_left, arith}
use Rattle.std.proofs.lemmas.Nat.{le-div}
use Rattle.figures.specs.Fees.{clearing_of, fee_of}

pub clearing_within : (face rate days : ℕ) → 5_000 ≤ rate → clearing_of face days ≤ fee_of face rate days
clearing_within face rate days at_least_lem =
    let more : face * 5_000 * days ≤ face * rate * days = mul-le-mul_right days (mul-le-mul_left face at_least_lem) in
    let same : face * 5_000 * days ≡ 5_000 * (face * days) = rw (mul_comm face 5_000) (mul_assoc 5_000 face days) in
    le-div (clearing_of face days) (face * rate * days + 1_825_000) 3_650_000 (omega arith) (omega arith)
