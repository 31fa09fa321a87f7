use Rattle.std.proofs.Common.{sym, arith}
use Rattle.figures.proofs.Within.{clearing_within}
use Rattle.figures.proofs.fees.from_rate.Goals as goal

pub returns : goal.returns
returns c = record {
  met = sym c.requires;
  legal = λ r001. (omega arith, omega arith);
  within = λ face rate days least. clearing_within face rate days (omega arith);
}
