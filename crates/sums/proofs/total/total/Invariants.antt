use Rattle.std.proofs.Common.{◌≡◌, ◌*◌, ◌≤◌, take, sum_by}
use Rattle.sums.proofs.total.total.Given as goal

-- the sum is that of the rows so far
abbrev pub invariant-loop-row : goal.invariant-loop-row
invariant-loop-row g l =
    (l.sum ≡ sum_by (g.T.AmountFor.amount_for l.asked) (take l.row-index l.rows)) × (l.sum ≤ 18446744073709551615 * l.row-index)
