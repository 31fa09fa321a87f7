use Rattle.std.proofs.Common.{◌≡◌, ◌++◌, map, take, drop}
use Rattle.loan.specs.Kept.{shut_on}
use Rattle.register.proofs.keeping.mark_each.Given as goal

-- the loans so far are marked, the rest are as they were
abbrev pub invariant-loop-row : goal.invariant-loop-row
invariant-loop-row l =
    l.rows ≡ map (shut_on l.day) (take l.row-index l.initial.rows) ++ drop l.row-index l.initial.rows
