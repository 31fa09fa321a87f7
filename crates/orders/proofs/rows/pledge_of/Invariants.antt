use Rattle.std.proofs.Common.{◌≡◌, length, drop}
use Rattle.book.specs.Ledgers.{ledger}
use Rattle.orders.specs.Rows.{unpledged, outcome}
use Rattle.orders.proofs.rows.pledge_of.Given as goal

-- the rows that are left lead from this pledge to where all lead from an empty one
abbrev pub invariant-loop-i : goal.invariant-loop-i
invariant-loop-i g l =
    (length l.pledge.rows ≡ 4) × (outcome (ledger g.B.Book l.bonds) l.records l.terms unpledged 0 l.used ≡ outcome (ledger g.B.Book l.bonds) l.records l.terms l.pledge l.i (drop l.i l.used))
