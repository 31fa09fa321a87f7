use Rattle.std.proofs.Common.{◌≡◌, ◌+◌, map, length, take, drop}
use Rattle.tables.specs.Rows.{first_bad}
use Rattle.tables.proofs.rows.read_table.Given as goal

-- the rows so far are those meant, and the first bad row is the first of those to come
abbrev pub invariant-loop-i : goal.invariant-loop-i
invariant-loop-i g l =
    (length l.rows ≡ g.row.N) × (take l.i l.rows ≡ map g.R.ReadFrom.meant (take l.i l.figures)) × (first_bad g.R.ReadFrom.bad l.figures ≡ l.i + first_bad g.R.ReadFrom.bad (drop l.i l.figures))
