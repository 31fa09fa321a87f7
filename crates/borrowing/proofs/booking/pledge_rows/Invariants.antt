use Rattle.std.proofs.Common.{◌≡◌, drop}
use Rattle.moves.specs.Many.{after_moves}
use Rattle.borrowing.specs.Borrows.{row_moves}
use Rattle.borrowing.proofs.booking.pledge_rows.Given as goal

-- the rows that are left lead from here to where all lead from the start
abbrev pub invariant-loop-row : goal.invariant-loop-row
invariant-loop-row g l =
    after_moves g.B.Book.LARGEST (g.B.Book.amounts l.initial.bonds) (row_moves l.borrower l.rows) ≡ after_moves g.B.Book.LARGEST (g.B.Book.amounts l.bonds) (row_moves l.borrower (drop l.row-index l.rows))
