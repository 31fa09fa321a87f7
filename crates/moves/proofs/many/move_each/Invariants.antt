use Rattle.std.proofs.Common.{◌≡◌, drop}
use Rattle.moves.specs.Many.{after_moves, moves_by}
use Rattle.moves.proofs.many.move_each.Given as goal

-- the moves that are left lead from here to where all lead from the start
abbrev pub invariant-loop-account : goal.invariant-loop-account
invariant-loop-account g l =
    after_moves g.B.Book.LARGEST (g.B.Book.amounts l.initial.book) (moves_by l.column l.way 0 l.amounts) ≡ after_moves g.B.Book.LARGEST (g.B.Book.amounts l.book) (moves_by l.column l.way l.account (drop l.account l.amounts))
