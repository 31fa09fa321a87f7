-- Several moves in one book, and what leaves and reaches each place by them.
use Rattle.std.specs.Prelude.{ℕ, suc, ◌+◌, cond, List, [], ◌∷◌, ◌==◌}
use Rattle.terms.specs.Table.{settled}
use Rattle.book.specs.Moves.{refusal, moved}
use Rattle.book.specs.Places.{available, pledged}
use Rattle.moves.specs.Columns.{place}
use Rattle.moves.specs.declared.column.Column.{Column}
use Rattle.moves.specs.declared.many.Way.{Way}
use Rattle.moves.specs.declared.many.Way.TheVariants.{Into, OutOf}

pub record Move : Type 0 where
  pub source : ℕ
  pub target : ℕ
  pub amount : ℕ

-- the amounts after one move and after several; a refused one changes nothing
abbrev pub after_move : ℕ → List ℕ → Move → List ℕ
after_move most xs m =
    settled (refusal most xs m.source m.target m.amount) xs (moved xs m.source m.target m.amount)

abbrev pub after_moves : ℕ → List ℕ → List Move → List ℕ
after_moves most xs [] = xs
after_moves most xs (m ∷ ms) = after_moves most (after_move most xs m) ms

-- what leaves a place by some moves, and what reaches it
abbrev pub leaves : List Move → ℕ → ℕ
leaves [] k = 0
leaves (m ∷ ms) k = cond (m.source == k) m.amount 0 + leaves ms k

abbrev pub reaches : List Move → ℕ → ℕ
reaches [] k = 0
reaches (m ∷ ms) k = cond (m.target == k) m.amount 0 + reaches ms k

-- a move of n between a place of a column and the one place
abbrev pub move_by : Way → ℕ → ℕ → Move
move_by (Into target) place n = record { source = place; target = target; amount = n }
move_by (OutOf source) place n = record { source = source; target = place; amount = n }

-- the moves of all accounts, from the one given on
abbrev pub moves_by : Column → Way → ℕ → List ℕ → List Move
moves_by c way account [] = []
moves_by c way account (n ∷ ns) = move_by way (place c account) n ∷ moves_by c way (suc account) ns

-- a face of a bond that an account pledges, and one that is freed
abbrev pub pledged_by : ℕ → ℕ → ℕ → Move
pledged_by account bond face = record { source = available account bond; target = pledged account bond; amount = face }

abbrev pub freed_by : ℕ → ℕ → ℕ → Move
freed_by account bond face = record { source = pledged account bond; target = available account bond; amount = face }
