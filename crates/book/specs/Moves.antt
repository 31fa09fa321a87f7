-- A book's meaning is the list of its amounts. What is asked of a book, and what moves in it, is said of that list.
use Rattle.std.specs.Prelude.{ℕ, ◌+◌, ◌-◌, Bool, cond, ◌&&◌, ◌||◌, List, [], ◌∷◌, length, Some, None, Option, ◌==◌, nat_le, nat_lt, slice_index, slice_set}
use Rattle.terms.specs.Table.{first_of}
use Rattle.book.specs.declared.refusal.MoveRefusal.{MoveRefusal}
use Rattle.book.specs.declared.refusal.MoveRefusal.TheVariants.{NoPlace, Short, Over}

-- the largest amount that a move may bring a place to
abbrev pub largest_amount : ℕ
largest_amount = 10_000_000_000_000

-- what a place holds; none exactly when its number is outside
abbrev pub amount_at : List ℕ → ℕ → Option ℕ
amount_at xs place = cond (nat_lt place (length xs)) (Some (slice_index xs place)) None

-- why a move of n is refused: either number is outside or both are equal, then the source holds less than n,
-- then the target would pass the largest amount
abbrev pub refusal : ℕ → List ℕ → ℕ → ℕ → ℕ → Option MoveRefusal
refusal most xs from to n =
    first_of
    ((nat_le (length xs) from || nat_le (length xs) to || (from == to), NoPlace)
    ∷ (nat_lt (slice_index xs from) n, Short)
    ∷ (nat_lt most (slice_index xs to + n), Over)
    ∷ [])

-- what the source and the target of a move hold after it
abbrev pub source_after : List ℕ → ℕ → ℕ → ℕ
source_after xs from n = slice_index xs from - n

abbrev pub target_after : List ℕ → ℕ → ℕ → ℕ
target_after xs to n = slice_index xs to + n

-- the amounts after a move: n less at the source, n more at the target, all other places as they were
abbrev pub moved : List ℕ → ℕ → ℕ → ℕ → List ℕ
moved xs from to n = slice_set (slice_set xs from (source_after xs from n)) to (target_after xs to n)

-- a place is there, and n more in it would not pass the largest amount
abbrev pub room : ℕ → List ℕ → ℕ → ℕ → Bool
room most xs place n = nat_lt place (length xs) && nat_le (slice_index xs place + n) most
