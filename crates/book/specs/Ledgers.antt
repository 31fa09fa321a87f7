-- A book as rules speak of it, whatever its type.
use Rattle.std.specs.Prelude.{ℕ, Bool, true, ◌&&◌, List, [], ◌∷◌, length, ◌==◌, nat_le}
use Rattle.book.specs.declared.Book.{Ghosts}
use Rattle.book.specs.Moves.{largest_amount}

-- the amounts, place by place, and the largest that a move may bring one to
pub record Ledger : Type 0 where
  pub amounts : List ℕ
  pub most : ℕ

-- the ledger of a book: what its type means by its amounts and its largest
abbrev pub ledger : {X : Type 0} → Ghosts X → X → Ledger
ledger b x = record { amounts = b.amounts x; most = b.LARGEST }

-- no amount is above m
abbrev pub none_above : ℕ → List ℕ → Bool
none_above m [] = true
none_above m (x ∷ xs) = nat_le x m && none_above m xs

-- a book fits its use: so many places, the largest amount, and none above it
abbrev pub fits : ℕ → Ledger → Bool
fits places l =
    (length l.amounts == places) && l.most == largest_amount && none_above largest_amount l.amounts
