-- What is read of a book, place by place.
use Rattle.std.proofs.Common.{◌≡◌, ℕ, zero, suc, ◌+◌, ◌≤◌, ◌&&◌, true, nat_le, List, [], ◌∷◌, length, get_or, drop, sym, ap, ◌∙◌, arith}
use Rattle.std.proofs.lemmas.List.{at_drop_more, drop_all}
use Rattle.std.proofs.lemmas.Bool.Decides.{nat_tests}
use Rattle.std.specs.List.{list_all, range_with_len}
use Rattle.book.specs.Ledgers.{none_above}

-- where none is above m, no place holds more
pub none_above_at : (m : ℕ) (xs : List ℕ) (k : ℕ) → none_above m xs ≡ true → get_or xs k 0 ≤ m
none_above_at m [] k e = omega arith
none_above_at m (x ∷ xs) zero e = grind (arith, nat_tests)
none_above_at m (x ∷ xs) (suc k) e =
    let rest : none_above m xs ≡ true = grind (arith, nat_tests) in none_above_at m xs k rest

-- a test of each place from one on decides for what is left of the list
pub all_places : (m : ℕ) (xs : List ℕ) (i n : ℕ) → i + n ≡ length xs → list_all (λ k. nat_le (get_or xs k 0) m) (range_with_len i n) ≡ none_above m (drop i xs)
all_places m xs i zero e = sym (ap (none_above m) (drop_all i xs (omega arith)))
all_places m xs i (suc n) e =
    ap (λ rest. nat_le (get_or xs i 0) m && rest) (all_places m xs (i + 1) n (omega arith)) ∙ sym (at_drop_more (none_above m) xs i 0 (omega arith))
