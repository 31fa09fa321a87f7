-- The number that a word writes.
use Rattle.std.specs.Prelude.{ℕ, ◌+◌, ◌-◌, ◌*◌, ◌^◌, cond, List, [], ◌∷◌, Ok, Err, Result, nat_lt}
use Rattle.std.specs.Str.{all_ascii_digits}
use Rattle.input.specs.declared.numbers.NumberFault.{NumberFault}
use Rattle.input.specs.declared.numbers.NumberFault.TheVariants.{Empty, NotDigits, TooLarge}

-- n, followed by decimal digits
abbrev pub followed : ℕ → List ℕ → ℕ
followed n [] = n
followed n (c ∷ cs) = followed (n * 10 + (c - 48)) cs

-- what digits write, if it is below 2^64
abbrev pub fitting : ℕ → Result ℕ NumberFault
fitting n = cond (nat_lt n (2 ^ 64)) (Ok n) (Err TooLarge)

-- digits write their value, and every other word is at fault: it is empty, has a byte that is no digit, or is too large
abbrev pub reading : List ℕ → Result ℕ NumberFault
reading [] = Err Empty
reading (c ∷ cs) = cond (all_ascii_digits (c ∷ cs)) (fitting (followed 0 (c ∷ cs))) (Err NotDigits)
