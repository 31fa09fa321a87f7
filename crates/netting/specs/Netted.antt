-- A netting book keeps opening amounts and signed net changes: a place holds the sum of the two.
use Rattle.std.specs.Prelude.{ℕ, ℤ, pos, ◌+ℤ◌, ◌≤ℤ◌, unsigned_abs}

-- what a place holds
abbrev pub standing : ℕ → ℤ → ℕ
standing opened net = unsigned_abs (pos opened +ℤ net)

-- a place's sum is neither below 0 nor above the largest number of 64 bits
abbrev pub Within : ℕ → ℤ → Type 0
Within opened net = (pos 0 ≤ℤ (pos opened +ℤ net)) × ((pos opened +ℤ net) ≤ℤ pos 18_446_744_073_709_551_615)
