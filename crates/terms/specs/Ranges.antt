-- The range of every figure that is sent.
use Rattle.std.specs.Prelude.{ℕ, Bool, ◌&&◌, ◌||◌, ◌==◌, nat_le}
use Rattle.terms.specs.declared.range.Range.{Range}
use Rattle.terms.specs.declared.range.Range.TheVariants as range

abbrev pub inside : ℕ → ℕ → ℕ → Bool
inside low high n = nat_le low n && nat_le n high

abbrev pub allowed : Range → ℕ → Bool
-- 0 none, 1 lend, 2 borrow, 3 both
allowed range.Right n = nat_le n 3
allowed range.Grade n = nat_le n 7
-- yuan of face
allowed range.Unit n = inside 1 1_000_000 n
-- fen for 100 yuan of face
allowed range.Price n = inside 1 20_000 n
-- ten-thousandths; 0 means never a pledge
allowed range.Discount n = nat_le n 10_000
-- ten-thousandths; 0 means never lent
allowed range.Adjustment n = n == 0 || inside 10_000 20_000 n
-- per mille
allowed range.Limit n = nat_le n 1_000
-- days
allowed range.Maturity n = inside 1 70_000 n
allowed range.LongestTerm n = inside 1 14 n
allowed range.MostLoans n = inside 1 64 n
allowed range.LoanRows n = inside 1 256 n
allowed range.Day n = inside 1 60_000 n
-- millionths a year
allowed range.R001 n = nat_le n 100_000
allowed range.Minute n = nat_le n 1_439
-- yuan of face in a bond book, fen in a cash book
allowed range.Amount n = nat_le n 10_000_000_000_000
-- 0 by presets, 1 the whole available face
allowed range.Mode n = nat_le n 1
