-- A good face is 1 to 1,000,000,000 yuan and a multiple of the bond's unit.
use Rattle.std.specs.Prelude.{ℕ, ◌%◌, Bool, ◌&&◌, ◌==◌}
use Rattle.terms.specs.Ranges.{inside}

abbrev pub good_face : ℕ → ℕ → Bool
good_face face unit = inside 1 1_000_000_000 face && face % unit == 0
