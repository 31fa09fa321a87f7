-- The places of an account in a book of bonds: 16 bonds, and for each an available place and then a pledged one.
use Rattle.std.specs.Prelude.{ℕ, ◌+◌, ◌*◌}

-- the place of what an account has available of a bond
abbrev pub available : ℕ → ℕ → ℕ
available account bond = (account * 16 + bond) * 2

-- the place of what an account has pledged of a bond
abbrev pub pledged : ℕ → ℕ → ℕ
pledged account bond = (account * 16 + bond) * 2 + 1
