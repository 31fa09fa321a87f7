-- The places of all accounts for one thing, and what they hold.
use Rattle.std.specs.Prelude.{ℕ, ◌+◌, ◌*◌, List, slice_index}
use Rattle.sums.specs.Each.{each}
use Rattle.moves.specs.declared.column.Column.{Column}

abbrev pub place : Column → ℕ → ℕ
place c account = c.first + c.step * account

-- the available places of a bond, its pledged places, and the places of cash
abbrev pub available_column : ℕ → Column
available_column bond = record { first = bond * 2; step = 32 }

abbrev pub pledged_column : ℕ → Column
pledged_column bond = record { first = bond * 2 + 1; step = 32 }

abbrev pub cash_column : Column
cash_column = record { first = 0; step = 1 }

-- what the 32 accounts hold there
abbrev pub column_amounts : List ℕ → Column → List ℕ
column_amounts xs c = each (λ account. slice_index xs (place c account)) 0 32
