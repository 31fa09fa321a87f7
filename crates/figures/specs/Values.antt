-- What pledges and loans are worth. Faces are in yuan, prices in fen for 100 yuan, discounts and
-- adjustments in ten-thousandths, multipliers in hundredths, values in fen.
use Rattle.std.specs.Prelude.{ℕ, ◌+◌, ◌-◌, ◌*◌, ◌/◌, Bool, [], ◌∷◌, nat_le, slice_index}

-- n / d rounded up
abbrev pub rounded_up : ℕ → ℕ → ℕ
rounded_up n d = (n + (d - 1)) / d

-- a pledge row's value, rounded down; a multiplier of 0 gives 0
abbrev pub row_value : ℕ → ℕ → ℕ → ℕ → ℕ
row_value face price discount multiplier = face * price * discount / (10_000 * multiplier)

-- the multipliers of grades 0 to 7; 0 past them
abbrev pub multiplier_of : ℕ → ℕ
multiplier_of grade = slice_index (100 ∷ 105 ∷ 110 ∷ 120 ∷ 130 ∷ 150 ∷ 175 ∷ 200 ∷ []) grade

-- the lent face's value, rounded up
abbrev pub lent_value : ℕ → ℕ → ℕ → ℕ
lent_value face price adjustment = rounded_up (face * price * adjustment) 1_000_000

-- a share's part of a figure in fen for 100 yuan, rounded down
abbrev pub for_share : ℕ → ℕ → ℕ
for_share share figure = share * figure / 100

-- a pledge covers a loan where its rows total at least the lent value and the fee
abbrev pub covers_of : ℕ → ℕ → ℕ → Bool
covers_of rows lent fee = nat_le (lent + fee) rows
