-- The cases that were worked by hand, as one table over the definitions.
use Rattle.std.specs.Prelude.{◌≡◌, ℕ, true, false, List, [], ◌∷◌, map, replicate}
use Rattle.terms.specs.Orders.{in_window}
use Rattle.terms.specs.declared.order.OrderKind.TheVariants.{Net}
use Rattle.tables.specs.Accounts.{lendable_of}
use Rattle.tables.specs.declared.account.Right.{Right}
use Rattle.tables.specs.declared.account.Mode.TheVariants.{Preset}
use Rattle.share.specs.Shares.{first_shares, even_shares}
use Rattle.figures.specs.Fees.{rate_of, fee_of, clearing_of, lender_parts, house_keeps}
use Rattle.figures.specs.Values.{row_value, multiplier_of, lent_value, covers_of}

-- the other accounts, which lend nothing
abbrev pub others : ℕ → List ℕ
others n = replicate n 0

-- a pledge row of a borrower of grade 0, at price 10,000 and discount 9,000
abbrev pub pledged_row : ℕ → ℕ
pledged_row face = row_value face 10_000 9_000 (multiplier_of 0)

pub record Worked : Type 0 where
  -- the rate at four values of R001
  pub rates : map rate_of (9_999 ∷ 10_000 ∷ 17_500 ∷ 20_001 ∷ []) ≡ 5_000 ∷ 5_000 ∷ 12_500 ∷ 15_000 ∷ []
  -- a face of 10,000,000 at 12,500 for one day
  pub fee : fee_of 10_000_000 12_500 1 ≡ 34_247
  pub clearing : clearing_of 10_000_000 1 ≡ 2_000
  -- what shares of 6,000,000 and 4,000,000 earn of it, and what stays with the house
  pub earned : lender_parts 34_247 2_000 (6_000_000 ∷ 4_000_000 ∷ others 30) ≡ 19_348 ∷ 12_898 ∷ others 30
  pub kept : house_keeps 34_247 2_000 (6_000_000 ∷ 4_000_000 ∷ others 30) ≡ 2_001
  -- the pledge row that covers that loan, and the one that falls short
  pub covers : covers_of (pledged_row 11_670_000) (lent_value 10_000_000 10_000 10_500) 34_247 ≡ true
  pub falls_short : covers_of (pledged_row 11_660_000) (lent_value 10_000_000 10_000 10_500) 34_247 ≡ false
  -- the minutes about both ends of the window of net orders
  pub window : map (in_window Net) (944 ∷ 945 ∷ 970 ∷ 971 ∷ []) ≡ false ∷ true ∷ true ∷ false ∷ []
  -- limits of 5, 3 and 4 and a want of 6, by both rules
  pub first : first_shares (5 ∷ 3 ∷ 4 ∷ others 29) 6 ≡ 5 ∷ 1 ∷ 0 ∷ others 29
  pub even : even_shares (5 ∷ 3 ∷ 4 ∷ others 29) 6 ≡ 3 ∷ 1 ∷ 2 ∷ others 29
  -- more is lent than preset: nothing is lendable, whatever is available
  pub none_lendable : (right : Right) (grade available : ℕ) (presets : List ℕ) → lendable_of (record { right = right; grade = grade; mode = Preset; presets = presets }) available 5 8 ≡ 0
