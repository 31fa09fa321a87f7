-- Accounts: rights, modes, and what an account may lend.
use Rattle.std.specs.Prelude.{ℕ, ◌-◌, min, Bool, true, false, cond, not, ◌||◌, ◌==◌}
use Rattle.terms.specs.Ranges.{allowed}
use Rattle.terms.specs.declared.range.Range.TheVariants as range
use Rattle.tables.specs.Blank.{blank}
use Rattle.tables.specs.declared.account.Account.{Account}
use Rattle.tables.specs.declared.account.AccountFigures.{AccountFigures}
use Rattle.tables.specs.declared.account.Right.{Right}
use Rattle.tables.specs.declared.account.Right.TheVariants.{Neither, Lend, Borrow, Both}
use Rattle.tables.specs.declared.account.Mode.{Mode}
use Rattle.tables.specs.declared.account.Mode.TheVariants.{Preset, Whole}

-- 0 none, 1 lend, 2 borrow, 3 both
abbrev pub right_of : ℕ → Right
right_of n = cond (n == 1) Lend (cond (n == 2) Borrow (cond (n == 3) Both Neither))

abbrev pub may_lend : Right → Bool
may_lend Neither = false
may_lend Lend = true
may_lend Borrow = false
may_lend Both = true

abbrev pub may_borrow : Right → Bool
may_borrow Neither = false
may_borrow Lend = false
may_borrow Borrow = true
may_borrow Both = true

-- 0 by presets, 1 the whole available face
abbrev pub mode_of : ℕ → Mode
mode_of n = cond (n == 1) Whole Preset

abbrev pub is_whole : Mode → Bool
is_whole Preset = false
is_whole Whole = true

-- a figure of an account's row is outside its range
abbrev pub bad_account : AccountFigures → Bool
bad_account f = not (allowed range.Right f.right) || not (allowed range.Grade f.grade)

-- the account that good figures mean; every account starts by presets, with none set
abbrev pub account_of : AccountFigures → Account
account_of f = record { right = right_of f.right; grade = f.grade; mode = Preset; presets = blank 16 }

-- lendable: 0 without the right to lend, the available face in whole mode,
-- and otherwise the smaller of the available face and what the preset leaves over what is lent
abbrev pub lendable_of : Account → ℕ → ℕ → ℕ → ℕ
lendable_of a available preset lent =
    cond (may_lend a.right) (cond (is_whole a.mode) available (min available (preset - lent))) 0
