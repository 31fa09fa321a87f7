-- What stands in the tables of the records. Past the end of a table stands an account or a bond without figures.
use Rattle.std.specs.Prelude.{ℕ, Bool, ◌||◌, [], ◌==◌, nat_le, slice_index, slice_index_or}
use Rattle.tables.specs.declared.account.Account.{Account}
use Rattle.tables.specs.declared.account.Right.TheVariants.{Neither}
use Rattle.tables.specs.declared.account.Mode.TheVariants.{Preset}
use Rattle.tables.specs.declared.bond.Bond.{Bond}
use Rattle.records.specs.declared.kept.Records.{Records}

-- account 0 is the house and no member; members are 1 to 31
abbrev pub no_member : ℕ → Bool
no_member account = account == 0 || nat_le 32 account

abbrev pub no_bond : ℕ → Bool
no_bond bond = nat_le 16 bond

abbrev pub account_at : Records → ℕ → Account
account_at k account =
    slice_index_or k.accounts account (record { right = Neither; grade = 0; mode = Preset; presets = [] })

abbrev pub bond_at : Records → ℕ → Bond
bond_at k bond =
    slice_index_or k.bonds bond (record { unit = 0; price = 0; discount = 0; adjustment = 0; lent_limit = 0; pledge_limit = 0; maturity = 0 })

abbrev pub preset_at : Records → ℕ → ℕ → ℕ
preset_at k account bond = slice_index (account_at k account).presets bond
