-- The calls that set what members lend and what bonds are worth.
use Rattle.std.specs.Prelude.{ℕ, Bool, cond, not, List, [], ◌∷◌, slice_set}
use Rattle.terms.specs.Ranges.{allowed}
use Rattle.terms.specs.Refusals.{refuse_order}
use Rattle.terms.specs.declared.range.Range.TheVariants as range
use Rattle.terms.specs.declared.refusal.Refusal.{Refusal}
use Rattle.terms.specs.declared.refusal.Cause.TheVariants as cause
use Rattle.tables.specs.Blank.{blank}
use Rattle.tables.specs.Accounts.{may_lend, is_whole, mode_of}
use Rattle.tables.specs.declared.account.Account.{Account}
use Rattle.tables.specs.declared.bond.Bond.{Bond}
use Rattle.records.specs.Kept.{no_member, no_bond, account_at, bond_at}
use Rattle.records.specs.Times.{not_open}
use Rattle.records.specs.declared.kept.Records.{Records}

abbrev pub quota_rules : Records → ℕ → ℕ → ℕ → ℕ → List (Bool × Refusal)
quota_rules k day account bond face =
    (not_open k day, refuse_order cause.Time 0)
    ∷ (no_member account, refuse_order cause.Account account)
    ∷ (no_bond bond, refuse_order cause.Bond 0)
    ∷ (not (may_lend (account_at k account).right), refuse_order cause.Right account)
    ∷ (is_whole (account_at k account).mode, refuse_order cause.Stage 0)
    ∷ (not (allowed range.Amount face), refuse_order cause.Figure 0)
    ∷ []

-- an account with another preset for a bond
abbrev pub at_preset : Account → ℕ → ℕ → Account
at_preset a bond face = record a { presets = slice_set a.presets bond face }

abbrev pub with_preset : Records → ℕ → ℕ → ℕ → Records
with_preset k account bond face =
    record k { accounts = slice_set k.accounts account (at_preset (account_at k account) bond face) }

abbrev pub mode_rules : Records → ℕ → ℕ → ℕ → List (Bool × Refusal)
mode_rules k day account mode =
    (not_open k day, refuse_order cause.Time 0)
    ∷ (no_member account, refuse_order cause.Account account)
    ∷ (not (may_lend (account_at k account).right), refuse_order cause.Right account)
    ∷ (not (allowed range.Mode mode), refuse_order cause.Figure 0)
    ∷ []

-- an account in another mode; whole mode deletes its presets
abbrev pub in_mode : Account → ℕ → Account
in_mode a mode = record a { mode = mode_of mode; presets = cond (is_whole (mode_of mode)) (blank 16) a.presets }

abbrev pub with_mode : Records → ℕ → ℕ → Records
with_mode k account mode =
    record k { accounts = slice_set k.accounts account (in_mode (account_at k account) mode) }

abbrev pub price_rules : Records → ℕ → ℕ → ℕ → List (Bool × Refusal)
price_rules k day bond price =
    (not_open k day, refuse_order cause.Time 0)
    ∷ (no_bond bond, refuse_order cause.Bond 0)
    ∷ (not (allowed range.Price price), refuse_order cause.Figure 0)
    ∷ []

abbrev pub at_price : Bond → ℕ → Bond
at_price b price = record b { price = price }

abbrev pub with_price : Records → ℕ → ℕ → Records
with_price k bond price = record k { bonds = slice_set k.bonds bond (at_price (bond_at k bond) price) }
