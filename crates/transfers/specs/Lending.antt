-- What a member may lend of a bond.
use Rattle.std.specs.Prelude.{ℕ, Bool, List, [], ◌∷◌, slice_index}
use Rattle.terms.specs.Refusals.{refuse_order}
use Rattle.terms.specs.declared.refusal.Refusal.{Refusal}
use Rattle.terms.specs.declared.refusal.Cause.TheVariants as cause
use Rattle.tables.specs.Accounts.{lendable_of}
use Rattle.book.specs.Ledgers.{Ledger}
use Rattle.book.specs.Places.{available}
use Rattle.records.specs.Kept.{no_member, no_bond, account_at, preset_at}
use Rattle.records.specs.declared.kept.Records.{Records}

-- the face of a bond that an account has lent: nothing is lent yet
abbrev pub lent_face : Records → ℕ → ℕ → ℕ
lent_face k account bond = 0

abbrev pub lendable_at : Ledger → Records → ℕ → ℕ → ℕ
lendable_at bonds k account bond =
    lendable_of (account_at k account) (slice_index bonds.amounts (available account bond)) (preset_at k account bond) (lent_face k account bond)

abbrev pub lendable_rules : ℕ → ℕ → List (Bool × Refusal)
lendable_rules account bond =
    (no_member account, refuse_order cause.Account account) ∷ (no_bond bond, refuse_order cause.Bond 0) ∷ []
