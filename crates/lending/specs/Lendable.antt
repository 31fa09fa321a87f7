-- What members may lend of a bond.
use Rattle.std.specs.Prelude.{ℕ, Bool, cond, List, [], ◌∷◌, ◌==◌, slice_index}
use Rattle.sums.specs.Each.{each}
use Rattle.terms.specs.Refusals.{refuse_order}
use Rattle.terms.specs.declared.refusal.Refusal.{Refusal}
use Rattle.terms.specs.declared.refusal.Cause.TheVariants as cause
use Rattle.tables.specs.Accounts.{lendable_of}
use Rattle.book.specs.Places.{available}
use Rattle.records.specs.Kept.{no_member, no_bond, account_at, preset_at}
use Rattle.register.specs.Loans.{lent_face}
use Rattle.lending.specs.View.{View}

abbrev pub lendable_at : View → ℕ → ℕ → ℕ
lendable_at v account bond =
    lendable_of (account_at v.records account) (slice_index v.bonds.amounts (available account bond)) (preset_at v.records account bond) (lent_face v.loans account bond)

abbrev pub lendable_rules : ℕ → ℕ → List (Bool × Refusal)
lendable_rules account bond =
    (no_member account, refuse_order cause.Account account) ∷ (no_bond bond, refuse_order cause.Bond 0) ∷ []

-- what an account may lend of a bond to a borrower: nothing to itself
abbrev pub lendable_by : View → ℕ → ℕ → ℕ → ℕ
lendable_by v borrower bond account =
    cond (account == borrower) 0 (lendable_at v account bond)

-- what a borrower can be lent of a bond by each of the 32 accounts
abbrev pub lendable_to : View → ℕ → ℕ → List ℕ
lendable_to v borrower bond = each (lendable_by v borrower bond) 0 32
