-- The rows of a loan cover the lent value and the fee, at the prices held now.
use Rattle.std.specs.Prelude.{ℕ, ◌+◌, Bool}
use Rattle.figures.specs.Fees.{fee_of}
use Rattle.figures.specs.Values.{multiplier_of, lent_value, covers_of}
use Rattle.records.specs.Kept.{account_at, bond_at}
use Rattle.pledge.specs.Rows.{worth_of}
use Rattle.pledge.specs.declared.rows.Pledge.{Pledge}
use Rattle.orders.specs.declared.terms_of.Terms.{Terms}
use Rattle.records.specs.declared.kept.Records.{Records}

-- the multiplier of a borrower's grade
abbrev pub multiplier_at : Records → ℕ → ℕ
multiplier_at k borrower = multiplier_of (account_at k borrower).grade

-- the lent bond counts at its own price and adjustment
abbrev pub lent_worth : Records → Terms → ℕ
lent_worth k t = lent_value t.face (bond_at k t.bond).price (bond_at k t.bond).adjustment

abbrev pub fee_for : Terms → ℕ → ℕ
fee_for t rate = fee_of t.face rate t.term

-- what the rows have to be worth
abbrev pub needed_for : Records → Terms → ℕ → ℕ
needed_for k t rate = lent_worth k t + fee_for t rate

abbrev pub covered : Records → Terms → ℕ → Pledge → Bool
covered k t rate p = covers_of (worth_of k.bonds (multiplier_at k t.borrower) p) (lent_worth k t) (fee_for t rate)
