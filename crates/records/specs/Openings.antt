-- The figures of an opening: which are refused, and the records that a pool opens with.
use Rattle.std.specs.Prelude.{Bool, true, not, ◌&&◌, List, [], ◌∷◌, map, ◌==◌, slice_index_or}
use Rattle.terms.specs.Ranges.{allowed}
use Rattle.terms.specs.Refusals.{refuse_order}
use Rattle.terms.specs.declared.range.Range.TheVariants as range
use Rattle.terms.specs.declared.refusal.Refusal.{Refusal}
use Rattle.terms.specs.declared.refusal.Cause.TheVariants as cause
use Rattle.tables.specs.Rows.{first_bad, has_bad}
use Rattle.tables.specs.Accounts.{bad_account, account_of}
use Rattle.tables.specs.Bonds.{bad_bond, bond_of}
use Rattle.records.specs.declared.opening.Figures.{Figures}
use Rattle.records.specs.declared.kept.Records.{Records}

-- the house may neither lend nor borrow
abbrev pub house_without_right : Figures → Bool
house_without_right f = (slice_index_or f.accounts 0 (record { right = 0; grade = 0 })).right == 0

-- the longest term, the most loans of a borrower, the loan rows kept, the day and R001 are in their ranges
abbrev pub within : Figures → Bool
within f =
    allowed range.LongestTerm f.longest_term
    && allowed range.MostLoans f.most_loans
    && allowed range.LoanRows f.loan_rows
    && allowed range.Day f.day
    && allowed range.R001 f.r001

-- the spot is the number of the account or the bond, and 0 where the figure stands in no row
abbrev pub figures_rules : Figures → List (Bool × Refusal)
figures_rules f =
    (not (house_without_right f), refuse_order cause.Figure 0)
    ∷ (has_bad bad_account f.accounts, refuse_order cause.Figure (first_bad bad_account f.accounts))
    ∷ (has_bad bad_bond f.bonds, refuse_order cause.Figure (first_bad bad_bond f.bonds))
    ∷ (not (within f), refuse_order cause.Figure 0)
    ∷ []

-- the first day is open at minute 0; every account lends by presets, and none is set
abbrev pub opened_records : Figures → Records
opened_records f = record {
  accounts = map account_of f.accounts;
  bonds = map bond_of f.bonds;
  time = record { day = f.day; opened = true; minute = 0; r001 = f.r001 };
  limits = record { longest_term = f.longest_term; most_loans = f.most_loans; loan_rows = f.loan_rows };
}
