-- Refusals: what each cause and layer is called outside, and what a call that may be refused answers and leaves.
use Rattle.std.specs.Prelude.{◌≡◌, ℕ, Bool, true, cond, ◌&&◌, ◌||◌, Some, None, Ok, Err, Option, Result, ◌==◌, nat_le}
use Rattle.terms.specs.Table.{answered, settled}
use Rattle.terms.specs.declared.refusal.Refusal.{Refusal}
use Rattle.terms.specs.declared.refusal.Cause.{Cause}
use Rattle.terms.specs.declared.refusal.Cause.TheVariants as cause
use Rattle.terms.specs.declared.refusal.Layer.{Layer}
use Rattle.terms.specs.declared.refusal.Layer.TheVariants as layer

-- the number of a cause
abbrev pub number : Cause → ℕ
number cause.Account = 1
number cause.Bond = 2
number cause.Loan = 3
number cause.Right = 4
number cause.Face = 5
number cause.Time = 6
number cause.Term = 7
number cause.Eligibility = 8
number cause.Rows = 9
number cause.Maturity = 10
number cause.Loans = 11
number cause.Pool = 12
number cause.Short = 13
number cause.Value = 14
number cause.Concentration = 15
number cause.Stage = 16
number cause.Late = 17
number cause.Lender = 18
number cause.Over = 19
number cause.Figure = 20

-- the letter of a layer, by its code: B, C, W, O
abbrev pub letter_of : Layer → ℕ
letter_of layer.BondBook = 66
letter_of layer.CashBook = 67
letter_of layer.Worth = 87
letter_of layer.Order = 79

-- the layers at which a cause may be found: short and over in a book, value and concentration in W, all others in O
abbrev pub may_stand : ℕ → ℕ → Bool
may_stand n l =
    cond (n == 13 || n == 19) (l == 66 || l == 67) (cond (n == 14 || n == 15) (l == 87) (l == 79))

-- a refusal has a number from 1 to 20, at a layer where that number may stand
abbrev pub well_named : Refusal → Bool
well_named r =
    nat_le 1 (number r.cause) && nat_le (number r.cause) 20 && may_stand (number r.cause) (letter_of r.layer)

abbrev pub WellNamed : Option Refusal → Type 0
WellNamed None = Unit {0}
WellNamed (Some r) = well_named r ≡ true

abbrev pub refuse : Cause → ℕ → Layer → Refusal
refuse c n l = record { cause = c; spot = n; layer = l }

-- a refusal by the order's own terms
abbrev pub refuse_order : Cause → ℕ → Refusal
refuse_order c n = refuse c n layer.Order

-- the refusal in an answer, if any
abbrev pub refused : {X : Type 0} → Result X Refusal → Option Refusal
refused (Ok x) = None
refused (Err r) = Some r

-- what a call under the verdict v answers and leaves: x and the new table, or the refusal and the old one
pub record Settles {X S : Type 0} (v : Option Refusal) (x : X) (before accepted : S) (r : Result X Refusal) (after : S) : Type 0 where
  pub answer : r ≡ answered v x
  pub table : after ≡ settled v before accepted
