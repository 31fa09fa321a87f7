-- The first row over its limit decides over the rows of a pledge.
use Rattle.std.proofs.Common.{◌≡◌, ℕ, suc, ◌+◌, Bool, true, false, cond, not, ltb, List, [], ◌∷◌, length, Some, None, Option, sym, refl, ap, ◌∙◌, arith}
use Rattle.std.specs.List.{position_or_len}
use Rattle.std.specs.Option.{option_map}
use Rattle.std.proofs.lemmas.Bool.Decides.{nat_tests}
use Rattle.terms.specs.Refusals.{refuse}
use Rattle.terms.specs.Table.{first_of}
use Rattle.terms.specs.declared.refusal.Refusal.{Refusal}
use Rattle.terms.specs.declared.refusal.Cause.TheVariants as cause
use Rattle.terms.specs.declared.refusal.Layer.TheVariants as layer
use Rattle.lending.specs.View.{View}
use Rattle.pledge.specs.declared.rows.PledgeRow.{PledgeRow}
use Rattle.worth.specs.Concentration.{row_over, row_limits}

abbrev pub over_at : ℕ → Refusal
over_at i = refuse cause.Concentration i layer.Worth

-- where a list has p, if it has it at all
abbrev pub place : ℕ → ℕ → Option ℕ
place p n = cond (ltb p n) (Some p) None

turn : (b : Bool) (i p n : ℕ) (rest : Option Refusal) → rest ≡ option_map (λ k. over_at (suc i + k)) (place p n) → cond b (Some (over_at i)) rest ≡ option_map (λ k. over_at (i + k)) (place (cond (not b) (1 + p) 0) (suc n))
turn true i p n rest e = grind (arith, nat_tests)
turn false i p n rest e = grind (arith, nat_tests)

limits_from : (v : View) (borrower : ℕ) (rows : List PledgeRow) (i : ℕ) → first_of (row_limits v borrower i rows) ≡ option_map (λ k. over_at (i + k)) (place (position_or_len (row_over v borrower) rows) (length rows))
limits_from v borrower [] i = refl
limits_from v borrower (row ∷ rows) i =
    turn (row_over v borrower row) i (position_or_len (row_over v borrower) rows) (length rows) (first_of (row_limits v borrower (suc i) rows)) (limits_from v borrower rows (suc i))

from_first : (o : Option ℕ) → option_map (λ k. over_at (0 + k)) o ≡ option_map over_at o
from_first None = refl
from_first (Some k) = let e : 0 + k ≡ k = omega arith in ap (λ n. Some (over_at n)) e

-- r is the number of the first row over its limit
pub limits_first : (v : View) (borrower : ℕ) (rows : List PledgeRow) (r : Option ℕ) → r ≡ place (position_or_len (row_over v borrower) rows) (length rows) → first_of (row_limits v borrower 0 rows) ≡ option_map over_at r
limits_first v borrower rows r e = limits_from v borrower rows 0 ∙ from_first _ ∙ ap (option_map over_at) (sym e)
