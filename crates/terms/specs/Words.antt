-- Refusals as members read them.
use Rattle.std.specs.Prelude.{ℕ, List, ◌++◌, codes, decimal}
use Rattle.std.proofs.Math.Utf8.{encode}
use Rattle.terms.specs.Refusals.{number, letter_of}
use Rattle.terms.specs.declared.refusal.Cause.{Cause}
use Rattle.terms.specs.declared.refusal.Cause.TheVariants as cause
use Rattle.terms.specs.declared.refusal.Refusal.{Refusal}

-- the word of a cause
abbrev pub word_of : Cause → List ℕ
word_of cause.Account = codes "account"
word_of cause.Bond = codes "bond"
word_of cause.Loan = codes "loan"
word_of cause.Right = codes "right"
word_of cause.Face = codes "face"
word_of cause.Time = codes "time"
word_of cause.Term = codes "term"
word_of cause.Eligibility = codes "eligibility"
word_of cause.Rows = codes "rows"
word_of cause.Maturity = codes "maturity"
word_of cause.Loans = codes "loans"
word_of cause.Pool = codes "pool"
word_of cause.Short = codes "short"
word_of cause.Value = codes "value"
word_of cause.Concentration = codes "concentration"
word_of cause.Stage = codes "stage"
word_of cause.Late = codes "late"
word_of cause.Lender = codes "lender"
word_of cause.Over = codes "over"
word_of cause.Figure = codes "figure"

-- a refusal: its number, its word, its spot and the letter of its layer
abbrev pub refusal_text : Refusal → List ℕ
refusal_text r =
    decimal (number r.cause) ++ (codes " " ++ (word_of r.cause ++ (codes " at " ++ (decimal r.spot ++ (codes " in " ++ encode (letter_of r.layer))))))
