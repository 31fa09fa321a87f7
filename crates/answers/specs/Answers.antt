-- The bytes of every answer.
use Rattle.std.specs.Prelude.{ℕ, ◌/◌, ◌%◌, List, ◌++◌, Ok, Err, codes, decimal, Result}
use Rattle.terms.specs.Words.{refusal_text}
use Rattle.terms.specs.declared.refusal.Refusal.{Refusal}
use Rattle.answers.specs.declared.answer.Answer.{Answer}
use Rattle.answers.specs.declared.answer.Answer.TheVariants as answer

-- the answer to what a member may lend
abbrev pub lendable_answer : Result ℕ Refusal → Answer
lendable_answer (Ok face) = answer.Lendable face
lendable_answer (Err r) = answer.Refused r

-- a refusal: its number, its word, its spot and the letter of its layer
abbrev pub refused_line : Refusal → List ℕ
refused_line r = codes "refused " ++ refusal_text r

-- an amount of the bond book: account, bond, compartment, amount
abbrev pub bond_line : ℕ → ℕ → List ℕ
bond_line place amount =
    codes "B " ++ (decimal (place / 32) ++ (codes " " ++ (decimal (place / 2 % 16) ++ (codes " " ++ (decimal (place % 2) ++ (codes " " ++ decimal amount))))))

abbrev pub line_of : Answer → List ℕ
line_of answer.Accepted = codes "ok"
line_of (answer.Refused r) = refused_line r
line_of (answer.Lendable face) = codes "lendable " ++ decimal face
line_of (answer.BondAmount place amount) = bond_line place amount
line_of (answer.CashAmount account amount) = codes "C " ++ (decimal account ++ (codes " " ++ decimal amount))
line_of answer.End = codes "end"
line_of answer.NoPool = codes "no pool"
line_of answer.DayIsShut = codes "day is shut"
line_of answer.DayIsOpen = codes "day is open"
