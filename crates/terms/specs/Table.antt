-- The rules of a call as a table: each row is a condition with the refusal that it gives, and the first row whose condition holds decides.
use Rattle.std.specs.Prelude.{Bool, cond, List, [], ◌∷◌, Some, None, Ok, Err, Option, Result}

abbrev pub first_of : {R : Type 0} → List (Bool × R) → Option R
first_of [] = None
first_of (row ∷ rows) = cond row.0 (Some row.1) (first_of rows)

-- the answer of a call: refused by the first rule that applies, else x
abbrev pub answered : {R X : Type 0} → Option R → X → Result X R
answered None x = Ok x
answered (Some r) x = Err r

-- what a table holds after a call: refused leaves it as it was
abbrev pub settled : {R S : Type 0} → Option R → S → S → S
settled None before after = after
settled (Some r) before after = before
