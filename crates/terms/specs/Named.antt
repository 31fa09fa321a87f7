-- Numbers that were sent for something that has a few cases only.
use Rattle.std.specs.Prelude.{ℕ, Bool, cond, List, ◌++◌, Ok, Err, Result, codes, decimal}
use Rattle.terms.specs.declared.unknown.UnknownNumber.{UnknownNumber}

-- what a number reads as: the case that it names, or the number itself where it names none
abbrev pub named : {K : Type 0} → Bool → K → ℕ → Result K UnknownNumber
named known kind n = cond known (Ok kind) (Err (record { 0 = n }))

-- such a number as it is told
abbrev pub unknown_text : UnknownNumber → List ℕ
unknown_text number = codes "unknown number " ++ decimal number.0
