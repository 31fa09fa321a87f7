-- Lines that may be read, and what is wrong with the others.
use Rattle.std.specs.Prelude.{ℕ, ◌-◌, ◌<◌, List, ◌++◌, length, Some, None, IsUtf8, ◌≢◌, slice_index, codes, decimal}
use Rattle.input.specs.declared.numbers.NumberFault.{NumberFault}
use Rattle.input.specs.declared.numbers.NumberFault.TheVariants.{Empty, NotDigits, TooLarge}
use Rattle.script.specs.declared.fault.Fault.{Fault}
use Rattle.script.specs.declared.fault.Fault.TheVariants as fault
use Rattle.script.specs.declared.fault.LineError.{LineError}

-- what is wrong with a line whose number is at fault
abbrev pub fault_of : NumberFault → Fault
fault_of Empty = fault.MissingNumber
fault_of NotDigits = fault.NotNumber
fault_of TooLarge = fault.TooLarge

-- a line that may be read: text that does not end in a carriage return
pub record Clean (line : List ℕ) : Type 0 where
  pub text : IsUtf8 line
  pub ended : 0 < length line → slice_index line (length line - 1) ≢ 13

-- what is wrong, in words
abbrev pub fault_text : Fault → List ℕ
fault_text fault.NotText = codes "not text"
fault_text fault.CarriageReturn = codes "carriage return at the end of the line"
fault_text fault.ControlCharacter = codes "control character"
fault_text fault.UnknownWord = codes "unknown word"
fault_text fault.MissingWord = codes "missing word"
fault_text fault.MissingNumber = codes "missing number"
fault_text fault.ExtraWord = codes "extra word"
fault_text fault.NotNumber = codes "not a number"
fault_text fault.TooLarge = codes "number too large"
fault_text (fault.NoAccount n) = codes "no account " ++ decimal n
fault_text (fault.NoBond n) = codes "no bond " ++ decimal n
fault_text fault.OpeningAfterOpen = codes "opening line after open"

-- the same, with the word that is wrong between quotes
abbrev pub error_text : LineError → List ℕ
error_text e = elim e.word [ None ↦ fault_text e.fault | Some word ↦ fault_text e.fault ++ (codes " '" ++ (word.now ++ codes "'")) ]
