-- The words that name a kind of book or of rule.
use Rattle.std.specs.Prelude.{ℕ, cond, List, codes, Ok, Err, Result}
use Rattle.std.specs.Str.{bytes_eq}
use Rattle.script.specs.declared.fault.Fault.{Fault}
use Rattle.script.specs.declared.fault.Fault.TheVariants.{UnknownWord}
use Rattle.script.specs.declared.item.BookKind.{BookKind}
use Rattle.script.specs.declared.item.BookKind.TheVariants.{Standing, Netting}
use Rattle.script.specs.declared.item.RuleKind.{RuleKind}
use Rattle.script.specs.declared.item.RuleKind.TheVariants.{First, Even}

-- the first of two kinds by its word, the second by its own, and no other word names any
abbrev pub named_by : {K : Type 0} → List ℕ → K → List ℕ → K → List ℕ → Result K Fault
named_by a x b y word = cond (bytes_eq word a) (Ok x) (cond (bytes_eq word b) (Ok y) (Err UnknownWord))

-- the kind of book that a word reads as
abbrev pub book_kind : List ℕ → Result BookKind Fault
book_kind word = named_by (codes "standing") Standing (codes "netting") Netting word

-- the kind of rule that a word reads as
abbrev pub rule_kind : List ℕ → Result RuleKind Fault
rule_kind word = named_by (codes "first") First (codes "even") Even word
