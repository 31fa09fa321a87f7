-- What of a pool an order or a swap is judged by.
use Rattle.book.specs.Ledgers.{Ledger}
use Rattle.register.specs.Loans.{Loans}
use Rattle.records.specs.declared.kept.Records.{Records}

pub record View : Type 0 where
  pub bonds : Ledger
  pub records : Records
  pub loans : Loans

abbrev pub viewed : Ledger → Records → Loans → View
viewed bonds records loans = record { bonds = bonds; records = records; loans = loans }
