-- What a pool is to be opened with: plain tables, and what each line of the opening makes of them.
use Rattle.std.specs.Prelude.{ℕ, leb, replicate, set, Bool, List, [], ◌∷◌, ◌++◌}
use Rattle.tables.specs.declared.account.AccountFigures.{AccountFigures}
use Rattle.tables.specs.declared.bond.BondFigures.{BondFigures}
use Rattle.records.specs.declared.opening.Figures.{Figures}
use Rattle.book.specs.Places.{available, pledged}
use Rattle.script.specs.declared.fault.Fault.{Fault}
use Rattle.script.specs.declared.fault.Fault.TheVariants.{NoAccount, NoBond}
use Rattle.script.specs.declared.item.BookKind.{BookKind}
use Rattle.script.specs.declared.item.BookKind.TheVariants.{Standing}
use Rattle.script.specs.declared.item.RuleKind.{RuleKind}
use Rattle.script.specs.declared.item.RuleKind.TheVariants.{First}
use Rattle.script.specs.declared.item.Opening.{Opening}
use Rattle.script.specs.declared.item.OpeningPart.{OpeningPart}
use Rattle.script.specs.declared.item.OpeningPart.TheVariants as part

-- the kinds of the books, the rule, and the figures and amounts of the opening
pub record Plan : Type 0 where
  pub bond_book : BookKind
  pub cash_book : BookKind
  pub rule : RuleKind
  pub accounts : List AccountFigures
  pub bonds : List BondFigures
  pub stocks : List ℕ
  pub balances : List ℕ

-- n rows, all alike. It stays shut, so that no goal writes them out.
unfoldable pub every : {X : Type 0} → ℕ → X → List X
every n x = replicate n x

-- what stands where no line says otherwise
abbrev pub blank_plan : Plan
blank_plan = record {
  bond_book = Standing;
  cash_book = Standing;
  rule = First;
  accounts = every 32 (record { right = 0; grade = 0 });
  bonds = every 16 (record { unit = 1; price = 1; discount = 0; adjustment = 0; lent_limit = 0; pledge_limit = 0; maturity = 1 });
  stocks = every 1024 0;
  balances = every 32 0;
}

-- rows are numbered from 0, so row n is missing where there are no more than n
abbrev pub missing : ℕ → ℕ → Fault → List (Bool × Fault)
missing count n fault = (leb count n, fault) ∷ []

-- accounts are 0 to 31
abbrev pub account_faults : ℕ → List (Bool × Fault)
account_faults n = missing 32 n (NoAccount n)

-- bonds are 0 to 15
abbrev pub bond_faults : ℕ → List (Bool × Fault)
bond_faults n = missing 16 n (NoBond n)

-- what may be wrong with a line of the opening, the first fault first
abbrev pub part_faults : OpeningPart → List (Bool × Fault)
part_faults (part.Books b c) = []
part_faults (part.Rule r) = []
part_faults (part.Account a f) = account_faults a
part_faults (part.Bond b f) = bond_faults b
part_faults (part.Stock a b x y) = account_faults a ++ bond_faults b
part_faults (part.Balance a fen) = account_faults a

-- the plan after a line of the opening: only what the line speaks of has changed
abbrev pub planned : Plan → OpeningPart → Plan
planned p (part.Books b c) = record p { bond_book = b; cash_book = c }
planned p (part.Rule r) = record p { rule = r }
planned p (part.Account a f) = record p { accounts = set p.accounts a f }
planned p (part.Bond b f) = record p { bonds = set p.bonds b f }
planned p (part.Stock a b x y) = record p { stocks = set (set p.stocks (available a b) x) (pledged a b) y }
planned p (part.Balance a fen) = record p { balances = set p.balances a fen }

-- the figures of a plan, with those of the line that opens the pool
abbrev pub figures_of : Plan → Opening → Figures
figures_of p o = record {
  accounts = p.accounts;
  bonds = p.bonds;
  longest_term = o.longest_term;
  most_loans = o.most_loans;
  loan_rows = o.loan_rows;
  day = o.day;
  r001 = o.r001;
}
