-- The law of a pool's life: what holds after every history, whatever the calls, their order and their numbers.
use Rattle.std.specs.Prelude.{◌≡◌, ℕ, ◌+◌, ◌<◌, length}
use Rattle.book.specs.Ledgers.{Ledger}
use Rattle.book.specs.Moves.{largest_amount}
use Rattle.pool.specs.State.{State}
use Rattle.pool.specs.Life.{History, holding, pledged_face, opening_bonds, delivered_in, delivered_out}

-- an account's holding of a bond is the opening one, plus what was delivered to it, less what it delivered
abbrev pub HoldingsKept : History → State → Type 0
HoldingsKept h s =
    (account bond : ℕ) → account < 32 → bond < 16 →
    holding s.bonds.amounts account bond + delivered_out h account bond ≡ holding (opening_bonds h) account bond + delivered_in h account bond

-- an account's pledged face of a bond is the opening one
abbrev pub PledgesKept : History → State → Type 0
PledgesKept h s =
    (account bond : ℕ) → account < 32 → bond < 16 →
    pledged_face s.bonds.amounts account bond ≡ pledged_face (opening_bonds h) account bond

-- the books keep their places and their largest amount, so that no move ever wants a place
abbrev pub BookStands : ℕ → Ledger → Type 0
BookStands places l = (length l.amounts ≡ places) × (l.most ≡ largest_amount)

pub record Law (h : History) (s : State) : Type 0 where
  pub holdings : HoldingsKept h s
  pub pledges : PledgesKept h s
  pub bond_places : BookStands 1024 s.bonds
  pub cash_places : BookStands 32 s.cash
