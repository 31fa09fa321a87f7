-- Who of a loan's lenders is awaited.
use Rattle.std.specs.Prelude.{ℕ, zero, suc, ◌+◌, ◌/◌, ◌%◌, ◌^◌, Bool, cond, not, ◌&&◌, List, Some, None, Option, ◌==◌, nat_lt, slice_index}
use Rattle.loan.specs.Stages.{answered_in}
use Rattle.loan.specs.declared.kept.LoanRow.{LoanRow}
use Rattle.loan.specs.declared.question.Awaited.{Awaited}

-- the set, one bit for each account, holds an account
abbrev pub holds : ℕ → ℕ → Bool
holds set account = (set / 2 ^ account % 2) == 1

-- an account has a share above 0 and has not answered
abbrev pub waits : List ℕ → ℕ → ℕ → Bool
waits shares answered account = nat_lt 0 (slice_index shares account) && not (holds answered account)

-- how many of 0, 1, .., k - 1 pass p
unfoldable pub count : (ℕ → Bool) → ℕ → ℕ
count p zero = 0
count p (suc k) = cond (p 0) 1 0 + count (λ a. p (suc a)) k

abbrev pub one_on : Option ℕ → Option ℕ
one_on None = None
one_on (Some a) = Some (suc a)

-- the lowest of 0, 1, .., k - 1 that passes p
unfoldable pub lowest : (ℕ → Bool) → ℕ → Option ℕ
lowest p zero = None
lowest p (suc k) = cond (p 0) (Some 0) (one_on (lowest (λ a. p (suc a)) k))

-- of the 32 accounts
abbrev pub awaited_of : List ℕ → ℕ → Awaited
awaited_of shares answered = record { lowest = lowest (waits shares answered) 32; many = count (waits shares answered) 32 }

abbrev pub awaited_in : Option ℕ → List ℕ → Awaited
awaited_in None shares = record { lowest = None; many = 0 }
awaited_in (Some answered) shares = awaited_of shares answered

-- in a matter the lenders that have not answered; without one, nobody
abbrev pub asked : LoanRow → Awaited
asked row = awaited_in (answered_in row.stage) row.shares
