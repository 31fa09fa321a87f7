-- The kinds of order, and the minutes at which each may come, both ends included.
use Rattle.std.specs.Prelude.{ℕ, Bool, cond, ◌==◌, nat_le}
use Rattle.terms.specs.Ranges.{inside}
use Rattle.terms.specs.declared.order.OrderKind.{OrderKind}
use Rattle.terms.specs.declared.order.OrderKind.TheVariants.{Full, Net}

-- 0 full, 1 net; no other number is a kind
abbrev pub is_kind : ℕ → Bool
is_kind n = nat_le n 1

abbrev pub kind_of : ℕ → OrderKind
kind_of n = cond (n == 1) Net Full

abbrev pub in_window : OrderKind → ℕ → Bool
in_window Full minute = inside 540 1010 minute
in_window Net minute = inside 945 970 minute
