use Rattle.std.proofs.Common.{◌≡◌, ◌++◌, length, take, drop}
use Rattle.share.specs.Shares.{first_shares}
use Rattle.share.proofs.first.FirstRuleSharingRule.share.Given as goal

-- what is written, and what the rule still gives of the rest, is the whole
abbrev pub invariant-loop-i : goal.invariant-loop-i
invariant-loop-i l = (length l.shares ≡ 32) × (take l.i l.shares ++ first_shares (drop l.i l.limits) l.left ≡ first_shares l.limits l.want)
