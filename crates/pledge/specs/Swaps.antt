-- The refusals of a swap of a pledge row, in their order.
use Rattle.std.specs.Prelude.{ℕ, cond, Some, Option, nat_le, nat_lt}
use Rattle.terms.specs.Refusals.{refuse, refuse_order}
use Rattle.terms.specs.declared.refusal.Refusal.{Refusal}
use Rattle.terms.specs.declared.refusal.Cause.TheVariants as cause
use Rattle.terms.specs.declared.refusal.Layer.TheVariants as layer
use Rattle.pledge.specs.Rows.{worth_of, with_row}
use Rattle.pledge.specs.declared.rows.Pledge.{Pledge}
use Rattle.pledge.specs.declared.swap.Exchange.{Exchange}

-- rows of this worth: too little for what is needed, else what a later rule says
abbrev pub judged : ℕ → ℕ → Option Refusal → Option Refusal
judged worth needed later = cond (nat_lt worth needed) (Some (refuse cause.Value 0 layer.Worth)) later

-- first of all there is such a row
abbrev pub swapped : Exchange → Pledge → Option Refusal
swapped e pledge =
    cond (nat_le 4 e.row) (Some (refuse_order cause.Stage 0)) (judged (worth_of e.pricing.bonds.now e.pricing.multiplier (with_row pledge e.row e.new)) e.needed e.later)
