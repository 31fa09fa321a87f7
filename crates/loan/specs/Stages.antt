-- The stages of a loan.
use Rattle.std.specs.Prelude.{ℕ, Bool, true, false, Some, None, Option}
use Rattle.loan.specs.declared.stage.Matter.TheVariants.{Quiet, Roll, Cash, Funded}
use Rattle.loan.specs.declared.stage.Stage.{Stage}
use Rattle.loan.specs.declared.stage.Stage.TheVariants.{Out, Back, Delivered}

abbrev pub is_out : Stage → Bool
is_out (Out matter) = true
is_out Back = false
is_out Delivered = false

-- out, and the house does not hold the cash for it
abbrev pub is_unfunded : Stage → Bool
is_unfunded (Out Quiet) = true
is_unfunded (Out (Roll term answered)) = true
is_unfunded (Out (Cash price answered)) = true
is_unfunded (Out (Funded price answered)) = false
is_unfunded Back = false
is_unfunded Delivered = false

-- the answers in the matter, one bit for each account; None where nothing is asked
abbrev pub answered_in : Stage → Option ℕ
answered_in (Out Quiet) = None
answered_in (Out (Roll term answered)) = Some answered
answered_in (Out (Cash price answered)) = Some answered
answered_in (Out (Funded price answered)) = Some answered
answered_in Back = None
answered_in Delivered = None

-- the stage once the day is shut: roll and cash matters lapse
abbrev pub lapsed : Stage → Stage
lapsed (Out Quiet) = Out Quiet
lapsed (Out (Roll term answered)) = Out Quiet
lapsed (Out (Cash price answered)) = Out Quiet
lapsed (Out (Funded price answered)) = Out (Funded price answered)
lapsed Back = Back
lapsed Delivered = Delivered
