use Rattle.std.proofs.Common.{◌≡◌, drop}
use Rattle.pool.specs.State.{state_of}
use Rattle.life.specs.Lives.{HoldsDay, ended}
use Rattle.life.proofs.whole.run.Given as goal

-- the calls that are left lead from here to where all lead from the start
abbrev pub invariant-loop-call : goal.invariant-loop-call
invariant-loop-call g l =
    HoldsDay (state_of g.B.Book g.C.Book g.S.SharingRule l.pool) l.day × (ended (state_of g.B.Book g.C.Book g.S.SharingRule l.initial.pool) l.calls ≡ ended (state_of g.B.Book g.C.Book g.S.SharingRule l.pool) (drop l.call-index l.calls))
