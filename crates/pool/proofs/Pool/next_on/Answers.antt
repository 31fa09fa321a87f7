use Rattle.pool.specs.State.{state_of}
use Rattle.pool.proofs.Obeying.{passed_back}
use Rattle.pool.proofs.Pool.next_on.Goals as goal

pub returns-in-Err : goal.returns-in-Err
returns-in-Err g c =
    passed_back (state_of g.B.Book g.C.Book g.S.SharingRule c.args.self.now) c.args.shut.number _ c.args.shut (record { number = c.args.day }) c.in-Err.refusal _ c.in-Err.ensures
