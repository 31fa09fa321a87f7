use Rattle.std.proofs.Common.{refl}
use Rattle.terms.specs.declared.call.Call.TheVariants.{Clock, Quota, Mode, Price, Deliver, Remit, Shut, Next}
use Rattle.pool.specs.State.{state_of}
use Rattle.pool.proofs.Obeying.{obeys_by_bonds, obeys_by_cash, obeys_by_records}
use Rattle.pool.proofs.Pool.make.Goals as goal

pub returns-in-Clock : goal.returns-in-Clock
returns-in-Clock g c =
    rw c.in-Clock.is (obeys_by_records (state_of g.B.Book g.C.Book g.S.SharingRule c.args.self.now) c.args.today (Clock c.in-Clock.minute) tt c.clock.result _ _ refl c.clock.ensures)

pub returns-in-Quota : goal.returns-in-Quota
returns-in-Quota g c =
    rw c.in-Quota.is (obeys_by_records (state_of g.B.Book g.C.Book g.S.SharingRule c.args.self.now) c.args.today (Quota c.in-Quota.account c.in-Quota.bond c.in-Quota.face) tt c.quota.result _ _ refl c.quota.ensures)

pub returns-in-Mode : goal.returns-in-Mode
returns-in-Mode g c =
    rw c.in-Mode.is (obeys_by_records (state_of g.B.Book g.C.Book g.S.SharingRule c.args.self.now) c.args.today (Mode c.in-Mode.account c.in-Mode.mode) tt c.mode.result _ _ refl c.mode.ensures)

pub returns-in-Price : goal.returns-in-Price
returns-in-Price g c =
    rw c.in-Price.is (obeys_by_records (state_of g.B.Book g.C.Book g.S.SharingRule c.args.self.now) c.args.today (Price c.in-Price.bond c.in-Price.price) tt c.price.result _ _ refl c.price.ensures)

pub returns-in-Deliver : goal.returns-in-Deliver
returns-in-Deliver g c =
    rw c.in-Deliver.is (obeys_by_bonds (state_of g.B.Book g.C.Book g.S.SharingRule c.args.self.now) c.args.today (Deliver c.in-Deliver.from c.in-Deliver.to c.in-Deliver.bond c.in-Deliver.face) tt c.deliver.result _ _ refl c.deliver.ensures)

pub returns-in-Remit : goal.returns-in-Remit
returns-in-Remit g c =
    rw c.in-Remit.is (obeys_by_cash (state_of g.B.Book g.C.Book g.S.SharingRule c.args.self.now) c.args.today (Remit c.in-Remit.from c.in-Remit.to c.in-Remit.fen) tt c.remit.result _ _ refl c.remit.ensures)

pub returns-in-Shut : goal.returns-in-Shut
returns-in-Shut g c =
    rw c.in-Shut.is (obeys_by_records (state_of g.B.Book g.C.Book g.S.SharingRule c.args.self.now) c.args.today Shut tt c.shut.result _ _ refl c.shut.ensures)

pub returns-in-Next : goal.returns-in-Next
returns-in-Next g c =
    rw c.in-Next.is (obeys_by_records (state_of g.B.Book g.C.Book g.S.SharingRule c.args.self.now) c.args.today (Next c.in-Next.day c.in-Next.r001) tt c.next.result _ _ refl c.next.ensures)
