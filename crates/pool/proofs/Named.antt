-- Every refusal that the rules give has a number from 1 to 20, at a layer where that number may stand.
use Rattle.std.proofs.Common.{ℕ, refl}
use Rattle.terms.specs.Refusals.{WellNamed}
use Rattle.terms.specs.declared.call.Call.{Call}
use Rattle.terms.specs.declared.call.Call.TheVariants.{Clock, Quota, Mode, Price, Deliver, Remit, Shut, Next}
use Rattle.terms.proofs.Rows.{AllNamed, first_named}
use Rattle.pool.specs.Opening.{Opening, opening_rules, opening_verdict}
use Rattle.pool.specs.State.{State}
use Rattle.pool.specs.Rules.{rules, verdict}

all_named : (s : State) (day : ℕ) (call : Call) → AllNamed (rules s day call)
all_named s day (Clock minute) = (refl, (refl, tt))
all_named s day (Quota account bond face) = (refl, (refl, (refl, (refl, (refl, (refl, tt))))))
all_named s day (Mode account mode) = (refl, (refl, (refl, (refl, tt))))
all_named s day (Price bond price) = (refl, (refl, (refl, tt)))
all_named s day (Deliver from to bond face) = (refl, (refl, (refl, (refl, (refl, (refl, (refl, tt)))))))
all_named s day (Remit from to fen) = (refl, (refl, (refl, (refl, (refl, (refl, tt))))))
all_named s day Shut = (refl, (refl, tt))
all_named s day (Next number r001) = (refl, (refl, (refl, tt)))

pub verdict_named : (s : State) (day : ℕ) (call : Call) → WellNamed (verdict s day call)
verdict_named s day call = first_named (rules s day call) (all_named s day call)

pub opening_named : (o : Opening) → WellNamed (opening_verdict o)
opening_named o =
    first_named (opening_rules o.bonds o.cash o.figures) (refl, (refl, (refl, (refl, (refl, tt)))))
