-- A call whose answer and whose table are as the rules say is obeyed, and every life goes on by it.
use Rattle.std.proofs.Common.{◌≡◌, ℕ, List, Some, None, Err, Option, Result, sym, refl, ap, ◌∙◌, subst}
use Rattle.terms.specs.Table.{answered, settled}
use Rattle.terms.specs.Refusals.{refused, Settles, WellNamed}
use Rattle.terms.specs.declared.refusal.Refusal.{Refusal}
use Rattle.terms.specs.declared.call.Call.{Call}
use Rattle.pool.specs.State.{State, with_bonds, with_cash, with_kept}
use Rattle.pool.specs.Rules.{accepted, verdict, next}
use Rattle.pool.specs.Life.{called, LeadsTo}
use Rattle.pool.specs.Promises.{GoesOn, Obeys, PassesOn, handed}
use Rattle.pool.proofs.Laws.{law}
use Rattle.pool.proofs.Named.{verdict_named}
use Rattle.pool.proofs.Answered.{was_refused}
use Rattle.records.specs.declared.kept.Records.{Records}

goes_on : (s : State) (day : ℕ) (call : Call) (answer : Option Refusal) (t : State) → answer ≡ verdict s day call → t ≡ next s day call → GoesOn s day call answer t
goes_on s day call answer t e f h l =
    let l' : LeadsTo (called h day call answer) t = (s, (l, e, f)) in (l', law (called h day call answer) t l')

refused_answered : {X : Type 0} (v : Option Refusal) (x : X) → refused (answered v x) ≡ v
refused_answered None x = refl
refused_answered (Some r) x = refl

obeys : {X : Type 0} (s : State) (day : ℕ) (call : Call) (x : X) (r : Result X Refusal) (t : State) → r ≡ answered (verdict s day call) x → t ≡ next s day call → Obeys s day call x r t
obeys s day call x r t e f =
    let v : refused r ≡ verdict s day call = ap refused e ∙ refused_answered (verdict s day call) x in
    record {
      answer = e;
      after = f;
      named = subst WellNamed (sym v) (verdict_named s day call);
      life = goes_on s day call (refused r) t v f;
    }

-- a table settled by a verdict, put back into the state
settled_by : {A : Type 0} (put : A → State) (v : Option Refusal) (before after : A) → put (settled v before after) ≡ settled v (put before) (put after)
settled_by put None before after = refl
settled_by put (Some r) before after = refl

-- from the one part of the pool that the call can change
obeys_by : {A X : Type 0} (s : State) (day : ℕ) (call : Call) (x : X) (r : Result X Refusal) (put : A → State) (before made after : A) → put before ≡ s → accepted s call ≡ put made → Settles (verdict s day call) x before made r after → Obeys s day call x r (put after)
obeys_by s day call x r put before made after same k m =
    let v = verdict s day call in
    obeys s day call x r (put after) m.answer
    (ap put m.table ∙ (settled_by put v before made ∙ (ap (λ (u : State). settled v u (put made)) same ∙ ap (settled v s) (sym k))))

pub obeys_by_bonds : {X : Type 0} (s : State) (day : ℕ) (call : Call) (x : X) (r : Result X Refusal) (ys zs : List ℕ) → accepted s call ≡ with_bonds s ys → Settles (verdict s day call) x s.bonds.amounts ys r zs → Obeys s day call x r (with_bonds s zs)
obeys_by_bonds s day call x r ys zs k m = obeys_by s day call x r (with_bonds s) s.bonds.amounts ys zs refl k m

pub obeys_by_cash : {X : Type 0} (s : State) (day : ℕ) (call : Call) (x : X) (r : Result X Refusal) (ys zs : List ℕ) → accepted s call ≡ with_cash s ys → Settles (verdict s day call) x s.cash.amounts ys r zs → Obeys s day call x r (with_cash s zs)
obeys_by_cash s day call x r ys zs k m = obeys_by s day call x r (with_cash s) s.cash.amounts ys zs refl k m

pub obeys_by_records : {X : Type 0} (s : State) (day : ℕ) (call : Call) (x : X) (r : Result X Refusal) (k' k'' : Records) → accepted s call ≡ with_kept s k' → Settles (verdict s day call) x s.kept k' r k'' → Obeys s day call x r (with_kept s k'')
obeys_by_records s day call x r k' k'' k m = obeys_by s day call x r (with_kept s) s.kept k' k'' refl k m

-- a refused call hands the day that it took back with the refusal
pub passed_back : {D E : Type 0} (s : State) (day : ℕ) (call : Call) (old : D) (new : E) (refusal : Refusal) (t : State) → Obeys {X = Unit {0}} s day call tt (Err refusal) t → PassesOn s day call old new (Err (refusal, old)) t
passed_back s day call old new refusal t o =
    record {
      answer = sym (ap (λ v. handed v old new) (was_refused (verdict s day call) tt refusal o.answer));
      after = o.after;
      named = o.named;
      life = o.life;
    }
