-- What a table of rules says: where no rule applies, of the refusal that it gives, and of two tables joined.
use Rattle.std.proofs.Common.{◌≡◌, ℕ, Bool, true, false, cond, List, [], ◌∷◌, ◌++◌, Some, None, Ok, Err, Option, Result, sym, refl, ap, ◌∙◌, arith}
use Rattle.terms.specs.Table.{first_of, answered}
use Rattle.terms.specs.Refusals.{well_named, WellNamed, Settles}
use Rattle.terms.specs.declared.refusal.Refusal.{Refusal}

-- no row's condition holds
abbrev pub NoneHolds : {R : Type 0} → List (Bool × R) → Type 0
NoneHolds [] = Unit {0}
NoneHolds (row ∷ rows) = (row.0 ≡ false) × NoneHolds rows

passed : {R : Type 0} (b : Bool) (x : R) (o : Option R) → cond b (Some x) o ≡ None → (b ≡ false) × (o ≡ None)
passed true x o e = let z : ◌≡◌ {A = ℕ} 0 1 = cc in absurd (omega arith)
passed false x o e = (refl, e)

pub none_holds : {R : Type 0} (rows : List (Bool × R)) → first_of rows ≡ None → NoneHolds rows
none_holds [] e = tt
none_holds (row ∷ rows) e =
    let p = passed row.0 row.1 (first_of rows) e in (p.0, none_holds rows p.1)

-- every row's refusal has a number from 1 to 20, at a layer where that number may stand
abbrev pub AllNamed : List (Bool × Refusal) → Type 0
AllNamed [] = Unit {0}
AllNamed (row ∷ rows) = (well_named row.1 ≡ true) × AllNamed rows

chosen_named : (b : Bool) (r : Refusal) (o : Option Refusal) → well_named r ≡ true → WellNamed o → WellNamed (cond b (Some r) o)
chosen_named true r o e w = e
chosen_named false r o e w = w

pub first_named : (rows : List (Bool × Refusal)) → AllNamed rows → WellNamed (first_of rows)
first_named [] a = tt
first_named (row ∷ rows) a = chosen_named row.0 row.1 (first_of rows) a.0 (first_named rows a.1)

-- an answer taken apart
pub was_accepted : {R X : Type 0} (v : Option R) (x y : X) → Ok y ≡ answered v x → (v ≡ None) × (y ≡ x)
was_accepted None x y e = (refl, cc)
was_accepted (Some r) x y e = let z : ◌≡◌ {A = ℕ} 0 1 = cc in absurd (omega arith)

pub was_refused : {R X : Type 0} (v : Option R) (x : X) (r : R) → Err r ≡ answered v x → v ≡ Some r
was_refused None x r e = let z : ◌≡◌ {A = ℕ} 0 1 = cc in absurd (omega arith)
was_refused (Some w) x r e = cc

pub accepts : {R X : Type 0} (v : Option R) (x y : X) → v ≡ None → y ≡ x → Ok y ≡ answered v x
accepts {R} v x y none same = ap Ok same ∙ ap (λ (w : Option R). answered w x) (sym none)

-- a check that was passed, and one that was not
abbrev pub Passed : List (Bool × Refusal) → Type 0
Passed rows = ◌≡◌ {A = Result (Unit {0}) Refusal} (Ok tt) (answered (first_of rows) tt)

abbrev pub Refused : List (Bool × Refusal) → Refusal → Type 0
Refused rows r = ◌≡◌ {A = Result (Unit {0}) Refusal} (Err r) (answered (first_of rows) tt)

-- two tables joined: the second decides where the first does not
joined_after : {R : Type 0} (b : Bool) (x : R) (o p q : Option R) → cond b (Some x) o ≡ None → (o ≡ None → p ≡ q) → cond b (Some x) p ≡ q
joined_after true x o p q e f = let z : ◌≡◌ {A = ℕ} 0 1 = cc in absurd (omega arith)
joined_after false x o p q e f = f e

joined_before : {R : Type 0} (b : Bool) (x r : R) (o p : Option R) → cond b (Some x) o ≡ Some r → (o ≡ Some r → p ≡ Some r) → cond b (Some x) p ≡ Some r
joined_before true x r o p e f = e
joined_before false x r o p e f = f e

pub first_after : {R : Type 0} (xs ys : List (Bool × R)) → first_of xs ≡ None → first_of (xs ++ ys) ≡ first_of ys
first_after [] ys e = refl
first_after (x ∷ xs) ys e = joined_after x.0 x.1 (first_of xs) (first_of (xs ++ ys)) (first_of ys) e (first_after xs ys)

pub first_before : {R : Type 0} (xs ys : List (Bool × R)) (r : R) → first_of xs ≡ Some r → first_of (xs ++ ys) ≡ Some r
first_before [] ys r e = let z : ◌≡◌ {A = ℕ} 0 1 = cc in absurd (omega arith)
first_before (x ∷ xs) ys r e = joined_before x.0 x.1 r (first_of xs) (first_of (xs ++ ys)) e (first_before xs ys r)

-- a check that comes first, refused and accepted
pub refused_before : {R X Y : Type 0} (xs ys : List (Bool × R)) (x : X) (y : Y) (r : R) → Err r ≡ answered (first_of xs) x → Err r ≡ answered (first_of (xs ++ ys)) y
refused_before {R} xs ys x y r e =
    ap (λ (v : Option R). answered v y) (sym (first_before xs ys r (was_refused (first_of xs) x r e)))

pub refused_after : {R X Y : Type 0} (xs ys : List (Bool × R)) (x : X) (y : Y) (r : R) → first_of xs ≡ None → Err r ≡ answered (first_of ys) x → Err r ≡ answered (first_of (xs ++ ys)) y
refused_after {R} xs ys x y r none e =
    ap (λ (v : Option R). answered v y) (sym (first_after xs ys none ∙ was_refused (first_of ys) x r e))

pub answered_after : {R X : Type 0} (xs ys : List (Bool × R)) (x : X) (r : Result X R) → first_of xs ≡ None → r ≡ answered (first_of ys) x → r ≡ answered (first_of (xs ++ ys)) x
answered_after {R} xs ys x r none e = e ∙ ap (λ (v : Option R). answered v x) (sym (first_after xs ys none))

-- where the joined tables refuse nothing, neither does
pub none_both : {R : Type 0} (xs ys : List (Bool × R)) → first_of (xs ++ ys) ≡ None → (first_of xs ≡ None) × (first_of ys ≡ None)
none_both [] ys e = (refl, e)
none_both (x ∷ xs) ys e =
    let p = passed x.0 x.1 (first_of (xs ++ ys)) e in
    let rest = none_both xs ys p.1 in
    (rw p.0 rest.0, rest.1)

-- what a call leaves, refused and accepted
pub refused_settles : {X S : Type 0} (v : Option Refusal) (x : X) (before accepted : S) (r : Refusal) → v ≡ Some r → Settles v x before accepted (Err r) before
refused_settles v x before accepted r e = rw e (record { answer = refl; table = refl })

pub accepted_settles : {X S : Type 0} (v : Option Refusal) (x y : X) (before accepted after : S) → v ≡ None → y ≡ x → after ≡ accepted → Settles v x before accepted (Ok y) after
accepted_settles v x y before accepted after e same made = rw e (record { answer = ap Ok same; table = made })
