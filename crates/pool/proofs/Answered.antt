-- An answer taken apart: what the verdict was.
use Rattle.std.proofs.Common.{◌≡◌, ℕ, Some, None, Ok, Err, Option, refl, arith}
use Rattle.terms.specs.Table.{answered}
use Rattle.terms.specs.declared.refusal.Refusal.{Refusal}

pub was_accepted : {X : Type 0} (v : Option Refusal) (x y : X) → Ok y ≡ answered v x → (v ≡ None) × (y ≡ x)
was_accepted None x y e = (refl, cc)
was_accepted (Some r) x y e = let z : ◌≡◌ {A = ℕ} 0 1 = cc in absurd (omega arith)

pub was_refused : {X : Type 0} (v : Option Refusal) (x : X) (r : Refusal) → Err r ≡ answered v x → v ≡ Some r
was_refused None x r e = let z : ◌≡◌ {A = ℕ} 0 1 = cc in absurd (omega arith)
was_refused (Some w) x r e = cc
