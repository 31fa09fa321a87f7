-- Loans as they are kept.
use Rattle.std.specs.Prelude.{◌≡◌, ◌^◌, ◌<◌, ◌≤◌, true, length, vec_capacity, All}
use Rattle.loan.specs.Kept.{is_sound}
use Rattle.loan.specs.declared.kept.LoanRow.{LoanRow}
use Rattle.register.specs.declared.Register.TheInside.{Inside}

-- there is room for as many rows as are ever kept, and the shares of every loan total its face
pub record IsKept (r : Inside) : Type 0 where
  pub counted : r.most < 2 ^ 16
  pub roomy : r.most ≤ vec_capacity r.rows
  pub few : length r.rows.items ≤ r.most
  pub sound : All (λ (row : LoanRow). is_sound row ≡ true) r.rows.items
