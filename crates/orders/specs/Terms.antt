-- What an order to borrow has to meet before its rows are looked at.
use Rattle.std.specs.Prelude.{◌+◌, Bool, not, List, [], ◌∷◌, ◌++◌, ◌==◌, nat_le}
use Rattle.terms.specs.Faces.{good_face}
use Rattle.terms.specs.Orders.{is_kind, kind_of, in_window}
use Rattle.terms.specs.Ranges.{inside}
use Rattle.terms.specs.Refusals.{refuse_order}
use Rattle.terms.specs.declared.order.Order.{Order}
use Rattle.terms.specs.declared.refusal.Refusal.{Refusal}
use Rattle.terms.specs.declared.refusal.Cause.TheVariants as cause
use Rattle.tables.specs.Accounts.{may_borrow}
use Rattle.records.specs.Kept.{no_member, no_bond, account_at, bond_at}
use Rattle.orders.specs.declared.terms_of.Terms.{Terms}
use Rattle.records.specs.declared.kept.Records.{Records}

-- who borrows, and the face of the bond that is borrowed
abbrev pub lent_rules : Records → Order → List (Bool × Refusal)
lent_rules k o =
    (no_member o.borrower, refuse_order cause.Account o.borrower)
    ∷ (not (may_borrow (account_at k o.borrower).right), refuse_order cause.Right o.borrower)
    ∷ (no_bond o.bond, refuse_order cause.Bond 0)
    ∷ (not (good_face o.face (bond_at k o.bond).unit), refuse_order cause.Face 0)
    ∷ (((bond_at k o.bond).adjustment == 0), refuse_order cause.Eligibility 0)
    ∷ []

-- when it comes, for how long, and how many rows back it
abbrev pub time_rules : Records → Order → List (Bool × Refusal)
time_rules k o =
    (not (is_kind o.kind), refuse_order cause.Figure 0)
    ∷ (not (in_window (kind_of o.kind) k.time.minute), refuse_order cause.Time 0)
    ∷ (not (inside 1 k.limits.longest_term o.term), refuse_order cause.Term 0)
    ∷ (nat_le (bond_at k o.bond).maturity (k.time.day + o.term), refuse_order cause.Maturity 0)
    ∷ (not (inside 1 4 o.count), refuse_order cause.Rows 0)
    ∷ []

abbrev pub terms_rules : Records → Order → List (Bool × Refusal)
terms_rules k o = lent_rules k o ++ time_rules k o

-- the terms of a loan by an order that meets them
abbrev pub terms_of : Records → Order → Terms
terms_of k o = record {
  borrower = o.borrower;
  bond = o.bond;
  face = o.face;
  term = o.term;
  due = k.time.day + o.term;
}
