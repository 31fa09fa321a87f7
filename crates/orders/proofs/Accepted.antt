-- What an order is known to be once its terms are accepted.
use Rattle.std.proofs.Common.{◌≡◌, ◌<◌, ◌≤◌, true, None, arith}
use Rattle.std.proofs.lemmas.Bool.{not-false}
use Rattle.std.proofs.lemmas.Bool.Decides.{nat_tests}
use Rattle.terms.specs.Faces.{good_face}
use Rattle.terms.specs.Table.{first_of}
use Rattle.terms.specs.declared.order.Order.{Order}
use Rattle.terms.proofs.Rows.{none_holds}
use Rattle.records.specs.Kept.{bond_at}
use Rattle.orders.specs.Terms.{terms_rules}
use Rattle.records.specs.declared.kept.Records.{Records}

module _ (k : Records) (o : Order) where
  pub record TermsGood : Type 0 where
    pub borrower : o.borrower < 32
    pub bond : o.bond < 16
    pub face : good_face o.face (bond_at k o.bond).unit ≡ true
    pub small : o.face ≤ 1_000_000_000

  pub terms_good : first_of (terms_rules k o) ≡ None → TermsGood
  terms_good e =
      let h = none_holds (terms_rules k o) e in
      let member = h.0 in
      let bond = h.1.1.0 in
      let face : good_face o.face (bond_at k o.bond).unit ≡ true = not-false _ h.1.1.1.0 in
      record {
        borrower = grind (arith, nat_tests, member);
        bond = grind (arith, nat_tests, bond);
        face = face;
        small = grind (arith, nat_tests, face);
      }
