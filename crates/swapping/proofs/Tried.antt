-- From the checks of a swap and the trial of its value to what it answers and leaves.
use Rattle.std.proofs.Common.{◌≡◌, ℕ, ◌<◌, Bool, true, false, cond, not, ltb, leb, List, ◌∷◌, ◌++◌, Some, None, Ok, Err, Option, Result, sym, refl, ap, ◌∙◌, subst, ap₂, arith}
use Rattle.std.proofs.lemmas.Bool.Decides.{nat_tests}
use Rattle.terms.specs.Refusals.{Settles, refuse, refuse_order}
use Rattle.terms.specs.Table.{first_of, answered, settled}
use Rattle.terms.specs.declared.order.OrderRow.{OrderRow}
use Rattle.terms.specs.declared.refusal.Cause.TheVariants as cause
use Rattle.terms.specs.declared.refusal.Layer.TheVariants as layer
use Rattle.terms.specs.declared.refusal.Refusal.{Refusal}
use Rattle.terms.proofs.Rows.{Passed, Refused, was_accepted, was_refused, first_after, first_before, refused_settles, accepted_settles}
use Rattle.moves.specs.Many.{after_moves}
use Rattle.lending.specs.View.{View}
use Rattle.records.specs.Times.{not_open}
use Rattle.pledge.specs.Rows.{worth_of, with_row}
use Rattle.pledge.specs.Swaps.{judged}
use Rattle.pledge.specs.declared.rows.PledgeRow.{PledgeRow}
use Rattle.loan.specs.declared.kept.LoanRow.{LoanRow}
use Rattle.register.specs.Loans.{Loans, no_such_loan, loan_at, with_pledge}
use Rattle.orders.specs.Rows.{row_rules, row_of}
use Rattle.orders.specs.declared.terms_of.Terms.{Terms}
use Rattle.tables.specs.declared.bond.Bond.{Bond}
use Rattle.pledge.specs.declared.rows.Pledge.{Pledge}
use Rattle.worth.specs.Cover.{multiplier_at, needed_for, covered}
use Rattle.swapping.specs.Swaps.{terms_in, loan_rules, place_rules, kept_rules, swap_rules, swap_moves, exchanged, SwappedIn, Swapped}

-- a row as an order tells it
abbrev told : PledgeRow → OrderRow
told row = record { bond = row.bond; face = row.face }

-- why a row is refused by a pledge, as its exchange says it
abbrev swapped : List Bond → ℕ → Pledge → ℕ → PledgeRow → ℕ → Option Refusal → Option Refusal
swapped bonds multiplier pledge i new needed later =
    cond (leb 4 i) (Some (refuse_order cause.Stage 0)) (judged (worth_of bonds multiplier (with_row pledge i new)) needed later)

-- there is a row i, so only the value stands before the later rules
tried : (i worth needed : ℕ) (stage value : Refusal) (later : Option Refusal) → i < 4 → cond (leb 4 i) (Some stage) (cond (ltb worth needed) (Some value) later) ≡ cond (not (leb needed worth)) (Some value) later
tried i worth needed stage value later h =
    let there : leb 4 i ≡ false = grind (arith, nat_tests) in
    let less : ltb worth needed ≡ not (leb needed worth) = grind (arith, nat_tests) in
    rw (there, less)

module _ (v : View) (n i : ℕ) (l : LoanRow) (new : OrderRow) where
  -- what the swap makes of the book and the loans, and what it leaves where it is refused
  abbrev before : List ℕ × Loans
  before = (v.bonds.amounts, v.loans)

  abbrev after : List ℕ × Loans
  after = exchanged v n i new

  abbrev rows : List (Bool × Refusal)
  rows = row_rules v.bonds v.records (terms_in l) l.pledge i new

  abbrev last : List (Bool × Refusal)
  last =
      (not (covered v.records (terms_in l) l.dues.rate (with_row l.pledge i (row_of new))), refuse cause.Value 0 layer.Worth) ∷ place_rules v l i new

  pub loan_refused : (r : Refusal) → Refused (loan_rules v.records l i) r → Settles {X = Unit {0}} (first_of (kept_rules v l i new)) tt before after (Err r) before
  loan_refused r e =
      refused_settles (first_of (kept_rules v l i new)) tt before after r (first_before (loan_rules v.records l i) (rows ++ last) r (was_refused (first_of (loan_rules v.records l i)) tt r e))

  module _ (t : Terms) (terms : t ≡ terms_in l) (passed : Passed (loan_rules v.records l i)) where
    past_loan : first_of (loan_rules v.records l i) ≡ None
    past_loan = (was_accepted (first_of (loan_rules v.records l i)) tt tt passed).0

    pub row_refused : (r : Refusal) → Err r ≡ answered (first_of (row_rules v.bonds v.records t l.pledge i new)) (row_of new) → Settles {X = Unit {0}} (first_of (kept_rules v l i new)) tt before after (Err r) before
    row_refused r e =
        let e' = subst (λ (x : Terms). Err r ≡ answered (first_of (row_rules v.bonds v.records x l.pledge i new)) (row_of new)) terms e in
        refused_settles (first_of (kept_rules v l i new)) tt before after r (first_after (loan_rules v.records l i) (rows ++ last) past_loan ∙ first_before rows last r (was_refused (first_of rows) (row_of new) r e'))

    -- the verdict of the trial is that of the rules
    module _ (row : PledgeRow) (fits : Ok row ≡ answered (first_of (row_rules v.bonds v.records t l.pledge i new)) (row_of new)) (used : i < 4) (there : no_such_loan v.loans n ≡ false) (same : l ≡ loan_at v.loans n) where
      past_rows : (first_of rows ≡ None) × (row ≡ row_of new)
      past_rows =
          was_accepted (first_of rows) (row_of new) row (subst (λ (x : Terms). Ok row ≡ answered (first_of (row_rules v.bonds v.records x l.pledge i new)) (row_of new)) terms fits)

      abbrev trial : ℕ → ℕ → Option Refusal → Option Refusal
      trial multiplier needed later =
          cond (no_such_loan v.loans n) (Some (refuse_order cause.Loan 0)) (swapped v.records.bonds multiplier (loan_at v.loans n).pledge i row needed later)

      verdict : (multiplier needed : ℕ) (later : Option Refusal) → multiplier ≡ multiplier_at v.records l.borrower → needed ≡ needed_for v.records t l.dues.rate → later ≡ first_of (place_rules v l i (told row)) → trial multiplier needed later ≡ first_of (kept_rules v l i new)
      verdict multiplier needed later m w p =
          let rate = l.dues.rate in
          let pledge = with_row l.pledge i (row_of new) in
          let most : ℕ = multiplier_at v.records l.borrower in
          let w' : needed ≡ needed_for v.records (terms_in l) rate = w ∙ ap (λ (x : Terms). needed_for v.records x rate) terms in
          let p' : later ≡ first_of (place_rules v l i new) =
          p ∙ ap (λ (x : PledgeRow). first_of (place_rules v l i (told x))) past_rows.1
          in
          let whole : trial multiplier needed later ≡ swapped v.records.bonds most l.pledge i (row_of new) (needed_for v.records (terms_in l) rate) (first_of (place_rules v l i new)) =
          rw (there, ← same, m, w', p', past_rows.1)
          in
          whole
          ∙ tried i (worth_of v.records.bonds most pledge) (needed_for v.records (terms_in l) rate) (refuse_order cause.Stage 0) (refuse cause.Value 0 layer.Worth) (first_of (place_rules v l i new)) used
          ∙ sym (first_after (loan_rules v.records l i) (rows ++ last) past_loan ∙ first_after rows last past_rows.0)

      module _ (multiplier needed : ℕ) (later : Option Refusal) (m : multiplier ≡ multiplier_at v.records l.borrower) (w : needed ≡ needed_for v.records t l.dues.rate) (p : later ≡ first_of (place_rules v l i (told row))) (loans' : Loans) where
        pub trial_refused : (r : Refusal) → Settles {X = Unit {0}} (trial multiplier needed later) tt v.loans (with_pledge v.loans n (with_row (loan_at v.loans n).pledge i row)) (Err r) loans' → Settles {X = Unit {0}} (first_of (kept_rules v l i new)) tt before after (Err r) (v.bonds.amounts, loans')
        trial_refused r s =
            let u = was_refused (trial multiplier needed later) tt r s.answer in
            let kept : loans' ≡ v.loans = s.table ∙ ap (λ (o : Option Refusal). settled o v.loans (with_pledge v.loans n (with_row (loan_at v.loans n).pledge i row))) u in
            rw kept (refused_settles (first_of (kept_rules v l i new)) tt before after r (sym (verdict multiplier needed later m w p) ∙ u))

        pub trial_made : (ys : List ℕ) → Settles {X = Unit {0}} (trial multiplier needed later) tt v.loans (with_pledge v.loans n (with_row (loan_at v.loans n).pledge i row)) (Ok tt) loans' → ys ≡ after_moves v.bonds.most v.bonds.amounts (swap_moves l i (told row)) → Settles {X = Unit {0}} (first_of (kept_rules v l i new)) tt before after (Ok tt) (ys, loans')
        trial_made ys s moved =
            let u = (was_accepted (trial multiplier needed later) tt tt s.answer).0 in
            let kept : loans' ≡ with_pledge v.loans n (with_row (loan_at v.loans n).pledge i row) =
            s.table ∙ ap (λ (o : Option Refusal). settled o v.loans (with_pledge v.loans n (with_row (loan_at v.loans n).pledge i row))) u
            in
            let kept' : loans' ≡ with_pledge v.loans n (with_row (loan_at v.loans n).pledge i (row_of new)) =
            kept ∙ ap (λ (x : PledgeRow). with_pledge v.loans n (with_row (loan_at v.loans n).pledge i x)) past_rows.1
            in
            let moved' : ys ≡ after_moves v.bonds.most v.bonds.amounts (swap_moves (loan_at v.loans n) i new) =
            moved
            ∙ ap (λ (x : PledgeRow). after_moves v.bonds.most v.bonds.amounts (swap_moves l i (told x))) past_rows.1
            ∙ ap (λ (x : LoanRow). after_moves v.bonds.most v.bonds.amounts (swap_moves x i new)) same
            in
            accepted_settles (first_of (kept_rules v l i new)) tt tt before after (ys, loans') (sym (verdict multiplier needed later m w p) ∙ u) refl (ap₂ {C = List ℕ × Loans} (λ a b. (a, b)) moved' kept')

-- whether there is such a loan
none_is : (b : Bool) (x : LoanRow) → None ≡ cond b None (Some x) → b ≡ true
none_is true x e = refl
none_is false x e = let z : ◌≡◌ {A = ℕ} 0 1 = cc in absurd (omega arith)

found_is : (b : Bool) (x y : LoanRow) → Some y ≡ cond b None (Some x) → (b ≡ false) × (y ≡ x)
found_is true x y e = let z : ◌≡◌ {A = ℕ} 0 1 = cc in absurd (omega arith)
found_is false x y e = (refl, cc)

module _ (v : View) (day n i : ℕ) (new : OrderRow) (r : Result (Unit {0}) Refusal) (end : List ℕ × Loans) where
  pub not_today : true ≡ not_open v.records day → r ≡ Err (refuse_order cause.Time 0) → end ≡ (v.bonds.amounts, v.loans) → Swapped v day n i new r end
  unfolding Swapped
  not_today e a t =
      rw (a, t) (refused_settles (first_of (swap_rules v day n i new)) tt (v.bonds.amounts, v.loans) (exchanged v n i new) (refuse_order cause.Time 0) (rw (← e)))

  pub not_there : false ≡ not_open v.records day → None ≡ cond (no_such_loan v.loans n) None (Some (loan_at v.loans n)) → r ≡ Err (refuse_order cause.Loan 0) → end ≡ (v.bonds.amounts, v.loans) → Swapped v day n i new r end
  unfolding Swapped
  not_there today e a t =
      rw (a, t) (refused_settles (first_of (swap_rules v day n i new)) tt (v.bonds.amounts, v.loans) (exchanged v n i new) (refuse_order cause.Loan 0) (rw (← today, none_is (no_such_loan v.loans n) (loan_at v.loans n) e)))

  pub on_day : (l row : LoanRow) → false ≡ not_open v.records day → Some l ≡ cond (no_such_loan v.loans n) None (Some (loan_at v.loans n)) → row ≡ l → SwappedIn v row n i new r end → Swapped v day n i new r end
  unfolding Swapped SwappedIn
  on_day l row today there is s =
      let f = found_is (no_such_loan v.loans n) (loan_at v.loans n) l there in
      let same : row ≡ loan_at v.loans n = is ∙ f.1 in
      let u : first_of (swap_rules v day n i new) ≡ first_of (kept_rules v row i new) = rw (← today, f.0, same) in
      rw u s
