-- The law of a pool's life, by induction over histories: one clause for each call.
use Rattle.std.proofs.Common.{◌≡◌, ℕ, ◌+◌, ◌<◌, ◌≤◌, Bool, true, false, cond, not, ◌&&◌, ◌||◌, eqb, ◌≢◌, List, length, get_or, Some, None, Option, sym, refl, ap, ◌∙◌, subst, arith}
use Rattle.std.proofs.lemmas.Bool.Decides.{nat_tests}
use Rattle.terms.specs.Table.{settled}
use Rattle.terms.specs.declared.refusal.Refusal.{Refusal}
use Rattle.terms.specs.declared.call.Call.{Call}
use Rattle.terms.specs.declared.call.Call.TheVariants.{Clock, Quota, Mode, Price, Deliver, Remit, Shut, Next}
use Rattle.terms.proofs.Rows.{none_holds}
use Rattle.book.specs.Ledgers.{Ledger, fits}
use Rattle.book.specs.Moves.{moved}
use Rattle.book.specs.Places.{available, pledged}
use Rattle.book.proofs.Moving.{length_moved, moved_at}
use Rattle.pool.specs.Opening.{Opening, opening_rules, opening_verdict, opening_state}
use Rattle.pool.specs.State.{State}
use Rattle.pool.specs.Rules.{rules, accepted, verdict}
use Rattle.pool.specs.Life.{History, began, called, LeadsTo, available_face, pledged_face, holding, gets, gives, if_accepted}
use Rattle.pool.specs.Law.{HoldingsKept, PledgesKept, BookStands, Law}

-- what a move between the available places of two accounts does to both places of an account
module _ (xs : List ℕ) (from to b n account bond : ℕ) (hb : b < 16) (hbond : bond < 16)
    (hp : available from b < length xs) (hq : available to b < length xs) (apart : from ≢ to)
    (enough : n ≤ get_or xs (available from b) 0) where
  places_apart : available from b ≢ available to b
  places_apart = λ e. apart (omega arith)

  pub available_moved : available_face (moved xs (available from b) (available to b) n) account bond + cond (eqb from account && eqb b bond) n 0 ≡ available_face xs account bond + cond (eqb to account && eqb b bond) n 0
  available_moved =
      let x = moved_at xs (available from b) (available to b) n (available account bond) hp hq places_apart enough in
      let s : eqb (available from b) (available account bond) ≡ (eqb from account && eqb b bond) = grind (arith, nat_tests) in
      let t : eqb (available to b) (available account bond) ≡ (eqb to account && eqb b bond) = grind (arith, nat_tests) in
      rw (s, t) at x

  pub pledged_moved : pledged_face (moved xs (available from b) (available to b) n) account bond ≡ pledged_face xs account bond
  pledged_moved =
      let x = moved_at xs (available from b) (available to b) n (pledged account bond) hp hq places_apart enough in
      let s : eqb (available from b) (pledged account bond) ≡ false = grind (arith, nat_tests) in
      let t : eqb (available to b) (pledged account bond) ≡ false = grind (arith, nat_tests) in
      let y = rw (s, t) at x in
      omega arith

-- what an accepted delivery is known to meet
pub record Delivers (s : State) (from to b face : ℕ) : Type 0 where
  pub bond : b < 16
  pub source : available from b < length s.bonds.amounts
  pub target : available to b < length s.bonds.amounts
  pub apart : from ≢ to
  pub enough : face ≤ get_or s.bonds.amounts (available from b) 0

delivers : (s : State) (day from to b face : ℕ) → verdict s day (Deliver from to b face) ≡ None → BookStands 1024 s.bonds → Delivers s from to b face
delivers s day from to b face e stands =
    let f = none_holds (rules s day (Deliver from to b face)) e in
    let f1 = f.1.0 in
    let f2 = f.1.1.0 in
    let f3 = f.1.1.1.0 in
    let f5 = f.1.1.1.1.1.0 in
    let small : b < 16 = grind (arith, nat_tests) in
    let giver : from < 32 = grind (arith, nat_tests) in
    let taker : to < 32 = grind (arith, nat_tests) in
    let places = stands.0 in
    record {
      bond = small;
      source = omega arith;
      target = omega arith;
      apart = λ (same : from ≡ to). grind (arith, nat_tests);
      enough = grind (arith, nat_tests);
    }

-- one call, at the refusal v that the rules give
holdings_by : (s : State) (day : ℕ) (call : Call) (v : Option Refusal) → verdict s day call ≡ v → BookStands 1024 s.bonds → (account bond : ℕ) → bond < 16 → holding (settled v s (accepted s call)).bonds.amounts account bond + if_accepted v (gives call account bond) ≡ holding s.bonds.amounts account bond + if_accepted v (gets call account bond)
holdings_by s day call (Some r) e p account bond h = refl
holdings_by s day (Clock minute) None e p account bond h = refl
holdings_by s day (Quota a b face) None e p account bond h = refl
holdings_by s day (Mode a mode) None e p account bond h = refl
holdings_by s day (Price b price) None e p account bond h = refl
holdings_by s day (Deliver from to b face) None e p account bond h =
    let d = delivers s day from to b face e p in
    let x = available_moved s.bonds.amounts from to b face account bond d.bond h d.source d.target d.apart d.enough in
    let y = pledged_moved s.bonds.amounts from to b face account bond d.bond h d.source d.target d.apart d.enough in
    omega arith
holdings_by s day (Remit from to fen) None e p account bond h = refl
holdings_by s day Shut None e p account bond h = refl
holdings_by s day (Next number r001) None e p account bond h = refl

pledges_by : (s : State) (day : ℕ) (call : Call) (v : Option Refusal) → verdict s day call ≡ v → BookStands 1024 s.bonds → (account bond : ℕ) → bond < 16 → pledged_face (settled v s (accepted s call)).bonds.amounts account bond ≡ pledged_face s.bonds.amounts account bond
pledges_by s day call (Some r) e p account bond h = refl
pledges_by s day (Clock minute) None e p account bond h = refl
pledges_by s day (Quota a b face) None e p account bond h = refl
pledges_by s day (Mode a mode) None e p account bond h = refl
pledges_by s day (Price b price) None e p account bond h = refl
pledges_by s day (Deliver from to b face) None e p account bond h =
    let d = delivers s day from to b face e p in
    pledged_moved s.bonds.amounts from to b face account bond d.bond h d.source d.target d.apart d.enough
pledges_by s day (Remit from to fen) None e p account bond h = refl
pledges_by s day Shut None e p account bond h = refl
pledges_by s day (Next number r001) None e p account bond h = refl

-- a call keeps the places and the largest amounts
abbrev pub BooksStand : State → Type 0
BooksStand s = BookStands 1024 s.bonds × BookStands 32 s.cash

books_by : (s : State) (call : Call) (v : Option Refusal) → BooksStand s → BooksStand (settled v s (accepted s call))
books_by s call (Some r) p = p
books_by s (Clock minute) None p = p
books_by s (Quota a b face) None p = p
books_by s (Mode a mode) None p = p
books_by s (Price b price) None p = p
books_by s (Deliver from to b face) None p =
    ((length_moved s.bonds.amounts (available from b) (available to b) face ∙ p.0.0, p.0.1), p.1)
books_by s (Remit from to fen) None p =
    (p.0, (length_moved s.cash.amounts from to fen ∙ p.1.0, p.1.1))
books_by s Shut None p = p
books_by s (Next number r001) None p = p

book_fits : (places : ℕ) (l : Ledger) → fits places l ≡ true → BookStands places l
book_fits places l e = (grind (arith, nat_tests), grind (arith, nat_tests))

both_true : (a b : Bool) → (not a || not b) ≡ false → (a ≡ true) × (b ≡ true)
both_true true true e = (refl, refl)
both_true true false e = let z : ◌≡◌ {A = ℕ} 0 1 = cc in absurd (omega arith)
both_true false b e = let z : ◌≡◌ {A = ℕ} 0 1 = cc in absurd (omega arith)

opened_books : (o : Opening) → opening_verdict o ≡ None → BooksStand (opening_state o)
opened_books o e =
    let f = (none_holds (opening_rules o.bonds o.cash o.figures) e).0 in
    let fit = both_true (fits 1024 o.bonds) (fits 32 o.cash) f in
    (book_fits 1024 o.bonds fit.0, book_fits 32 o.cash fit.1)

pub books_stand : (h : History) (s : State) → LeadsTo h s → BooksStand s
books_stand (began o) s l = subst BooksStand (sym l.1) (opened_books o l.0)
books_stand (called h day call answer) s l =
    subst BooksStand (sym l.1.2) (books_by l.0 call (verdict l.0 day call) (books_stand h l.0 l.1.0))

pub holdings_kept : (h : History) (s : State) → LeadsTo h s → HoldingsKept h s
holdings_kept (began o) s l account bond ha hb = ap (λ (t : State). holding t.bonds.amounts account bond + 0) l.1
holdings_kept (called h day call answer) s l account bond ha hb =
    let t = l.0 in
    let i = holdings_kept h t l.1.0 account bond ha hb in
    let k = holdings_by t day call (verdict t day call) refl (books_stand h t l.1.0).0 account bond hb in
    let k' : holding s.bonds.amounts account bond + if_accepted answer (gives call account bond) ≡ holding t.bonds.amounts account bond + if_accepted answer (gets call account bond) =
    rw (l.1.1, l.1.2) k
    in
    omega arith

pub pledges_kept : (h : History) (s : State) → LeadsTo h s → PledgesKept h s
pledges_kept (began o) s l account bond ha hb = ap (λ (t : State). pledged_face t.bonds.amounts account bond) l.1
pledges_kept (called h day call answer) s l account bond ha hb =
    let t = l.0 in
    ap (λ (u : State). pledged_face u.bonds.amounts account bond) l.1.2 ∙ (pledges_by t day call (verdict t day call) refl (books_stand h t l.1.0).0 account bond hb ∙ pledges_kept h t l.1.0 account bond ha hb)

pub law : (h : History) (s : State) → LeadsTo h s → Law h s
law h s l =
    let b = books_stand h s l in
    record {
      holdings = holdings_kept h s l;
      pledges = pledges_kept h s l;
      bond_places = b.0;
      cash_places = b.1;
    }
