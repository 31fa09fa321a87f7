-- Moves that are judged together: where no place is short or over by all of them, each is made.
use Rattle.std.proofs.Common.{◌≡◌, ℕ, ◌+◌, ◌<◌, ◌≤◌, true, cond, eqb, ◌≢◌, List, [], ◌∷◌, length, get_or, Some, None, Option, sym, refl, ap, ◌∙◌, ⊎_elim, arith}
use Rattle.std.proofs.lemmas.List.{get_or_past}
use Rattle.std.proofs.lemmas.Bool.{cases_lt}
use Rattle.std.proofs.lemmas.Bool.Decides.{nat_tests}
use Rattle.terms.specs.Table.{settled}
use Rattle.book.specs.Moves.{refusal, moved}
use Rattle.book.specs.declared.refusal.MoveRefusal.{MoveRefusal}
use Rattle.book.proofs.Moving.{accepted, accepted_only, length_moved, moved_at}
use Rattle.moves.specs.Many.{Move, after_move, after_moves, leaves, reaches}

-- what the moves of a call have to meet, taken together
pub record Together (most : ℕ) (xs : List ℕ) (ms : List Move) : Type 0 where
  -- no place both gives and takes
  pub apart : (k : ℕ) → 0 < leaves ms k → reaches ms k ≡ 0
  -- no place gives more than it holds
  pub enough : (k : ℕ) → leaves ms k ≤ get_or xs k 0
  -- no place takes more than it has room for
  pub room : (k : ℕ) → 0 < reaches ms k → (k < length xs) × (get_or xs k 0 + reaches ms k ≤ most)

there : (xs : List ℕ) (p : ℕ) → 0 < get_or xs p 0 → p < length xs
there xs p some =
    ⊎_elim
    (λ (h : p < length xs). h)
    (λ (past : length xs ≤ p). let none = get_or_past xs p 0 past in let z : ⊥ = omega arith in absurd z)
    (cases_lt p (length xs))

-- a move of nothing changes no amount
none_moved : (most : ℕ) (xs : List ℕ) (p q : ℕ) (v : Option MoveRefusal) → refusal most xs p q 0 ≡ v → (length (settled v xs (moved xs p q 0)) ≡ length xs) × ((k : ℕ) → get_or (settled v xs (moved xs p q 0)) k 0 ≡ get_or xs k 0)
none_moved most xs p q (Some r) e = (refl, λ k. refl)
none_moved most xs p q None e =
    let a = accepted_only most xs p q 0 e in (
      length_moved xs p q 0,
      λ k.
          let x = moved_at xs p q 0 k a.0 a.1 a.2 a.3 in
          grind (arith, nat_tests),
    )

-- the first of moves that go together goes, and leaves the others together
module _ (most : ℕ) (xs : List ℕ) (m : Move) (ms : List Move) (t : Together most xs (m ∷ ms)) where
  here : (some : 0 < m.amount) → (refusal most xs m.source m.target m.amount ≡ None) × (m.source ≢ m.target) × (m.source < length xs) × (m.target < length xs) × (m.amount ≤ get_or xs m.source 0)
  here some =
      let own : eqb m.source m.source ≡ true = grind (arith, nat_tests) in
      let own' : eqb m.target m.target ≡ true = grind (arith, nat_tests) in
      let e = rw own at (t.enough m.source) in
      let a : reaches (m ∷ ms) m.source ≡ 0 = t.apart m.source (rw own (omega arith)) in
      let ne : m.source ≢ m.target = λ (same : m.source ≡ m.target). let b = rw (sym same, own) at a in omega arith in
      let r = t.room m.target (rw own' (omega arith)) in
      let r' = rw own' at r.1 in
      let h = there xs m.source (omega arith) in
      (accepted most xs m.source m.target m.amount h r.0 ne (omega arith) (omega arith), ne, h, r.0, omega arith)

  -- what the first does at each place
  pub first_moved : (length (after_move most xs m) ≡ length xs) × ((k : ℕ) → get_or (after_move most xs m) k 0 + cond (eqb m.source k) m.amount 0 ≡ get_or xs k 0 + cond (eqb m.target k) m.amount 0)
  first_moved =
      ⊎_elim
      (λ (some : 0 < m.amount).
      let g = here some in
      let v : after_move most xs m ≡ moved xs m.source m.target m.amount = ap (λ (o : Option MoveRefusal). settled o xs (moved xs m.source m.target m.amount)) g.0 in (
        ap length v ∙ length_moved xs m.source m.target m.amount,
        λ k. rw v (moved_at xs m.source m.target m.amount k g.2 g.3 g.1 g.4),
      ))
      (λ (none : m.amount ≤ 0).
      let z : m.amount ≡ 0 = omega arith in
      let n = none_moved most xs m.source m.target (refusal most xs m.source m.target 0) refl in
      rw z (n.0, λ k. let e = n.1 k in grind (arith, nat_tests)))
      (cases_lt 0 m.amount)

  pub rest_together : Together most (after_move most xs m) ms
  rest_together =
      let f = first_moved in
      record {
        apart = λ k some. let a = t.apart k (omega arith) in omega arith;
        enough = λ k. let a = t.enough k in let e = f.1 k in omega arith;
        room = λ k some. let r = t.room k (omega arith) in let e = f.1 k in let l = f.0 in (omega arith, omega arith);
      }

-- moves that go together all go: each place has what it had, less what leaves it, and what reaches it
pub all_moved : (most : ℕ) (xs : List ℕ) (ms : List Move) → Together most xs ms → (length (after_moves most xs ms) ≡ length xs) × ((k : ℕ) → get_or (after_moves most xs ms) k 0 + leaves ms k ≡ get_or xs k 0 + reaches ms k)
all_moved most xs [] t = (refl, λ k. refl)
all_moved most xs (m ∷ ms) t =
    let f = first_moved most xs m ms t in
    let r = all_moved most (after_move most xs m) ms (rest_together most xs m ms t) in
    (r.0 ∙ f.0, λ k. let a = f.1 k in let b = r.1 k in omega arith)
