-- A row tried in the place of one row of a pledge: what it is worth with the others, and what it leaves.
use Rattle.std.proofs.Common.{◌≡◌, ℕ, suc, ◌+◌, ◌<◌, List, ◌∷◌, length, get_or, take, drop, set, Some, None, sum_by, Option, Result, ap, ◌∙◌, add-one, arith}
use Rattle.std.proofs.lemmas.List.{set-get_or, set_split}
use Rattle.std.proofs.lemmas.Slice.{between_to_end}
use Rattle.std.proofs.lemmas.List.Sums.{sum_by-append, sum_by-cons}
use Rattle.std.specs.List.{between}
use Rattle.terms.specs.Refusals.{Settles}
use Rattle.terms.specs.Table.{settled}
use Rattle.terms.specs.declared.refusal.Refusal.{Refusal}
use Rattle.pledge.specs.Rows.{with_row}
use Rattle.pledge.specs.Swaps.{judged}
use Rattle.pledge.specs.declared.rows.Pledge.{Pledge}
use Rattle.pledge.specs.declared.rows.PledgeRow.{PledgeRow}

-- the rows before row i, those after it and the new row are all the rows with the new one in place
pub others_and : {X : Type 0} (f : X → ℕ) (xs : List X) (i : ℕ) (x : X) → i < length xs → sum_by f (set xs i x) ≡ sum_by f (take i xs) + sum_by f (between (i + 1) (length xs) xs) + f x
others_and f xs i x h =
    let split = ap (sum_by f) (set_split xs i x h) in
    let back = ap (sum_by f) (between_to_end xs (i + 1) (length xs) (omega arith) ∙ ap (λ k. drop k xs) (add-one i)) in
    omega (arith, split, sum_by-append f (take i xs) (x ∷ drop (suc i) xs), sum_by-cons f x (drop (suc i) xs), back)

-- the old row put back is no change
pub row_back : (v : Option Refusal) (p : Pledge) (i : ℕ) (new d after : PledgeRow) → after ≡ settled v (get_or p.rows i d) new → with_row p i after ≡ settled v p (with_row p i new)
row_back None p i new d after e = ap (with_row p i) e
row_back (Some r) p i new d after e = ap (with_row p i) e ∙ ap (λ (rows : List PledgeRow). record { rows = rows }) (set-get_or p.rows i d)

-- what was judged of the one row holds of the pledge
pub in_place : (f : PledgeRow → ℕ) (p : Pledge) (i others needed : ℕ) (later : Option Refusal) (new d after : PledgeRow) (r : Result (Unit {0}) Refusal) → sum_by f (set p.rows i new) ≡ others + f new → Settles (judged (others + f new) needed later) tt (get_or p.rows i d) new r after → Settles (judged (sum_by f (set p.rows i new)) needed later) tt p (with_row p i new) r (with_row p i after)
in_place f p i others needed later new d after r e s =
    rw e (record { answer = s.answer; table = row_back (judged (others + f new) needed later) p i new d after s.table })
