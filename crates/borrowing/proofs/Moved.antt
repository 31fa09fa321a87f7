-- The moves of a loan, one after another.
use Rattle.std.proofs.Common.{◌≡◌, ℕ, ◌+◌, ◌<◌, ◌≤◌, List, [], ◌∷◌, ◌++◌, length, get_or, drop, sym, refl, ap, ◌∙◌}
use Rattle.std.proofs.lemmas.List.{at_drop_more, at_drop_all}
use Rattle.moves.specs.Many.{Move, after_move, after_moves}
use Rattle.pledge.specs.declared.rows.PledgeRow.{PledgeRow}
use Rattle.borrowing.specs.Borrows.{row_move, row_moves}

-- moves after moves
pub after_both : (most : ℕ) (xs : List ℕ) (ms ns : List Move) → after_moves most xs (ms ++ ns) ≡ after_moves most (after_moves most xs ms) ns
after_both most xs [] ns = refl
after_both most xs (m ∷ ms) ns = after_both most (after_move most xs m) ms ns

-- one turn over the rows: those that are left lead to where all lead
module _ (most borrower : ℕ) (rows : List PledgeRow) (all xs : List ℕ) (i : ℕ) (inv : all ≡ after_moves most xs (row_moves borrower (drop i rows))) where
  pub row_moved : (d : PledgeRow) (ys : List ℕ) → i < length rows → ys ≡ after_move most xs (row_move borrower (get_or rows i d)) → all ≡ after_moves most ys (row_moves borrower (drop (i + 1) rows))
  row_moved d ys h e =
      inv ∙ at_drop_more (λ rest. after_moves most xs (row_moves borrower rest)) rows i d h
      ∙ ap (λ (zs : List ℕ). after_moves most zs (row_moves borrower (drop (i + 1) rows))) (sym e)

  pub rows_moved : length rows ≤ i → xs ≡ all
  rows_moved h = sym (inv ∙ at_drop_all (λ rest. after_moves most xs (row_moves borrower rest)) rows i h)
