-- The face of one bond in the rows of a pledge.
use Rattle.std.proofs.Common.{◌≡◌, ℕ, ◌+◌, ltb, List, [], ◌∷◌, sum_by, refl, arith}
use Rattle.std.proofs.lemmas.List.Sums.{sum_by-cons}
use Rattle.std.proofs.lemmas.Bool.Decides.{nat_tests}
use Rattle.pledge.specs.Rows.{row_face, any_of}
use Rattle.pledge.specs.declared.rows.PledgeRow.{PledgeRow}

-- rows come to a face above 0 where one of them is above 0
pub some_face : (bond : ℕ) (rows : List PledgeRow) → ltb 0 (sum_by (row_face bond) rows) ≡ any_of bond rows
some_face bond [] = refl
some_face bond (row ∷ rows) =
    let e = sum_by-cons (row_face bond) row rows in let h = some_face bond rows in grind (arith, nat_tests)
