-- Loans at the end of a day.
use Rattle.std.proofs.Common.{◌≡◌, ℕ, true, List, map, length, ap, arith}
use Rattle.std.specs.Vec.{with_items, vec_len}
use Rattle.std.proofs.lemmas.List.{length-map, with_items_is}
use Rattle.std.proofs.lemmas.List.Elements.{All-map}
use Rattle.loan.specs.Kept.{is_sound, shut_on}
use Rattle.loan.specs.declared.kept.LoanRow.{LoanRow}
use Rattle.register.specs.Kept.{IsKept}
use Rattle.register.specs.declared.Register.TheInside.{Inside}

-- the end of a day leaves the shares and the face as they were
pub kept_shut : (r : Inside) (day : ℕ) (rows : List LoanRow) → IsKept r → rows ≡ map (shut_on day) r.rows.items → IsKept (record { rows = with_items r.rows rows; most = r.most })
kept_shut r day rows h e =
    let long : length rows ≡ vec_len r.rows = omega (arith, ap length e, length-map r.rows.items (shut_on day), r.rows.ok.0) in
    let items = with_items_is r.rows rows long in
    record {
      counted = h.counted;
      roomy = h.roomy;
      few = omega (arith, ap length items, h.few, r.rows.ok.0, long);
      sound = rw (items, e) (All-map (λ (row : LoanRow). is_sound row ≡ true) (shut_on day) r.rows.items h.sound);
    }
