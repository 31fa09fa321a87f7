-- What `parse` answers at digits is what they write.
use Rattle.std.proofs.Common.{◌≡◌, ℕ, ◌^◌, ◌<◌, ◌≤◌, true, List, [], ◌∷◌, length, Ok, Err, Result, sym, refl, ap, ◌∙◌, arith, rules}
use Rattle.std.specs.Str.Parse.{ParsesUnsigned}
use Rattle.std.specs.Str.{all_ascii_digits}
use Rattle.std.specs.List.{list_all}
use Rattle.std.specs.Char.{is_ascii_digit}
use Rattle.std.specs.Result.{MatchResult, IsErrAnd}
use Rattle.std.proofs.lemmas.Str.Parse.{IsNumeralModel, numerals_by_fold, parse_digits}
use Rattle.std.proofs.lemmas.Result.{OkIff-at_ok, OkIff-at_err, err_from_is_err_and}
use Rattle.std.proofs.lemmas.Bool.{cond_below, cond_above}
use Rattle.input.specs.declared.numbers.NumberFault.{NumberFault}
use Rattle.input.specs.declared.numbers.NumberFault.TheVariants.{TooLarge}
use Rattle.input.specs.Numbers.{followed, fitting, reading}

own : IsNumeralModel (λ ds. all_ascii_digits ds ≡ true) (followed 0)
own = numerals_by_fold _ (search rules) followed (search rules)

pub all_digits_are : (bs : List ℕ) → list_all is_ascii_digit bs ≡ all_ascii_digits bs
all_digits_are [] = refl
all_digits_are (c ∷ cs) = rw (all_digits_are cs) refl

of_digits : (bs : List ℕ) → 0 < length bs → all_ascii_digits bs ≡ true → reading bs ≡ fitting (followed 0 bs)
of_digits [] some digits = search rules
of_digits (c ∷ cs) some digits = rw digits refl

module _ (bs : List ℕ) (some : 0 < length bs) (digits : all_ascii_digits bs ≡ true) {E : Type 0} where
  read_value : (r : Result ℕ E) (n : ℕ) → ParsesUnsigned 64 10 bs r → r ≡ Ok n → Ok n ≡ reading bs
  read_value r n reads is =
      let got = OkIff-at_ok r _ _ n (parse_digits own 64 bs r reads digits) is in
      let fits : followed 0 bs < 2 ^ 64 = got.0.1 in
      ap Ok got.1 ∙ cond_below (followed 0 bs) (2 ^ 64) _ _ fits ∙ sym (of_digits bs some digits)

  read_too_large : (r : Result ℕ E) (e : E) → ParsesUnsigned 64 10 bs r → r ≡ Err e → Err TooLarge ≡ reading bs
  read_too_large r e reads is =
      let none = OkIff-at_err r _ _ e (parse_digits own 64 bs r reads digits) is in
      let not : followed 0 bs < 2 ^ 64 → ⊥ = λ fits. none (some, fits) in
      let large : 2 ^ 64 ≤ followed 0 bs = omega arith in
      cond_above (followed 0 bs) (2 ^ 64) _ _ _ large refl ∙ sym (of_digits bs some digits)

  -- the answer of `parse`, with its error replaced
  pub read : (r : Result ℕ E) (s : Result ℕ NumberFault) → ParsesUnsigned 64 10 bs r → MatchResult r (λ n. s ≡ Ok n) (λ _. IsErrAnd s (λ f. f ≡ TooLarge)) → s ≡ reading bs
  read (Ok n) s reads is = is ∙ read_value (Ok n) n reads refl
  read (Err e) s reads is =
      let err = err_from_is_err_and s is in rw (err.1, err.2) (read_too_large (Err e) e reads refl)
