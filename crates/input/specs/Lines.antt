-- Text in parts: a part ends at the first byte of a kind, or where the text ends.
use Rattle.std.specs.Prelude.{◌≡◌, ℕ, ◌+◌, ◌-◌, ◌^◌, ◌<◌, min, true, cond, List, [], ◌∷◌, ◌==◌, length, is_some, Option, MatchOption}
use Rattle.input.specs.declared.lines.Line.{Line}
use Rattle.input.specs.declared.lines.Lines.{Lines}

-- the bytes before the first x
abbrev pub up_to : ℕ → List ℕ → List ℕ
up_to x [] = []
up_to x (c ∷ cs) = cond (c == x) [] (c ∷ up_to x cs)

-- the bytes after the first x
abbrev pub past : ℕ → List ℕ → List ℕ
past x [] = []
past x (c ∷ cs) = cond (c == x) cs (past x cs)

-- what is read of a script: the next line, if anything is left, and what is left then
pub record ReadsLine (s : Lines) (r : Option Line) (t : Lines) : Type 0 where
  pub line : MatchOption r (length s.rest.now ≡ 0) (λ line. (0 < length s.rest.now) × (line.text.now ≡ up_to 10 s.rest.now) × (line.number ≡ t.number))
  pub rest : t.rest.now ≡ cond (is_some r) (past 10 s.rest.now) s.rest.now
  pub number : t.number ≡ cond (is_some r) (min (s.number + 1) (2 ^ 64 - 1)) s.number
  pub shorter : is_some r ≡ true → length t.rest.now < length s.rest.now
