-- The presets of an account that has set none. They stay shut, so that no goal writes out their row.
use Rattle.std.specs.Prelude.{ℕ, List, replicate}

-- n amounts of 0
unfoldable pub blank : ℕ → List ℕ
blank n = replicate n 0
