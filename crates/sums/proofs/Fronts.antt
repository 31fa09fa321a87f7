-- Loops that write an array from its front: one turn more, and the end. Assumes nothing.
use Rattle.std.proofs.Common.{◌≡◌, ℕ, ◌+◌, ◌<◌, ◌≤◌, List, [], ◌∷◌, ◌++◌, map, length, get_or, take, drop, set, sym, ap, ◌∙◌}
use Rattle.std.proofs.lemmas.List.{take_more_set, append_assoc, append-nil, take_all, drop_all, map_more}

-- one element more is written in front of the rest
pub front_more : (out rest : List ℕ) (i x : ℕ) → i < length out → take (i + 1) (set out i x) ++ rest ≡ take i out ++ x ∷ rest
front_more out rest i x h = ap (λ t. t ++ rest) (take_more_set out i x h) ∙ append_assoc (take i out) (x ∷ []) rest

-- where all is written, what is still to come is the empty list
pub front_all : (f : List ℕ → List ℕ) (xs out : List ℕ) (i : ℕ) → f [] ≡ [] → length xs ≤ i → length out ≤ i → out ≡ take i out ++ f (drop i xs)
front_all f xs out i none hx ho = rw (drop_all i xs hx, take_all i out ho, none) (sym (append-nil out))

-- a loop that writes f of each element
pub mapped_more : (f : ℕ → ℕ) (xs out : List ℕ) (i y : ℕ) → i < length xs → i < length out → y ≡ f (get_or xs i 0) → take i out ≡ map f (take i xs) → take (i + 1) (set out i y) ≡ map f (take (i + 1) xs)
mapped_more f xs out i y hx ho e h = take_more_set out i y ho ∙ rw (h, e) (sym (map_more f xs i 0 hx))

pub mapped_all : (f : ℕ → ℕ) (xs out : List ℕ) (i : ℕ) → length xs ≤ i → length out ≤ i → take i out ≡ map f (take i xs) → out ≡ map f xs
mapped_all f xs out i hx ho h = sym (take_all i out ho) ∙ h ∙ ap (map f) (take_all i xs hx)
