-- What a mark means: a list of numbers, and when two are the same.
use Rattle.std.specs.Prelude.{◌≡◌, ℕ, Bool, true, false, ◌&&◌, List, [], ◌∷◌, Decides, ◌==◌}

-- whether two lists of numbers are equal
abbrev pub same_numbers : List ℕ → List ℕ → Bool
same_numbers [] [] = true
same_numbers [] (y ∷ ys) = false
same_numbers (x ∷ xs) [] = false
same_numbers (x ∷ xs) (y ∷ ys) = x == y && same_numbers xs ys

-- it decides whether they are equal
abbrev pub SameMeansEqual : Type 0
SameMeansEqual = (xs ys : List ℕ) → Decides (same_numbers xs ys) (xs ≡ ys)
