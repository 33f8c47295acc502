-- Octets written over a list.
use Rattle.std.specs.Prelude.{ℕ, ◌+◌, List, ◌++◌, length, take, drop}

-- xs written over the list at a place: all others stay
unfoldable pub over : List ℕ → ℕ → List ℕ → List ℕ
over out at xs = take at out ++ (xs ++ drop (at + length xs) out)
