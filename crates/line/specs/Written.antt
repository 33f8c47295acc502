-- Numbers in two octets of an area, and what a write leaves.
use Rattle.std.specs.Prelude.{◌≡◌, ℕ, ◌+◌, ◌*◌, ◌/◌, ◌%◌, ◌<◌, ◌≤◌, ◌⊎◌, List, [], ◌∷◌, slice_index}

-- a number in two octets, low octet first, and the number that two octets at a place tell
abbrev pub two_octets : ℕ → List ℕ
two_octets n = n % 256 ∷ n / 256 ∷ []

abbrev pub two : List ℕ → ℕ → ℕ
two xs i = slice_index xs i + 256 * slice_index xs (i + 1)

-- a stretch of one list holds the octets of a stretch of another
abbrev pub Holds : List ℕ → ℕ → List ℕ → ℕ → ℕ → Type 0
Holds xs at ys from n = (k : ℕ) → k < n → slice_index xs (at + k) ≡ slice_index ys (from + k)

-- the octets outside a stretch are the same
abbrev pub SameOut : List ℕ → List ℕ → ℕ → ℕ → Type 0
SameOut xs ys from to = (k : ℕ) → (k < from) ⊎ (to ≤ k) → slice_index xs k ≡ slice_index ys k
