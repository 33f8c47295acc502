-- The lengths of the pieces of a unit; a and b are the lengths of the written addresses.
use Rattle.std.specs.Prelude.{◌≡◌, ℕ, zero, suc, ◌+◌, ◌-◌, ◌*◌, ◌/◌, ◌≤◌, min, Bool, cond, ◌&&◌, List, [], ◌∷◌, length, Some, None, Option, nat_le, nat_lt}

-- what one message carries, and what one piece
abbrev pub in_one : ℕ → ℕ → ℕ
in_one a b = 258 - a - b

abbrev pub in_piece : ℕ → ℕ → ℕ
in_piece a b = 251 - a - b

-- in how many messages n octets go
abbrev pub piece_count : ℕ → ℕ → ℕ → ℕ
piece_count a b n = cond (nat_le n (in_one a b)) 1 ((n + in_piece a b - 1) / in_piece a b)

-- how long the piece of number i is: all but the last are as long as a piece may be
abbrev pub piece_length : ℕ → ℕ → ℕ → ℕ → ℕ
piece_length a b n i = cond (nat_le n (in_one a b)) n (min (in_piece a b) (n - i * in_piece a b))

-- addresses and unit have lengths that can be sent
abbrev pub in_range : ℕ → ℕ → ℕ → Bool
in_range a b n = nat_le 2 a && (nat_le a 32 && (nat_le 2 b && (nat_le b 32 && (nat_le 1 n && nat_le n 3952))))

-- the unit can be sent: in at most 16 pieces
abbrev pub sendable : ℕ → ℕ → ℕ → Bool
sendable a b n = in_range a b n && nat_le (piece_count a b n) 16

-- in how many pieces it goes, and how long each is: as a number that is 0 where there is none,
-- and as an option
abbrev pub count_answer : ℕ → ℕ → ℕ → ℕ
count_answer a b n = cond (sendable a b n) (piece_count a b n) 0

abbrev pub count_found : ℕ → ℕ → ℕ → Option ℕ
count_found a b n = cond (sendable a b n) (Some (piece_count a b n)) None

abbrev pub length_answer : ℕ → ℕ → ℕ → ℕ → ℕ
length_answer a b n i = cond (sendable a b n && nat_lt i (piece_count a b n)) (piece_length a b n i) 0

abbrev pub length_found : ℕ → ℕ → ℕ → ℕ → Option ℕ
length_found a b n i = cond (sendable a b n && nat_lt i (piece_count a b n)) (Some (piece_length a b n i)) None

-- the octets of an XUDT with its label, d of data and o of options: label 4, fixed part and
-- pointers 7, and three length octets
abbrev pub message_size : ℕ → ℕ → ℕ → ℕ → ℕ
message_size a b o d = 4 + 7 + 3 + a + b + d + o

-- the octets of the options of each message of a unit that goes in k: one goes without, more
-- have segmentation (name, length and four octets) and the end mark
abbrev pub option_size : ℕ → ℕ
option_size k = cond (nat_le k 1) 0 7

abbrev pub total : List ℕ → ℕ
total [] = 0
total (d ∷ ds) = d + total ds

-- each message fits the line
abbrev pub Fit : ℕ → ℕ → ℕ → List ℕ → Type 0
Fit a b o [] = Unit {0}
Fit a b o (d ∷ ds) = (message_size a b o d ≤ 272) × Fit a b o ds

-- each has data
abbrev pub SomeEach : List ℕ → Type 0
SomeEach [] = Unit {0}
SomeEach (d ∷ ds) = (1 ≤ d) × SomeEach ds

-- the lengths of k pieces from number i on
abbrev pub lengths_from : ℕ → ℕ → ℕ → ℕ → ℕ → List ℕ
lengths_from a b n zero i = []
lengths_from a b n (suc k) i = piece_length a b n i ∷ lengths_from a b n k (i + 1)

abbrev pub lengths : ℕ → ℕ → ℕ → List ℕ
lengths a b n = lengths_from a b n (piece_count a b n) 0

-- adds-up: the pieces are the unit, each has data, and each message fits the line
abbrev pub AddsUp : Type 0
AddsUp = (a b n : ℕ) → a ≤ 32 → b ≤ 32 → 1 ≤ n → (total (lengths a b n) ≡ n) × SomeEach (lengths a b n) × Fit a b (option_size (piece_count a b n)) (lengths a b n)

-- fewest: no cutting so addressed, each message within 272 octets, has fewer pieces
abbrev pub Fewest : Type 0
Fewest = (a b n : ℕ) → a ≤ 32 → b ≤ 32 → 1 ≤ n → (ds : List ℕ) → total ds ≡ n → Fit a b (option_size (length ds)) ds → piece_count a b n ≤ length ds

-- addresses of 2 octets: 254 octets go in one, 255 as 247 and 8, 3,952 in 16
abbrev pub Figures : Type 0
Figures = (lengths 2 2 254 ≡ 254 ∷ []) × (lengths 2 2 255 ≡ 247 ∷ 8 ∷ []) × (count_answer 2 2 3952 ≡ 16)
