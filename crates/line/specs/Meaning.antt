-- What the calls of a line answer, and what waits on it afterwards.
use Rattle.std.specs.Prelude.{ℕ, Bool, true, cond, ◌&&◌, List, [], ◌∷◌, ◌++◌, length, drop, Ok, Err, Result, ◌==◌, nat_le, nat_lt}
use Rattle.line.specs.declared.refusal.LineRefusal.{LineRefusal}
use Rattle.line.specs.declared.refusal.LineRefusal.TheVariants.{BadLength, NoPlace, NothingWaiting, ShortBuffer}

-- a message on a line has 5 to 272 octets
abbrev pub least_octets : ℕ
least_octets = 5

abbrev pub most_octets : ℕ
most_octets = 272

abbrev pub fits : ℕ → Bool
fits n = nat_le least_octets n && nat_le n most_octets

abbrev pub all_fit : List (List ℕ) → Bool
all_fit [] = true
all_fit (m ∷ ms) = fits (length m) && all_fit ms

-- an empty line has at least so many places
abbrev pub least_places : ℕ
least_places = 16

-- and stands in an area of at least so many octets
abbrev pub least_area : ℕ
least_area = 4416

-- put, of a message of so many octets to a line with so many places
abbrev pub put_answer : ℕ → ℕ → Result (Unit {0}) LineRefusal
put_answer places n = cond (fits n) (cond (places == 0) (Err NoPlace) (Ok tt)) (Err BadLength)

-- an accepted message is the last that waits
abbrev pub put_after : Result (Unit {0}) LineRefusal → List (List ℕ) → List ℕ → List (List ℕ)
put_after (Ok _) ms m = ms ++ m ∷ []
put_after (Err _) ms m = ms

-- the oldest message and the others
abbrev pub oldest : List (List ℕ) → List ℕ
oldest [] = []
oldest (m ∷ ms) = m

abbrev pub others : List (List ℕ) → List (List ℕ)
others [] = []
others (m ∷ ms) = ms

-- take, from a line where so many messages wait into a buffer of so many octets: the length of the oldest
abbrev pub take_test : {X : Type 0} → ℕ → ℕ → X → Result X LineRefusal
take_test count n x = cond (count == 0) (Err NothingWaiting) (cond (nat_lt n most_octets) (Err ShortBuffer) (Ok x))

abbrev pub take_answer : List (List ℕ) → ℕ → Result ℕ LineRefusal
take_answer ms n = take_test (length ms) n (length (oldest ms))

abbrev pub take_after : Result ℕ LineRefusal → List (List ℕ) → List (List ℕ)
take_after (Ok _) ms = others ms
take_after (Err _) ms = ms

-- the oldest message stands at the front of the buffer, and the buffer's other octets stay
abbrev pub take_buffer : Result ℕ LineRefusal → List (List ℕ) → List ℕ → List ℕ
take_buffer (Ok _) ms xs = oldest ms ++ drop (length (oldest ms)) xs
take_buffer (Err _) ms xs = xs
