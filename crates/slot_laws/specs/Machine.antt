-- The slots in which the pieces of units are put together, over lists: what one call does, and what it answers.
-- A unit is what a sender cut into pieces. A piece comes with a mark, which all pieces of its unit share, with a bit that
-- tells the first, with the number of pieces that remain after it, and with its data. A tick is a unit of time.
use Rattle.std.specs.Prelude.{ℕ, zero, suc, ◌+◌, ◌*◌, min, Bool, true, false, cond, ◌&&◌, List, [], ◌∷◌, ◌++◌, map, length, Some, None, Option, ◌==◌, nat_le, slice_index_or, slice_set}

-- an open slot: the mark of its unit, the octets so far, the pieces that remain, the limit of its length, and the ticks that it has left
pub record Open : Type 0 where
  pub mark : List ℕ
  pub octets : List ℕ
  pub remaining : ℕ
  pub limit : ℕ
  pub ticks : ℕ

-- a slot is free, open, or whole: then it has a unit that was handed up, until it is released
pub data Slot : Type 0 where
  free : Slot
  opened : Open → Slot
  whole : List ℕ → Slot

-- a receipt names the unit that was handed up: the code of its station, the slot, and the unit's length
pub record Receipt : Type 0 where
  pub code : ℕ
  pub slot : ℕ
  pub size : ℕ

-- a call: a piece (mark, whether it is the first, remaining, data), a tick, a release, or a copy into a buffer of so many octets
pub data Event : Type 0 where
  piece : List ℕ → Bool → ℕ → List ℕ → Event
  tick : Event
  release : Receipt → Event
  copy : Receipt → ℕ → Event

-- what is answered: declined, with the number of the refusal; handed up alone, with the data; not taken, with the return cause;
-- opened, restarted, stray, broken, held, with the slot; handed up from pieces, with a receipt; so many lapsed; released; copied
pub data Answer : Type 0 where
  declined : ℕ → Answer
  alone : List ℕ → Answer
  refused : ℕ → Answer
  opens : ℕ → Answer
  restarts : ℕ → Answer
  stray : Answer
  breaks : ℕ → Answer
  holds : ℕ → Answer
  hands : Receipt → Answer
  lapses : ℕ → Answer
  released : ℕ → Answer
  copied : List ℕ → Answer

-- two marks are the same exactly when their lists are equal
abbrev pub same : List ℕ → List ℕ → Bool
same [] [] = true
same [] (y ∷ ys) = false
same (x ∷ xs) [] = false
same (x ∷ xs) (y ∷ ys) = x == y && same xs ys

-- the slot that is open under a mark
pub data Found : Type 0 where
  missing : Found
  found : ℕ → Open → Found

abbrev pub shift : Found → Found
shift missing = missing
shift (found i o) = found (suc i) o

abbrev pub pick : Bool → Open → Found → Found
pick true o f = found 0 o
pick false o f = shift f

abbrev pub look : List ℕ → List Slot → Found
look m [] = missing
look m (free ∷ ss) = shift (look m ss)
look m (whole d ∷ ss) = shift (look m ss)
look m (opened o ∷ ss) = pick (same o.mark m) o (look m ss)

-- the highest-numbered free slot
abbrev pub next_free : Option ℕ → Option ℕ → Option ℕ
next_free (Some i) here = Some (suc i)
next_free None here = here

abbrev pub here_free : Slot → Option ℕ
here_free free = Some 0
here_free (opened o) = None
here_free (whole d) = None

abbrev pub last_free : List Slot → Option ℕ
last_free [] = None
last_free (s ∷ ss) = next_free (last_free ss) (here_free s)

-- a unit has at most 3,952 octets, and at most as many as its pieces would have if all were as long as the first
abbrev pub limit_of : ℕ → ℕ → ℕ
limit_of r n = min ((r + 1) * n) 3952

abbrev pub fresh : ℕ → List ℕ → ℕ → List ℕ → Open
fresh T m r d = record { mark = m; octets = d; remaining = r; limit = limit_of r (length d); ticks = T }

abbrev pub grown : Open → ℕ → List ℕ → Open
grown o r d = record { mark = o.mark; octets = o.octets ++ d; remaining = r; limit = o.limit; ticks = o.ticks }

abbrev pub aged : Open → ℕ → Open
aged o t = record { mark = o.mark; octets = o.octets; remaining = o.remaining; limit = o.limit; ticks = t }

abbrev pub receipt_for : ℕ → ℕ → List ℕ → Receipt
receipt_for C i u = record { code = C; slot = i; size = length u }

-- the slots after a call, and its answer
abbrev pub Step : Type 0
Step = List Slot × Answer

-- a first piece whose mark is not open: into the highest-numbered free slot; cause 10 where there are no slots, cause 6 where none is free
abbrev pub new_step : ℕ → List Slot → List ℕ → ℕ → List ℕ → Option ℕ → Step
new_step T ss m r d (Some i) = (slice_set ss i (opened (fresh T m r d)), opens i)
new_step T ss m r d None = (ss, refused (cond (length ss == 0) 10 6))

-- a first piece whose mark is open begins again in the same slot
abbrev pub first_step : ℕ → List Slot → List ℕ → ℕ → List ℕ → Found → Step
first_step T ss m r d (found i o) = (slice_set ss i (opened (fresh T m r d)), restarts i)
first_step T ss m r d missing = new_step T ss m r d (last_free ss)

abbrev pub checked : ℕ → List Slot → ℕ → Open → ℕ → List ℕ → Bool → Step
checked C ss i o r d false = (slice_set ss i free, breaks i)
checked C ss i o zero d true = (slice_set ss i (whole (o.octets ++ d)), hands (receipt_for C i (o.octets ++ d)))
checked C ss i o (suc r) d true = (slice_set ss i (opened (grown o (suc r) d)), holds i)

-- a later piece follows on if one less remains and the sum is within the limit
abbrev pub follows_on : Open → ℕ → List ℕ → Bool
follows_on o r d = o.remaining == suc r && nat_le (length (o.octets ++ d)) o.limit

abbrev pub later_step : ℕ → List Slot → ℕ → List ℕ → Found → Step
later_step C ss r d missing = (ss, stray)
later_step C ss r d (found i o) = checked C ss i o r d (follows_on o r d)

abbrev pub taken : ℕ → ℕ → List Slot → List ℕ → Bool → ℕ → List ℕ → Step
taken C T ss m true zero d = (ss, alone d)
taken C T ss m true (suc r) d = first_step T ss m (suc r) d (look m ss)
taken C T ss m false r d = later_step C ss r d (look m ss)

-- remaining is at most 15, and the data has 1 to 255 octets
abbrev pub proper : ℕ → List ℕ → Bool
proper r d = nat_le r 15 && (nat_le 1 (length d) && nat_le (length d) 255)

abbrev pub piece_step : ℕ → ℕ → List Slot → List ℕ → Bool → ℕ → List ℕ → Bool → Step
piece_step C T ss m f r d true = taken C T ss m f r d
piece_step C T ss m f r d false = (ss, declined 43)

abbrev pub older : Open → ℕ → Slot
older o zero = free
older o (suc zero) = free
older o (suc (suc t)) = opened (aged o (suc t))

-- one tick of a slot
abbrev pub age : Slot → Slot
age free = free
age (opened o) = older o o.ticks
age (whole d) = whole d

abbrev pub one_open : Slot → ℕ
one_open free = 0
one_open (opened o) = 1
one_open (whole d) = 0

abbrev pub open_count : List Slot → ℕ
open_count [] = 0
open_count (s ∷ ss) = one_open s + open_count ss

-- a slot whose time runs out at this tick
abbrev pub runs_out : ℕ → ℕ
runs_out zero = 1
runs_out (suc zero) = 1
runs_out (suc (suc t)) = 0

abbrev pub one_lapses : Slot → ℕ
one_lapses free = 0
one_lapses (opened o) = runs_out o.ticks
one_lapses (whole d) = 0

abbrev pub lapse_count : List Slot → ℕ
lapse_count [] = 0
lapse_count (s ∷ ss) = one_lapses s + lapse_count ss

-- the slot that a receipt names; to a station of another code, or past the last slot, as if it were free
abbrev pub named : ℕ → List Slot → Receipt → Slot
named C ss r = cond (r.code == C) (slice_index_or ss r.slot free) free

abbrev pub release_step : List Slot → ℕ → Slot → Step
release_step ss i free = (ss, declined 51)
release_step ss i (opened o) = (ss, declined 51)
release_step ss i (whole d) = (slice_set ss i free, released i)

abbrev pub copied_if : List ℕ → Bool → Answer
copied_if d true = copied d
copied_if d false = declined 52

abbrev pub copy_answer : ℕ → Slot → Answer
copy_answer room free = declined 51
copy_answer room (opened o) = declined 51
copy_answer room (whole d) = copied_if d (nat_le (length d) room)

-- what a call does to the slots, and what it answers; C is the station's code, T the ticks that an opening has
abbrev pub step : ℕ → ℕ → List Slot → Event → Step
step C T ss (piece m f r d) = piece_step C T ss m f r d (proper r d)
step C T ss tick = (map age ss, lapses (lapse_count ss))
step C T ss (release r) = release_step ss r.slot (named C ss r)
step C T ss (copy r room) = (ss, copy_answer room (named C ss r))
