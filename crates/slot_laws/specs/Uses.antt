-- The laws of a use of slots: an opening, with all slots free, and then any calls with anything given, declined ones too.
-- A history has the newest call first. Its calls are numbered from 0, the oldest.
-- Marks are lists of numbers here, so the laws hold for every kind of mark.
use Rattle.std.specs.Prelude.{◌≡◌, ℕ, suc, ◌+◌, ◌*◌, ◌<◌, ◌≤◌, true, false, ◌≢◌, ◌⊎◌, List, [], ◌∷◌, ◌++◌, length, get_or, replicate, slice_index_or}
use Rattle.slot_laws.specs.Machine.{Open, Slot, free, opened, whole, Receipt, Event, piece, tick, release, copy, Answer, declined, alone, refused, opens, restarts, stray, breaks, holds, hands, lapses, released, copied, Step, step, open_count}

-- what was made by opening: how many slots there are, how many ticks an opening has, and the station's code
pub record Use : Type 0 where
  pub slots : ℕ
  pub ticks : ℕ
  pub code : ℕ

-- the slots after a history, and the answer to the next call
abbrev pub slots_after : Use → List Event → List Slot
slots_after u [] = replicate u.slots free
slots_after u (e ∷ h) = (step u.code u.ticks (slots_after u h) e).0

abbrev pub answer_to : Use → List Event → Event → Answer
answer_to u h e = (step u.code u.ticks (slots_after u h) e).1

-- The account.

-- what an answer counts for
abbrev pub counts_opened : Answer → ℕ
counts_opened (declined n) = 0
counts_opened (alone d) = 0
counts_opened (refused c) = 0
counts_opened (opens i) = 1
counts_opened (restarts i) = 1
counts_opened stray = 0
counts_opened (breaks i) = 0
counts_opened (holds i) = 0
counts_opened (hands r) = 0
counts_opened (lapses n) = 0
counts_opened (released i) = 0
counts_opened (copied d) = 0

abbrev pub counts_broken : Answer → ℕ
counts_broken (declined n) = 0
counts_broken (alone d) = 0
counts_broken (refused c) = 0
counts_broken (opens i) = 0
counts_broken (restarts i) = 1
counts_broken stray = 0
counts_broken (breaks i) = 1
counts_broken (holds i) = 0
counts_broken (hands r) = 0
counts_broken (lapses n) = 0
counts_broken (released i) = 0
counts_broken (copied d) = 0

abbrev pub counts_handed : Answer → ℕ
counts_handed (declined n) = 0
counts_handed (alone d) = 0
counts_handed (refused c) = 0
counts_handed (opens i) = 0
counts_handed (restarts i) = 0
counts_handed stray = 0
counts_handed (breaks i) = 0
counts_handed (holds i) = 0
counts_handed (hands r) = 1
counts_handed (lapses n) = 0
counts_handed (released i) = 0
counts_handed (copied d) = 0

abbrev pub counts_lapsed : Answer → ℕ
counts_lapsed (declined n) = 0
counts_lapsed (alone d) = 0
counts_lapsed (refused c) = 0
counts_lapsed (opens i) = 0
counts_lapsed (restarts i) = 0
counts_lapsed stray = 0
counts_lapsed (breaks i) = 0
counts_lapsed (holds i) = 0
counts_lapsed (hands r) = 0
counts_lapsed (lapses n) = n
counts_lapsed (released i) = 0
counts_lapsed (copied d) = 0

-- added up over a history
abbrev pub total : (Answer → ℕ) → Use → List Event → ℕ
total f u [] = 0
total f u (e ∷ h) = f (answer_to u h e) + total f u h

-- nothing is lost: opened = handed up from pieces + broken + lapsed + still open
abbrev pub Account : Use → Type 0
Account u =
    (h : List Event)
    → total counts_opened u h ≡ total counts_handed u h + total counts_broken u h + total counts_lapsed u h + open_count (slots_after u h)

-- No opening outlives T.

abbrev pub is_tick : Event → ℕ
is_tick (piece m f r d) = 0
is_tick tick = 1
is_tick (release r) = 0
is_tick (copy r n) = 0

abbrev pub tick_count : List Event → ℕ
tick_count [] = 0
tick_count (e ∷ h) = is_tick e + tick_count h

-- the call e, coming to the slots ss, ends the opening in the slot i: handed up, broken, restarted or lapsed
pub data Ends (C T : ℕ) (ss : List Slot) (i : ℕ) : Event → Type 0 where
  handed : {e : Event} (r : Receipt) → (step C T ss e).1 ≡ hands r → r.slot ≡ i → Ends C T ss i e
  broken : {e : Event} → (step C T ss e).1 ≡ breaks i → Ends C T ss i e
  restarted : {e : Event} → (step C T ss e).1 ≡ restarts i → Ends C T ss i e
  lapsed : get_or (step C T ss tick).0 i free ≡ free → Ends C T ss i tick

-- some call of g, which came after h, ended the opening in the slot i
pub data Over (u : Use) (h : List Event) (i : ℕ) : List Event → Type 0 where
  now_over : {e : Event} {g : List Event} → Ends u.code u.ticks (slots_after u (g ++ h)) i e → Over u h i (e ∷ g)
  before : {e : Event} {g : List Event} → Over u h i g → Over u h i (e ∷ g)

-- the answer says that the slot i was opened
abbrev pub Opens : ℕ → Answer → Type 0
Opens i a = (a ≡ opens i) ⊎ (a ≡ restarts i)

-- T ticks after a slot was opened, that opening is over
abbrev pub NoOpeningOutlives : Use → Type 0
NoOpeningOutlives u =
    (h g : List Event) (e : Event) (i : ℕ)
    → Opens i (answer_to u h e) → u.ticks ≤ tick_count g
    → Over u (e ∷ h) i g

-- One sender's data.

-- the call numbered p was e
abbrev pub At : List Event → ℕ → Event → Type 0
At [] p e = ⊥
At (x ∷ h) p e = ((p ≡ length h) × (x ≡ e)) ⊎ At h p e

abbrev pub Mem : ℕ → List ℕ → Type 0
Mem x [] = ⊥
Mem x (y ∷ ys) = (x ≡ y) ⊎ Mem x ys

-- octets joined from the pieces at these places, the newest first, all of the mark m: the oldest alone has the first bit,
-- and remaining falls by ones down to r
pub data Joined (h : List Event) (m : List ℕ) : List ℕ → ℕ → List ℕ → Type 0 where
  first : (d : List ℕ) (r p : ℕ) → At h p (piece m true r d) → Joined h m d r (p ∷ [])
  next : (d c : List ℕ) (r p : ℕ) (ps : List ℕ) → Joined h m d (suc r) ps → ((k : ℕ) → Mem k ps → k < p) → At h p (piece m false r c) → Joined h m (d ++ c) r (p ∷ ps)

-- a step hands up the unit x from pieces: it gives a receipt, and the slot that this names has x
abbrev pub Hands : Step → Receipt → List ℕ → Type 0
Hands s r x = (s.1 ≡ hands r) × (slice_index_or s.0 r.slot free ≡ whole x)

-- the call numbered k handed up the unit x from pieces, with the receipt r
abbrev pub HandedUp : Use → List Event → ℕ → Receipt → List ℕ → Type 0
HandedUp u [] k r x = ⊥
HandedUp u (e ∷ h) k r x = ((k ≡ length h) × Hands (step u.code u.ticks (slots_after u h) e) r x) ⊎ HandedUp u h k r x

-- no call after the one numbered k released the slot i
abbrev pub Unreleased : Use → List Event → ℕ → ℕ → Type 0
Unreleased u [] k i = Unit {0}
Unreleased u (e ∷ h) k i = (k < length h → answer_to u h e ≢ released i) × Unreleased u h k i

-- each unit is one mark's data, joined as it came from a first piece down to remaining 0, two pieces or more, and the last of them is the
-- call that handed it up; no piece is in two units; and whatever a whole slot holds is such a unit, not released since
abbrev pub OneSender : Use → Type 0
OneSender u =
    (h : List Event)
    → (pieces_of : ℕ → List ℕ)
    × ((k : ℕ) (r : Receipt) (x : List ℕ) → HandedUp u h k r x
    → (m : List ℕ) × (before-it : List ℕ) × (pieces_of k ≡ k ∷ before-it) × (1 ≤ length before-it) × Joined h m x 0 (k ∷ before-it))
    × ((k l p : ℕ) → Mem p (pieces_of k) → Mem p (pieces_of l) → k ≡ l)
    × ((i : ℕ) (x : List ℕ) → slice_index_or (slots_after u h) i free ≡ whole x → (k : ℕ) × (r : Receipt) × (r.slot ≡ i) × HandedUp u h k r x × Unreleased u h k i)

-- a unit that was handed up stays as it is until its slot is released, and its receipt tells the station, the slot and its length;
-- until then copying gives it to every buffer that is long enough
abbrev pub Kept : Use → Type 0
Kept u =
    (h : List Event) (k : ℕ) (r : Receipt) (x : List ℕ)
    → HandedUp u h k r x → Unreleased u h k r.slot
    → (r.code ≡ u.code) × (r.slot < u.slots) × (r.size ≡ length x)
    × (slice_index_or (slots_after u h) r.slot free ≡ whole x)
    × ((room : ℕ) → length x ≤ room → answer_to u h (copy r room) ≡ copied x)

-- a declined call alters nothing
abbrev pub DeclinedAltersNothing : Use → Type 0
DeclinedAltersNothing u = (h : List Event) (e : Event) (n : ℕ) → answer_to u h e ≡ declined n → slots_after u (e ∷ h) ≡ slots_after u h

-- a receipt of another station, or one whose slot is not whole, is declined
abbrev pub Strange : Use → List Event → Receipt → Type 0
Strange u h r = (r.code ≢ u.code) ⊎ ((x : List ℕ) → slice_index_or (slots_after u h) r.slot free ≢ whole x)

abbrev pub StrangeReceipts : Use → Type 0
StrangeReceipts u =
    (h : List Event) (r : Receipt) → Strange u h r
    → (answer_to u h (release r) ≡ declined 51) × ((room : ℕ) → answer_to u h (copy r room) ≡ declined 51)

-- Arrives entire.

-- the call is no piece of the mark m
abbrev pub NotOf : List ℕ → Event → Type 0
NotOf m (piece n f r d) = n ≡ m → ⊥
NotOf m tick = Unit {0}
NotOf m (release r) = Unit {0}
NotOf m (copy r n) = Unit {0}

-- the calls bring the pieces of a unit under the mark m in order, with any others between but no other piece of the mark:
-- a first piece d0 with r0 remaining, then later ones, each of 1 to 255 octets; so far they make d, and r remain
pub data Sent (m : List ℕ) (d0 : List ℕ) (r0 : ℕ) : List ℕ → ℕ → List Event → Type 0 where
  begins : Sent m d0 r0 d0 r0 (piece m true r0 d0 ∷ [])
  between : (d : List ℕ) (r : ℕ) (g : List Event) (e : Event) → Sent m d0 r0 d r g → NotOf m e → Sent m d0 r0 d r (e ∷ g)
  continues : (d c : List ℕ) (r : ℕ) (g : List Event) → Sent m d0 r0 d (suc r) g → 1 ≤ length c → length c ≤ 255 → Sent m d0 r0 (d ++ c) r (piece m false r c ∷ g)

-- a unit in 2 to 16 pieces, in all at most their number times the first's length and at most 3,952 octets, is handed up entire at its last,
-- where a slot is free at the first and fewer than T ticks come from first to last; and copying gives it until its slot is released
abbrev pub ArrivesEntire : Use → Type 0
ArrivesEntire u =
    (h g : List Event) (m d0 d c : List ℕ) (r0 i : ℕ)
    → 1 ≤ r0 → r0 ≤ 15 → 1 ≤ length d0 → length d0 ≤ 255
    → i < u.slots → slice_index_or (slots_after u h) i free ≡ free
    → Sent m d0 r0 d 1 g → 1 ≤ length c → length c ≤ 255
    → length (d ++ c) ≤ (r0 + 1) * length d0 → length (d ++ c) ≤ 3952
    → tick_count g < u.ticks
    → (r : Receipt) × (answer_to u (g ++ h) (piece m false 0 c) ≡ hands r)
    × ((f : List Event) (room : ℕ)
    → Unreleased u (f ++ (piece m false 0 c ∷ (g ++ h))) (length (g ++ h)) r.slot → length (d ++ c) ≤ room
    → answer_to u (f ++ (piece m false 0 c ∷ (g ++ h))) (copy r room) ≡ copied (d ++ c))

-- Under one mark at most one slot is open.
abbrev pub OneOpenEach : Use → Type 0
OneOpenEach u =
    (h : List Event) (i j : ℕ) (o p : Open)
    → slice_index_or (slots_after u h) i free ≡ opened o → slice_index_or (slots_after u h) j free ≡ opened p → o.mark ≡ p.mark → i ≡ j
