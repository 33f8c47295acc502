-- The laws of a use of a station.
use Rattle.std.specs.Prelude.{◌≡◌, ℕ, suc, ◌+◌, ◌-◌, ◌*◌, ◌<◌, ◌≤◌, Bool, true, false, ◌≢◌, ◌⊎◌, List, [], ◌∷◌, ◌++◌, length, get_or, Some, Ok, slice_index_or}
use Rattle.address.specs.Address.{address_ok}
use Rattle.message.specs.declared.messages.Form.TheVariants.{Xudt}
use Rattle.message.specs.Options.{segmentation_found}
use Rattle.message.specs.Read.{Parsed, parse}
use Rattle.pieces.specs.Pieces.{piece_count}
use Rattle.slot_laws.specs.Machine as law
use Rattle.slot_laws.specs.Uses.{Mem, counts_opened, counts_handed, counts_broken, counts_lapsed}
use Rattle.outgoing.specs.Puts.{label_to}
use Rattle.routing.specs.Meanings.{TablesView}
use Rattle.routing.specs.Ways.{to_subsystem, way_for}
use Rattle.station_laws.specs.Station.{Reply, declined, unread, no_way, handed_up, notice, from_pieces, by_slots, passed_on, returned, told_here, discarded, sent_here, sent_one, sent_pieces, Request, Event, send, receive, tick, copy}
use Rattle.station_laws.specs.Uses.{Use, after, outcome, tick_count, Sender, Joined, HandedUp, Unreleased, Piece, Apart, Coming}

-- the slots declined
abbrev pub refuses : law.Answer → Bool
refuses (law.declined n) = true
refuses (law.alone d) = false
refuses (law.refused c) = false
refuses (law.opens i) = false
refuses (law.restarts i) = false
refuses law.stray = false
refuses (law.breaks i) = false
refuses (law.holds i) = false
refuses (law.hands r) = false
refuses (law.lapses n) = false
refuses (law.released i) = false
refuses (law.copied d) = false

-- The account.

-- what a reply counts for, by what the slots answered
abbrev pub counted : (law.Answer → ℕ) → Reply → ℕ
counted f (declined n) = 0
counted f (unread n e) = 0
counted f (no_way n c) = 0
counted f (handed_up s p) = 0
counted f (notice s p) = 0
counted f (from_pieces s r) = f (law.hands r)
counted f (by_slots a) = f a
counted f (passed_on c) = 0
counted f (returned c d) = 0
counted f (told_here c s p) = 0
counted f (discarded c) = 0
counted f (sent_here s d) = 0
counted f (sent_one c l) = 0
counted f (sent_pieces c n r l) = 0

-- added up over a history
abbrev pub total : (law.Answer → ℕ) → Use → List Event → ℕ
total f u [] = 0
total f u (e ∷ h) = counted f (outcome u h e).reply + total f u h

-- nothing is lost: opened = handed up from pieces + broken + lapsed + still open
abbrev pub Account : Use → Type 0
Account u =
    (h : List Event)
    → total counts_opened u h ≡ total counts_handed u h + total counts_broken u h + total counts_lapsed u h + law.open_count (after u h).slots

-- No opening outlives T.

-- the call e, coming after h, ends the opening in the slot i: handed up, broken, restarted or lapsed
pub data Ends (u : Use) (h : List Event) (i : ℕ) : Event → Type 0 where
  handed : {e : Event} (s : ℕ) (r : law.Receipt) → (outcome u h e).reply ≡ from_pieces s r → r.slot ≡ i → Ends u h i e
  broken : {e : Event} → (outcome u h e).reply ≡ by_slots (law.breaks i) → Ends u h i e
  restarted : {e : Event} → (outcome u h e).reply ≡ by_slots (law.restarts i) → Ends u h i e
  lapsed : get_or (after u (tick ∷ h)).slots i law.free ≡ law.free → Ends u h i tick

-- some call of g, which came after h, ended the opening in the slot i
pub data Over (u : Use) (h : List Event) (i : ℕ) : List Event → Type 0 where
  now_over : {e : Event} {g : List Event} → Ends u (g ++ h) i e → Over u h i (e ∷ g)
  before : {e : Event} {g : List Event} → Over u h i g → Over u h i (e ∷ g)

-- the reply says that the slot i was opened
abbrev pub Opens : ℕ → Reply → Type 0
Opens i a = (a ≡ by_slots (law.opens i)) ⊎ (a ≡ by_slots (law.restarts i))

-- T ticks after a slot was opened, that opening is over
abbrev pub NoOpeningOutlives : Use → Type 0
NoOpeningOutlives u =
    (h g : List Event) (e : Event) (i : ℕ)
    → Opens i (outcome u h e).reply → u.ticks ≤ tick_count g
    → Over u (e ∷ h) i g

-- One sender's data.

-- each unit handed up from pieces is the data of one sender for that subsystem, joined as it came from a first piece down to remaining 0, two pieces
-- or more, and the last of them is the call that handed it up; no piece is in two units; and whatever a whole slot holds is such a unit, not released since
abbrev pub OneSender : Use → Type 0
OneSender u =
    (h : List Event)
    → (pieces_of : ℕ → List ℕ)
    × ((k s : ℕ) (r : law.Receipt) (x : List ℕ) → HandedUp u h k s r x
    → (w : Sender) × (before-it : List ℕ) × (w.subsystem ≡ s) × (pieces_of k ≡ k ∷ before-it) × (1 ≤ length before-it) × Joined u h w x 0 (k ∷ before-it))
    × ((k l p : ℕ) → Mem p (pieces_of k) → Mem p (pieces_of l) → k ≡ l)
    × ((i : ℕ) (x : List ℕ) → slice_index_or (after u h).slots i law.free ≡ law.whole x
    → (k : ℕ) × (s : ℕ) × (r : law.Receipt) × (r.slot ≡ i) × HandedUp u h k s r x × Unreleased u h k i)

-- a unit that was handed up stays as it is until its slot is released, and its receipt tells the station, the slot and its length;
-- until then copying gives it to every buffer that is long enough
abbrev pub Kept : Use → Type 0
Kept u =
    (h : List Event) (k s : ℕ) (r : law.Receipt) (x : List ℕ)
    → HandedUp u h k s r x → Unreleased u h k r.slot
    → (r.code ≡ u.code) × (r.slot < u.slots) × (r.size ≡ length x)
    × (slice_index_or (after u h).slots r.slot law.free ≡ law.whole x)
    × ((room : ℕ) → length x ≤ room → (outcome u h (copy r room)).reply ≡ by_slots (law.copied x))

-- Arrives entire.

-- until the slot of the receipt is released, copying gives the unit x; the call that handed it up is e, after h
abbrev pub CopiesGive : Use → List Event → Event → law.Receipt → List ℕ → Type 0
CopiesGive u h e r x =
    (f : List Event) (room : ℕ) → Unreleased u (f ++ (e ∷ h)) (length h) r.slot → length x ≤ room
    → (outcome u (f ++ (e ∷ h)) (copy r room)).reply ≡ by_slots (law.copied x)

-- a unit in 2 to 16 pieces of one sender, in all at most their number times the first's length and at most 3,952 octets, is handed up entire at its last,
-- where a slot is free at the first and fewer than T ticks come from first to last; and copying gives it until its slot is released
abbrev pub ArrivesEntire : Use → Type 0
ArrivesEntire u =
    (h g : List Event) (w : Sender) (d0 d c : List ℕ) (r0 i : ℕ) (t : TablesView) (places : ℕ) (octets : List ℕ)
    → 1 ≤ r0 → r0 ≤ 15 → 1 ≤ length d0 → length d0 ≤ 255
    → i < u.slots → slice_index_or (after u h).slots i law.free ≡ law.free
    → Coming u.code w d0 r0 d 1 g → Piece u.code t octets w false 0 c → 1 ≤ length c → length c ≤ 255
    → length (d ++ c) ≤ (r0 + 1) * length d0 → length (d ++ c) ≤ 3952
    → tick_count g < u.ticks
    → (r : law.Receipt) × ((outcome u (g ++ h) (receive t places octets)).reply ≡ from_pieces w.subsystem r)
    × CopiesGive u (g ++ h) (receive t places octets) r (d ++ c)

-- What send puts on a line in pieces.

-- octets that read as a piece that the station of the code own sends to a code: an XUDT with hop 15 and segmentation, and some data
pub record SentPiece (own code sls : ℕ) (called calling : List ℕ) (user_class reference : ℕ) (octets : List ℕ) (first : Bool) (remaining : ℕ) (d : List ℕ) : Type 0 where
  pub message : Parsed
  pub class : ℕ
  pub reads : parse octets ≡ Ok message
  pub label : message.label ≡ label_to code own sls
  pub form : message.form ≡ Xudt class 15
  pub called_is : message.called ≡ called
  pub calling_is : message.calling ≡ calling
  pub segmented : segmentation_found message.options ≡ Some (record { first = first; class = user_class; remaining = remaining; reference = reference })
  pub contents : message.«data» ≡ d
  pub some : 1 ≤ length d
  pub few : length d ≤ 255

-- the messages, oldest first, carry a unit in pieces in order, under one origin, calling address and reference: a first piece d0 with r0 remaining; so far d, and r remain
pub data Carried (own code sls : ℕ) (called calling : List ℕ) (user_class reference : ℕ) (d0 : List ℕ) (r0 : ℕ) : List ℕ → ℕ → List (List ℕ) → Type 0 where
  begins : (x : List ℕ) → SentPiece own code sls called calling user_class reference x true r0 d0 → Carried own code sls called calling user_class reference d0 r0 d0 r0 (x ∷ [])
  continues : (d c : List ℕ) (r : ℕ) (xs : List (List ℕ)) (x : List ℕ)
      → Carried own code sls called calling user_class reference d0 r0 d (suc r) xs
      → SentPiece own code sls called calling user_class reference x false r c
      → Carried own code sls called calling user_class reference d0 r0 (d ++ c) r (xs ++ x ∷ [])

-- what a call that answered "sent in pieces" has put on the line, read back, is the unit that it was given, so cut: 2 to 16 pieces, as few as can be,
-- together at most their number times the first's length
pub record UnitSent (own code count reference sls : ℕ) (q : Request) (sent : List (List ℕ)) : Type 0 where
  pub called : List ℕ
  pub calling : List ℕ
  pub first : List ℕ
  pub good_called : address_ok called ≡ true
  pub good_calling : address_ok calling ≡ true
  pub carried : Carried own code sls called calling q.class reference first (count - 1) q.contents 0 sent
  pub many : length sent ≡ count
  pub fewest : count ≡ piece_count (length called) (length calling) (length q.contents)
  pub least : 2 ≤ count
  pub most : count ≤ 16
  pub some : 1 ≤ length first
  pub limit : length q.contents ≤ count * length first
  pub size : length q.contents ≤ 3952

-- of a station whose code is a point code, and that sends to a point code
abbrev pub SentInPieces : Use → Type 0
SentInPieces u =
    (h : List Event) (t : TablesView) (places : ℕ) (q : Request) (code count reference sls : ℕ)
    → u.code < 16384 → code < 16384
    → (outcome u h (send t places q)).reply ≡ sent_pieces code count reference sls
    → UnitSent u.code code count reference sls q (outcome u h (send t places q)).sent

-- units that are sent in pieces fewer than 30 ticks apart never share a reference
abbrev pub NeverShared : Use → Type 0
NeverShared u =
    (h g : List Event) (e₁ e₂ : Event) (code₁ count₁ reference₁ sls₁ code₂ count₂ reference₂ sls₂ : ℕ)
    → u.entries ≤ 64
    → (outcome u h e₁).reply ≡ sent_pieces code₁ count₁ reference₁ sls₁
    → (outcome u (g ++ (e₁ ∷ h)) e₂).reply ≡ sent_pieces code₂ count₂ reference₂ sls₂
    → tick_count g < 30
    → reference₁ ≢ reference₂

-- A declined call.

-- the reply is a refusal
abbrev pub declines : Reply → Bool
declines (declined n) = true
declines (unread n e) = true
declines (no_way n c) = true
declines (handed_up s p) = false
declines (notice s p) = false
declines (from_pieces s r) = false
declines (by_slots a) = refuses a
declines (passed_on c) = false
declines (returned c d) = false
declines (told_here c s p) = false
declines (discarded c) = false
declines (sent_here s d) = false
declines (sent_one c l) = false
declines (sent_pieces c n r l) = false

-- it alters nothing, and puts nothing on the line
abbrev pub DeclinedAltersNothing : Use → Type 0
DeclinedAltersNothing u =
    (h : List Event) (e : Event) → declines (outcome u h e).reply ≡ true
    → (after u (e ∷ h) ≡ after u h) × ((outcome u h e).sent ≡ [])

-- From station to station.

-- what these octets read as is routed to the subsystem s at the station of the code own
abbrev pub RoutedTo : ℕ → TablesView → List ℕ → ℕ → Type 0
RoutedTo own t octets s = (p : Parsed) → parse octets ≡ Ok p → way_for t own p.form p.called ≡ to_subsystem s

-- these messages are received in order, each routed to the sender's subsystem here, with any other calls between but no other piece of the sender
pub data TakenIn (own : ℕ) (w : Sender) : List (List ℕ) → List Event → Type 0 where
  begins : (t : TablesView) (places : ℕ) (x : List ℕ) → RoutedTo own t x w.subsystem → TakenIn own w (x ∷ []) (receive t places x ∷ [])
  between : (xs : List (List ℕ)) (g : List Event) (e : Event) → TakenIn own w xs g → Apart own w e → TakenIn own w xs (e ∷ g)
  continues : (xs : List (List ℕ)) (g : List Event) (t : TablesView) (places : ℕ) (x : List ℕ)
      → TakenIn own w xs g → RoutedTo own t x w.subsystem → TakenIn own w (xs ++ x ∷ []) (receive t places x ∷ g)

abbrev pub sender_of : ℕ → ℕ → List ℕ → ℕ → Sender
sender_of origin s calling reference = record { origin = origin; subsystem = s; calling = calling; reference = reference }

-- what the station a sends in pieces to the code of b, taken from a's line in order and received by b, which routes each of them to a subsystem s, with a
-- slot free at the first and fewer than T ticks from first to last, is handed up there entire; sent is all that a put on its line, x the last of it
abbrev pub FromStationToStation : Use → Use → Type 0
FromStationToStation a b =
    (h : List Event) (t : TablesView) (places : ℕ) (q : Request) (count reference sls : ℕ)
    → a.code < 16384 → b.code < 16384
    → (outcome a h (send t places q)).reply ≡ sent_pieces b.code count reference sls
    → (calling : List ℕ)
    × ((k g : List Event) (s i : ℕ) (u : TablesView) (room : ℕ) (xs : List (List ℕ)) (x : List ℕ)
    → (outcome a h (send t places q)).sent ≡ xs ++ x ∷ []
    → i < b.slots → slice_index_or (after b k).slots i law.free ≡ law.free
    → TakenIn b.code (sender_of a.code s calling reference) xs g → RoutedTo b.code u x s
    → tick_count g < b.ticks
    → (r : law.Receipt) × ((outcome b (g ++ k) (receive u room x)).reply ≡ from_pieces s r)
    × CopiesGive b (g ++ k) (receive u room x) r q.contents)
