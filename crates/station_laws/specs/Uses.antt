-- A use of a station: its opening, and then any calls with anything given, declined ones too, and at each call any line, translator and
-- availability. A history has the newest call first; its calls are numbered from 0, the oldest.
use Rattle.std.specs.Prelude.{◌≡◌, ℕ, suc, ◌+◌, ◌<◌, ◌≤◌, Bool, true, false, ◌⊎◌, List, [], ◌∷◌, ◌++◌, length, replicate, Some, Ok, ◌≢◌, slice_index_or}
use Rattle.message.specs.declared.messages.Form.TheVariants.{Xudt}
use Rattle.message.specs.Options.{segmentation_found}
use Rattle.message.specs.Read.{Parsed, parse}
use Rattle.slot_laws.specs.Machine as law
use Rattle.slot_laws.specs.Uses.{Mem}
use Rattle.timed_table.specs.declared.entry.Entry.TheVariants.{Free}
use Rattle.routing.specs.Meanings.{TablesView}
use Rattle.routing.specs.Ways.{to_subsystem, way_for}
use Rattle.station_laws.specs.Station.{View, from_pieces, by_slots, Outcome, Event, send, receive, tick, copy, release, station_step}

-- what was made by opening: how many slots and reference entries there are, how many ticks an opening has, and the station's code
pub record Use : Type 0 where
  pub slots : ℕ
  pub entries : ℕ
  pub ticks : ℕ
  pub code : ℕ

-- a station that was just opened
abbrev pub opening : Use → View
opening u = record { slots = replicate u.slots law.free; frozen = replicate u.entries Free; last = 0 }

-- the station after a history, and what the next call does
abbrev pub after : Use → List Event → View
after u [] = opening u
after u (e ∷ h) = (station_step u.code u.ticks (after u h) e).after

abbrev pub outcome : Use → List Event → Event → Outcome
outcome u h e = station_step u.code u.ticks (after u h) e

abbrev pub is_tick : Event → ℕ
is_tick (send t places q) = 0
is_tick (receive t places octets) = 0
is_tick tick = 1
is_tick (copy r room) = 0
is_tick (release r) = 0

abbrev pub tick_count : List Event → ℕ
tick_count [] = 0
tick_count (e ∷ h) = is_tick e + tick_count h

-- the call numbered p was e
abbrev pub At : List Event → ℕ → Event → Type 0
At [] p e = ⊥
At (x ∷ h) p e = ((p ≡ length h) × (x ≡ e)) ⊎ At h p e

-- who sent a piece, and for whom: origin, subsystem here, the octets of the calling address, reference
pub record Sender : Type 0 where
  pub origin : ℕ
  pub subsystem : ℕ
  pub calling : List ℕ
  pub reference : ℕ

-- octets that are a piece of this sender, to the station of the code own: they read as an XUDT with segmentation, and are routed to the subsystem here
pub record Piece (own : ℕ) (t : TablesView) (octets : List ℕ) (w : Sender) (first : Bool) (remaining : ℕ) (d : List ℕ) : Type 0 where
  pub message : Parsed
  pub class : ℕ
  pub hop : ℕ
  pub user_class : ℕ
  pub reads : parse octets ≡ Ok message
  pub to_us : message.label.dpc ≡ own
  pub xudt : message.form ≡ Xudt class hop
  pub segmented : segmentation_found message.options ≡ Some (record { first = first; class = user_class; remaining = remaining; reference = w.reference })
  pub routed_here : way_for t own message.form message.called ≡ to_subsystem w.subsystem
  pub origin : message.label.opc ≡ w.origin
  pub calling : message.calling ≡ w.calling
  pub contents : message.«data» ≡ d
  -- an address has 2 to 32 octets
  pub long : 2 ≤ length w.calling
  pub short : length w.calling ≤ 32

-- the call numbered p received a piece of this sender
abbrev pub PieceAt : Use → List Event → ℕ → Sender → Bool → ℕ → List ℕ → Type 0
PieceAt u h p w first remaining d =
    (t : TablesView) × (places : ℕ) × (octets : List ℕ) × At h p (receive t places octets) × Piece u.code t octets w first remaining d

-- octets joined from the pieces at these places, the newest first, all of one sender: the oldest alone has the first bit, and remaining falls by ones down to r
pub data Joined (u : Use) (h : List Event) (w : Sender) : List ℕ → ℕ → List ℕ → Type 0 where
  first : (d : List ℕ) (r p : ℕ) → PieceAt u h p w true r d → Joined u h w d r (p ∷ [])
  then : (d c : List ℕ) (r p : ℕ) (ps : List ℕ) → Joined u h w d (suc r) ps → ((k : ℕ) → Mem k ps → k < p) → PieceAt u h p w false r c → Joined u h w (d ++ c) r (p ∷ ps)

-- the call numbered k handed up the unit x from pieces, to the subsystem s, with the receipt r
abbrev pub HandedUp : Use → List Event → ℕ → ℕ → law.Receipt → List ℕ → Type 0
HandedUp u [] k s r x = ⊥
HandedUp u (e ∷ h) k s r x =
    ((k ≡ length h) × ((outcome u h e).reply ≡ from_pieces s r) × (slice_index_or (after u (e ∷ h)).slots r.slot law.free ≡ law.whole x))
    ⊎ HandedUp u h k s r x

-- no call after the one numbered k released the slot i
abbrev pub Unreleased : Use → List Event → ℕ → ℕ → Type 0
Unreleased u [] k i = Unit {0}
Unreleased u (e ∷ h) k i = (k < length h → (outcome u h e).reply ≢ by_slots (law.released i)) × Unreleased u h k i

-- the call brings no piece of this sender
abbrev pub Apart : ℕ → Sender → Event → Type 0
Apart own w e =
    (t : TablesView) (places : ℕ) (octets : List ℕ) (first : Bool) (remaining : ℕ) (d : List ℕ)
    → e ≡ receive t places octets → Piece own t octets w first remaining d → ⊥

-- the calls bring the pieces of a unit of this sender in order, with any others between but no other piece of the sender:
-- a first piece d0 with r0 remaining, then later ones, each of 1 to 255 octets; so far they make d, and r remain
pub data Coming (own : ℕ) (w : Sender) (d0 : List ℕ) (r0 : ℕ) : List ℕ → ℕ → List Event → Type 0 where
  begins : (t : TablesView) (places : ℕ) (octets : List ℕ) → Piece own t octets w true r0 d0 → Coming own w d0 r0 d0 r0 (receive t places octets ∷ [])
  between : (d : List ℕ) (r : ℕ) (g : List Event) (e : Event) → Coming own w d0 r0 d r g → Apart own w e → Coming own w d0 r0 d r (e ∷ g)
  continues : (d c : List ℕ) (r : ℕ) (g : List Event) (t : TablesView) (places : ℕ) (octets : List ℕ)
      → Coming own w d0 r0 d (suc r) g → Piece own t octets w false r c → 1 ≤ length c → length c ≤ 255
      → Coming own w d0 r0 (d ++ c) r (receive t places octets ∷ g)
