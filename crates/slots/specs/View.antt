-- The slots as they are seen: each free, open under a mark, or whole, with the octets that lie in its stretch of the store.
use Rattle.std.specs.Prelude.{ℕ, suc, ◌*◌, cond, List, [], ◌∷◌, ◌++◌, length, take, drop, Ok, Err, Result, nat_le}
use Rattle.slot_laws.specs.Machine as law
use Rattle.timed_table.specs.declared.entry.Entry.{Entry}
use Rattle.timed_table.specs.declared.entry.Entry.TheVariants.{Free, Timed, Held}
use Rattle.slot_parts.specs.declared.load.Load.{Load}
use Rattle.slot_parts.specs.declared.refusals.CopyRefusal.{CopyRefusal}
use Rattle.slot_parts.specs.declared.refusals.CopyRefusal.TheVariants.{NotWhole, BufferShort}
use Rattle.slots.specs.declared.alone.Slots.{Slots}

-- the slot i, from its entry and the store
abbrev pub view_one : {K : Type 0} → (K → List ℕ) → ℕ → List ℕ → Entry K Load → law.Slot
view_one numbers i os Free = law.free
view_one numbers i os (Timed key ticks load) =
    law.opened (record { mark = numbers key; octets = take load.len (drop (i * 3952) os); remaining = load.remaining; limit = load.limit; ticks = ticks })
view_one numbers i os (Held load) = law.whole (take load.len (drop (i * 3952) os))

abbrev pub view_from : {K : Type 0} → (K → List ℕ) → ℕ → List ℕ → List (Entry K Load) → List law.Slot
view_from numbers i os [] = []
view_from numbers i os (e ∷ es) = view_one numbers i os e ∷ view_from numbers (suc i) os es

-- the slots of the lent records and octets; numbers is what a mark means
unfoldable pub view : {K : Type 0} → (K → List ℕ) → Slots K → List law.Slot
view numbers s = view_from numbers 0 s.store.octets.now s.table.entries.now

-- what a copy of a slot answers, to a buffer of n octets
abbrev pub copy_told : law.Slot → ℕ → Result ℕ CopyRefusal
copy_told law.free n = Err NotWhole
copy_told (law.opened o) n = Err NotWhole
copy_told (law.whole d) n = cond (nat_le (length d) n) (Ok (length d)) (Err BufferShort)

abbrev pub whole_octets : law.Slot → List ℕ
whole_octets law.free = []
whole_octets (law.opened o) = []
whole_octets (law.whole d) = d

-- what a copy leaves in the buffer: the unit in front, all else as before; nothing altered where it is declined
abbrev pub copy_out : law.Slot → Result ℕ CopyRefusal → List ℕ → List ℕ
copy_out s (Ok n) buffer = whole_octets s ++ drop n buffer
copy_out s (Err e) buffer = buffer
