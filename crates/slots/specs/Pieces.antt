-- What a piece does to the records and to the store, octet for octet.
use Rattle.std.specs.Prelude.{ℕ, ◌+◌, ◌-◌, ◌*◌, ◌/◌, min, Bool, cond, ◌||◌, List, length, Some, None, Option, ◌==◌, nat_lt, slice_index_or, slice_set}
use Rattle.slot_laws.specs.Machine as law
use Rattle.timed_table.specs.Table.{timed_as, reloaded, first_from, last_from, is_free, held_load}
use Rattle.timed_table.specs.declared.entry.Entry.{Entry}
use Rattle.timed_table.specs.declared.entry.Entry.TheVariants.{Free, Timed, Held}
use Rattle.slot_parts.specs.Copies.{overwritten}
use Rattle.slot_parts.specs.Deciding.{decided}
use Rattle.slot_parts.specs.declared.load.Load.{Load}
use Rattle.slot_parts.specs.declared.deciding.OpenSlot.{OpenSlot}
use Rattle.slot_parts.specs.declared.deciding.Step.{Step}
use Rattle.slot_parts.specs.declared.deciding.Step.TheVariants as step

-- the slot that is open under a mark, where it is the entry at this index
abbrev pub found_entry : {K : Type 0} → ℕ → Entry K Load → Option OpenSlot
found_entry i Free = None
found_entry i (Timed key ticks load) = Some (record { slot = i; load = load })
found_entry i (Held load) = None

abbrev pub found_of : {K : Type 0} → Option ℕ → List (Entry K Load) → Option OpenSlot
found_of None es = None
found_of (Some i) es = found_entry i (slice_index_or es i Free)

-- the answer to a step; free is the highest-numbered free entry
abbrev open_answer : {X : Type 0} → Option ℕ → List X → law.Answer
open_answer None es = law.refused (cond (length es == 0) 10 6)
open_answer (Some i) es = law.opens i

abbrev pub answer_of : {X : Type 0} → ℕ → Step → Option ℕ → List X → List ℕ → law.Answer
answer_of C step.Alone free es ys = law.alone ys
answer_of C (step.Open load) free es ys = open_answer free es
answer_of C (step.Restart slot load) free es ys = law.restarts slot
answer_of C step.Stray free es ys = law.stray
answer_of C (step.Break slot) free es ys = law.breaks slot
answer_of C (step.Hold slot load) free es ys = law.holds slot
answer_of C (step.Finish slot load) free es ys = law.hands (record { code = C; slot = slot; size = load.len })

-- the entries after a step
abbrev open_entries : {K : Type 0} → Option ℕ → Entry K Load → List (Entry K Load) → List (Entry K Load)
open_entries None e es = es
open_entries (Some i) e es = slice_set es i e

abbrev pub entries_after : {K : Type 0} → Step → Option ℕ → K → ℕ → List (Entry K Load) → List (Entry K Load)
entries_after step.Alone free key ticks es = es
entries_after (step.Open load) free key ticks es = open_entries free (Timed key ticks load) es
entries_after (step.Restart slot load) free key ticks es = slice_set es slot (Timed key ticks load)
entries_after step.Stray free key ticks es = es
entries_after (step.Break slot) free key ticks es = slice_set es slot Free
entries_after (step.Hold slot load) free key ticks es = slice_set es slot (reloaded load (slice_index_or es slot Free))
entries_after (step.Finish slot load) free key ticks es = slice_set es slot (Held load)

-- the store after a step: a first piece at the front of its slot's stretch, a later one right behind what is there
abbrev open_octets : Option ℕ → List ℕ → List ℕ → List ℕ
open_octets None ys os = os
open_octets (Some i) ys os = overwritten (i * 3952 + 0) ys os

abbrev pub octets_after : Step → Option ℕ → List ℕ → List ℕ → List ℕ
octets_after step.Alone free ys os = os
octets_after (step.Open load) free ys os = open_octets free ys os
octets_after (step.Restart slot load) free ys os = overwritten (slot * 3952 + 0) ys os
octets_after step.Stray free ys os = os
octets_after (step.Break slot) free ys os = os
octets_after (step.Hold slot load) free ys os = overwritten (slot * 3952 + (load.len - length ys)) ys os
octets_after (step.Finish slot load) free ys os = overwritten (slot * 3952 + (load.len - length ys)) ys os

-- what the piece does, where p tells the entry that is open under its mark
abbrev pub step_for : {K : Type 0} → (Entry K Load → Bool) → Bool → ℕ → ℕ → List (Entry K Load) → Step
step_for p first remaining k es = decided (found_of (first_from p 0 es) es) first remaining k

-- remaining above 15, or data not of 1 to 255 octets
abbrev pub outside : ℕ → ℕ → Bool
outside remaining k = nat_lt 15 remaining || (k == 0 || nat_lt 255 k)

-- a piece's answer, and the entries and the store after it
module _ {K : Type 0} (numbers : K → List ℕ) (key : K) (first : Bool) (remaining : ℕ) (ys : List ℕ) (es : List (Entry K Load)) where
  abbrev pub piece_step_seen : Step
  piece_step_seen = step_for (timed_as numbers (numbers key)) first remaining (length ys) es

  abbrev pub piece_answer : ℕ → law.Answer
  piece_answer C = cond (outside remaining (length ys)) (law.declined 43) (answer_of C piece_step_seen (last_from is_free 0 None es) es ys)

  abbrev pub piece_entries : ℕ → List (Entry K Load)
  piece_entries ticks = cond (outside remaining (length ys)) es (entries_after piece_step_seen (last_from is_free 0 None es) key ticks es)

  abbrev pub piece_octets : List ℕ → List ℕ
  piece_octets os = cond (outside remaining (length ys)) os (octets_after piece_step_seen (last_from is_free 0 None es) ys os)

-- what is kept of the whole slot that a receipt names, to a station of the code C
abbrev pub named_load : {K : Type 0} → ℕ → law.Receipt → List (Entry K Load) → Option Load
named_load C r es = cond (r.code == C) (held_load (slice_index_or es r.slot Free)) None

-- the entries after a release: the named one is free, if it is whole
abbrev pub freed_entries : {K : Type 0} → ℕ → Option Load → List (Entry K Load) → List (Entry K Load)
freed_entries i None es = es
freed_entries i (Some load) es = slice_set es i Free

abbrev pub release_entries : {K : Type 0} → ℕ → law.Receipt → List (Entry K Load) → List (Entry K Load)
release_entries C r es = freed_entries r.slot (named_load C r es) es

-- how many slots r records and s octets give: the least of the records, of the stretches in the store, and of 16
abbrev pub slots_of : ℕ → ℕ → ℕ
slots_of r s = min r (min (s / 3952) 16)
