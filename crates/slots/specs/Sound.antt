-- The bounds that slots keep.
use Rattle.std.specs.Prelude.{◌≡◌, ℕ, ◌*◌, ◌≤◌, true, List, length}
use Rattle.timed_table.specs.declared.entry.Entry.{Entry}
use Rattle.slot_parts.specs.declared.load.Load.{Load}
use Rattle.slots.specs.Loads.{all_ok}

-- of these entries and octets: at most 16 slots, each with a stretch of the store, and each unit within its stretch
abbrev pub Sound : {K : Type 0} → List (Entry K Load) → List ℕ → Type 0
Sound es os = (length es ≤ 16) × (length es * 3952 ≤ length os) × (all_ok es ≡ true)
