-- What a call leaves of the slots.
use Rattle.std.specs.Prelude.{◌≡◌, ℕ, List}
use Rattle.timed_table.specs.declared.entry.Entry.{Entry}
use Rattle.slot_parts.specs.declared.load.Load.{Load}
use Rattle.slots.specs.declared.alone.Slots.{Slots}

-- entries and octets as stated, the settings and the records beyond as before, and all in the memory that was lent
pub record Became {K : Type 0} (before after : Slots K) (entries : List (Entry K Load)) (octets : List ℕ) : Type 0 where
  pub settings : after.settings ≡ before.settings
  pub table : after.table.entries.now ≡ entries
  pub store : after.store.octets.now ≡ octets
  pub beyond : after.table.beyond.now ≡ before.table.beyond.now
  pub entries_lender : after.table.entries.ghost_name ≡ before.table.entries.ghost_name
  pub octets_lender : after.store.octets.ghost_name ≡ before.store.octets.ghost_name
  pub beyond_lender : after.table.beyond.ghost_name ≡ before.table.beyond.ghost_name
