-- The bounds that the entries keep.
use Rattle.std.specs.Prelude.{Bool, true, ◌&&◌, List, [], ◌∷◌}
use Rattle.timed_table.specs.declared.entry.Entry.{Entry}
use Rattle.timed_table.specs.declared.entry.Entry.TheVariants.{Free, Timed, Held}
use Rattle.slot_parts.specs.declared.load.Load.{Load}
use Rattle.slot_parts.specs.Loads.{load_ok}

abbrev pub entry_ok : {K : Type 0} → Entry K Load → Bool
entry_ok Free = true
entry_ok (Timed key ticks load) = load_ok load
entry_ok (Held load) = load_ok load

abbrev pub all_ok : {K : Type 0} → List (Entry K Load) → Bool
all_ok [] = true
all_ok (e ∷ es) = entry_ok e && all_ok es
