-- What slots used alone are, to the laws.
use Rattle.std.specs.Prelude.{ℕ, List, length}
use Rattle.slot_laws.specs.Machine as law
use Rattle.slot_laws.specs.Uses.{Use}
use Rattle.slot_parts.specs.declared.settings.Settings.{Settings}
use Rattle.slots.specs.Pieces.{slots_of}
use Rattle.slots.specs.View.{view}
use Rattle.slots.specs.declared.alone.Slots.{Slots}

-- what is made by opening with these settings, records and store
abbrev pub use_of : {X : Type 0} → Settings → List X → List ℕ → Use
use_of settings records store = record { slots = slots_of (length records) (length store); ticks = settings.ticks; code = settings.code }

-- what a call does to the slots as they are seen, and what it answers
abbrev pub step_of : {K : Type 0} → (K → List ℕ) → Slots K → law.Event → law.Step
step_of numbers s e = law.step s.settings.code s.settings.ticks (view numbers s) e
