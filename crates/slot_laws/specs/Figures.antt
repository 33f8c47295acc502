-- Figures worked out by hand, as facts about the definitions.
use Rattle.std.specs.Prelude.{◌≡◌, ℕ, true, false, List, [], ◌∷◌, ◌++◌, replicate}
use Rattle.slot_laws.specs.Machine.{Receipt, Event, piece, tick, stray, breaks, hands}
use Rattle.slot_laws.specs.Uses.{Use, answer_to}

-- one slot, T 10, code 9
abbrev ten : Use
ten = record { slots = 1; ticks = 10; code = 9 }

abbrev mark : List ℕ
mark = 1 ∷ 2 ∷ 3 ∷ []

abbrev four : List ℕ
four = 0xA1 ∷ 0xA2 ∷ 0xA3 ∷ 0xA4 ∷ []

abbrev five : List ℕ
five = 0xB1 ∷ 0xB2 ∷ 0xB3 ∷ 0xB4 ∷ 0xB5 ∷ []

-- a first piece of 4 octets with remaining 1, and then n ticks
abbrev begun : ℕ → List Event
begun n = replicate n tick ++ (piece mark true 1 four ∷ [])

abbrev receipt : ℕ → Receipt
receipt n = record { code = 9; slot = 0; size = n }

-- T 10: the last piece after nine ticks is handed up
abbrev pub AfterNineTicks : Type 0
AfterNineTicks = answer_to ten (begun 9) (piece mark false 0 four) ≡ hands (receipt 8)

-- and after ten is stray
abbrev pub AfterTenTicks : Type 0
AfterTenTicks = answer_to ten (begun 10) (piece mark false 0 four) ≡ stray

-- first of 4 octets, remaining 1: 4 more are handed up
abbrev pub FourMore : Type 0
FourMore = answer_to ten (begun 0) (piece mark false 0 four) ≡ hands (receipt 8)

-- and 5 more are broken
abbrev pub FiveMore : Type 0
FiveMore = answer_to ten (begun 0) (piece mark false 0 five) ≡ breaks 0
