-- The numbers that the two kinds of mark mean.
use Rattle.std.specs.Prelude.{◌≡◌, ℕ, List, [], ◌∷◌, ◌++◌}
use Rattle.octets.specs.Short.{short_octets}
use Rattle.timed_table.specs.declared.reference.Reference.{Reference}
use Rattle.timed_table.specs.declared.station_mark.StationMark.{StationMark}

abbrev pub reference_numbers : Reference → List ℕ
reference_numbers m = m.number ∷ []

-- the octets of the calling address
abbrev pub calling_of : StationMark → List ℕ
calling_of m = short_octets m.calling

-- origin, subsystem here, the octets of the calling address, reference
abbrev pub station_numbers : StationMark → List ℕ
station_numbers m = m.opc ∷ m.subsystem ∷ (calling_of m ++ (m.reference ∷ []))

-- marks with the same numbers have the same origin, subsystem, calling address and reference
abbrev pub MarksTell : Type 0
MarksTell =
    ((a b : Reference) → reference_numbers a ≡ reference_numbers b → a.number ≡ b.number)
    × ((a b : StationMark) → station_numbers a ≡ station_numbers b
    → (a.opc ≡ b.opc) × (a.subsystem ≡ b.subsystem) × (calling_of a ≡ calling_of b) × (a.reference ≡ b.reference))
