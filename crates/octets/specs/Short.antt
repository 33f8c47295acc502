-- Octets that have memory of their own.
use Rattle.std.specs.Prelude.{ℕ, List, take, Some, None, Option}
use Rattle.octets.specs.declared.short.ShortOctets.{ShortOctets}

-- the octets, which are the first of the memory's
abbrev pub short_octets : {N : ℕ} → ShortOctets N → List ℕ
short_octets s = take s.length s.octets

abbrev pub short_found : {N : ℕ} → Option (ShortOctets N) → Option (List ℕ)
short_found None = None
short_found (Some s) = Some (short_octets s)
