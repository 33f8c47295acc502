-- What a packed line holds and means, and what its calls leave of its area.
use Rattle.std.specs.Prelude.{ℕ, ◌+◌, ◌*◌, List, Ok, Err, vec_items, Result}
use Rattle.line.specs.declared.refusal.LineRefusal.{LineRefusal}
use Rattle.packed_line.specs.declared.packed.PackedLine.{PackedLine}
use Rattle.packed_line.specs.Pack.{messages, places_beside, put_packed, take_packed}

-- the octets of the area
abbrev pub area_of : PackedLine → List ℕ
area_of s = vec_items s.area

-- the messages that wait, oldest first
abbrev pub waiting_in : PackedLine → List (List ℕ)
waiting_in s = messages (area_of s) s.total s.count

-- the places beside what the messages and their entries use
abbrev pub places_in : PackedLine → ℕ
places_in s = places_beside s.total (s.used + 4 * s.count)

-- an accepted message stands behind the others, its entry below theirs, and all other octets stay
abbrev pub put_area : Result (Unit {0}) LineRefusal → PackedLine → List ℕ → List ℕ
put_area (Ok _) s m = put_packed (area_of s) s.total s.used s.count m
put_area (Err _) s m = area_of s

-- once the oldest message was taken, the others are moved to the front and their entries up
abbrev pub take_area : Result ℕ LineRefusal → PackedLine → List ℕ
take_area (Ok n) s = take_packed (area_of s) s.total s.used s.count n
take_area (Err _) s = area_of s
