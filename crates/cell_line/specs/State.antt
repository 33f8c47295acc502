-- What a cell line holds and means, and what its calls leave of its area.
use Rattle.std.specs.Prelude.{ℕ, ◌-◌, List, ◌++◌, length, Ok, Err, vec_items, Result}
use Rattle.line.specs.declared.refusal.LineRefusal.{LineRefusal}
use Rattle.octets.specs.Over.{over}
use Rattle.line.specs.Written.{two_octets}
use Rattle.cell_line.specs.declared.cells.CellLine.{CellLine}
use Rattle.cell_line.specs.Ring.{messages, cell_start, wrap}

-- the octets of the area
abbrev pub area_of : CellLine → List ℕ
area_of s = vec_items s.area

-- the messages that wait, oldest first
abbrev pub waiting_in : CellLine → List (List ℕ)
waiting_in s = messages (area_of s) s.cells s.head s.count

-- the unused cells
abbrev pub places_in : CellLine → ℕ
places_in s = s.cells - s.count

-- an accepted message stands, behind its length, in the first unused cell, and all other octets stay
abbrev pub put_area : Result (Unit {0}) LineRefusal → CellLine → List ℕ → List ℕ
put_area (Ok _) s m = over (area_of s) (cell_start s.cells s.head s.count) (two_octets (length m) ++ m)
put_area (Err _) s m = area_of s

-- once the oldest message was taken, the next cell of the ring is the first
abbrev pub take_head : Result ℕ LineRefusal → CellLine → ℕ
take_head (Ok _) s = wrap s.cells s.head 1
take_head (Err _) s = s.head
