-- A ring of 274-octet cells in an area of octets: each cell is a two-octet length, low octet first, and up to 272 octets.
use Rattle.std.specs.Prelude.{◌≡◌, ℕ, ◌+◌, ◌-◌, ◌*◌, ◌<◌, true, cond, List, map, take, drop, nat_lt}
use Rattle.std.specs.List.{range_with_len}
use Rattle.line.specs.Meaning.{fits}
use Rattle.line.specs.Written.{two}

-- the octets of a cell
abbrev pub cell_octets : ℕ
cell_octets = 274

-- the number of the cell i places after another, in a ring of so many cells
abbrev pub wrap : ℕ → ℕ → ℕ → ℕ
wrap cells head i = cond (nat_lt (head + i) cells) (head + i) (head + i - cells)

-- where that cell begins
abbrev pub cell_start : ℕ → ℕ → ℕ → ℕ
cell_start cells head i = cell_octets * wrap cells head i

-- the message in the cell that begins at a place
abbrev pub cell_message : List ℕ → ℕ → List ℕ
cell_message xs at = take (two xs at) (drop (at + 2) xs)

-- the messages of count cells, from head on
unfoldable pub messages : List ℕ → ℕ → ℕ → ℕ → List (List ℕ)
messages xs cells head count = map (λ k. cell_message xs (cell_start cells head k)) (range_with_len 0 count)

-- each of these cells tells a length that a message may have
abbrev pub Held : List ℕ → ℕ → ℕ → ℕ → Type 0
Held xs cells head count = (k : ℕ) → k < count → fits (two xs (cell_start cells head k)) ≡ true
