-- The routing label: DPC + 16,384 × OPC + 268,435,456 × SLS in four octets, low octet first.
use Rattle.std.specs.Prelude.{◌≡◌, ℕ, ◌+◌, ◌*◌, ◌/◌, ◌%◌, ◌<◌, List, [], ◌∷◌, slice_index}
use Rattle.address.specs.declared.labels.Label.{Label}

-- the number that four octets hold, low octet first
abbrev pub word : List ℕ → ℕ
word x = slice_index x 0 + 256 * slice_index x 1 + 65536 * slice_index x 2 + 16777216 * slice_index x 3

abbrev pub label_of : List ℕ → Label
label_of x = record { dpc = word x % 16384; opc = word x / 16384 % 16384; sls = word x / 268435456 }

-- the number of a label
abbrev pub label_word : Label → ℕ
label_word l = l.dpc % 16384 + 16384 * (l.opc % 16384) + 268435456 * (l.sls % 16)

-- its four octets
abbrev pub word_octets : ℕ → List ℕ
word_octets w = w % 256 ∷ w / 256 % 256 ∷ w / 65536 % 256 ∷ w / 16777216 ∷ []

abbrev pub label_octets : Label → List ℕ
label_octets l = word_octets (label_word l)

-- codes and link selection are in their ranges
abbrev pub LabelFits : Label → Type 0
LabelFits l = (l.dpc < 16384) × (l.opc < 16384) × (l.sls < 16)

-- a label written reads back the same
abbrev pub LabelReadsBack : Type 0
LabelReadsBack = (l : Label) → LabelFits l → label_of (label_octets l) ≡ l

-- a label read is written as it was
abbrev pub LabelWritesBack : Type 0
LabelWritesBack = (a b c d : ℕ) → a < 256 → b < 256 → c < 256 → d < 256 → label_octets (label_of (a ∷ b ∷ c ∷ d ∷ [])) ≡ a ∷ b ∷ c ∷ d ∷ []

-- 05 40 02 30 is DPC 5, OPC 9, SLS 3
abbrev pub LabelFigure : Type 0
LabelFigure = label_of (0x05 ∷ 0x40 ∷ 0x02 ∷ 0x30 ∷ []) ≡ record { dpc = 5; opc = 9; sls = 3 }
