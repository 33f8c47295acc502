-- The parts of a message in the octets that it was read from.
use Rattle.std.specs.Prelude.{◌≡◌, ℕ, ◌+◌, ◌<◌, ◌≤◌, List, length, take, drop, IfOk, Result}
use Rattle.message.specs.declared.faults.ReadFault.{ReadFault}
use Rattle.message.specs.Read.{Parsed}

-- the octets p stand in x at the offset i
abbrev pub Stands : List ℕ → ℕ → List ℕ → Type 0
Stands x i p = (take (length p) (drop i x) ≡ p) × (i + length p ≤ length x)

-- Addresses, data and options stand in the octets behind the label and the pointers, one
-- behind the other, each of the first three behind its length octet.
pub record InOrder (x : List ℕ) (p : Parsed) : Type 0 where
  pub called_at : ℕ
  pub calling_at : ℕ
  pub data_at : ℕ
  pub options_at : ℕ
  pub called : Stands x called_at p.called
  pub calling : Stands x calling_at p.calling
  pub «data» : Stands x data_at p.«data»
  pub options : Stands x options_at p.options
  pub first : 4 + 5 < called_at
  pub second : called_at + length p.called < calling_at
  pub third : calling_at + length p.calling < data_at
  pub fourth : data_at + length p.«data» ≤ options_at

-- parts-inside: the parts of a message that was read lie in the octets given, in order, and
-- do not overlap
abbrev pub PartsInside : List ℕ → Result Parsed ReadFault → Type 0
PartsInside x r = IfOk r (InOrder x)
