-- What a piece does, decided by the state of its slot and the piece together.
use Rattle.std.specs.Prelude.{◌≡◌, ℕ, ◌+◌, ◌*◌, ◌<◌, ◌≤◌, min, Bool, true, false, cond, ◌&&◌, Some, None, Option, ◌==◌, nat_le}
use Rattle.slot_parts.specs.declared.load.Load.{Load}
use Rattle.slot_parts.specs.declared.deciding.OpenSlot.{OpenSlot}
use Rattle.slot_parts.specs.declared.deciding.Step.{Step}
use Rattle.slot_parts.specs.declared.deciding.Step.TheVariants as step

abbrev pub load_limit : ℕ → ℕ → ℕ
load_limit remaining len = min ((remaining + 1) * len) 3952

abbrev pub load_of : ℕ → ℕ → ℕ → Load
load_of remaining limit len = record { remaining = remaining; limit = limit; len = len }

-- an open slot's length is within its limit, and that within a stretch
abbrev pub Within : Option OpenSlot → Type 0
Within None = Unit {0}
Within (Some o) = (o.load.len ≤ o.load.limit) × (o.load.limit ≤ 3952)

-- a first piece opens the slot anew
abbrev pub first_load : ℕ → ℕ → Load
first_load remaining len = load_of remaining (load_limit remaining len) len

-- a later piece follows on if one less remains and the sum is within the limit
abbrev pub load_follows : Load → ℕ → ℕ → Bool
load_follows load remaining len = remaining + 1 == load.remaining && nat_le (load.len + len) load.limit

abbrev pub grown_load : Load → ℕ → ℕ → Load
grown_load load remaining len = load_of remaining load.limit (load.len + len)

-- a later piece, to the open slot
abbrev later : ℕ → Load → ℕ → ℕ → Step
later slot load remaining len =
    cond (load_follows load remaining len)
    (cond (remaining == 0) (step.Finish slot (grown_load load remaining len)) (step.Hold slot (grown_load load remaining len)))
    (step.Break slot)

-- the slot's state and the piece decide
abbrev pub decided : Option OpenSlot → Bool → ℕ → ℕ → Step
decided None true remaining len = cond (remaining == 0) step.Alone (step.Open (first_load remaining len))
decided (Some o) true remaining len = cond (remaining == 0) step.Alone (step.Restart o.slot (first_load remaining len))
decided None false remaining len = step.Stray
decided (Some o) false remaining len = later o.slot o.load remaining len

-- an open slot is one of n
abbrev pub Below : Option OpenSlot → ℕ → Type 0
Below None n = Unit {0}
Below (Some o) n = o.slot < n

-- a load that a piece of k octets has grown to, at one of n slots
pub record Grows (slot : ℕ) (load : Load) (k n : ℕ) : Type 0 where
  pub below : slot < n
  pub covers : k ≤ load.len
  pub short : load.len ≤ load.limit
  pub stretch : load.limit ≤ 3952

-- a load that a first piece of k octets has made
pub record Starts (load : Load) (k : ℕ) : Type 0 where
  pub covers : load.len ≡ k
  pub short : load.len ≤ load.limit
  pub stretch : load.limit ≤ 3952

-- what a step asks of a piece of k octets and of n slots
abbrev pub Fit : Step → ℕ → ℕ → Type 0
Fit step.Alone k n = Unit {0}
Fit (step.Open load) k n = Starts load k
Fit (step.Restart slot load) k n = (slot < n) × Starts load k
Fit step.Stray k n = Unit {0}
Fit (step.Break slot) k n = slot < n
Fit (step.Hold slot load) k n = Grows slot load k n
Fit (step.Finish slot load) k n = Grows slot load k n
