-- The bounds on what a slot keeps.
use Rattle.std.specs.Prelude.{Bool, ◌&&◌, nat_le}
use Rattle.slot_parts.specs.declared.load.Load.{Load}

-- the length so far is within the limit, and the limit within a stretch
abbrev pub load_ok : Load → Bool
load_ok l = nat_le l.len l.limit && nat_le l.limit 3952
