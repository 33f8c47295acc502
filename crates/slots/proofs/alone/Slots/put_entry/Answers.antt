use Rattle.slots.proofs.Loads.{put_keeps}
use Rattle.slots.proofs.alone.Slots.put_entry.Goals as goal

pub invariant_of-self : goal.invariant_of-self
invariant_of-self g c =
    let s = c.args.self.now in
    record { sound = put_keeps s.table.entries.now c.put.new.self.entries.now s.store.octets.now c.args.slot c.args.entry c.put.ensures.table s.sound c.requires.1 }
