use Rattle.slots.proofs.Loads.{tick_keeps}
use Rattle.slots.proofs.alone.Slots.tick.Goals as goal

pub invariant_of-self : goal.invariant_of-self
invariant_of-self g c =
    let s = c.args.self.now in
    record { sound = tick_keeps s.table.entries.now _ s.store.octets.now c.tick.ensures.after.table s.sound }
