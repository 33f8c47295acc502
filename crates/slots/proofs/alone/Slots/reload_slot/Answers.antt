use Rattle.std.proofs.Common.{get_or}
use Rattle.timed_table.specs.declared.entry.Entry.TheVariants.{Free}
use Rattle.slots.proofs.Loads.{put_keeps, reloaded_ok, all_ok_at}
use Rattle.slots.proofs.alone.Slots.reload_slot.Goals as goal

pub invariant_of-self : goal.invariant_of-self
invariant_of-self g c =
    let s = c.args.self.now in
    let es = s.table.entries.now in
    let ok = reloaded_ok c.args.load (get_or es c.args.slot Free) (all_ok_at es c.args.slot s.sound.2) c.requires.1 in
    record { sound = put_keeps es _ s.store.octets.now c.args.slot _ c.reload.ensures.table s.sound ok }
