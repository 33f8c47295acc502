use Rattle.std.proofs.Common.{min, map, length, take, ap, ◌∙◌, arith}
use Rattle.timed_table.specs.declared.entry.Entry.TheVariants.{Free}
use Rattle.slots.specs.Pieces.{slots_of}
use Rattle.slots.proofs.Loads.{free_keeps}
use Rattle.slots.proofs.Rest.{all_free}
use Rattle.slots.proofs.alone.Slots.open.Goals as goal

pub invariant_of-result : goal.invariant_of-result
invariant_of-result g c =
    let xs = c.args.records.now in
    let t = c.over-table.ensures.table ∙ ap (λ k. map (λ _. Free) (take (min (length xs) k) xs)) c.most_slots.ensures in
    record { sound = free_keeps xs _ c.args.store.now t }

pub returns-clause-seen : goal.returns-clause-seen
returns-clause-seen g c =
    let xs = c.args.records.now in
    all_free g.K.Mark.numbers _ xs (slots_of (length xs) (length c.args.store.now)) (omega arith)
    (c.over-table.ensures.table ∙ ap (λ k. map (λ _. Free) (take (min (length xs) k) xs)) c.most_slots.ensures)
