use Rattle.std.proofs.Common.{◌≡◌, ◌+◌, ◌++◌, map, get_or, take, drop, set, sym, ap, ◌∙◌, arith}
use Rattle.std.proofs.lemmas.List.Edits.{map_over_more}
use Rattle.timed_table.specs.Table.{ticked, lapses}
use Rattle.timed_table.proofs.Steps.{count_yes, count_no, rest_read}
use Rattle.timed_table.proofs.finding.tick_all.Goals as goal
use Rattle.timed_table.proofs.finding.tick_all.Goals.{then-tick_entry, else-tick_entry}

pub loop-e-preserved : goal.loop-e-preserved
loop-e-preserved g c =
    let xs = c.args.entries.now in
    let ys = c.loop-e.entries in
    let i = c.loop-e.e-index in
    let x = c.e-item.result in
    let lt = c.loop-e-test.true in
    let read : x ≡ get_or xs i x = rest_read ticked xs ys i x lt c.loop-e.invariant.2 c.e-item.is in
    let value : c.tick_entry.result ≡ lapses x = c.tick_entry.ensures.value ∙ ap lapses (sym c.e-item.is) in
    let after : set ys i c.tick_entry.new.entry ≡ map ticked (take (i + 1) xs) ++ drop (i + 1) xs =
    ap (set ys i) (c.tick_entry.ensures.after ∙ ap ticked (sym c.e-item.is)) ∙ map_over_more ticked xs ys i x lt c.loop-e.invariant.2 c.e-item.is in
    elim c.if-tick_entry.branch [
      | then-tick_entry w ↦ (omega (arith, w.n-is), w.n-is ∙ ap (λ k. k + 1) c.loop-e.invariant.1 ∙ sym (count_yes lapses xs i x lt read (sym value ∙ w.if-tick_entry.true)), after)
      | else-tick_entry w ↦ (omega (arith, w.n-is), w.n-is ∙ c.loop-e.invariant.1 ∙ sym (count_no lapses xs i x lt read (sym value ∙ w.if-tick_entry.false)), after)
    ]
