use Rattle.std.proofs.Common.{◌≡◌, ◌+◌, ap, ◌∙◌, arith}
use Rattle.packed_line.specs.Pack.{offset_of}
use Rattle.packed_line.specs.Index.{lowered_next_offset}
use Rattle.packed_line.proofs.store.lower_index.Goals as goal

pub move_entry-requires : goal.move_entry-requires
move_entry-requires c =
    let k = c.loop-k.k in
    let s = lowered_next_offset c.args.area.now c.args.total c.args.n k (omega arith) (omega arith) in
    let e : offset_of c.loop-k.area c.args.total (k + 1) ≡ offset_of c.args.area.now c.args.total (k + 1) = ap (λ xs. offset_of xs c.args.total (k + 1)) c.loop-k.invariant ∙ s in
    let a = c.requires.above k c.loop-k-test.true in
    (omega arith, (omega arith, omega (arith, a, e)))
