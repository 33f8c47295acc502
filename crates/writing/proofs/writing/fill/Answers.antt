use Rattle.std.proofs.Common.{◌≡◌, ◌+◌, length, refl, ap, ◌∙◌, arith}
use Rattle.octets.specs.Over.{over}
use Rattle.address.specs.Label.{label_octets}
use Rattle.writing.specs.Write.{slices_seen, laid, lengths_of, head, head_size, sized, size_of}
use Rattle.writing.proofs.Pieces.{six_put, head_length}
use Rattle.writing.proofs.writing.fill.Goals as goal

pub returns : goal.returns
unfolding laid
returns c =
    let p = slices_seen c.args.s in
    let out = c.args.out.now in
    let n = c.args.n in
    let k = c.head_size-called.result in
    let en : n ≡ lengths_of p = c.requires.lengths in
    let ea : n.called ≡ length p.called = ap (λ z. z.called) en in
    let eb : n.calling ≡ length p.calling = ap (λ z. z.calling) en in
    let ed : n.«data» ≡ length p.«data» = ap (λ z. z.«data») en in
    let eo : n.options ≡ length p.options = ap (λ z. z.options) en in
    let eh : k ≡ head_size p.form = c.head_size-called.ensures in
    let lh = head_length p.form (lengths_of p) in
    six_put out (label_octets p.label) (head p.form (lengths_of p)) (sized p.called) (sized p.calling) (sized p.«data») p.options
    c.put.new.out c.put_head.new.out c.put_part.new.out c.put_part-2.new.out c.put_part-3.new.out c.put-2.new.out
    4 (4 + k) (4 + k + 1 + n.called) (4 + k + 1 + n.called + 1 + n.calling) (4 + k + 1 + n.called + 1 + n.calling + 1 + n.«data») (size_of p.form n)
    refl (omega arith) (omega arith) (omega arith) (omega arith) (omega arith) c.requires.room
    (c.put.ensures ∙ ap (over out 0) c.from.ensures.value)
    (c.put_head.ensures ∙ ap (λ z. over c.put.new.out 4 (head p.form z)) en)
    c.put_part.ensures
    c.put_part-2.ensures
    c.put_part-3.ensures
    c.put-2.ensures
