use Rattle.outgoing.specs.Units.{heading_seen}
use Rattle.outgoing.proofs.Pieces.{PutSo}
use Rattle.outgoing.proofs.units.put_pieces.Given as goal

abbrev pub invariant-loop-index : goal.invariant-loop-index
invariant-loop-index g l =
    PutSo g.L.Line.waiting g.L.Line.places l.initial.line (heading_seen l.unit) l.reference.number l.each l.remaining l.contents l.line
    l.index-iterator.iter.size l.index-iterator.count l.index-iterator.iter.rest.now
