use Rattle.std.proofs.Common.{ℕ, sym, subst}
use Rattle.outgoing.specs.Units.{heading_seen}
use Rattle.outgoing.proofs.Pieces.{PutSo, begun, one_more, done}
use Rattle.outgoing.proofs.units.put_pieces.Goals as goal

pub loop-index-init : goal.loop-index-init
loop-index-init g c =
    begun g.L.Line.waiting g.L.Line.places c.args.line.now (heading_seen c.args.unit) c.args.reference.number c.args.each c.args.remaining c.args.contents.now
    _ _ _ c.requires.cut c.requires.room (cc) (cc) (cc)

pub loop-index-preserved : goal.loop-index-preserved
loop-index-preserved g c =
    let s = c.in-Some.ensures.steps in
    let h = heading_seen c.args.unit in
    let rest = c.loop-index.index-iterator.iter.rest.now in
    let size = c.loop-index.index-iterator.iter.size in
    let so = subst (λ (i : ℕ). PutSo g.L.Line.waiting g.L.Line.places c.args.line.now h c.args.reference.number c.args.each c.args.remaining c.args.contents.now c.loop-index.line size i rest)
    (sym s.1) c.loop-index.invariant in
    one_more g.L.Line.waiting g.L.Line.places c.args.line.now h c.args.reference.number c.args.each c.args.remaining c.args.contents.now
    c.loop-index.line c.put_piece.new.line size c.in-Some.index rest c.in-Some.piece.now c.next.new.self.iter.rest.now so c.requires.cut s.0.1.2 s.0.1.0 s.0.1.1
    _ _ c.put_piece.result s.0.0 (cc) c.put_piece.ensures.answer c.put_piece.ensures.after

pub returns : goal.returns
returns g c =
    let s = c.in-None.ensures.steps in
    done g.L.Line.waiting g.L.Line.places c.args.line.now (heading_seen c.args.unit) c.args.reference.number c.args.each c.args.remaining c.args.contents.now
    c.loop-index.line c.loop-index.index-iterator.iter.size c.loop-index.index-iterator.count c.loop-index.index-iterator.iter.rest.now c.loop-index.invariant s.0.1.0
