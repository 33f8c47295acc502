use Rattle.std.proofs.Common.{◌≡◌, ◌-◌, length, arith}
use Rattle.pieces.specs.Pieces.{in_piece}
use Rattle.outgoing.specs.Units.{heading_seen}
use Rattle.station.proofs.Counting.{cut_by}
use Rattle.station.proofs.held.Station.put_cut.Goals as goal

pub put_pieces-requires : goal.put_pieces-requires
put_pieces-requires g c =
    let h = heading_seen c.args.unit in
    let each : 251 - length c.octets.result.now - length c.octets-2.result.now ≡ in_piece (length h.called) (length h.calling) = cc in
    record { cut = cut_by h c.args.contents.now c.args.count _ c.requires.many c.requires.count each; room = omega arith }
