use Rattle.message.specs.Read.{seen as parts_seen}
use Rattle.station.proofs.Taking.{taken}
use Rattle.station.proofs.held.Station.take_piece.Goals as goal

pub returns-clause-slots : goal.returns-clause-slots
returns-clause-slots c =
    let s = c.args.self.now.slots in
    taken s.settings.ticks s c.piece-answer.new.self (parts_seen c.args.parts) c.args.subsystem c.args.segmentation c.new.result c.in_ok-mark.mark c.octets.result.now
    c.in_ok-mark.ensures.value c.octets.ensures c.new.ensures.some c.new.ensures.value c.piece-answer.ensures.after
