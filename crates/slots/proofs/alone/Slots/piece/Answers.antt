use Rattle.std.proofs.Common.{◌≡◌, ◌∙◌, rules}
use Rattle.slots.specs.Answers.{answered}
use Rattle.slots.specs.Became.{Became}
use Rattle.slots.specs.Pieces.{piece_answer, piece_entries, piece_octets}
use Rattle.slots.proofs.Sim.{took_in}
use Rattle.slots.proofs.alone.Slots.piece.Goals as goal

pub returns : goal.returns
returns g c =
    let s = c.args.self.now in
    let m = g.K.Mark.numbers in
    let es = s.table.entries.now in
    let d = c.args.contents.now in
    let v : answered c.act.result ≡ piece_answer m c.args.key c.args.first c.args.remaining d es s.settings.code = search rules in
    let b : Became s c.act.new.self (piece_entries m c.args.key c.args.first c.args.remaining d es s.settings.ticks) (piece_octets m c.args.key c.args.first c.args.remaining d es s.store.octets.now) = search rules in
    let w = took_in m s c.act.new.self c.args.key s.settings.code s.settings.ticks c.args.first c.args.remaining d b in
    record { answer = v ∙ w.0; seen = w.1; after = b; idle = search rules }
