use Rattle.std.proofs.Common.{◌≡◌, length, sym, ap, subst}
use Rattle.pieces.specs.Pieces.{count_answer}
use Rattle.outgoing.specs.Puts.{Behind}
use Rattle.outgoing.specs.Units.{heading_seen}
use Rattle.station_laws.specs.Station.{Outcome, by_count, goes_out, in_one_message}
use Rattle.station.specs.Views.{seen}
use Rattle.station.proofs.held.Station.put_unit.Goals as goal

pub returns-in-Some-eq1-clause-line : goal.returns-in-Some-eq1-clause-line
returns-in-Some-eq1-clause-line g c =
    let h = heading_seen c.args.unit in
    let d = c.args.contents.now in
    let n = g.L.Line.places c.args.line.now in
    let v = seen c.args.self.now in
    let value = c.in-Some-eq1.ensures.value in
    let test = c.in-Some-eq1.field-0-test in
    let called = c.octets-called.ensures in
    let calling = c.octets-calling.ensures in
    let one : 1 ≡ count_answer (length h.called) (length h.calling) (length d) = cc in
    let is : goes_out n v h d ≡ in_one_message n v h d = ap (by_count n v h d) (sym one) in
    subst (λ (o : Outcome). Behind g.L.Line.waiting g.L.Line.places c.args.line.now c.put_single.new.line o.sent) (sym is) (c.put_single.ensures.line v)
