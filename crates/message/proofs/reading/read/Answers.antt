use Rattle.std.proofs.Common.{◌≡◌, Err, Result, rules}
use Rattle.std.proofs.lemmas.List.{take_rest}
use Rattle.message.specs.declared.faults.ReadFault.{ReadFault}
use Rattle.message.specs.Read.{Parsed, parse, meaning}
use Rattle.message.proofs.Laws.{fault_place, first_fault, parts_inside, udt_figure, piece_figure}
use Rattle.message.proofs.reading.read.Goals as goal

pub returns-in-len4-up : goal.returns-in-len4-up
unfolding parse
returns-in-len4-up c =
    let x = c.args.octets.now in
    let t = take_rest x 4 in
    let e : meaning c.read_message.result ≡ parse x = search rules in
    record { value = e; place = fault_place x _ e; first_fault = first_fault x _ e; parts_inside = parts_inside x _ e; figures = (udt_figure, piece_figure) }

pub returns-in_default : goal.returns-in_default
unfolding parse
returns-in_default c =
    let x = c.args.octets.now in
    let e : ◌≡◌ {A = Result Parsed ReadFault} (Err c.at.result) (parse x) = search rules in
    record { value = e; place = search rules; first_fault = first_fault x _ e; parts_inside = parts_inside x _ e; figures = (udt_figure, piece_figure) }
