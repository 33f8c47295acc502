use Rattle.std.proofs.Common.{rules}
use Rattle.std.proofs.lemmas.List.{take_rest, length-drop}
use Rattle.message.proofs.Spans.{span_next, front}
use Rattle.message.proofs.behind_label.Body.scan_options.Goals as goal

pub returns-in-0-clause-value : goal.returns-in-0-clause-value
returns-in-0-clause-value c =
    let m = c.args.self.octets.now in
    let i = c.loop-offset.offset in
    let h = span_next c.args.start c.loop-offset.segmented m i in
    let r = take_rest m i in
    let l = length-drop i m in
    let a = front m i 0 in
    let b = front m i 1 in
    search rules

pub loop-offset-preserved-then-not-segmented : goal.loop-offset-preserved-then-not-segmented
loop-offset-preserved-then-not-segmented c =
    let m = c.args.self.octets.now in
    let i = c.loop-offset.offset in
    let h = span_next c.args.start c.loop-offset.segmented m i in
    let r = take_rest m i in
    let l = length-drop i m in
    let a = front m i 0 in
    let b = front m i 1 in
    search rules

pub loop-offset-preserved : goal.loop-offset-preserved
loop-offset-preserved c =
    let m = c.args.self.octets.now in
    let i = c.loop-offset.offset in
    let h = span_next c.args.start c.loop-offset.segmented m i in
    let r = take_rest m i in
    let l = length-drop i m in
    let a = front m i 0 in
    let b = front m i 1 in
    search rules

pub returns-in_default-clause-value : goal.returns-in_default-clause-value
returns-in_default-clause-value c =
    let m = c.args.self.octets.now in
    let i = c.loop-offset.offset in
    let h = span_next c.args.start c.loop-offset.segmented m i in
    let r = take_rest m i in
    let l = length-drop i m in
    let a = front m i 0 in
    let b = front m i 1 in
    search rules
