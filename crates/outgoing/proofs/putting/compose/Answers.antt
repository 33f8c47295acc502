use Rattle.message.specs.Read.{seen}
use Rattle.outgoing.proofs.Composed.{length_answered}
use Rattle.outgoing.proofs.putting.compose.Goals as goal

pub returns : goal.returns
returns c =
    let e = c.write.ensures in
    let a = length_answered (seen c.args.parts) c.args.buffer.now c.write.new.buffer c.write.result c.ok.result c.ok.ensures.value c.requires e.answer e.buffer in
    record { fits = a.0; written = a.1 }
