use Rattle.message.specs.Read.{seen}
use Rattle.writing.proofs.Back.{reads_back, written_reads_back}
use Rattle.writing.proofs.Forth.{read_writes_back}
use Rattle.writing.proofs.Whole.{read_is_message, rewritten_reads_same}
use Rattle.writing.proofs.writing.write.Goals as goal

pub returns : goal.returns
returns c =
    let e = c.write_parts.ensures in
    record {
      answer = e.answer;
      buffer = e.buffer;
      reads_back = reads_back (seen c.args.parts) c.args.buffer.now c.write_parts.new.buffer c.write_parts.result e.answer e.buffer;
      written_reads_back = written_reads_back;
      read_writes_back = read_writes_back;
      read_is_message = read_is_message;
      rewritten_reads_same = rewritten_reads_same;
    }
