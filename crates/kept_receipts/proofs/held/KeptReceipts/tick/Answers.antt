use Rattle.kept_receipts.proofs.Calls.{ticked}
use Rattle.kept_receipts.proofs.held.KeptReceipts.tick.Goals as goal

pub invariant_of-self : goal.invariant_of-self
invariant_of-self g c =
    let s = c.args.self.now in
    record {
      kept = ticked g.K.Mark.numbers s.slots c.tick.new.self c.tick.result s.receipts.items c.tick.ensures.after.settings c.tick.ensures.seen c.tick.ensures.answer s.kept;
    }
