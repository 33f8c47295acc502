use Rattle.std.proofs.Common.{sym, subst}
use Rattle.slot_laws.specs.Machine as law
use Rattle.kept_receipts.specs.Receipts.{Kept}
use Rattle.kept_receipts.proofs.Calls.{taken_in}
use Rattle.kept_receipts.proofs.held.KeptReceipts.piece.Goals as goal

pub invariant_of-self-in-Ok : goal.invariant_of-self-in-Ok
invariant_of-self-in-Ok g c =
    let s = c.args.self.now in
    let m = g.K.Mark.numbers in
    let e = law.piece (m c.args.key) c.args.first c.args.remaining c.args.contents.now in
    record {
      kept = subst (λ rs. Kept c.piece.new.self rs) (sym c.told.ensures.kept)
          (taken_in m s.slots c.piece.new.self e c.in-Ok.answer c.reserve.new.self.items c.piece.ensures.after.settings c.piece.ensures.seen c.in-Ok.ensures.answer (subst (λ rs. Kept s.slots rs) (sym c.reserve.ensures.items) s.kept));
    }
