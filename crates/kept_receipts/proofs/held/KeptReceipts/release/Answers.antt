use Rattle.std.proofs.Common.{◌<◌, length, ◌∙◌, sym, subst, rules}
use Rattle.kept_receipts.specs.Receipts.{Kept}
use Rattle.kept_receipts.proofs.Calls.{accepted, spends, declined_released}
use Rattle.kept_receipts.proofs.held.KeptReceipts.release.Goals as goal

pub invariant_of-self : goal.invariant_of-self
invariant_of-self g c =
    let s = c.args.self.now in
    let r = c.remove-receipt.result in
    let l : c.args.place < length s.receipts.items = search rules in
    record {
      kept = subst (λ rs. Kept c.release.new.self rs) (sym c.remove-receipt.ensures.by_index.2)
          (spends g.K.Mark.numbers s.slots c.release.new.self s.receipts.items c.args.place r r l c.remove-receipt.ensures.value c.release.ensures.after.settings c.release.ensures.seen s.kept);
    }

pub unreachable-requires : goal.unreachable-requires
unreachable-requires g c =
    let s = c.args.self.now in
    let r = c.remove-receipt.result in
    let l : c.args.place < length s.receipts.items = search rules in
    let a = accepted g.K.Mark.numbers s.slots s.receipts.items c.args.place r r l c.remove-receipt.ensures.value s.kept in
    declined_released _ _ (c.in-Err.ensures.answer ∙ a)
