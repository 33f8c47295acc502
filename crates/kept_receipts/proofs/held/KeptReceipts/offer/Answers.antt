use Rattle.std.proofs.Common.{◌≡◌, ◌<◌, ◌++◌, ◌∷◌, [], length, ap, ◌∙◌, sym, subst, rules}
use Rattle.kept_receipts.specs.Receipts.{Kept}
use Rattle.kept_receipts.proofs.Calls.{taken_out, put_back, strange, released_declined}
use Rattle.kept_receipts.proofs.held.KeptReceipts.offer.Goals as goal

pub invariant_of-self : goal.invariant_of-self
invariant_of-self g c =
    let s = c.args.self.now in
    record {
      kept = subst (λ rs. Kept s.slots rs) (sym c.remove-receipt.ensures.by_index.2) (taken_out g.K.Mark.numbers s.slots s.receipts.items c.args.place s.kept);
    }

pub invariant_of-self-in-Err : goal.invariant_of-self-in-Err
invariant_of-self-in-Err g c =
    let s = c.args.self.now in
    let r = c.remove-receipt.result in
    let l : c.args.place < length s.receipts.items = search rules in
    let same : c.push_reserved.new.self.items ≡ c.remove-receipt.new.self.items ++ r ∷ [] = c.push_reserved.ensures.items ∙ ap (λ x. c.remove-receipt.new.self.items ++ x ∷ []) c.in-Err.ensures.idle.0 in
    record {
      kept = subst (λ rs. Kept s.slots rs) (sym (same ∙ ap (λ x. x ++ r ∷ []) c.remove-receipt.ensures.by_index.2))
          (put_back g.K.Mark.numbers s.slots s.receipts.items c.args.place r r l c.remove-receipt.ensures.value s.kept);
    }

pub returns-in-Ok-clause-declined : goal.returns-in-Ok-clause-declined
returns-in-Ok-clause-declined g c ne =
    let s = c.args.self.now in
    let r = c.remove-receipt.result in
    let l : c.args.place < length s.receipts.items = search rules in
    absurd (released_declined _ _ (c.in-Ok.ensures.answer ∙ strange g.K.Mark.numbers s.slots c.args.other.now s.receipts.items c.args.place r r l c.remove-receipt.ensures.value s.kept ne))
