use Rattle.std.proofs.Common.{◌≡◌, None, is_some, sym, ap, ◌∙◌, rules}
use Rattle.slots.specs.Answers.{receipt_of}
use Rattle.slots.specs.View.{view}
use Rattle.slots.proofs.Rest.{freed, not_whole}
use Rattle.slots.proofs.alone.Slots.release.Goals as goal

pub returns-then-is_none : goal.returns-then-is_none
returns-then-is_none g c =
    let s = c.args.self.now in
    let r = receipt_of c.args.receipt in
    let e : None ≡ c.whole_at.result = search rules in
    let w = (not_whole g.K.Mark.numbers s s.settings.code r (e ∙ c.whole_at.ensures.value)).0 (view g.K.Mark.numbers s) r.slot in
    record { answer = sym (ap (λ x. x.1) w); seen = sym (ap (λ x. x.0) w); after = search rules; idle = search rules }

pub returns : goal.returns
returns g c =
    let s = c.args.self.now in
    let w = freed g.K.Mark.numbers s s.settings.code (receipt_of c.args.receipt) c.put_entry.new.self (ap is_some (sym c.whole_at.ensures.value) ∙ c.if-is_none.ensures) c.put_entry.ensures in
    record { answer = w.0; seen = w.1; after = search rules; idle = search rules }
