use Rattle.std.proofs.Common.{◌≡◌, length, take, Err, None, sym, ap, ◌∙◌, arith, rules}
use Rattle.std.specs.Result.{result_ok}
use Rattle.slot_parts.specs.declared.refusals.CopyRefusal.TheVariants.{NotWhole}
use Rattle.slot_laws.specs.Machine as law
use Rattle.slots.specs.Answers.{receipt_of, copy_reply}
use Rattle.slots.proofs.Rest.{not_whole, copied}
use Rattle.slots.proofs.alone.Slots.copy.Goals as goal

pub returns-in_err-load : goal.returns-in_err-load
returns-in_err-load g c =
    let s = c.args.self.now in
    let e : c.whole_at.result ≡ None = c.ok_or.ensures.ok_part ∙ ap result_ok c.in_err-load.was in
    let w = not_whole g.K.Mark.numbers s s.settings.code (receipt_of c.args.receipt.now) (sym e ∙ c.whole_at.ensures.value) in
    let r : c.from_residual.result ≡ Err NotWhole = search rules in
    record { value = r ∙ sym (w.1 (length c.args.buffer.now)); filled = search rules; answer = ap (λ x. copy_reply x c.args.buffer.now) r ∙ sym (w.2 (length c.args.buffer.now)) }

pub returns-then-buffer-n : goal.returns-then-buffer-n
returns-then-buffer-n g c =
    let s = c.args.self.now in
    let w = copied g.K.Mark.numbers s s.settings.code (receipt_of c.args.receipt.now) c.in_ok-load.load c.args.buffer.now _ (c.ok_or.ensures.ok_part ∙ ap result_ok c.in_ok-load.was) c.whole_at.ensures.value c.whole_at.ensures.bound in
    record { value = sym (w.short (omega arith)).0; filled = search rules; answer = sym (w.short (omega arith)).1 }

pub returns : goal.returns
returns g c =
    let s = c.args.self.now in
    let w = copied g.K.Mark.numbers s s.settings.code (receipt_of c.args.receipt.now) c.in_ok-load.load c.args.buffer.now _ (c.ok_or.ensures.ok_part ∙ ap result_ok c.in_ok-load.was) c.whole_at.ensures.value c.whole_at.ensures.bound in
    record {
      value = sym (w.told (omega arith));
      filled = c.read.ensures ∙ sym w.filled;
      answer = ap (λ x. law.copied (take c.in_ok-load.load.len x)) c.read.ensures ∙ sym (w.answer (omega arith));
    }

pub read-requires : goal.read-requires
read-requires g c =
    let s = c.args.self.now in
    let w = copied g.K.Mark.numbers s s.settings.code (receipt_of c.args.receipt.now) c.in_ok-load.load c.args.buffer.now _ (c.ok_or.ensures.ok_part ∙ ap result_ok c.in_ok-load.was) c.whole_at.ensures.value c.whole_at.ensures.bound in
    let f = w.fits in
    omega arith
