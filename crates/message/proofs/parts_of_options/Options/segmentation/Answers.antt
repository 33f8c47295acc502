use Rattle.std.proofs.Common.{length, sym, ap, ◌∙◌, arith}
use Rattle.message.specs.Options.{segmentation_found}
use Rattle.message.proofs.Segments.{first_segment, first_ended, first_other}
use Rattle.message.proofs.parts_of_options.Options.segmentation.Goals as goal

pub returns-in-Segmented : goal.returns-in-Segmented
returns-in-Segmented c = sym (sym c.loop-s.invariant ∙ first_segment c.loop-s.self.octets.now c.in-Segmented.s (sym c.in-Segmented.ensures.value))

pub loop-s-smaller : goal.loop-s-smaller
loop-s-smaller c =
    let o = first_other c.loop-s.self.octets.now c.in-Other.name c.in-Other.contents.now (sym c.in-Other.ensures.value) in
    let e = ap length c.in-Other.ensures.after in
    omega arith

pub loop-s-preserved : goal.loop-s-preserved
loop-s-preserved c =
    let o = first_other c.loop-s.self.octets.now c.in-Other.name c.in-Other.contents.now (sym c.in-Other.ensures.value) in
    ap segmentation_found c.in-Other.ensures.after ∙ sym o.0 ∙ c.loop-s.invariant

pub returns-in-End : goal.returns-in-End
returns-in-End c = sym (sym c.loop-s.invariant ∙ first_ended c.loop-s.self.octets.now (sym c.in-End.ensures.value))
