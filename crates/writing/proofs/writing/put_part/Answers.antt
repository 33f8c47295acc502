use Rattle.std.proofs.Common.{◌+◌, [], ◌∷◌, length, ap, ◌∙◌, arith}
use Rattle.octets.specs.Over.{over}
use Rattle.octets.proofs.Over.{over_set, over_more}
use Rattle.writing.proofs.writing.put_part.Goals as goal

pub returns : goal.returns
returns c =
    let out = c.args.out.now in
    let xs = c.args.part.now in
    let at = c.args.at in
    c.put.ensures ∙ ap (λ o. over o (at + 1) xs) (over_set out at (length xs) (omega arith)) ∙ over_more out (length xs ∷ []) xs at (at + 1) (omega arith) (omega arith)
