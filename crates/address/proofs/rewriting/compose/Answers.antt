use Rattle.std.proofs.Common.{◌≡◌, ℕ, List, length, replicate, refl, ◌∙◌, arith}
use Rattle.std.proofs.lemmas.List.{length-replicate}
use Rattle.address.proofs.Composes.{parts_put}
use Rattle.address.proofs.rewriting.compose.Goals as goal

pub returns : goal.returns
returns c =
    let zeros : List ℕ = replicate 32 0 in
    let l : length zeros ≡ 32 = length-replicate {A = ℕ} 32 0 in
    c.of_front.ensures
    ∙ parts_put zeros c.put.new.out c.put-2.new.out c.put-3.new.out c.args.code.now c.args.subsystem.now c.args.title.now c.args.indicator _ (omega arith)
    c.put.ensures c.put-2.ensures c.put-3.ensures refl
