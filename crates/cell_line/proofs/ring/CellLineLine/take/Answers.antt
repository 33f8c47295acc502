use Rattle.std.proofs.Common.{ℕ, ◌-◌, sym, subst, arith}
use Rattle.std.proofs.lemmas.Bool.Decides.{nat_tests}
use Rattle.cell_line.specs.Ring.{Held}
use Rattle.cell_line.specs.Rings.{held_take}
use Rattle.cell_line.proofs.ring.CellLineLine.take.Goals as goal

pub invariant_of-self-clause-held : goal.invariant_of-self-clause-held
invariant_of-self-clause-held c =
    let s = c.args.self.now in
    subst (λ (x : ℕ). Held s.area.items s.cells x (s.count - 1)) (sym c.wrapped-self.ensures.value) (held_take s.area.items s.cells s.head s.count s.headin s.countin (grind (arith, nat_tests)) s.held)
