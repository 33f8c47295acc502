use Rattle.std.proofs.Common.{◌+◌, ◌*◌, arith, rules}
use Rattle.address.proofs.Turns.{turn}
use Rattle.address.proofs.titles.read_digits.Goals as goal

pub loop-i-preserved : goal.loop-i-preserved
loop-i-preserved c =
    (search rules, turn c.loop-i.values c.args.octets.now c.loop-i.i (2 * (c.loop-i.i + 1)) c.loop-i.invariant.1 (omega arith) (omega arith) (omega arith))
