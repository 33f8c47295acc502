use Rattle.std.proofs.Common.{refl, arith, rules}
use Rattle.slot_parts.proofs.Writes.{overwritten_is}
use Rattle.slot_parts.proofs.store.Store.write.Goals as goal

pub returns : goal.returns
returns c = record {
  after = overwritten_is c.args.at _ c.args.self.now.octets.now _ c.args.from.now c.copy_into.ensures (omega arith);
  lender = refl;
  len = search rules;
}
