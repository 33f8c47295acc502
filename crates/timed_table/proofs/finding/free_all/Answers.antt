use Rattle.std.proofs.Common.{rules}
use Rattle.timed_table.specs.declared.entry.Entry.TheVariants.{Free}
use Rattle.timed_table.proofs.Steps.{all_one}
use Rattle.timed_table.proofs.finding.free_all.Goals as goal

pub returns : goal.returns
returns g c = all_one _ Free (λ p x q s. search rules) c.fill_with.new.self c.args.entries.now _ _ c.fill_with.ensures.ran.1 c.fill_with.ensures.len
