use Rattle.std.proofs.Common.{◌∙◌, rules, tests}
use Rattle.std.proofs.lemmas.Iterator.{YieldsList-from_slice}
use Rattle.std.proofs.lemmas.Iterator.Consumers.{YieldsList-from_filter}
use Rattle.prefix_list.specs.Prefixes.{entry_fits}
use Rattle.prefix_list.proofs.Copying.{longest_copied}
use Rattle.prefix_list.proofs.lists.PrefixList.entry_for.Goals as goal

pub returns : goal.returns
returns c =
    let s = c.args.selector in
    let ds = c.args.digits.now in
    let es = c.args.self.now.entries.now in
    c.copied.ensures
    ∙ longest_copied s ds es _ _ c.filter.result c.fold.result c.fold.ensures.ran
    (YieldsList-from_filter _ (entry_fits s ds) (YieldsList-from_slice es cc) c.filter.ensures.closure (λ x b q k. search (rules, tests)))
    (λ a x b q k. search rules)
