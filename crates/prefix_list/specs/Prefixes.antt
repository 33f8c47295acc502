-- Which entry of a prefix list fits the digits of a title, and which of those decides.
use Rattle.std.specs.Prelude.{ℕ, Bool, cond, ◌&&◌, ◌||◌, List, take, is_some, Some, None, fold, Option, ◌==◌, nat_le, nat_lt}
use Rattle.std.specs.List.{list_all, list_any, starts_with}
use Rattle.translation.specs.declared.rules.Selector.{Selector}
use Rattle.translation.specs.Rules.{DestinationView, RuleView}
use Rattle.prefix_list.specs.declared.entries.EntryDestination.{EntryDestination}
use Rattle.prefix_list.specs.declared.entries.PrefixEntry.{PrefixEntry}

abbrev pub all_below : ℕ → List ℕ → Bool
all_below n ds = list_all (λ d. nat_lt d n) ds

-- the second list begins with the first
abbrev pub begins : List ℕ → List ℕ → Bool
begins p ds = starts_with ◌==◌ ds p

abbrev pub same_selector : Selector → Selector → Bool
same_selector a b = a.kind == b.kind && (a.translation_type == b.translation_type && (a.numbering_plan == b.numbering_plan && a.nature == b.nature))

abbrev pub prefix_of : PrefixEntry → List ℕ
prefix_of e = take e.count e.digits

-- the same, none where the entry cannot have so many
abbrev pub prefix_in : PrefixEntry → Option (List ℕ)
prefix_in e = cond (nat_le e.count 16) (Some (prefix_of e)) None

abbrev pub selector_ranged : Selector → Bool
selector_ranged s = (s.kind == 2 || s.kind == 4) && (nat_lt s.numbering_plan 16 && nat_lt s.nature 128)

abbrev pub prefix_ranged : PrefixEntry → Bool
prefix_ranged e = nat_le e.count 16 && all_below 16 (prefix_of e)

abbrev pub destination_in : EntryDestination → Option DestinationView
destination_in d = cond (nat_lt d.code 16384) (Some (record { code = d.code; subsystem = d.subsystem })) None

abbrev pub with_both : PrefixEntry → DestinationView → Option DestinationView → Option RuleView
with_both e p None = None
with_both e p (Some b) = Some (record { routing = e.routing; primary = p; backup = Some b })

abbrev pub with_backup : PrefixEntry → DestinationView → Option EntryDestination → Option RuleView
with_backup e p None = Some (record { routing = e.routing; primary = p; backup = None })
with_backup e p (Some b) = with_both e p (destination_in b)

abbrev pub with_primary : PrefixEntry → Option DestinationView → Option RuleView
with_primary e None = None
with_primary e (Some p) = with_backup e p e.backup

-- the rule of an entry: none if a value is out of its range
abbrev pub entry_rule : PrefixEntry → Option RuleView
entry_rule e = cond (selector_ranged e.selector && prefix_ranged e) (with_primary e (destination_in e.primary)) None

abbrev pub entry_fits : Selector → List ℕ → PrefixEntry → Bool
entry_fits s ds e = is_some (entry_rule e) && (same_selector e.selector s && begins (prefix_of e) ds)

-- of what was found and an entry that fits, the longer; the earlier if they are equal
abbrev pub longer_of : Option PrefixEntry → PrefixEntry → Option PrefixEntry
longer_of None e = Some e
longer_of (Some best) e = cond (nat_lt best.count e.count) (Some e) (Some best)

abbrev pub better : Selector → List ℕ → Option PrefixEntry → PrefixEntry → Option PrefixEntry
better s ds best e = cond (entry_fits s ds e) (longer_of best e) best

-- the entry that decides
unfoldable pub longest : Selector → List ℕ → List PrefixEntry → Option PrefixEntry
longest s ds es = fold (better s ds) None es

abbrev pub rule_of : Option PrefixEntry → Option RuleView
rule_of None = None
rule_of (Some e) = entry_rule e

-- every entry's selector is known, also that of an entry that fits nothing
abbrev pub any_of : Selector → List PrefixEntry → Bool
any_of s es = list_any (λ e. same_selector e.selector s) es
