-- Whether an entry fits, as a test and as a fact.
use Rattle.std.proofs.Common.{◌≡◌, ℕ, ◌≤◌, true, List, [], ◌∷◌, is_some, Some, None, Option, refl, arith}
use Rattle.std.specs.List.{AllByRecursion}
use Rattle.std.proofs.lemmas.Bool.Decides.{nat_tests}
use Rattle.translation.specs.declared.rules.Selector.{Selector}
use Rattle.translation.specs.Rules.{DestinationView}
use Rattle.prefix_list.specs.declared.entries.EntryDestination.{EntryDestination}
use Rattle.prefix_list.specs.declared.entries.PrefixEntry.{PrefixEntry}
use Rattle.prefix_list.specs.Prefixes.{all_below, prefix_of, with_backup, entry_rule, entry_fits}
use Rattle.prefix_list.specs.Longest.{BackupRanged, Ranged, Fits, backup_given, rule_given_by}
use Rattle.prefix_list.proofs.Fronts.{rest_of, begins_from}

digits_in : (xs : List ℕ) → all_below 16 xs ≡ true → AllByRecursion (λ d. d ≤ 15) xs
digits_in [] h = tt
digits_in (x ∷ xs) h = (grind (arith, nat_tests), digits_in xs (grind (arith, nat_tests)))

digits_out : (xs : List ℕ) → AllByRecursion (λ d. d ≤ 15) xs → all_below 16 xs ≡ true
digits_out [] h = refl
digits_out (x ∷ xs) h = grind (arith, nat_tests, digits_out xs h.1)

backup_in : (e : PrefixEntry) (p : DestinationView) (b : Option EntryDestination) → BackupRanged b → with_backup e p b ≡ Some (record { routing = e.routing; primary = p; backup = backup_given b })
backup_in e p None h = refl
backup_in e p (Some d) h = grind (arith, nat_tests)

backup_out : (e : PrefixEntry) (p : DestinationView) (b : Option EntryDestination) → is_some (with_backup e p b) ≡ true → BackupRanged b
backup_out e p None h = tt
backup_out e p (Some d) h = grind (arith, nat_tests)

pub rule_in : (e : PrefixEntry) → Ranged e → entry_rule e ≡ Some (rule_given_by e)
rule_in e h = grind (arith, nat_tests, digits_out (prefix_of e) h.digits, backup_in e (record { code = e.primary.code; subsystem = e.primary.subsystem }) e.backup h.backup)

ranged_out : (e : PrefixEntry) → is_some (entry_rule e) ≡ true → Ranged e
ranged_out e h =
    record {
      kind = grind (arith, nat_tests);
      plan = grind (arith, nat_tests);
      nature = grind (arith, nat_tests);
      count = grind (arith, nat_tests);
      digits = digits_in (prefix_of e) (grind (arith, nat_tests));
      primary = grind (arith, nat_tests);
      backup = backup_out e (record { code = e.primary.code; subsystem = e.primary.subsystem }) e.backup (grind (arith, nat_tests));
    }

pub fits_out : (s : Selector) (ds : List ℕ) (e : PrefixEntry) → entry_fits s ds e ≡ true → Fits s ds e
fits_out s ds e h =
    record { ranged = ranged_out e (grind (arith, nat_tests)); selector = grind (arith, nat_tests); front = rest_of (prefix_of e) ds (grind (arith, nat_tests)) }

pub fits_in : (s : Selector) (ds : List ℕ) (e : PrefixEntry) → Fits s ds e → entry_fits s ds e ≡ true
fits_in s ds e h = grind (arith, nat_tests, rule_in e h.ranged, begins_from (prefix_of e) ds h.front.0 h.front.1)
