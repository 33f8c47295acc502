-- The longest prefix decides: what a keeper of a prefix list can rely on.
use Rattle.std.specs.Prelude.{◌≡◌, ℕ, ◌<◌, ◌≤◌, ◌⊎◌, List, ◌∷◌, ◌++◌, Some, None, Option}
use Rattle.std.specs.List.{AllByRecursion}
use Rattle.translation.specs.declared.rules.Selector.{Selector}
use Rattle.translation.specs.Rules.{DestinationView, RuleView}
use Rattle.prefix_list.specs.declared.entries.EntryDestination.{EntryDestination}
use Rattle.prefix_list.specs.declared.entries.PrefixEntry.{PrefixEntry}
use Rattle.prefix_list.specs.Prefixes.{prefix_of}

abbrev pub CodeRanged : EntryDestination → Type 0
CodeRanged d = d.code ≤ 16383

abbrev pub BackupRanged : Option EntryDestination → Type 0
BackupRanged None = Unit {0}
BackupRanged (Some d) = CodeRanged d

-- every value is in its range
pub record Ranged (e : PrefixEntry) : Type 0 where
  pub kind : (e.selector.kind ≡ 2) ⊎ (e.selector.kind ≡ 4)
  pub plan : e.selector.numbering_plan ≤ 15
  pub nature : e.selector.nature ≤ 127
  pub count : e.count ≤ 16
  pub digits : AllByRecursion (λ d. d ≤ 15) (prefix_of e)
  pub primary : CodeRanged e.primary
  pub backup : BackupRanged e.backup

-- the entry fits the digits of a title with this selector
pub record Fits (s : Selector) (ds : List ℕ) (e : PrefixEntry) : Type 0 where
  pub ranged : Ranged e
  pub selector : e.selector ≡ s
  pub front : (rest : List ℕ) × (ds ≡ prefix_of e ++ rest)

abbrev pub NoneFits : Selector → List ℕ → List PrefixEntry → Type 0
NoneFits s ds es = AllByRecursion (λ e. Fits s ds e → ⊥) es

abbrev pub destination_given : EntryDestination → DestinationView
destination_given d = record { code = d.code; subsystem = d.subsystem }

abbrev pub backup_given : Option EntryDestination → Option DestinationView
backup_given None = None
backup_given (Some d) = Some (destination_given d)

-- the rule that an entry gives
abbrev pub rule_given_by : PrefixEntry → RuleView
rule_given_by e = record { routing = e.routing; primary = destination_given e.primary; backup = backup_given e.backup }

-- a rule of an entry that fits, such that those before it that fit are shorter, and those
-- behind it that fit are not longer
pub record Decided (s : Selector) (ds : List ℕ) (es : List PrefixEntry) (r : RuleView) : Type 0 where
  pub before : List PrefixEntry
  pub decider : PrefixEntry
  pub behind : List PrefixEntry
  pub whole : es ≡ before ++ (decider ∷ behind)
  pub fits : Fits s ds decider
  pub rule : r ≡ rule_given_by decider
  pub shorter : AllByRecursion (λ e. Fits s ds e → e.count < decider.count) before
  pub not_longer : AllByRecursion (λ e. Fits s ds e → e.count ≤ decider.count) behind

-- what is answered is so decided, and none is answered exactly if none fits
pub record LongestDecides (s : Selector) (ds : List ℕ) (es : List PrefixEntry) (answer : Option RuleView) : Type 0 where
  pub some : (r : RuleView) → answer ≡ Some r → Decided s ds es r
  pub none : answer ≡ None → NoneFits s ds es
  pub only : NoneFits s ds es → answer ≡ None
