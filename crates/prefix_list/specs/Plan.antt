-- The plan of a test bench: eight decimal digits name a code and a subsystem.
use Rattle.std.specs.Prelude.{ℕ, ◌+◌, ◌*◌, Bool, cond, ◌&&◌, List, length, Some, None, Option, ◌==◌, nat_le, slice_index}
use Rattle.translation.specs.declared.rules.Routing.TheVariants.{OnSubsystem}
use Rattle.translation.specs.declared.rules.Selector.{Selector}
use Rattle.translation.specs.Rules.{DestinationView, RuleView}
use Rattle.prefix_list.specs.Prefixes.{all_below, same_selector}

-- the first five digits as a number
abbrev pub plan_code : List ℕ → ℕ
plan_code ds = 10000 * slice_index ds 0 + 1000 * slice_index ds 1 + 100 * slice_index ds 2 + 10 * slice_index ds 3 + slice_index ds 4

-- the last three
abbrev pub plan_subsystem : List ℕ → ℕ
plan_subsystem ds = 100 * slice_index ds 5 + 10 * slice_index ds 6 + slice_index ds 7

abbrev pub plan_fits : List ℕ → Bool
plan_fits ds = length ds == 8 && (all_below 10 ds && (nat_le (plan_code ds) 16383 && nat_le (plan_subsystem ds) 255))

abbrev pub plan_destination : List ℕ → Option DestinationView
plan_destination ds = cond (plan_fits ds) (Some (record { code = plan_code ds; subsystem = Some (plan_subsystem ds) })) None

abbrev pub planned : Option DestinationView → Option RuleView
planned None = None
planned (Some d) = Some (record { routing = OnSubsystem; primary = d; backup = None })

-- the rule for a title with this selector: on subsystem, without backup
abbrev pub plan_rule : Selector → Selector → List ℕ → Option RuleView
plan_rule own s ds = cond (same_selector s own) (planned (plan_destination ds)) None
