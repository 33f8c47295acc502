-- Rules with their codes as numbers.
use Rattle.std.specs.Prelude.{ℕ, Some, None, Option}
use Rattle.address.specs.Code.{code_number}
use Rattle.translation.specs.declared.rules.Routing.{Routing}
use Rattle.translation.specs.declared.rules.Destination.{Destination}
use Rattle.translation.specs.declared.rules.Rule.{Rule}

pub record DestinationView : Type 0 where
  pub code : ℕ
  pub subsystem : Option ℕ

pub record RuleView : Type 0 where
  pub routing : Routing
  pub primary : DestinationView
  pub backup : Option DestinationView

abbrev pub destination_seen : Destination → DestinationView
destination_seen d = record { code = code_number d.code; subsystem = d.subsystem }

abbrev pub backup_seen : Option Destination → Option DestinationView
backup_seen None = None
backup_seen (Some d) = Some (destination_seen d)

abbrev pub rule_seen : Rule → RuleView
rule_seen r = record { routing = r.routing; primary = destination_seen r.primary; backup = backup_seen r.backup }

abbrev pub rule_found : Option Rule → Option RuleView
rule_found None = None
rule_found (Some r) = Some (rule_seen r)
