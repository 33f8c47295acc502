-- What the tables that a call is given mean: which selectors the translator knows and which rule fits digits, and
-- the state of each point code and of each subsystem at it.
use Rattle.std.specs.Prelude.{ℕ, Bool, List, Option, Result}
use Rattle.translation.specs.declared.causes.Cause.{Cause}
use Rattle.translation.specs.declared.rules.Selector.{Selector}
use Rattle.translation.specs.declared.states.CodeState.{CodeState}
use Rattle.translation.specs.declared.states.SubsystemState.{SubsystemState}
use Rattle.translation.specs.Rules.{RuleView}
use Rattle.translation.specs.Translating.{TranslationView, translate_of}

pub record TablesView : Type 0 where
  pub known : Selector → Bool
  pub fit : Selector → List ℕ → Option RuleView
  pub codes : ℕ → CodeState
  pub subsystems : ℕ → ℕ → SubsystemState

abbrev pub tables : (Selector → Bool) → (Selector → List ℕ → Option RuleView) → (ℕ → CodeState) → (ℕ → ℕ → SubsystemState) → TablesView
tables known fit codes subsystems = record { known = known; fit = fit; codes = codes; subsystems = subsystems }

-- where an address leads by its title, at the station of this code
abbrev pub translated_by : TablesView → ℕ → List ℕ → Result TranslationView Cause
translated_by t own a = translate_of t.known t.fit t.codes t.subsystems own a
