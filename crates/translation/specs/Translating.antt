-- From an address to a rule, and from a rule to the destination that takes the message.
use Rattle.std.specs.Prelude.{◌≡◌, ℕ, Bool, true, false, cond, List, Some, None, Ok, Err, Option, Result}
use Rattle.address.specs.Code.{code_number}
use Rattle.address.specs.Address.{address_ok, subsystem_of, title_in}
use Rattle.address.specs.Rewrite.{buffer_octets, rewrite}
use Rattle.address.specs.declared.rewriting.CodeChange.TheVariants.{Remove}
use Rattle.address.specs.Title.{GlobalTitle, kind2, kind4, other, title_digits}
use Rattle.translation.specs.declared.causes.Cause.{Cause}
use Rattle.translation.specs.declared.causes.Cause.TheVariants.{NoTranslationOfNature, NoTranslation}
use Rattle.translation.specs.declared.rules.Rule.{Rule}
use Rattle.translation.specs.declared.rules.Routing.{Routing}
use Rattle.translation.specs.declared.rules.Routing.TheVariants.{OnTitle, OnSubsystem}
use Rattle.translation.specs.declared.rules.Selector.{Selector}
use Rattle.translation.specs.declared.routes.Route.{Route}
use Rattle.translation.specs.declared.states.CodeState.{CodeState}
use Rattle.translation.specs.declared.states.SubsystemState.{SubsystemState}
use Rattle.translation.specs.declared.translating.Translation.{Translation}
use Rattle.translation.specs.Rules.{DestinationView, RuleView, rule_seen}
use Rattle.translation.specs.Trials.{trial_of}

-- the selector of a title: only kinds 2 and 4 have one, and kind 2 has neither numbering plan nor nature
abbrev pub title_selector : Option GlobalTitle → Option Selector
title_selector None = None
title_selector (Some (kind2 t d)) = Some (record { kind = 2; translation_type = t; numbering_plan = 0; nature = 0 })
title_selector (Some (kind4 t p e n d)) = Some (record { kind = 4; translation_type = t; numbering_plan = p; nature = n })
title_selector (Some (other k o)) = None

abbrev pub digits_found : Option GlobalTitle → Option (List ℕ)
digits_found None = None
digits_found (Some t) = title_digits t

abbrev pub or_none : Option RuleView → Result RuleView Cause
or_none None = Err NoTranslation
or_none (Some r) = Ok r

-- digits in no known encoding fit no rule
abbrev pub by_digits : (List ℕ → Option RuleView) → Option (List ℕ) → Result RuleView Cause
by_digits fit None = Err NoTranslation
by_digits fit (Some ds) = or_none (fit ds)

abbrev pub by_selector : (Selector → Bool) → (Selector → List ℕ → Option RuleView) → Option Selector → Option (List ℕ) → Result RuleView Cause
by_selector known fit None ds = Err NoTranslationOfNature
by_selector known fit (Some s) ds = cond (known s) (by_digits (fit s) ds) (Err NoTranslationOfNature)

-- the rule for a title, or the cause why there is none
abbrev pub rule_for : (Selector → Bool) → (Selector → List ℕ → Option RuleView) → Option GlobalTitle → Result RuleView Cause
rule_for known fit t = by_selector known fit (title_selector t) (digits_found t)

abbrev pub rule_given : Result Rule Cause → Result RuleView Cause
rule_given (Ok r) = Ok (rule_seen r)
rule_given (Err c) = Err c

-- where a message goes: a code, how it is routed there, and the subsystem, where there is one
pub record RouteView : Type 0 where
  pub code : ℕ
  pub routing : Routing
  pub subsystem : Option ℕ

abbrev pub route_seen : Route → RouteView
route_seen r = record { code = code_number r.code; routing = r.routing; subsystem = r.subsystem }

abbrev pub route_given : Result Route Cause → Result RouteView Cause
route_given (Ok r) = Ok (route_seen r)
route_given (Err c) = Err c

-- the message can go this way: a trial finds no cause against it
abbrev pub CanGo : (ℕ → CodeState) → (ℕ → ℕ → SubsystemState) → ℕ → Result RouteView Cause → Type 0
CanGo codes subsystems own (Ok r) = trial_of codes subsystems own r.routing r.code r.subsystem ≡ None
CanGo codes subsystems own (Err c) = Unit {0}

-- the destination's subsystem, else the address's
abbrev pub taken_subsystem : Option ℕ → Option ℕ → Option ℕ
taken_subsystem (Some s) given = Some s
taken_subsystem None given = given

abbrev pub unless : Option Cause → RouteView → Result RouteView Cause
unless None r = Ok r
unless (Some c) r = Err c

abbrev pub route_tried : (ℕ → CodeState) → (ℕ → ℕ → SubsystemState) → ℕ → RouteView → Result RouteView Cause
route_tried codes subsystems own r = unless (trial_of codes subsystems own r.routing r.code r.subsystem) r

abbrev pub route_to : Routing → DestinationView → Option ℕ → RouteView
route_to routing d given = record { code = d.code; routing = routing; subsystem = taken_subsystem d.subsystem given }

-- a backup that fails leaves the primary's cause
abbrev pub or_cause : Cause → Result RouteView Cause → Result RouteView Cause
or_cause c (Ok r) = Ok r
or_cause c (Err b) = Err c

abbrev pub by_backup : (ℕ → CodeState) → (ℕ → ℕ → SubsystemState) → ℕ → Routing → Option DestinationView → Option ℕ → Cause → Result RouteView Cause
by_backup codes subsystems own routing None given c = Err c
by_backup codes subsystems own routing (Some d) given c = or_cause c (route_tried codes subsystems own (route_to routing d given))

abbrev pub or_backup : (ℕ → CodeState) → (ℕ → ℕ → SubsystemState) → ℕ → RuleView → Option ℕ → Result RouteView Cause → Result RouteView Cause
or_backup codes subsystems own rule given (Ok r) = Ok r
or_backup codes subsystems own rule given (Err c) = by_backup codes subsystems own rule.routing rule.backup given c

-- where a rule leads an address with this subsystem: the primary, else the backup, else the primary's cause
abbrev pub route_by : (ℕ → CodeState) → (ℕ → ℕ → SubsystemState) → ℕ → RuleView → Option ℕ → Result RouteView Cause
route_by codes subsystems own rule given = or_backup codes subsystems own rule given (route_tried codes subsystems own (route_to rule.routing rule.primary given))

abbrev pub by_rule : (ℕ → CodeState) → (ℕ → ℕ → SubsystemState) → ℕ → Option ℕ → Result RuleView Cause → Result RouteView Cause
by_rule codes subsystems own given (Ok rule) = route_by codes subsystems own rule given
by_rule codes subsystems own given (Err c) = Err c

abbrev pub is_on_subsystem : Routing → Bool
is_on_subsystem OnTitle = false
is_on_subsystem OnSubsystem = true

-- a translated message: where it goes, and its called address there
pub record TranslationView : Type 0 where
  pub route : RouteView
  pub called : List ℕ

-- the called address has the route's way of routing and subsystem, the same title, and no code
abbrev pub with_called : List ℕ → Result RouteView Cause → Result TranslationView Cause
with_called a (Ok r) = Ok (record { route = r; called = rewrite (is_on_subsystem r.routing) Remove r.subsystem a })
with_called a (Err c) = Err c

-- where a message with this called address goes, or the cause why nowhere
abbrev pub route_for : (Selector → Bool) → (Selector → List ℕ → Option RuleView) → (ℕ → CodeState) → (ℕ → ℕ → SubsystemState) → ℕ → List ℕ → Result RouteView Cause
route_for known fit codes subsystems own a = by_rule codes subsystems own (subsystem_of a) (rule_for known fit (title_in a))

-- the same with the new called address; octets that are no address have no title of any nature
abbrev pub translate_of : (Selector → Bool) → (Selector → List ℕ → Option RuleView) → (ℕ → CodeState) → (ℕ → ℕ → SubsystemState) → ℕ → List ℕ → Result TranslationView Cause
translate_of known fit codes subsystems own a =
    cond (address_ok a) (with_called a (route_for known fit codes subsystems own a)) (Err NoTranslationOfNature)

abbrev pub translation_seen : Translation → TranslationView
translation_seen t = record { route = route_seen t.route; called = buffer_octets t.called }

abbrev pub translation_given : Result Translation Cause → Result TranslationView Cause
translation_given (Ok t) = Ok (translation_seen t)
translation_given (Err c) = Err c

-- where a translation leads, the message can go: a trial finds no cause against it
abbrev pub CanBeGone : (ℕ → CodeState) → (ℕ → ℕ → SubsystemState) → ℕ → Result TranslationView Cause → Type 0
CanBeGone codes subsystems own (Ok t) = trial_of codes subsystems own t.route.routing t.route.code t.route.subsystem ≡ None
CanBeGone codes subsystems own (Err c) = Unit {0}
