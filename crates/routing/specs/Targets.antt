-- Where what a station sends or returns goes, by its called address.
use Rattle.std.specs.Prelude.{ℕ, Bool, true, false, cond, not, ◌&&◌, List, Some, None, Ok, Err, Option, Result, ◌==◌}
use Rattle.address.specs.declared.codes.PointCode.{PointCode}
use Rattle.address.specs.declared.rewriting.CodeChange.TheVariants.{Keep}
use Rattle.address.specs.Code.{code_number}
use Rattle.address.specs.Address.{has_title, on_subsystem_of, subsystem_of}
use Rattle.address.specs.Rewrite.{buffer_octets, rewritten}
use Rattle.translation.specs.declared.causes.Cause.{Cause}
use Rattle.translation.specs.declared.causes.Cause.TheVariants.{NoTranslation}
use Rattle.translation.specs.declared.rules.Routing.TheVariants.{OnSubsystem}
use Rattle.translation.specs.declared.states.CodeState.{CodeState}
use Rattle.translation.specs.declared.states.SubsystemState.{SubsystemState}
use Rattle.translation.specs.Translating.{TranslationView}
use Rattle.translation.specs.Trials.{code_trial, trial_of}
use Rattle.routing.specs.declared.targets.Target.{Target}
use Rattle.routing.specs.declared.targets.Target.TheVariants as target
use Rattle.routing.specs.Meanings.{TablesView, translated_by}

-- a subsystem at the own code; another code, with the called address that is written; or none, with the cause
pub data TargetView : Type 0 where
  at_home : ℕ → TargetView
  away : ℕ → List ℕ → TargetView
  no_target : Cause → TargetView

abbrev pub target_of : Result Target Cause → TargetView
target_of (Ok (target.Here s)) = at_home s
target_of (Ok (target.Away c a)) = away (code_number c) (buffer_octets a)
target_of (Err c) = no_target c

abbrev pub code_given : Option PointCode → Option ℕ
code_given None = None
code_given (Some c) = Some (code_number c)

-- a subsystem is there, and it is not 0
abbrev pub nonzero : Option ℕ → Bool
nonzero None = false
nonzero (Some s) = not (s == 0)

abbrev pub home : Option ℕ → TargetView
home None = no_target NoTranslation
home (Some s) = at_home s

abbrev pub away_to : ℕ → Option (List ℕ) → TargetView
away_to c None = no_target NoTranslation
away_to c (Some a) = away c a

-- to a code, unless there is a cause against it; the address is written as given, with bit 7 as decided
abbrev pub goes_to : Option Cause → Bool → ℕ → List ℕ → TargetView
goes_to (Some e) on c a = no_target e
goes_to None on c a = away_to c (rewritten on Keep (subsystem_of a) a)

abbrev pub home_unless : Option Cause → List ℕ → TargetView
home_unless (Some e) a = no_target e
home_unless None a = home (subsystem_of a)

-- on subsystem, at a code
abbrev pub at_subsystem : (ℕ → CodeState) → (ℕ → ℕ → SubsystemState) → ℕ → ℕ → List ℕ → TargetView
at_subsystem codes subsystems own c a =
    cond (c == own) (home_unless (trial_of codes subsystems own OnSubsystem c (subsystem_of a)) a)
    (goes_to (trial_of codes subsystems own OnSubsystem c (subsystem_of a)) true c a)

abbrev pub translated_target : ℕ → Result TranslationView Cause → TargetView
translated_target own (Ok t) = cond (t.route.code == own) (home t.route.subsystem) (away t.route.code t.called)
translated_target own (Err c) = no_target c

-- on title: translated at the own code, else on to the code if that is up
abbrev pub at_title : TablesView → ℕ → ℕ → List ℕ → TargetView
at_title t own c a = cond (c == own) (translated_target own (translated_by t own a)) (goes_to (code_trial t.codes own c) false c a)

-- without a title: code and nonzero subsystem are needed
abbrev pub untitled_target : (ℕ → CodeState) → (ℕ → ℕ → SubsystemState) → ℕ → Option ℕ → List ℕ → TargetView
untitled_target codes subsystems own None a = no_target NoTranslation
untitled_target codes subsystems own (Some c) a = cond (nonzero (subsystem_of a)) (at_subsystem codes subsystems own c a) (no_target NoTranslation)

-- with a title: without a code it is translated; with one, bit 7 decides if the subsystem is nonzero, else the title does
abbrev pub titled_target : TablesView → ℕ → Option ℕ → List ℕ → TargetView
titled_target t own None a = translated_target own (translated_by t own a)
titled_target t own (Some c) a = cond (on_subsystem_of a && nonzero (subsystem_of a)) (at_subsystem t.codes t.subsystems own c a) (at_title t own c a)

-- where an address leads, at the station of the code own; code is the address's own one, or what stands for it
unfoldable pub target_for : TablesView → ℕ → Option ℕ → List ℕ → TargetView
target_for t own code a = cond (has_title a) (titled_target t own code a) (untitled_target t.codes t.subsystems own code a)
