-- Whether a destination can take a message: none of the causes, or the first in order.
use Rattle.std.specs.Prelude.{ℕ, cond, Some, None, Ok, Err, Option, Result, ◌==◌}
use Rattle.translation.specs.declared.causes.Cause.{Cause}
use Rattle.translation.specs.declared.causes.Cause.TheVariants.{NoTranslation, SubsystemFailure, UnequippedUser, TransferFailure, SccpFailure}
use Rattle.translation.specs.declared.rules.Routing.{Routing}
use Rattle.translation.specs.declared.rules.Routing.TheVariants.{OnTitle, OnSubsystem}
use Rattle.translation.specs.declared.states.CodeState.{CodeState}
use Rattle.translation.specs.declared.states.CodeState.TheVariants.{Up, TransferDown, SccpDown}
use Rattle.translation.specs.declared.states.SubsystemState.{SubsystemState}
use Rattle.translation.specs.declared.states.SubsystemState.TheVariants.{Working, Failed, Unequipped}

abbrev pub code_cause : CodeState → Option Cause
code_cause Up = None
code_cause TransferDown = Some TransferFailure
code_cause SccpDown = Some SccpFailure

-- the own code is up, whatever is said of it
abbrev pub code_trial : (ℕ → CodeState) → ℕ → ℕ → Option Cause
code_trial state own code = cond (code == own) None (code_cause (state code))

abbrev pub subsystem_cause : SubsystemState → Option Cause
subsystem_cause Working = None
subsystem_cause Failed = Some SubsystemFailure
subsystem_cause Unequipped = Some UnequippedUser

-- a subsystem that is missing or 0 is none
abbrev pub subsystem_trial : (ℕ → ℕ → SubsystemState) → ℕ → Option ℕ → Option Cause
subsystem_trial state code None = Some NoTranslation
subsystem_trial state code (Some s) = cond (s == 0) (Some NoTranslation) (subsystem_cause (state code s))

-- a title that leads back to the own code leads nowhere
abbrev pub title_trial : ℕ → ℕ → Option Cause
title_trial own code = cond (code == own) (Some NoTranslation) None

abbrev pub routing_trial : (ℕ → ℕ → SubsystemState) → ℕ → Routing → ℕ → Option ℕ → Option Cause
routing_trial state own OnTitle code s = title_trial own code
routing_trial state own OnSubsystem code s = subsystem_trial state code s

abbrev pub first_cause : Option Cause → Option Cause → Option Cause
first_cause None later = later
first_cause (Some c) later = Some c

-- first the code, then what is routed on there
abbrev pub trial_of : (ℕ → CodeState) → (ℕ → ℕ → SubsystemState) → ℕ → Routing → ℕ → Option ℕ → Option Cause
trial_of state subsystem own routing code s = first_cause (code_trial state own code) (routing_trial subsystem own routing code s)

-- where there is no cause against it, it passes
abbrev pub passes : Option Cause → Result (Unit {0}) Cause
passes None = Ok tt
passes (Some c) = Err c
