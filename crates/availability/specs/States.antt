-- What lists of exceptions and maps say of codes and subsystems.
use Rattle.std.specs.Prelude.{ℕ, ◌/◌, ◌%◌, ◌^◌, cond, ◌&&◌, List, [], ◌∷◌, length, Some, None, Option, ◌==◌, nat_lt, slice_index}
use Rattle.std.specs.Option.{option_or, unwrap_or}
use Rattle.translation.specs.declared.states.CodeState.{CodeState}
use Rattle.translation.specs.declared.states.CodeState.TheVariants.{Up, TransferDown, SccpDown}
use Rattle.translation.specs.declared.states.SubsystemState.{SubsystemState}
use Rattle.translation.specs.declared.states.SubsystemState.TheVariants.{Working}
use Rattle.availability.specs.declared.exceptions.Exception.{Exception}
use Rattle.availability.specs.declared.exceptions.Exception.TheVariants.{Code, Subsystem}

-- what an entry says of a code
abbrev pub code_answer : ℕ → Exception → Option CodeState
code_answer c (Code code state) = cond (code == c) (Some state) None
code_answer c (Subsystem code subsystem state) = None

-- what an entry says of a subsystem at a code
abbrev pub subsystem_answer : ℕ → ℕ → Exception → Option SubsystemState
subsystem_answer c s (Code code state) = None
subsystem_answer c s (Subsystem code subsystem state) = cond (code == c && subsystem == s) (Some state) None

-- what the first entry that answers says
abbrev pub first_told : {E S : Type 0} → (E → Option S) → List E → Option S
first_told answer [] = None
first_told answer (e ∷ es) = option_or (answer e) (first_told answer es)

-- where no entry answers, all is up
abbrev pub code_told : ℕ → List Exception → CodeState
code_told c es = unwrap_or (first_told (code_answer c) es) Up

abbrev pub subsystem_told : ℕ → ℕ → List Exception → SubsystemState
subsystem_told c s es = unwrap_or (first_told (subsystem_answer c s) es) Working

abbrev pub state_numbered : ℕ → CodeState
state_numbered n = cond (n == 0) Up (cond (n == 1) TransferDown SccpDown)

-- two bits a code from code 0, low bits first; codes beyond the map are transfer down
abbrev pub code_mapped : ℕ → List ℕ → CodeState
code_mapped c octets = cond (nat_lt (c / 4) (length octets)) (state_numbered (slice_index octets (c / 4) / 4 ^ (c % 4) % 4)) TransferDown
