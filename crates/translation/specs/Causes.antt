-- The numbers of the return causes.
use Rattle.std.specs.Prelude.{ℕ}
use Rattle.translation.specs.declared.causes.Cause.{Cause}
use Rattle.translation.specs.declared.causes.Cause.TheVariants.{NoTranslationOfNature, NoTranslation, SubsystemFailure, UnequippedUser, TransferFailure, NetworkCongestion, Unqualified, NoReassembly, SccpFailure, HopCounterViolation}

abbrev pub cause_number : Cause → ℕ
cause_number NoTranslationOfNature = 0
cause_number NoTranslation = 1
cause_number SubsystemFailure = 3
cause_number UnequippedUser = 4
cause_number TransferFailure = 5
cause_number NetworkCongestion = 6
cause_number Unqualified = 7
cause_number NoReassembly = 10
cause_number SccpFailure = 11
cause_number HopCounterViolation = 12
