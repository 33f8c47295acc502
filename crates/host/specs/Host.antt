-- What a check tells of what reading answers.
use Rattle.std.specs.Prelude.{ℕ, Ok, Err, Result}
use Rattle.message.specs.declared.faults.ReadFault.{ReadFault}
use Rattle.message.specs.Faults.{fault_number}
use Rattle.message.specs.Read.{Parsed}

abbrev pub check_number : Result Parsed ReadFault → ℕ
check_number (Ok p) = 0
check_number (Err e) = fault_number e.fault

abbrev pub check_offset : Result Parsed ReadFault → ℕ
check_offset (Ok p) = 0
check_offset (Err e) = e.offset
