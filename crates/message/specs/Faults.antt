-- The numbers of the faults of octets that are not a message.
use Rattle.std.specs.Prelude.{ℕ, ◌≤◌, IfErr, Result}
use Rattle.message.specs.declared.faults.Fault.{Fault}
use Rattle.message.specs.declared.faults.ReadFault.{ReadFault}
use Rattle.message.specs.declared.faults.Fault.TheVariants.{Length, MessageType, PointersCutOff, ClassOrHop, Pointer, Address, Data, Options}

abbrev pub fault_number : Fault → ℕ
fault_number Length = 11
fault_number MessageType = 12
fault_number PointersCutOff = 13
fault_number ClassOrHop = 14
fault_number Pointer = 15
fault_number Address = 16
fault_number Data = 17
fault_number Options = 18

-- a fault lies in the message or at its end, which has at most 268 octets behind the label
abbrev pub FaultPlace : {A : Type 0} → Result A ReadFault → Type 0
FaultPlace r = IfErr r (λ e. e.offset ≤ 268)
