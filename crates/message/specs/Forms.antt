-- What stands before the pointers of a message.
use Rattle.std.specs.Prelude.{ℕ, ◌%◌, Bool, false, Some, None, Option, nat_le}
use Rattle.message.specs.declared.messages.Form.{Form}
use Rattle.message.specs.declared.messages.Form.TheVariants.{Udt, Udts, Xudt, Xudts}

-- bits 1 to 4 of the class octet
abbrev pub class_of : Form → Option ℕ
class_of (Udt c) = Some (c % 16)
class_of (Udts c) = None
class_of (Xudt c h) = Some (c % 16)
class_of (Xudts c h) = None

-- bit 8 of the class octet
abbrev pub asks_return : Form → Bool
asks_return (Udt c) = nat_le 128 c
asks_return (Udts c) = false
asks_return (Xudt c h) = nat_le 128 c
asks_return (Xudts c h) = false

abbrev pub cause_of : Form → Option ℕ
cause_of (Udt c) = None
cause_of (Udts c) = Some c
cause_of (Xudt c h) = None
cause_of (Xudts c h) = Some c

abbrev pub hop_of : Form → Option ℕ
hop_of (Udt c) = None
hop_of (Udts c) = None
hop_of (Xudt c h) = Some h
hop_of (Xudts c h) = Some h
