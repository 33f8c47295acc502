-- Calling addresses as they are written, and messages that are passed on.
use Rattle.std.specs.Prelude.{ℕ, ◌/◌, ◌%◌, Bool, cond, not, ◌&&◌, List, [], ◌∷◌, is_some, Some, None, Option}
use Rattle.address.specs.Address.{address_ok, on_subsystem_of, code_of, subsystem_of}
use Rattle.address.specs.Rewrite.{rewrite_with}
use Rattle.message.specs.declared.messages.Form.{Form}
use Rattle.message.specs.Read.{Parsed}
use Rattle.outgoing.specs.Puts.{message_of, label_to}

-- an address on subsystem without a code
abbrev pub lacks_code : List ℕ → Bool
lacks_code a = address_ok a && (on_subsystem_of a && not (is_some (code_of a)))

-- the same address with a code
abbrev pub with_code : ℕ → List ℕ → List ℕ
with_code n a = rewrite_with (on_subsystem_of a) (n % 256 ∷ n / 256 ∷ []) (subsystem_of a) a

-- a code is put into an address on subsystem that has none
unfoldable pub completed : ℕ → List ℕ → List ℕ
completed n a = cond (lacks_code a) (with_code n a) a

-- an address written anew, where it was, else as given
abbrev pub or_given : Option (List ℕ) → List ℕ → List ℕ
or_given None a = a
or_given (Some b) a = b

-- passed on: called address as translated, the origin put into the calling address where it lacks a code, the own code as origin, all else kept.
-- An origin that was read has 14 bits.
abbrev pub message_passed_on : ℕ → ℕ → Form → List ℕ → Parsed → Parsed
message_passed_on own code f called p =
    message_of (label_to code own p.label.sls) f called (completed (p.label.opc % 16384) p.calling) p.«data» p.options
