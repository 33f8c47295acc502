-- A message that cannot be brought to where its called address says: returned, told here, or discarded.
use Rattle.std.specs.Prelude.{ℕ, ◌%◌, Bool, cond, not, ◌&&◌, List, [], Some, Ok, Err, Option, Result}
use Rattle.address.specs.Address.{address_empty, on_subsystem_of, code_of}
use Rattle.message.specs.declared.messages.Form.{Form}
use Rattle.message.specs.declared.messages.Form.TheVariants.{Udt, Udts, Xudt, Xudts}
use Rattle.message.specs.Forms.{asks_return}
use Rattle.message.specs.Read.{Parsed}
use Rattle.translation.specs.declared.causes.Cause.{Cause}
use Rattle.translation.specs.Causes.{cause_number}
use Rattle.routing.specs.Meanings.{TablesView}
use Rattle.routing.specs.Targets.{TargetView, at_home, away, no_target, target_for}
use Rattle.outgoing.specs.declared.returning.Givenback.{Givenback}
use Rattle.outgoing.specs.declared.returning.Givenback.TheVariants.{Returned, ToldHere, Discarded}
use Rattle.outgoing.specs.Puts.{message_of, label_to, put_outcome, put_by}
use Rattle.outgoing.specs.Addressed.{lacks_code, completed}

-- only a UDT or XUDT that asks for it, with a calling address that is not empty, returns
abbrev pub returnable : Parsed → Bool
returnable p = asks_return p.form && not (address_empty p.calling)

-- UDT returns as UDTS and XUDT as XUDTS with hop 15, with the cause
abbrev pub return_form : Cause → Form → Form
return_form c (Udt k) = Udts (cause_number c)
return_form c (Udts k) = Udts (cause_number c)
return_form c (Xudt k h) = Xudts (cause_number c) 15
return_form c (Xudts k h) = Xudts (cause_number c) 15

-- the code by which the return is routed: the origin stands for it where the calling address is on subsystem without one
abbrev pub return_code : Parsed → Option ℕ
return_code p = cond (lacks_code p.calling) (Some (p.label.opc % 16384)) (code_of p.calling)

-- a calling address gets the own code where the called one goes out on title
abbrev pub calling_for : ℕ → List ℕ → List ℕ → List ℕ
calling_for own called calling = cond (on_subsystem_of called) calling (completed own calling)

-- addresses changed over, same data, options and link selection
abbrev pub return_message : ℕ → ℕ → List ℕ → Cause → Parsed → Parsed
return_message own code called c p =
    message_of (label_to code own p.label.sls) (return_form c p.form) called (calling_for own called p.called) p.«data» p.options

-- returned to a code, told here to a subsystem, or discarded; and what is put on the line
pub record Return : Type 0 where
  pub done : Givenback
  pub sent : List (List ℕ)

abbrev pub return_put : ℕ → Parsed → Result (Unit {0}) Cause → Return
return_put code p (Ok _) = record { done = Returned code; sent = put_by (Ok tt) p }
return_put code p (Err e) = record { done = Discarded; sent = [] }

abbrev pub return_to : ℕ → ℕ → Cause → Parsed → TargetView → Return
return_to own places c p (at_home s) = record { done = ToldHere s; sent = [] }
return_to own places c p (away code called) = return_put code (return_message own code called c p) (put_outcome places (return_message own code called c p))
return_to own places c p (no_target e) = record { done = Discarded; sent = [] }

-- what becomes of a message with a cause
abbrev pub gives : TablesView → ℕ → ℕ → Cause → Parsed → Return
gives t own places c p =
    cond (returnable p) (return_to own places c p (target_for t own (return_code p) p.calling)) (record { done = Discarded; sent = [] })

unfoldable pub give_back : TablesView → ℕ → ℕ → Cause → Parsed → Return
give_back t own places c p = gives t own places c p
