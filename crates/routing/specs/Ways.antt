-- Where a message that was received goes.
use Rattle.std.specs.Prelude.{ℕ, ◌-◌, cond, List, Some, None, Ok, Err, Option, Result, ◌==◌, nat_lt}
use Rattle.address.specs.Code.{code_number}
use Rattle.address.specs.Address.{on_subsystem_of, subsystem_of}
use Rattle.address.specs.Rewrite.{buffer_octets}
use Rattle.message.specs.declared.messages.Form.{Form}
use Rattle.message.specs.declared.messages.Form.TheVariants.{Udt, Udts, Xudt, Xudts}
use Rattle.translation.specs.declared.causes.Cause.{Cause}
use Rattle.translation.specs.declared.causes.Cause.TheVariants.{NoTranslation, HopCounterViolation}
use Rattle.translation.specs.Translating.{TranslationView}
use Rattle.translation.specs.Trials.{subsystem_trial}
use Rattle.routing.specs.declared.ways.Way.{Way}
use Rattle.routing.specs.declared.ways.Way.TheVariants as way
use Rattle.routing.specs.Meanings.{TablesView, translated_by}

-- to a subsystem here; on to another code, with this form and this called address; or nowhere, with the cause
pub data WayView : Type 0 where
  to_subsystem : ℕ → WayView
  onward : ℕ → Form → List ℕ → WayView
  nowhere : Cause → WayView

abbrev pub way_of : Result Way Cause → WayView
way_of (Ok (way.Here s)) = to_subsystem s
way_of (Ok (way.Onward c f a)) = onward (code_number c) f (buffer_octets a)
way_of (Err c) = nowhere c

-- to a subsystem, unless there is a cause against it
abbrev pub here_if : Option Cause → Option ℕ → WayView
here_if (Some c) s = nowhere c
here_if None (Some s) = to_subsystem s
here_if None None = nowhere NoTranslation

-- on subsystem: the subsystem is tried here, and a code in the address is ignored
abbrev pub on_subsystem_way : TablesView → ℕ → List ℕ → WayView
on_subsystem_way t own a = here_if (subsystem_trial t.subsystems own (subsystem_of a)) (subsystem_of a)

-- a translation takes one hop from XUDT and XUDTS; none where no hop would be left
abbrev pub less_hop : Form → Option Form
less_hop (Udt c) = Some (Udt c)
less_hop (Udts c) = Some (Udts c)
less_hop (Xudt c h) = cond (nat_lt 1 h) (Some (Xudt c (h - 1))) None
less_hop (Xudts c h) = cond (nat_lt 1 h) (Some (Xudts c (h - 1))) None

-- as the translation says: here at the own code, else onward
abbrev pub translated_way : ℕ → Form → Result TranslationView Cause → WayView
translated_way own f (Ok t) = cond (t.route.code == own) (here_if None t.route.subsystem) (onward t.route.code f t.called)
translated_way own f (Err c) = nowhere c

abbrev pub on_title_way : TablesView → ℕ → List ℕ → Option Form → WayView
on_title_way t own a (Some f) = translated_way own f (translated_by t own a)
on_title_way t own a None = nowhere HopCounterViolation

-- where a message of this form with this called address goes, at the station of the code own
unfoldable pub way_for : TablesView → ℕ → Form → List ℕ → WayView
way_for t own f a = cond (on_subsystem_of a) (on_subsystem_way t own a) (on_title_way t own a (less_hop f))
