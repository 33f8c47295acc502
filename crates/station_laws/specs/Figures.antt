-- Figures worked out by hand, as facts about the definitions.
use Rattle.std.specs.Prelude.{◌≡◌, ℕ, List, [], ◌∷◌}
use Rattle.message.specs.declared.messages.Form.TheVariants.{Xudt}
use Rattle.message.specs.Read.{Parsed}
use Rattle.translation.specs.declared.causes.Cause.TheVariants.{HopCounterViolation}
use Rattle.translation.specs.declared.states.SubsystemState.TheVariants.{Working}
use Rattle.routing.specs.Meanings.{TablesView}
use Rattle.outgoing.specs.Puts.{message_of, label_to}
use Rattle.station_laws.specs.Station.{View, quiet, handed_up, discarded, routed}

-- an XUDT with hop 1 from code 5 to the station 9, with this called address
abbrev last_hop_to : List ℕ → Parsed
last_hop_to called = message_of (label_to 9 5 0) (Xudt 0 1) called (0x42 ∷ 6 ∷ []) (0xA1 ∷ []) []

-- hop 1 on title: cause 12, for all tables
abbrev pub HopOnTitle : Type 0
HopOnTitle =
    (t : TablesView) (T places : ℕ) (v : View)
    → routed t 9 T places v (last_hop_to (0x12 ∷ 8 ∷ 0 ∷ 0x12 ∷ 4 ∷ 0x21 ∷ 0x43 ∷ [])) ≡ quiet v (discarded HopCounterViolation)

-- hop 1 on subsystem: handed up, where the subsystem works
abbrev pub HopOnSubsystem : Type 0
HopOnSubsystem =
    (t : TablesView) (T places : ℕ) (v : View) → t.subsystems 9 8 ≡ Working
    → routed t 9 T places v (last_hop_to (0x42 ∷ 8 ∷ [])) ≡ quiet v (handed_up 8 (last_hop_to (0x42 ∷ 8 ∷ [])))
