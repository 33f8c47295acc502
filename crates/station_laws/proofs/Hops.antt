-- The figures: a message with hop 1, on title and on subsystem.
use Rattle.std.proofs.Common.{[], ◌∷◌, Some, refl, ap}
use Rattle.message.specs.declared.messages.Form.TheVariants.{Xudt}
use Rattle.message.specs.Options.{segmentation_found}
use Rattle.translation.specs.declared.states.SubsystemState.{SubsystemState}
use Rattle.translation.specs.Trials.{subsystem_cause}
use Rattle.routing.specs.Ways.{here_if, way_for}
use Rattle.outgoing.specs.Puts.{message_of, label_to}
use Rattle.outgoing.specs.Returns.{give_back}
use Rattle.station_laws.specs.Station.{routed_by}
use Rattle.station_laws.specs.Figures.{HopOnTitle, HopOnSubsystem}

pub hop_on_title : HopOnTitle
unfolding way_for give_back
hop_on_title t T places v = refl

pub hop_on_subsystem : HopOnSubsystem
unfolding way_for segmentation_found
hop_on_subsystem t T places v e =
    ap (λ (s : SubsystemState). routed_by t 9 T places v (message_of (label_to 9 5 0) (Xudt 0 1) (0x42 ∷ 8 ∷ []) (0x42 ∷ 6 ∷ []) (0xA1 ∷ []) []) (here_if (subsystem_cause s) (Some 8))) e
