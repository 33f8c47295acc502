-- The laws of reading at any answer that is what the definition gives, and the worked figures.
use Rattle.std.proofs.Common.{◌≡◌, ℕ, List, Ok, Err, Result, sym, refl, subst}
use Rattle.address.specs.Address.{address_ok}
use Rattle.message.specs.declared.faults.ReadFault.{ReadFault}
use Rattle.message.specs.Options.{span_on, segmentation_found}
use Rattle.message.specs.declared.messages.Message.{Message}
use Rattle.message.specs.Faults.{FaultPlace}
use Rattle.message.specs.Read.{Parsed, meaning, body, parse}
use Rattle.message.specs.FirstFault.{FirstFault}
use Rattle.message.specs.Inside.{PartsInside}
use Rattle.message.specs.Figures.{UdtFigure, PieceFigure}
use Rattle.message.proofs.FirstFault.{parse_right}

pub first_fault : (x : List ℕ) (r : Result Parsed ReadFault) → r ≡ parse x → FirstFault x r
first_fault x r e = subst (FirstFault x) (sym e) (parse_right x).0

pub parts_inside : (x : List ℕ) (r : Result Parsed ReadFault) → r ≡ parse x → PartsInside x r
parts_inside x r e = subst (PartsInside x) (sym e) (parse_right x).1

pub fault_place : (x : List ℕ) (r : Result Message ReadFault) → meaning r ≡ parse x → FaultPlace r
fault_place x (Ok m) e = tt
fault_place x (Err f) e = let Q : Result Parsed ReadFault → Type 0 = FaultPlace in subst Q (sym e) (parse_right x).2

pub udt_figure : UdtFigure
unfolding body address_ok span_on
udt_figure = ((λ l. refl), refl, refl)

pub piece_figure : PieceFigure
unfolding body address_ok span_on segmentation_found
piece_figure = ((λ l. refl), refl)
