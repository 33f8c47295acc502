-- As what a message is brought to a subsystem.
use Rattle.std.specs.Prelude.{ℕ, List, Some, None, Option}
use Rattle.message.specs.declared.messages.Form.{Form}
use Rattle.message.specs.declared.messages.Form.TheVariants.{Udt, Udts, Xudt, Xudts}
use Rattle.message.specs.declared.parts_of_options.Segmentation.{Segmentation}
use Rattle.message.specs.Options.{segmentation_found}
use Rattle.routing.specs.declared.deliveries.Delivery.{Delivery}
use Rattle.routing.specs.declared.deliveries.Delivery.TheVariants as delivery

-- a unit; a notice of data that was returned; or a piece of a unit
pub data DeliveryView : Type 0 where
  as_unit : DeliveryView
  as_notice : DeliveryView
  as_piece : Segmentation → DeliveryView

abbrev pub delivery_seen : Delivery → DeliveryView
delivery_seen delivery.Unit = as_unit
delivery_seen delivery.Notice = as_notice
delivery_seen (delivery.Piece g) = as_piece g

-- an XUDT with segmentation is a piece
abbrev pub segmented_as : Option Segmentation → DeliveryView
segmented_as None = as_unit
segmented_as (Some g) = as_piece g

abbrev pub delivery_of : Form → List ℕ → DeliveryView
delivery_of (Udt c) o = as_unit
delivery_of (Udts c) o = as_notice
delivery_of (Xudt c h) o = segmented_as (segmentation_found o)
delivery_of (Xudts c h) o = as_notice
