-- What a call leaves in the lent memory.
use Rattle.std.specs.Prelude.{◌≡◌, ℕ, cond, Some, None, Ok, Err, Option, Result, ◌==◌}
use Rattle.message.specs.declared.faults.ReadFault.{ReadFault}
use Rattle.message.specs.declared.parts_of_options.Segmentation.{Segmentation}
use Rattle.message.specs.Read.{Parsed}
use Rattle.timed_table.specs.declared.station_mark.StationMark.{StationMark}
use Rattle.timed_table.specs.StationMarks.{station_numbers}
use Rattle.slots.specs.declared.alone.Slots as alone
use Rattle.slots.specs.Became.{Became}
use Rattle.slots.specs.Pieces.{piece_entries, piece_octets}
use Rattle.routing.specs.Meanings.{TablesView}
use Rattle.routing.specs.Ways.{WayView, to_subsystem, onward, nowhere, way_for}
use Rattle.routing.specs.Deliveries.{DeliveryView, as_unit, as_notice, as_piece, delivery_of}
use Rattle.station_laws.specs.Station.{mark, unmarked}
use Rattle.station.specs.declared.held.Station.{Station}

-- a piece for the slots: the subsystem here, and its segmentation
pub record Incoming : Type 0 where
  pub subsystem : ℕ
  pub segmentation : Segmentation

abbrev pub delivered_to : ℕ → Parsed → DeliveryView → Option Incoming
delivered_to s p as_unit = None
delivered_to s p as_notice = None
delivered_to s p (as_piece g) = cond (unmarked p) None (Some (record { subsystem = s; segmentation = g }))

abbrev pub incoming_by : Parsed → WayView → Option Incoming
incoming_by p (to_subsystem s) = delivered_to s p (delivery_of p.form p.options)
incoming_by p (onward code f called) = None
incoming_by p (nowhere c) = None

-- the piece that a message is for the slots of the station of the code own, if it is one
abbrev pub incoming : TablesView → ℕ → Parsed → Option Incoming
incoming t own p = cond (p.label.dpc == own) (incoming_by p (way_for t own p.form p.called)) None

abbrev pub incoming_read : TablesView → ℕ → Result Parsed ReadFault → Option Incoming
incoming_read t own (Ok p) = incoming t own p
incoming_read t own (Err e) = None

-- records and store after a piece are as the slots say, under a mark that means the four numbers of its sender
pub record Taken (ticks : ℕ) (before after : alone.Slots StationMark) (p : Parsed) (i : Incoming) : Type 0 where
  pub key : StationMark
  pub numbers : station_numbers key ≡ mark p.label.opc i.subsystem p.calling i.segmentation.reference
  pub memory : Became before after
      (piece_entries station_numbers key i.segmentation.first i.segmentation.remaining p.«data» before.table.entries.now ticks)
      (piece_octets station_numbers key i.segmentation.first i.segmentation.remaining p.«data» before.table.entries.now before.store.octets.now)

-- and are untouched by any other message
abbrev pub Slots : ℕ → alone.Slots StationMark → alone.Slots StationMark → Parsed → Option Incoming → Type 0
Slots ticks before after p None = after ≡ before
Slots ticks before after p (Some i) = Taken ticks before after p i

abbrev pub SlotsRead : ℕ → alone.Slots StationMark → alone.Slots StationMark → TablesView → ℕ → Result Parsed ReadFault → Type 0
SlotsRead ticks before after t own (Ok p) = Slots ticks before after p (incoming t own p)
SlotsRead ticks before after t own (Err e) = after ≡ before

-- what sending leaves alone: records and store, the settings, and the entries beyond those that the station uses; the reference entries stay in the memory that was lent
pub record Untouched (before after : Station) : Type 0 where
  pub slots : after.slots ≡ before.slots
  pub settings : after.slots.settings ≡ before.slots.settings
  pub beyond : after.references.beyond.now ≡ before.references.beyond.now
  pub references_lender : after.references.entries.ghost_name ≡ before.references.entries.ghost_name
  pub beyond_lender : after.references.beyond.ghost_name ≡ before.references.beyond.ghost_name
