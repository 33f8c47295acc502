-- A station as the laws see it.
use Rattle.std.specs.Prelude.{ℕ, min, List, length}
use Rattle.message.specs.Read.{Parsed}
use Rattle.timed_table.specs.StationMarks.{station_numbers}
use Rattle.slot_parts.specs.declared.settings.Settings.{Settings}
use Rattle.slots.specs.Pieces.{slots_of}
use Rattle.slots.specs.View.{view}
use Rattle.routing.specs.Meanings.{TablesView}
use Rattle.outgoing.specs.declared.classes.Class.{Class}
use Rattle.outgoing.specs.Classes.{class_number}
use Rattle.station_laws.specs.Station.{View, Outcome, Request, Event, station_step, routed}
use Rattle.station_laws.specs.Uses.{Use}
use Rattle.station.specs.declared.held.Station.{Station}
use Rattle.station.specs.declared.requests.UnitDataRequest.{UnitDataRequest}

abbrev pub seen : Station → View
seen s = record { slots = view station_numbers s.slots; frozen = s.references.entries.now; last = s.last.number }

-- what is made by opening with these settings, records, reference entries and store
abbrev pub use_of : {X Y : Type 0} → Settings → List X → List Y → List ℕ → Use
use_of settings records references store =
    record { slots = slots_of (length records) (length store); entries = min (length references) 64; ticks = settings.ticks; code = settings.code }

abbrev pub request_seen : UnitDataRequest → Request
request_seen q =
    record { called = q.called.octets.now; calling = q.calling.octets.now; contents = q.«data».now; class = q.class; returns = q.return_option; sequence = q.sequence }

-- the same, where its class is known
abbrev pub request_in : Class → UnitDataRequest → Request
request_in c q =
    record { called = q.called.octets.now; calling = q.calling.octets.now; contents = q.«data».now; class = class_number c; returns = q.return_option; sequence = q.sequence }

-- what a call does to a station as it is seen
abbrev pub step_of : Station → Event → Outcome
step_of s e = station_step s.slots.settings.code s.slots.settings.ticks (seen s) e

-- what routing a message that was read does
abbrev pub routing : TablesView → ℕ → Station → Parsed → Outcome
routing t places s p = routed t s.slots.settings.code s.slots.settings.ticks places (seen s) p
