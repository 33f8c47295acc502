-- A station over lists: what one call does to it, what it answers, and what it puts on the line.
use Rattle.std.specs.Prelude.{ℕ, zero, suc, ◌+◌, ◌%◌, Bool, true, cond, ◌&&◌, ◌||◌, List, [], ◌∷◌, ◌++◌, map, length, Some, None, Ok, Err, Option, Result, ◌==◌, nat_le, nat_lt, slice_set}
use Rattle.address.specs.Address.{address_ok, code_of}
use Rattle.message.specs.declared.faults.ReadFault.{ReadFault}
use Rattle.message.specs.declared.parts_of_options.Segmentation.{Segmentation}
use Rattle.message.specs.Read.{Parsed, parse}
use Rattle.writing.specs.Write.{encode}
use Rattle.pieces.specs.Pieces.{in_piece, count_answer}
use Rattle.slot_laws.specs.Machine as law
use Rattle.timed_table.specs.declared.entry.Entry.{Entry}
use Rattle.timed_table.specs.declared.entry.Entry.TheVariants.{Timed}
use Rattle.timed_table.specs.declared.reference.Reference.{Reference}
use Rattle.timed_table.specs.Table.{last_from, is_free, ticked}
use Rattle.translation.specs.declared.causes.Cause.{Cause}
use Rattle.translation.specs.declared.causes.Cause.TheVariants.{NetworkCongestion, Unqualified, NoReassembly}
use Rattle.routing.specs.Meanings.{TablesView}
use Rattle.routing.specs.Ways.{WayView, to_subsystem, onward, nowhere, way_for}
use Rattle.routing.specs.Deliveries.{DeliveryView, as_unit, as_notice, as_piece, delivery_of}
use Rattle.routing.specs.Targets.{TargetView, at_home, away, no_target, target_for}
use Rattle.outgoing.specs.declared.returning.Givenback.{Givenback}
use Rattle.outgoing.specs.declared.returning.Givenback.TheVariants.{Returned, ToldHere, Discarded}
use Rattle.outgoing.specs.Puts.{put_outcome}
use Rattle.outgoing.specs.Addressed.{message_passed_on}
use Rattle.outgoing.specs.Returns.{Return, give_back, calling_for}
use Rattle.outgoing.specs.Units.{Heading, selection, one_message, piece_messages}

-- a station as it is seen: its slots, the entries of its frozen references, and the last reference that it gave
pub record View : Type 0 where
  pub slots : List law.Slot
  pub frozen : List (Entry Reference (Unit {0}))
  pub last : ℕ

abbrev pub with_slots : View → List law.Slot → View
with_slots v ss = record { slots = ss; frozen = v.frozen; last = v.last }

-- what a call answers
pub data Reply : Type 0 where
  -- declined, with the number; with the read fault; with the cause
  declined : ℕ → Reply
  unread : ℕ → ReadFault → Reply
  no_way : ℕ → Cause → Reply
  -- received for a subsystem here, the message as it came: handed up, or a notice
  handed_up : ℕ → Parsed → Reply
  notice : ℕ → Parsed → Reply
  -- handed up from pieces, for a subsystem here, with a receipt
  from_pieces : ℕ → law.Receipt → Reply
  -- what the slots answered otherwise: to a piece, a tick, a copy or a release
  by_slots : law.Answer → Reply
  -- passed on to a code
  passed_on : ℕ → Reply
  -- with a cause: returned to a code; told here to a subsystem, the message as it came; discarded
  returned : Cause → ℕ → Reply
  told_here : Cause → ℕ → Parsed → Reply
  discarded : Cause → Reply
  -- sent: handed up to a subsystem here, with the data; to a code in one message, with the link selection;
  -- to a code in so many pieces, under a reference, with the link selection
  sent_here : ℕ → List ℕ → Reply
  sent_one : ℕ → ℕ → Reply
  sent_pieces : ℕ → ℕ → ℕ → ℕ → Reply

pub record Outcome : Type 0 where
  pub after : View
  pub reply : Reply
  pub sent : List (List ℕ)

-- nothing is put on the line
abbrev pub quiet : View → Reply → Outcome
quiet v r = record { after = v; reply = r; sent = [] }

-- Receiving. own and T are the station's code and the ticks of an opening; t is what the tables mean; places are the line's.

abbrev pub given_reply : Cause → Parsed → Givenback → Reply
given_reply c p (Returned code) = returned c code
given_reply c p (ToldHere s) = told_here c s p
given_reply c p Discarded = discarded c

abbrev pub given_outcome : View → Cause → Parsed → Return → Outcome
given_outcome v c p r = record { after = v; reply = given_reply c p r.done; sent = r.sent }

-- a message with a cause
abbrev pub caused : TablesView → ℕ → ℕ → View → Parsed → Cause → Outcome
caused t own places v p c = given_outcome v c p (give_back t own places c p)

-- the station's mark: origin, subsystem here, the octets of the calling address, reference
abbrev pub mark : ℕ → ℕ → List ℕ → ℕ → List ℕ
mark opc s calling reference = opc ∷ s ∷ (calling ++ (reference ∷ []))

-- what is told of a piece for the subsystem s, or the cause against it; of a message that was read no piece is declined
abbrev pub piece_told : ℕ → Parsed → law.Answer → Result Reply Cause
piece_told s p (law.declined n) = Err Unqualified
piece_told s p (law.alone d) = Ok (handed_up s p)
piece_told s p (law.refused c) = Err (cond (c == 10) NoReassembly NetworkCongestion)
piece_told s p (law.opens i) = Ok (by_slots (law.opens i))
piece_told s p (law.restarts i) = Ok (by_slots (law.restarts i))
piece_told s p law.stray = Ok (by_slots law.stray)
piece_told s p (law.breaks i) = Ok (by_slots (law.breaks i))
piece_told s p (law.holds i) = Ok (by_slots (law.holds i))
piece_told s p (law.hands r) = Ok (from_pieces s r)
piece_told s p (law.lapses n) = Err Unqualified
piece_told s p (law.released i) = Err Unqualified
piece_told s p (law.copied d) = Err Unqualified

abbrev pub told_outcome : TablesView → ℕ → ℕ → View → Parsed → Result Reply Cause → Outcome
told_outcome t own places v p (Ok r) = quiet v r
told_outcome t own places v p (Err c) = caused t own places v p c

abbrev pub piece_outcome : TablesView → ℕ → ℕ → View → ℕ → Parsed → law.Step → Outcome
piece_outcome t own places v s p step = told_outcome t own places (with_slots v step.0) p (piece_told s p step.1)

-- the piece that a message with this segmentation is to the slots
abbrev pub piece_of : ℕ → Parsed → Segmentation → law.Event
piece_of s p g = law.piece (mark p.label.opc s p.calling g.reference) g.first g.remaining p.«data»

-- a calling address has 2 to 32 octets; a message with segmentation that was read has such a one
abbrev pub unmarked : Parsed → Bool
unmarked p = nat_lt (length p.calling) 2 || nat_lt 32 (length p.calling)

-- brought to the subsystem s: a notice, a unit, or a piece
abbrev pub brought : TablesView → ℕ → ℕ → ℕ → View → ℕ → Parsed → DeliveryView → Outcome
brought t own T places v s p as_unit = quiet v (handed_up s p)
brought t own T places v s p as_notice = quiet v (notice s p)
brought t own T places v s p (as_piece g) =
    cond (unmarked p) (caused t own places v p Unqualified) (piece_outcome t own places v s p (law.step own T v.slots (piece_of s p g)))

abbrev pub passing : TablesView → ℕ → ℕ → View → Parsed → ℕ → Parsed → Result (Unit {0}) Cause → Outcome
passing t own places v p code q (Ok _) = record { after = v; reply = passed_on code; sent = encode q ∷ [] }
passing t own places v p code q (Err c) = caused t own places v p c

abbrev pub routed_by : TablesView → ℕ → ℕ → ℕ → View → Parsed → WayView → Outcome
routed_by t own T places v p (to_subsystem s) = brought t own T places v s p (delivery_of p.form p.options)
routed_by t own T places v p (onward code f called) =
    passing t own places v p code (message_passed_on own code f called p) (put_outcome places (message_passed_on own code f called p))
routed_by t own T places v p (nowhere c) = caused t own places v p c

-- a message that was read: 42 where it is not for this code
abbrev pub routed : TablesView → ℕ → ℕ → ℕ → View → Parsed → Outcome
routed t own T places v p = cond (p.label.dpc == own) (routed_by t own T places v p (way_for t own p.form p.called)) (quiet v (declined 42))

-- octets: 41 where they do not read, with the fault
abbrev pub received : TablesView → ℕ → ℕ → ℕ → View → Result Parsed ReadFault → Outcome
received t own T places v (Ok p) = routed t own T places v p
received t own T places v (Err e) = quiet v (unread 41 e)

-- Sending.

-- what is to be sent: addresses, data, class, whether return is asked for, and the sequence number
pub record Request : Type 0 where
  pub called : List ℕ
  pub calling : List ℕ
  pub contents : List ℕ
  pub class : ℕ
  pub returns : Bool
  pub sequence : ℕ

-- go on where the test holds, else declined with the number
abbrev pub check : Bool → ℕ → View → Outcome → Outcome
check b n v k = cond b k (quiet v (declined n))

-- what the unit goes out with: a calling address on subsystem without a code gets the own one if the called goes out on title
abbrev pub heading_of : ℕ → ℕ → List ℕ → Request → Heading
heading_of own code called q =
    record { code = code; own = own; called = called; calling = calling_for own called q.calling; class = q.class; returns = q.returns; sequence = q.sequence }

-- references go up by ones, in 24 bits
abbrev pub next : ℕ → ℕ
next n = (n + 1) % 16777216

-- a reference is frozen for so many ticks
abbrev pub freezing : ℕ
freezing = 30

-- the reference n is given, and frozen in the entry i
abbrev pub froze : View → ℕ → ℕ → View
froze v i n = record { slots = v.slots; frozen = slice_set v.frozen i (Timed (record { number = n }) freezing tt); last = n }

-- in pieces, of which r follow the first: 37 where no entry is free, 38 where there are too few places
abbrev pub in_pieces : ℕ → View → Heading → List ℕ → ℕ → Option ℕ → Outcome
in_pieces places v h d r None = quiet v (declined 37)
in_pieces places v h d r (Some i) =
    cond (nat_lt places (suc r)) (quiet v (declined 38))
    (record {
      after = froze v i (next v.last);
      reply = sent_pieces h.code (suc r) (next v.last) (selection 1 h.sequence);
      sent = piece_messages h (next v.last) (in_piece (length h.called) (length h.calling)) true r d;
    })

-- in one message: 38 where there is no place
abbrev pub in_one_message : ℕ → View → Heading → List ℕ → Outcome
in_one_message places v h d =
    cond (places == 0) (quiet v (declined 38))
    (record { after = v; reply = sent_one h.code (selection h.class h.sequence); sent = encode (one_message h d) ∷ [] })

-- by the number of messages that the unit needs: 36 where they are above 16
abbrev pub by_count : ℕ → View → Heading → List ℕ → ℕ → Outcome
by_count places v h d zero = quiet v (declined 36)
by_count places v h d (suc zero) = in_one_message places v h d
by_count places v h d (suc (suc r)) = in_pieces places v h d (suc r) (last_from is_free 0 None v.frozen)

abbrev pub goes_out : ℕ → View → Heading → List ℕ → Outcome
goes_out places v h d = by_count places v h d (count_answer (length h.called) (length h.calling) (length d))

abbrev pub send_to : ℕ → ℕ → View → Request → TargetView → Outcome
send_to own places v q (at_home s) = quiet v (sent_here s q.contents)
send_to own places v q (away code called) = goes_out places v (heading_of own code called q) q.contents
send_to own places v q (no_target c) = quiet v (no_way 35 c)

-- a unit has 1 to 3,952 octets
abbrev pub unit_length : ℕ → Bool
unit_length n = nat_le 1 n && nat_le n 3952

abbrev pub sends : TablesView → ℕ → ℕ → View → Request → Outcome
sends t own places v q =
    check (address_ok q.called) 31 v
    (check (address_ok q.calling) 32 v
    (check (unit_length (length q.contents)) 33 v
    (check (nat_lt q.class 2) 34 v
    (send_to own places v q (target_for t own (code_of q.called) q.called)))))

-- The calls: send and receive with what the tables mean and the places of the line; tick; copy by a receipt into a buffer of so many octets; release.
pub data Event : Type 0 where
  send : TablesView → ℕ → Request → Event
  receive : TablesView → ℕ → List ℕ → Event
  tick : Event
  copy : law.Receipt → ℕ → Event
  release : law.Receipt → Event

-- a call that the slots alone answer
abbrev pub slot_call : View → law.Step → Outcome
slot_call v step = quiet (with_slots v step.0) (by_slots step.1)

-- a tick: the slots', and one from every frozen reference
abbrev pub ticks : View → law.Step → Outcome
ticks v step = quiet (record { slots = step.0; frozen = map ticked v.frozen; last = v.last }) (by_slots step.1)

-- what a call does, at a station of this code and T
abbrev pub station_step : ℕ → ℕ → View → Event → Outcome
station_step own T v (send t places q) = sends t own places v q
station_step own T v (receive t places octets) = received t own T places v (parse octets)
station_step own T v tick = ticks v (law.step own T v.slots law.tick)
station_step own T v (copy r room) = slot_call v (law.step own T v.slots (law.copy r room))
station_step own T v (release r) = slot_call v (law.step own T v.slots (law.release r))
