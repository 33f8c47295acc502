-- The answers of the calls, as the laws speak of them: every case with its values, and every refusal with its number.
use Rattle.std.specs.Prelude.{◌≡◌, ℕ, List, Ok, Err, Result}
use Rattle.message.specs.Read.{Parsed, seen}
use Rattle.translation.specs.declared.causes.Cause.{Cause}
use Rattle.slot_laws.specs.Machine as law
use Rattle.slots.specs.Answers.{receipt_of}
use Rattle.routing.specs.Meanings.{TablesView}
use Rattle.outgoing.specs.Puts.{Behind}
use Rattle.station_laws.specs.Station.{View, Outcome, caused, Reply, declined, unread, no_way, handed_up, notice, from_pieces, by_slots, passed_on, returned, told_here, discarded, sent_here, sent_one, sent_pieces}
use Rattle.station.specs.declared.answers.Received.{Received}
use Rattle.station.specs.declared.answers.Received.TheVariants as received
use Rattle.station.specs.declared.answers.Sent.{Sent}
use Rattle.station.specs.declared.answers.Sent.TheVariants as sent
use Rattle.station.specs.declared.refusals.ReceiveRefusal.{ReceiveRefusal}
use Rattle.station.specs.declared.refusals.ReceiveRefusal.TheVariants as receive
use Rattle.station.specs.declared.refusals.SendRefusal.{SendRefusal}
use Rattle.station.specs.declared.refusals.SendRefusal.TheVariants as send

abbrev pub received_as : Received → Reply
received_as (received.HandedUp s p) = handed_up s (seen p)
received_as (received.Notice s p) = notice s (seen p)
received_as (received.Opened i) = by_slots (law.opens i)
received_as (received.Restarted i) = by_slots (law.restarts i)
received_as (received.Held i) = by_slots (law.holds i)
received_as (received.Broken i) = by_slots (law.breaks i)
received_as received.Stray = by_slots law.stray
received_as (received.FromPieces s r) = from_pieces s (receipt_of r)
received_as (received.PassedOn c) = passed_on c
received_as (received.Returned e c) = returned e c
received_as (received.ToldHere e s p) = told_here e s (seen p)
received_as (received.Discarded e) = discarded e

-- declined with 41, carrying the read fault, or with 42
abbrev pub receive_reply : Result Received ReceiveRefusal → Reply
receive_reply (Ok r) = received_as r
receive_reply (Err (receive.Unread fault)) = unread 41 fault
receive_reply (Err receive.NotOurs) = declined 42

-- a piece taken in, or the cause against it
abbrev pub piece_reply : Result Received Cause → Result Reply Cause
piece_reply (Ok r) = Ok (received_as r)
piece_reply (Err c) = Err c

-- the outcome of a message that was brought here or passed on; or, with the line as it was, that of the cause against it
abbrev pub Follows : {L : Type 0} → (L → List (List ℕ)) → (L → ℕ) → L → L → TablesView → ℕ → View → Parsed → Outcome → Result Received Cause → Type 0
Follows waiting places before after t own v p o (Ok r) = (received_as r ≡ o.reply) × (v ≡ o.after) × Behind waiting places before after o.sent
Follows waiting places before after t own v p o (Err c) = (after ≡ before) × (o ≡ caused t own (places before) v p c)

abbrev pub refused_as : SendRefusal → Reply
refused_as send.CalledAddress = declined 31
refused_as send.CallingAddress = declined 32
refused_as send.DataLength = declined 33
refused_as send.ProtocolClass = declined 34
refused_as (send.NoWay cause) = no_way 35 cause
refused_as send.TooManyPieces = declined 36
refused_as send.NoFreeReference = declined 37
refused_as send.TooFewPlaces = declined 38

abbrev pub sent_as : Sent → Reply
sent_as (sent.Here s d) = sent_here s d.now
sent_as (sent.Message c l) = sent_one c l
sent_as (sent.Pieces c n r l) = sent_pieces c n r l

abbrev pub send_reply : Result Sent SendRefusal → Reply
send_reply (Ok s) = sent_as s
send_reply (Err e) = refused_as e
