-- What one call does, told by cases: how the slots feel it, what comes of a call that sends, and what of one that receives.
use Rattle.std.proofs.Common.{◌≡◌, ℕ, zero, suc, ◌≤◌, ◌<◌, Bool, true, false, cond, eqb, ltb, leb, List, [], ◌∷◌, length, Some, None, Ok, Err, Option, Result, refl}
use Rattle.std.proofs.lemmas.Bool.{cond_both, and_parts, leb-true, ltb-true, eqb-true}
use Rattle.address.specs.Address.{address_ok, code_of}
use Rattle.message.specs.declared.faults.ReadFault.{ReadFault}
use Rattle.message.specs.declared.parts_of_options.Segmentation.{Segmentation}
use Rattle.message.specs.Read.{Parsed, parse}
use Rattle.pieces.specs.Pieces.{in_piece, count_answer}
use Rattle.timed_table.specs.Table.{last_from, is_free}
use Rattle.translation.specs.declared.causes.Cause.{Cause}
use Rattle.translation.specs.declared.causes.Cause.TheVariants.{Unqualified}
use Rattle.routing.specs.Meanings.{TablesView}
use Rattle.routing.specs.Ways.{WayView, to_subsystem, onward, nowhere, way_for}
use Rattle.routing.specs.Deliveries.{DeliveryView, as_unit, as_notice, as_piece, delivery_of}
use Rattle.routing.specs.Targets.{TargetView, at_home, away, no_target, target_for}
use Rattle.writing.specs.Write.{encode}
use Rattle.outgoing.specs.Puts.{put_outcome}
use Rattle.outgoing.specs.Addressed.{message_passed_on}
use Rattle.outgoing.specs.Returns.{calling_for}
use Rattle.outgoing.specs.Units.{selection, one_message, piece_messages}
use Rattle.slot_laws.specs.Machine as law
use Rattle.station_laws.specs.Station.{View, declined, unread, no_way, handed_up, notice, passed_on, sent_here, sent_one, sent_pieces, Outcome, quiet, caused, piece_outcome, piece_of, unmarked, brought, passing, routed_by, received, Request, check, heading_of, next, froze, in_pieces, by_count, send_to, unit_length, sends, Event, send, receive, tick, copy, release}

-- How the slots feel a call.

-- a call that touches no slot is as a copy into no room
abbrev pub nothing : law.Event
nothing = law.copy (record { code = 0; slot = 0; size = 0 }) 0

abbrev pub felt_marked : ℕ → Parsed → Segmentation → Bool → law.Event
felt_marked s p g true = nothing
felt_marked s p g false = piece_of s p g

abbrev pub felt_as : ℕ → Parsed → DeliveryView → law.Event
felt_as s p (as_piece g) = felt_marked s p g (unmarked p)
felt_as s p _ = nothing

abbrev pub felt_way : Parsed → WayView → law.Event
felt_way p (to_subsystem s) = felt_as s p (delivery_of p.form p.options)
felt_way p _ = nothing

abbrev pub felt_read : ℕ → TablesView → Parsed → Bool → law.Event
felt_read own t p true = felt_way p (way_for t own p.form p.called)
felt_read own t p false = nothing

abbrev pub felt_octets : ℕ → TablesView → Result Parsed ReadFault → law.Event
felt_octets own t (Ok p) = felt_read own t p (eqb p.label.dpc own)
felt_octets own t (Err e) = nothing

abbrev pub felt : ℕ → Event → law.Event
felt own (send t places q) = nothing
felt own (receive t places octets) = felt_octets own t (parse octets)
felt own tick = law.tick
felt own (copy r room) = law.copy r room
felt own (release r) = law.release r

-- Sending.

-- what the checks of a call leave
pub record Asked (q : Request) : Type 0 where
  pub calling : address_ok q.calling ≡ true
  pub size : length q.contents ≤ 3952
  pub class : q.class < 2

abbrev pub messages_of : ℕ → ℕ → List ℕ → Request → ℕ
messages_of own code called q = count_answer (length called) (length (calling_for own called q.calling)) (length q.contents)

-- a call that sends answers alone, or sends one message, or gives a reference, for which an entry is taken, and sends in pieces
pub data Sending (t : TablesView) (own places : ℕ) (v : View) (q : Request) : Outcome → Type 0 where
  refuses : (n : ℕ) → Sending t own places v q (quiet v (declined n))
  home : (s : ℕ) → Sending t own places v q (quiet v (sent_here s q.contents))
  lost : (c : Cause) → Sending t own places v q (quiet v (no_way 35 c))
  one : (code : ℕ) (called : List ℕ)
      → Sending t own places v q
      (record { after = v; reply = sent_one code (selection q.class q.sequence); sent = encode (one_message (heading_of own code called q) q.contents) ∷ [] })
  pieces : (code : ℕ) (called : List ℕ) (r i : ℕ) → Asked q → target_for t own (code_of q.called) q.called ≡ away code called
      → suc (suc r) ≡ messages_of own code called q → last_from is_free 0 None v.frozen ≡ Some i
      → Sending t own places v q
      (record {
        after = froze v i (next v.last);
        reply = sent_pieces code (suc (suc r)) (next v.last) (selection 1 q.sequence);
        sent = piece_messages (heading_of own code called q) (next v.last) (in_piece (length called) (length (calling_for own called q.calling))) true (suc r) q.contents;
      })

module _ (t : TablesView) (own places : ℕ) (v : View) (q : Request) where
  abbrev Sends : Outcome → Type 0
  Sends o = Sending t own places v q o

  checked : (b : Bool) (n : ℕ) (o : Outcome) → (b ≡ true → Sends o) → Sends (check b n v o)
  checked b n o f = cond_both b _ _ Sends f (λ e. refuses n)

  abbrev Target : TargetView → Type 0
  Target w = target_for t own (code_of q.called) q.called ≡ w

  sent_pieces_is : (code : ℕ) (called : List ℕ) (r : ℕ) → Asked q → Target (away code called) → suc (suc r) ≡ messages_of own code called q
      → (o : Option ℕ) → last_from is_free 0 None v.frozen ≡ o → Sends (in_pieces places v (heading_of own code called q) q.contents (suc r) o)
  sent_pieces_is code called r a k m None e = refuses 37
  sent_pieces_is code called r a k m (Some i) e = cond_both (ltb places (suc (suc r))) _ _ Sends (λ b. refuses 38) (λ b. pieces code called r i a k m e)

  sent_count : (code : ℕ) (called : List ℕ) (n : ℕ) → Asked q → Target (away code called) → n ≡ messages_of own code called q
      → Sends (by_count places v (heading_of own code called q) q.contents n)
  sent_count code called zero a k m = refuses 36
  sent_count code called (suc zero) a k m = cond_both (eqb places 0) _ _ Sends (λ b. refuses 38) (λ b. one code called)
  sent_count code called (suc (suc r)) a k m = sent_pieces_is code called r a k m (last_from is_free 0 None v.frozen) refl

  sent_to : (w : TargetView) → Asked q → Target w → Sends (send_to own places v q w)
  sent_to (at_home s) a k = home s
  sent_to (away code called) a k = sent_count code called (messages_of own code called q) a k refl
  sent_to (no_target c) a k = lost c

  pub sending : Sends (sends t own places v q)
  sending =
      checked (address_ok q.called) 31 _ (λ a.
      checked (address_ok q.calling) 32 _ (λ b.
      checked (unit_length (length q.contents)) 33 _ (λ c.
      checked (ltb q.class 2) 34 _ (λ d.
      let m = and_parts (leb 1 (length q.contents)) (leb (length q.contents) 3952) c in
      sent_to (target_for t own (code_of q.called) q.called)
      (record { calling = b; size = leb-true (length q.contents) 3952 m.1; class = ltb-true q.class 2 d }) refl))))

-- Receiving.

-- octets that are received touch no slot, or are a piece, and then the slots say what comes of it
pub data Taking (own : ℕ) (t : TablesView) (octets : List ℕ) (T places : ℕ) (v : View) : law.Event → Outcome → Type 0 where
  bad : (e : ReadFault) → Taking own t octets T places v nothing (quiet v (unread 41 e))
  foreign : Taking own t octets T places v nothing (quiet v (declined 42))
  unit : (s : ℕ) (p : Parsed) → Taking own t octets T places v nothing (quiet v (handed_up s p))
  told : (s : ℕ) (p : Parsed) → Taking own t octets T places v nothing (quiet v (notice s p))
  passed : (code : ℕ) (m : List ℕ) → Taking own t octets T places v nothing (record { after = v; reply = passed_on code; sent = m ∷ [] })
  back : (p : Parsed) (c : Cause) → Taking own t octets T places v nothing (caused t own places v p c)
  piece : (p : Parsed) (s : ℕ) (g : Segmentation) → parse octets ≡ Ok p → p.label.dpc ≡ own → way_for t own p.form p.called ≡ to_subsystem s
      → delivery_of p.form p.options ≡ as_piece g → unmarked p ≡ false
      → Taking own t octets T places v (piece_of s p g) (piece_outcome t own places v s p (law.step own T v.slots (piece_of s p g)))

-- a station to ask how a call is felt, which is the same at each
abbrev pub just_opened : View
just_opened = record { slots = []; frozen = []; last = 0 }

module _ (own : ℕ) (t : TablesView) (octets : List ℕ) (T places : ℕ) (v : View) where
  abbrev Takes : law.Event → Outcome → Type 0
  Takes x o = Taking own t octets T places v x o

  taken_marked : (p : Parsed) (s : ℕ) (g : Segmentation) → parse octets ≡ Ok p → p.label.dpc ≡ own → way_for t own p.form p.called ≡ to_subsystem s
      → delivery_of p.form p.options ≡ as_piece g → (b : Bool) → unmarked p ≡ b
      → Takes (felt_marked s p g b) (cond b (caused t own places v p Unqualified) (piece_outcome t own places v s p (law.step own T v.slots (piece_of s p g))))
  taken_marked p s g k1 k2 k3 k4 true e = back p Unqualified
  taken_marked p s g k1 k2 k3 k4 false e = piece p s g k1 k2 k3 k4 e

  taken_as : (p : Parsed) (s : ℕ) → parse octets ≡ Ok p → p.label.dpc ≡ own → way_for t own p.form p.called ≡ to_subsystem s
      → (d : DeliveryView) → delivery_of p.form p.options ≡ d → Takes (felt_as s p d) (brought t own T places v s p d)
  taken_as p s k1 k2 k3 as_unit e = unit s p
  taken_as p s k1 k2 k3 as_notice e = told s p
  taken_as p s k1 k2 k3 (as_piece g) e = taken_marked p s g k1 k2 k3 e (unmarked p) refl

  taken_on : (p : Parsed) (code : ℕ) (q : Parsed) (r : Result (Unit {0}) Cause) → Takes nothing (passing t own places v p code q r)
  taken_on p code q (Ok x) = passed code (encode q)
  taken_on p code q (Err c) = back p c

  taken_way : (p : Parsed) → parse octets ≡ Ok p → p.label.dpc ≡ own → (w : WayView) → way_for t own p.form p.called ≡ w
      → Takes (felt_way p w) (routed_by t own T places v p w)
  taken_way p k1 k2 (to_subsystem s) e = taken_as p s k1 k2 e (delivery_of p.form p.options) refl
  taken_way p k1 k2 (onward code f called) e = taken_on p code (message_passed_on own code f called p) (put_outcome places (message_passed_on own code f called p))
  taken_way p k1 k2 (nowhere c) e = back p c

  taken_read : (p : Parsed) → parse octets ≡ Ok p → (b : Bool) → eqb p.label.dpc own ≡ b
      → Takes (felt_read own t p b) (cond b (routed_by t own T places v p (way_for t own p.form p.called)) (quiet v (declined 42)))
  taken_read p k true e = taken_way p k (eqb-true p.label.dpc own e) (way_for t own p.form p.called) refl
  taken_read p k false e = foreign

  taken_octets : (o : Result Parsed ReadFault) → parse octets ≡ o → Takes (felt_octets own t o) (received t own T places v o)
  taken_octets (Ok p) k = taken_read p k (eqb p.label.dpc own) refl
  taken_octets (Err e) k = bad e

  pub taking : Takes (felt_octets own t (parse octets)) (received t own T places v (parse octets))
  taking = taken_octets (parse octets) refl
