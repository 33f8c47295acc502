-- A station's history, as its slots feel it: each call is to the slots a piece, a tick, a copy or a release, and what the station answers follows what they answer.
use Rattle.std.proofs.Common.{◌≡◌, ℕ, zero, suc, Bool, true, false, leb, List, [], ◌∷◌, map, length, Some, None, sym, refl, ap, ◌∙◌, subst, arith, get_or}
use Rattle.message.specs.Read.{Parsed}
use Rattle.translation.specs.declared.causes.Cause.{Cause}
use Rattle.translation.specs.declared.causes.Cause.TheVariants.{Unqualified}
use Rattle.routing.specs.Meanings.{TablesView}
use Rattle.outgoing.specs.declared.returning.Givenback.{Givenback}
use Rattle.outgoing.specs.declared.returning.Givenback.TheVariants.{Returned}
use Rattle.outgoing.specs.Returns.{give_back}
use Rattle.slot_laws.specs.Machine as law
use Rattle.slot_laws.specs.Uses as laws
use Rattle.slot_laws.proofs.Conserve as conserve
use Rattle.station_laws.specs.Station.{View, with_slots, Reply, handed_up, from_pieces, by_slots, Outcome, quiet, given_reply, caused, piece_told, told_outcome, piece_of, Request, Event, send, receive, tick, copy, release, slot_call, station_step}
use Rattle.station_laws.specs.Uses.{Use, after, outcome, is_tick, tick_count}
use Rattle.station_laws.specs.Laws.{refuses, counted, total, Account, declines, DeclinedAltersNothing}
use Rattle.station_laws.proofs.Calls.{just_opened, nothing, felt, Sending, one, pieces, sending, Taking, foreign, passed, back, piece, taking}

-- How a reply follows an answer of the slots.

-- an answer that counts for nothing
abbrev pub Idle : law.Answer → Type 0
Idle (law.declined n) = Unit {0}
Idle (law.alone d) = Unit {0}
Idle (law.refused c) = Unit {0}
Idle (law.copied d) = Unit {0}
Idle _ = ⊥

abbrev pub NoHand : law.Answer → Type 0
NoHand (law.hands r) = ⊥
NoHand _ = Unit {0}

-- an answer to a piece
abbrev Piecely : law.Answer → Type 0
Piecely (law.lapses n) = ⊥
Piecely (law.released i) = ⊥
Piecely (law.copied d) = ⊥
Piecely _ = Unit {0}

-- a reply that names no answer of the slots
abbrev pub Plain : Reply → Type 0
Plain (from_pieces s r) = ⊥
Plain (by_slots a) = ⊥
Plain _ = Unit {0}

pub data Says : Reply → law.Answer → Type 0 where
  gives : (s : ℕ) (r : law.Receipt) → Says (from_pieces s r) (law.hands r)
  tells : (a : law.Answer) → NoHand a → Says (by_slots a) a
  other : (x : Reply) (a : law.Answer) → Plain x → Idle a → Says x a

-- an outcome follows a step of the slots; where it declines, nothing is altered or sent
pub record Follows (v : View) (step : law.Step) (o : Outcome) : Type 0 where
  pub slots : o.after.slots ≡ step.0
  pub says : Says o.reply step.1
  pub idle : declines o.reply ≡ true → (o.after ≡ v) × (o.sent ≡ [])

-- an outcome that leaves the slots as they are
record Aside (v : View) (o : Outcome) : Type 0 where
  slots : o.after.slots ≡ v.slots
  plain : Plain o.reply
  idle : declines o.reply ≡ true → (o.after ≡ v) × (o.sent ≡ [])

copy_idle : (room : ℕ) (s : law.Slot) → Idle (law.copy_answer room s)
copy_idle room (law.whole d) = elim (leb (length d) room) as (λ b. Idle (law.copied_if d b)) [ true ↦ tt | false ↦ tt ]
copy_idle room _ = tt

aside : (C T : ℕ) (v : View) (o : Outcome) → Aside v o → Follows v (law.step C T v.slots nothing) o
aside C T v o k = record { slots = k.slots; says = other o.reply _ k.plain (copy_idle 0 (law.named C v.slots (record { code = 0; slot = 0; size = 0 }))); idle = k.idle }

-- What one call does.

-- a message with a cause
given_plain : (c : Cause) (p : Parsed) (g : Givenback) → Plain (given_reply c p g) × (declines (given_reply c p g) ≡ false)
given_plain c p (Returned code) = (tt, refl)
given_plain c p _ = (tt, refl)

caused_aside : (t : TablesView) (own places : ℕ) (v : View) (p : Parsed) (c : Cause) → Aside v (caused t own places v p c)
caused_aside t own places v p c = record {
  slots = refl;
  plain = (given_plain c p (give_back t own places c p).done).0;
  idle = λ e. cc (given_plain c p (give_back t own places c p).done).1;
}

-- sending
sends_aside : (t : TablesView) (own places : ℕ) (v : View) (q : Request) (o : Outcome) → Sending t own places v q o → Aside v o
sends_aside t own places v q o (one code called) = record { slots = refl; plain = tt; idle = λ e. cc }
sends_aside t own places v q o (pieces code called r i a k m e) = record { slots = refl; plain = tt; idle = λ z. cc }
sends_aside t own places v q o _ = record { slots = refl; plain = tt; idle = λ e. (refl, refl) }

-- a piece
module _ (C T : ℕ) (ss : List law.Slot) (m : List ℕ) where
  first_piecely : (r : ℕ) (d : List ℕ) (f : law.Found) → Piecely (law.first_step T ss m r d f).1
  first_piecely r d law.missing = elim (law.last_free ss) as (λ o. Piecely (law.new_step T ss m r d o).1) [ None ↦ tt | Some i ↦ tt ]
  first_piecely r d (law.found i o) = tt

  checked_piecely : (i : ℕ) (o : law.Open) (r : ℕ) (d : List ℕ) (b : Bool) → Piecely (law.checked C ss i o r d b).1
  checked_piecely i o r d false = tt
  checked_piecely i o zero d true = tt
  checked_piecely i o (suc r) d true = tt

  later_piecely : (r : ℕ) (d : List ℕ) (f : law.Found) → Piecely (law.later_step C ss r d f).1
  later_piecely r d law.missing = tt
  later_piecely r d (law.found i o) = checked_piecely i o r d (law.follows_on o r d)

  taken_piecely : (f : Bool) (r : ℕ) (d : List ℕ) → Piecely (law.taken C T ss m f r d).1
  taken_piecely true zero d = tt
  taken_piecely true (suc r) d = first_piecely (suc r) d (law.look m ss)
  taken_piecely false r d = later_piecely r d (law.look m ss)

  piece_piecely : (f : Bool) (r : ℕ) (d : List ℕ) (b : Bool) → Piecely (law.piece_step C T ss m f r d b).1
  piece_piecely f r d true = taken_piecely f r d
  piece_piecely f r d false = tt

module _ (t : TablesView) (own places : ℕ) (v : View) (s : ℕ) (p : Parsed) (ss : List law.Slot) where
  cause_follows : (c : Cause) (a : law.Answer) → Idle a → Follows v (ss, a) (caused t own places (with_slots v ss) p c)
  cause_follows c a k = record {
    slots = refl;
    says = other _ a (given_plain c p (give_back t own places c p).done).0 k;
    idle = λ e. cc (given_plain c p (give_back t own places c p).done).1;
  }

  slots_follow : (a : law.Answer) → NoHand a → refuses a ≡ false → Follows v (ss, a) (quiet (with_slots v ss) (by_slots a))
  slots_follow a k r = record { slots = refl; says = tells a k; idle = λ e. cc }

  piece_follows : (a : law.Answer) → Piecely a → Follows v (ss, a) (told_outcome t own places (with_slots v ss) p (piece_told s p a))
  piece_follows (law.declined n) k = cause_follows Unqualified (law.declined n) tt
  piece_follows (law.alone d) k = record { slots = refl; says = other (handed_up s p) (law.alone d) tt tt; idle = λ e. cc }
  piece_follows (law.refused c) k = cause_follows _ (law.refused c) tt
  piece_follows (law.hands r) k = record { slots = refl; says = gives s r; idle = λ e. cc }
  piece_follows (law.lapses n) k = absurd k
  piece_follows (law.released i) k = absurd k
  piece_follows (law.copied d) k = absurd k
  piece_follows a k = slots_follow a tt refl

-- receiving
takes_follow : (own : ℕ) (t : TablesView) (octets : List ℕ) (T places : ℕ) (v : View) (x : law.Event) (o : Outcome) → Taking own t octets T places v x o
    → Follows v (law.step own T v.slots x) o
takes_follow own t octets T places v x o (piece p s g k1 k2 k3 k4 k5) =
    piece_follows t own places v s p (law.step own T v.slots (piece_of s p g)).0 (law.step own T v.slots (piece_of s p g)).1
    (piece_piecely own T v.slots _ g.first g.remaining p.«data» (law.proper g.remaining p.«data»))
takes_follow own t octets T places v x o (back p c) = aside own T v _ (caused_aside t own places v p c)
takes_follow own t octets T places v x o (passed code m) = aside own T v _ (record { slots = refl; plain = tt; idle = λ e. cc })
takes_follow own t octets T places v x o _ = aside own T v _ (record { slots = refl; plain = tt; idle = λ e. (refl, refl) })

-- the slots' own calls
idle_no_hand : (a : law.Answer) → Idle a → NoHand a
idle_no_hand (law.hands r) k = k
idle_no_hand _ k = tt

release_follows : (v : View) (i : ℕ) (s : law.Slot) → Follows v (law.release_step v.slots i s) (slot_call v (law.release_step v.slots i s))
release_follows v i (law.whole d) = record { slots = refl; says = tells (law.released i) tt; idle = λ e. cc }
release_follows v i _ = record { slots = refl; says = tells (law.declined 51) tt; idle = λ e. (refl, refl) }

pub step_follows : (own T : ℕ) (v : View) (e : Event) → Follows v (law.step own T v.slots (felt own e)) (station_step own T v e)
step_follows own T v (send t places q) = aside own T v _ (sends_aside t own places v q _ (sending t own places v q))
step_follows own T v (receive t places octets) = takes_follow own t octets T places v _ _ (taking own t octets T places v)
step_follows own T v tick = record { slots = refl; says = tells (law.lapses (law.lapse_count v.slots)) tt; idle = λ e. cc }
step_follows own T v (copy r room) = record { slots = refl; says = tells _ (idle_no_hand _ (copy_idle room (law.named own v.slots r))); idle = λ e. (refl, refl) }
step_follows own T v (release r) = release_follows v r.slot (law.named own v.slots r)

-- Histories.

-- the slots of a use
abbrev pub slotly : Use → laws.Use
slotly u = record { slots = u.slots; ticks = u.ticks; code = u.code }

abbrev pub project : Use → List Event → List law.Event
project u h = map (felt u.code) h

pub slots_agree : (u : Use) (h : List Event) → (after u h).slots ≡ laws.slots_after (slotly u) (project u h)
slots_agree u [] = refl
slots_agree u (e ∷ h) =
    (step_follows u.code u.ticks (after u h) e).slots
    ∙ ap (λ (ss : List law.Slot). (law.step u.code u.ticks ss (felt u.code e)).0) (slots_agree u h)

pub slot_agrees : (u : Use) (h : List Event) (i : ℕ) → get_or (after u h).slots i law.free ≡ get_or (laws.slots_after (slotly u) (project u h)) i law.free
slot_agrees u h i = ap (λ (ss : List law.Slot). get_or ss i law.free) (slots_agree u h)

pub replies_agree : (u : Use) (h : List Event) (e : Event) → Says (outcome u h e).reply (laws.answer_to (slotly u) (project u h) (felt u.code e))
replies_agree u h e =
    subst (λ (ss : List law.Slot). Says (outcome u h e).reply (law.step u.code u.ticks ss (felt u.code e)).1) (slots_agree u h)
    (step_follows u.code u.ticks (after u h) e).says

-- The account.

counted_plain : (f : law.Answer → ℕ) (x : Reply) → Plain x → counted f x ≡ 0
counted_plain f (from_pieces s r) k = absurd k
counted_plain f (by_slots a) k = absurd k
counted_plain f _ k = refl

-- what gives nothing to an idle answer
abbrev Fair : (law.Answer → ℕ) → Type 0
Fair f = (a : law.Answer) → Idle a → f a ≡ 0

says_counted : (f : law.Answer → ℕ) → Fair f → (x : Reply) (a : law.Answer) → Says x a → counted f x ≡ f a
says_counted f k x a (gives s r) = refl
says_counted f k x a (tells b n) = refl
says_counted f k x a (other y b p i) = counted_plain f y p ∙ sym (k b i)

total_agree : (f : law.Answer → ℕ) → Fair f → (u : Use) (h : List Event) → total f u h ≡ laws.total f (slotly u) (project u h)
total_agree f k u [] = refl
total_agree f k u (e ∷ h) = omega (arith, says_counted f k _ _ (replies_agree u h e), total_agree f k u h)

-- what is opened, handed up, broken and lapsed
fair : (a : law.Answer) → Idle a → (laws.counts_opened a ≡ 0) × (laws.counts_handed a ≡ 0) × (laws.counts_broken a ≡ 0) × (laws.counts_lapsed a ≡ 0)
fair (law.declined n) k = (refl, refl, refl, refl)
fair (law.alone d) k = (refl, refl, refl, refl)
fair (law.refused c) k = (refl, refl, refl, refl)
fair (law.copied d) k = (refl, refl, refl, refl)
fair _ k = absurd k

pub account : (u : Use) → Account u
account u h =
    let o = total_agree laws.counts_opened (λ a k. (fair a k).0) u h in
    let d = total_agree laws.counts_handed (λ a k. (fair a k).1) u h in
    let b = total_agree laws.counts_broken (λ a k. (fair a k).2) u h in
    let l = total_agree laws.counts_lapsed (λ a k. (fair a k).3) u h in
    let s = ap law.open_count (slots_agree u h) in
    let c = conserve.account (slotly u) (project u h) in
    omega arith

pub declined_alters_nothing : (u : Use) → DeclinedAltersNothing u
declined_alters_nothing u h e k = (step_follows u.code u.ticks (after u h) e).idle k

-- What a reply says of the answer, and the answer of the reply.

pub says_hands : (x : Reply) (a : law.Answer) (r : law.Receipt) → Says x a → a ≡ law.hands r → (s : ℕ) × (x ≡ from_pieces s r)
says_hands x a r (gives s q) e = (s, let k : q ≡ r = cc in ap (from_pieces s) k)
says_hands x a r (tells b n) e = absurd (subst NoHand e n)
says_hands x a r (other y b p i) e = absurd (subst Idle e i)

pub says_by : (x : Reply) (a b : law.Answer) → Says x a → a ≡ b → NoHand b → (Idle b → ⊥) → x ≡ by_slots b
says_by x a b (gives s q) e n k = absurd (subst NoHand (sym e) n)
says_by x a b (tells c m) e n k = ap by_slots e
says_by x a b (other y c p i) e n k = absurd (k (subst Idle e i))

pub hands_said : (x : Reply) (a : law.Answer) (s : ℕ) (r : law.Receipt) → Says x a → x ≡ from_pieces s r → a ≡ law.hands r
hands_said x a s r (gives t q) e = let k : q ≡ r = cc in ap law.hands k
hands_said x a s r (tells b n) e = cc
hands_said x a s r (other y b p i) e = absurd (subst Plain e p)

pub by_said : (x : Reply) (a b : law.Answer) → Says x a → x ≡ by_slots b → a ≡ b
by_said x a b (gives s q) e = cc
by_said x a b (tells c n) e = cc
by_said x a b (other y c p i) e = absurd (subst Plain e p)

-- Ticks.

takes_no_tick : (own : ℕ) (t : TablesView) (octets : List ℕ) (T places : ℕ) (v : View) (x : law.Event) (o : Outcome) → Taking own t octets T places v x o → laws.is_tick x ≡ 0
takes_no_tick own t octets T places v x o foreign = refl
takes_no_tick own t octets T places v x o _ = refl

tick_agrees : (own : ℕ) (e : Event) → laws.is_tick (felt own e) ≡ is_tick e
tick_agrees own (receive t places octets) = takes_no_tick own t octets 0 places just_opened _ _ (taking own t octets 0 places _)
tick_agrees own _ = refl

pub ticks_agree : (u : Use) (g : List Event) → laws.tick_count (project u g) ≡ tick_count g
ticks_agree u [] = refl
ticks_agree u (e ∷ g) = omega (arith, tick_agrees u.code e, ticks_agree u g)

-- only a tick is felt as a tick
one_tick : (e : Event) → is_tick e ≡ 1 → e ≡ tick
one_tick tick k = refl
one_tick _ k = absurd (omega arith)

pub felt_tick : (own : ℕ) (e : Event) → felt own e ≡ law.tick → e ≡ tick
felt_tick own e k = one_tick e (sym (tick_agrees own e) ∙ ap laws.is_tick k)
