-- A unit arrives entire, from the same law of the slots.
use Rattle.std.proofs.Common.{◌≡◌, ℕ, suc, ◌<◌, true, false, List, [], ◌∷◌, ◌++◌, map, length, get_or, sym, refl, ap, ◌∙◌, subst, arith}
use Rattle.std.proofs.lemmas.List.{length-map, map-append}
use Rattle.routing.specs.Meanings.{TablesView}
use Rattle.slot_laws.specs.Machine as law
use Rattle.slot_laws.specs.Uses as laws
use Rattle.slot_laws.proofs.Arrive as arrive
use Rattle.station_laws.specs.Station.{from_pieces, by_slots, Event, receive, copy}
use Rattle.station_laws.specs.Uses.{Use, after, outcome, Sender, Piece, Unreleased, Apart, Coming, begins, between, continues}
use Rattle.station_laws.specs.Laws.{ArrivesEntire}
use Rattle.station_laws.proofs.Project.{slotly, project, slots_agree, ticks_agree, slot_agrees}
use Rattle.station_laws.proofs.Sender.{mark_of, same_sender, felt_reads, piece_felt, unreleased_felt, hands_to}
use Rattle.station_laws.proofs.Calls.{felt}

-- what the slots feel of a call that brings no piece of the sender
not_felt : (own : ℕ) (w : Sender) (e : Event) → Apart own w e → (x : law.Event) → felt own e ≡ x → laws.NotOf (mark_of w) x
not_felt own w e p (law.piece n f r d) k = λ same.
    let q = felt_reads own e n f r d k in
    let l = q.4 in
    p q.0 q.1 q.2 f r d q.3 (subst (λ (z : Sender). Piece own q.0 q.2 z f r d) (same_sender l.0 w (sym l.1 ∙ same)) l.2)
not_felt own w e p _ k = tt

coming_felt : (own : ℕ) (w : Sender) (d0 : List ℕ) (r0 : ℕ) (d : List ℕ) (r : ℕ) (g : List Event) → Coming own w d0 r0 d r g → laws.Sent (mark_of w) d0 r0 d r (map (felt own) g)
coming_felt own w d0 r0 d r g (begins t places octets p) =
    subst (λ (x : law.Event). laws.Sent (mark_of w) d0 r0 d0 r0 (x ∷ [])) (sym (piece_felt own t octets w true r0 d0 p)) laws.begins
coming_felt own w d0 r0 d r g (between d1 r1 g1 e j p) =
    laws.between d1 r1 (map (felt own) g1) (felt own e) (coming_felt own w d0 r0 d1 r1 g1 j) (not_felt own w e p (felt own e) refl)
coming_felt own w d0 r0 d r g (continues d1 c1 r1 g1 t places octets j p l1 l2) =
    subst (λ (x : law.Event). laws.Sent (mark_of w) d0 r0 (d1 ++ c1) r1 (x ∷ map (felt own) g1)) (sym (piece_felt own t octets w false r1 c1 p))
    (laws.continues d1 c1 r1 (map (felt own) g1) (coming_felt own w d0 r0 d1 (suc r1) g1 j) l1 l2)

module _ (u : Use) (h g : List Event) (w : Sender) (c : List ℕ) (t : TablesView) (places : ℕ) (octets : List ℕ) (p : Piece u.code t octets w false 0 c) where
  abbrev last_piece : law.Event
  last_piece = law.piece (mark_of w) false 0 c

  both : project u (g ++ h) ≡ project u g ++ project u h
  both = map-append (felt u.code) g h

  handed_here : (r : law.Receipt) → laws.answer_to (slotly u) (project u g ++ project u h) last_piece ≡ law.hands r
      → (outcome u (g ++ h) (receive t places octets)).reply ≡ from_pieces w.subsystem r
  handed_here r e =
      hands_to u.code t octets w false 0 c p u.ticks places (after u (g ++ h)) r
      (ap (λ (ss : List law.Slot). (law.step u.code u.ticks ss last_piece).1) (slots_agree u (g ++ h) ∙ ap (laws.slots_after (slotly u)) both) ∙ e)

  all : (f : List Event) → project u (f ++ (receive t places octets ∷ (g ++ h))) ≡ project u f ++ (last_piece ∷ (project u g ++ project u h))
  all f = simp (map-append, piece_felt u.code t octets w false 0 c p)

  long_as : length (g ++ h) ≡ length (project u g ++ project u h)
  long_as = sym (length-map (g ++ h) (felt u.code)) ∙ ap (λ (l : List law.Event). length l) both

  unreleased_there : (f : List Event) (i : ℕ) → Unreleased u (f ++ (receive t places octets ∷ (g ++ h))) (length (g ++ h)) i
      → laws.Unreleased (slotly u) (project u f ++ (last_piece ∷ (project u g ++ project u h))) (length (project u g ++ project u h)) i
  unreleased_there f i n = rw (← long_as, ← all f) (unreleased_felt u (f ++ (receive t places octets ∷ (g ++ h))) (length (g ++ h)) i n)

  copied_here : (f : List Event) (r : law.Receipt) (room : ℕ) (x : List ℕ)
      → laws.answer_to (slotly u) (project u f ++ (last_piece ∷ (project u g ++ project u h))) (law.copy r room) ≡ law.copied x
      → (outcome u (f ++ (receive t places octets ∷ (g ++ h))) (copy r room)).reply ≡ by_slots (law.copied x)
  copied_here f r room x e =
      ap (λ (ss : List law.Slot). by_slots (law.step u.code u.ticks ss (law.copy r room)).1)
      (slots_agree u (f ++ (receive t places octets ∷ (g ++ h))) ∙ ap (laws.slots_after (slotly u)) (all f))
      ∙ ap by_slots e

pub arrives_entire : (u : Use) → ArrivesEntire u
arrives_entire u h g w d0 d c r0 i t places octets h1 h2 h3 h4 h5 h6 j p h7 h8 h9 h10 h11 =
    let free-there : get_or (laws.slots_after (slotly u) (project u h)) i law.free ≡ law.free =
    sym (slot_agrees u h i) ∙ h6 in
    let few : laws.tick_count (project u g) < u.ticks = omega (arith, ticks_agree u g) in
    let k = arrive.arrives_entire (slotly u) (project u h) (project u g) (mark_of w) d0 d c r0 i h1 h2 h3 h4 h5 free-there
    (coming_felt u.code w d0 r0 d 1 g j) h7 h8 h9 h10 few in (
      k.0,
      handed_here u h g w c t places octets p k.0 k.1,
      (λ f room n l. copied_here u h g w c t places octets p f k.0 room (d ++ c) (k.2 (project u f) room (unreleased_there u h g w c t places octets p f k.0.slot n) l)),
    )
