-- One sender's data, and that a unit is kept until it is released, from the same laws of the slots.
use Rattle.std.proofs.Common.{◌≡◌, ℕ, suc, ◌<◌, Bool, true, false, eqb, ltb, List, [], ◌∷◌, ◌++◌, map, length, Some, None, Option, sym, refl, ap, ◌∙◌, subst, inl, inr, arith}
use Rattle.std.proofs.lemmas.List.{length-map, same_from_push}
use Rattle.std.proofs.lemmas.Bool.{eq-eqb, ltb-false, le-ltb, or_parts, or_from}
use Rattle.message.specs.declared.messages.Form.{Form}
use Rattle.message.specs.declared.messages.Form.TheVariants.{Xudt}
use Rattle.message.specs.declared.parts_of_options.Segmentation.{Segmentation}
use Rattle.message.specs.Options.{segmentation_found}
use Rattle.message.specs.Read.{parse}
use Rattle.routing.specs.Meanings.{TablesView}
use Rattle.routing.specs.Deliveries.{as_piece, segmented_as, delivery_of}
use Rattle.slot_laws.specs.Machine as law
use Rattle.slot_laws.specs.Uses as laws
use Rattle.slot_laws.proofs.Keep as keep
use Rattle.station_laws.specs.Station.{View, with_slots, from_pieces, by_slots, Outcome, mark, piece_told, told_outcome, piece_of, unmarked, received, Event, receive, station_step}
use Rattle.station_laws.specs.Uses.{Use, after, At, Sender, Piece, PieceAt, Joined, first, then, HandedUp, Unreleased}
use Rattle.station_laws.specs.Laws.{OneSender, Kept}
use Rattle.station_laws.proofs.Project.{slotly, project, slots_agree, replies_agree, says_hands, says_by, hands_said, by_said, step_follows, slot_agrees}
use Rattle.station_laws.proofs.Calls.{just_opened, felt_octets, felt, Taking, piece, taking}

-- the mark of a sender
abbrev pub mark_of : Sender → List ℕ
mark_of w = mark w.origin w.subsystem w.calling w.reference

same_parts : (a b : ℕ) (c : List ℕ) (d : ℕ) (a' b' : ℕ) (c' : List ℕ) (d' : ℕ) → a ≡ a' → b ≡ b' → c ≡ c' → d ≡ d'
    → ◌≡◌ {A = Sender} (record { origin = a; subsystem = b; calling = c; reference = d }) (record { origin = a'; subsystem = b'; calling = c'; reference = d' })
same_parts a b c d a' b' c' d' e1 e2 e3 e4 = cc

-- senders with the same mark are the same
pub same_sender : (w z : Sender) → mark_of w ≡ mark_of z → w ≡ z
same_sender w z e =
    let e1 : w.origin ≡ z.origin = cc in
    let e2 : w.subsystem ≡ z.subsystem = cc in
    let e3 : w.calling ++ (w.reference ∷ []) ≡ z.calling ++ (z.reference ∷ []) = cc in
    let e4 = same_from_push w.calling z.calling w.reference z.reference e3 in
    same_parts w.origin w.subsystem w.calling w.reference z.origin z.subsystem z.calling z.reference e1 e2 e4.0 e4.1

-- What is felt as a piece reads as one.

segmented_piece : (o : Option Segmentation) (g : Segmentation) → segmented_as o ≡ as_piece g → o ≡ Some g
segmented_piece None g e = cc
segmented_piece _ g e = cc

delivered_piece : (f : Form) (o : List ℕ) (g : Segmentation) → delivery_of f o ≡ as_piece g → (c : ℕ) × (h : ℕ) × (f ≡ Xudt c h) × (segmentation_found o ≡ Some g)
delivered_piece (Xudt c h) o g e = (c, h, refl, segmented_piece (segmentation_found o) g e)
delivered_piece _ o g e = cc

module _ (own : ℕ) (t : TablesView) (octets : List ℕ) (m : List ℕ) (f : Bool) (r : ℕ) (d : List ℕ) where
  -- a piece of some sender with this mark
  abbrev pub Reads : Type 0
  Reads = (w : Sender) × (m ≡ mark_of w) × Piece own t octets w f r d

  taken_reads : (T places : ℕ) (v : View) (x : law.Event) (o : Outcome) → Taking own t octets T places v x o → x ≡ law.piece m f r d → Reads
  taken_reads T places v x o (piece p s g k1 k2 k3 k4 k5) e =
      let e1 : g.first ≡ f = cc in
      let e2 : g.remaining ≡ r = cc in
      let e3 : p.«data» ≡ d = cc in
      let e4 : mark p.label.opc s p.calling g.reference ≡ m = cc in
      let x = delivered_piece p.form p.options g k4 in
      let o = or_parts (ltb (length p.calling) 2) (ltb 32 (length p.calling)) k5 in (
        record { origin = p.label.opc; subsystem = s; calling = p.calling; reference = g.reference },
        sym e4,
        record {
          message = p;
          class = x.0;
          hop = x.1;
          user_class = g.class;
          reads = k1;
          to_us = k2;
          xudt = x.2;
          segmented = rw (x.3, ← e1, ← e2);
          routed_here = k3;
          origin = refl;
          calling = refl;
          contents = e3;
          long = ltb-false (length p.calling) 2 o.0;
          short = ltb-false 32 (length p.calling) o.1;
        },
      )
  taken_reads T places v x o _ e = cc

-- a call that is felt as a piece received one
pub felt_reads : (own : ℕ) (x : Event) (m : List ℕ) (f : Bool) (r : ℕ) (d : List ℕ) → felt own x ≡ law.piece m f r d
    → (t : TablesView) × (places : ℕ) × (octets : List ℕ) × (x ≡ receive t places octets) × Reads own t octets m f r d
felt_reads own (receive t places octets) m f r d e = (t, places, octets, refl, taken_reads own t octets m f r d 0 places just_opened _ _ (taking own t octets 0 places _) e)
felt_reads own _ m f r d e = cc

-- A piece is felt as one, and the station takes it so.

module _ (own : ℕ) (t : TablesView) (octets : List ℕ) (w : Sender) (f : Bool) (r : ℕ) (d : List ℕ) (k : Piece own t octets w f r d) where
  abbrev piece_head : Segmentation
  piece_head = record { first = f; class = k.user_class; remaining = r; reference = w.reference }

  delivered : delivery_of k.message.form k.message.options ≡ as_piece piece_head
  delivered = ap (λ (x : Form). delivery_of x k.message.options) k.xudt ∙ ap segmented_as k.segmented

  well_marked : unmarked k.message ≡ false
  well_marked =
      let e = ap (λ (c : List ℕ). length c) k.calling in
      grind (arith, or_from, le-ltb)

  for_us : eqb k.message.label.dpc own ≡ true
  for_us = eq-eqb k.message.label.dpc own k.to_us

  as_sent : piece_of w.subsystem k.message piece_head ≡ law.piece (mark_of w) f r d
  as_sent = cc

  pub piece_felt : felt_octets own t (parse octets) ≡ law.piece (mark_of w) f r d
  piece_felt = rw (k.reads, for_us, k.routed_here, delivered, well_marked) as_sent

  -- what the station does with it, given what the slots do
  abbrev pub taken_as : ℕ → View → law.Step → Outcome
  taken_as places v step = told_outcome t own places (with_slots v step.0) k.message (piece_told w.subsystem k.message step.1)

  pub piece_taken : (T places : ℕ) (v : View) → received t own T places v (parse octets) ≡ taken_as places v (law.step own T v.slots (law.piece (mark_of w) f r d))
  piece_taken T places v =
      rw (k.reads, for_us, k.routed_here, delivered, well_marked) (ap (λ (x : law.Event). taken_as places v (law.step own T v.slots x)) as_sent)

  -- a unit from pieces goes to the subsystem of the last piece
  pub hands_to : (T places : ℕ) (v : View) (q : law.Receipt) → (law.step own T v.slots (law.piece (mark_of w) f r d)).1 ≡ law.hands q
      → (received t own T places v (parse octets)).reply ≡ from_pieces w.subsystem q
  hands_to T places v q e =
      ap (λ (o : Outcome). o.reply) (piece_taken T places v)
      ∙ ap (λ (a : law.Answer). (taken_as places v ((law.step own T v.slots (law.piece (mark_of w) f r d)).0, a)).reply) e

  subsystem_told_is : (T places : ℕ) (v : View) (s : ℕ) (q : law.Receipt) → (station_step own T v (receive t places octets)).reply ≡ from_pieces s q → w.subsystem ≡ s
  subsystem_told_is T places v s q e =
      let a = ap (λ (x : law.Event). (law.step own T v.slots x).1) (sym piece_felt) ∙ hands_said _ _ s q (step_follows own T v (receive t places octets)).says e in
      let b = hands_to T places v q a in
      cc

-- Places are the same in both histories.

at_felt : (p : Event → law.Event) (h : List Event) (i : ℕ) (y : law.Event) → laws.At (map p h) i y → (x : Event) × At h i x × (p x ≡ y)
at_felt p [] i y a = absurd a
at_felt p (x ∷ h) i y (inl a) = (x, inl (a.0 ∙ length-map h p, refl), a.1)
at_felt p (x ∷ h) i y (inr a) = let q = at_felt p h i y a in (q.0, inr q.1, q.2)

at_low : (h : List Event) (i : ℕ) (x : Event) → At h i x → i < length h
at_low [] i x a = absurd a
at_low (y ∷ h) i x (inl a) = omega arith
at_low (y ∷ h) i x (inr a) = omega (arith, at_low h i x a)

at_one : (h : List Event) (i : ℕ) (x y : Event) → At h i x → At h i y → x ≡ y
at_one [] i x y a b = absurd a
at_one (z ∷ h) i x y (inl a) (inl b) = sym a.1 ∙ b.1
at_one (z ∷ h) i x y (inl a) (inr b) = absurd (omega (arith, at_low h i y b))
at_one (z ∷ h) i x y (inr a) (inl b) = absurd (omega (arith, at_low h i x a))
at_one (z ∷ h) i x y (inr a) (inr b) = at_one h i x y a b

piece_at : (u : Use) (h : List Event) (i : ℕ) (m : List ℕ) (f : Bool) (r : ℕ) (d : List ℕ) → laws.At (project u h) i (law.piece m f r d)
    → (w : Sender) × (m ≡ mark_of w) × PieceAt u h i w f r d
piece_at u h i m f r d a =
    let q = at_felt (felt u.code) h i (law.piece m f r d) a in
    let k = felt_reads u.code q.0 m f r d q.2 in
    let l = k.4 in
    (l.0, l.1, (k.0, k.1, k.2, subst (At h i) k.3 q.1, l.2))

joined_felt : (u : Use) (h : List Event) (m x : List ℕ) (r : ℕ) (is : List ℕ) → laws.Joined (project u h) m x r is
    → (w : Sender) × (m ≡ mark_of w) × Joined u h w x r is
joined_felt u h m x r is (laws.first d k i a) =
    let p = piece_at u h i m true k d a in
    (p.0, p.1, first d k i p.2)
joined_felt u h m x r is (laws.next d c k i js j lt a) =
    let g = joined_felt u h m d (suc k) js j in
    let p = piece_at u h i m false k c a in
    let e : p.0 ≡ g.0 = same_sender p.0 g.0 (sym p.1 ∙ g.1) in
    (g.0, g.1, then d c k i js g.2 lt (subst (λ (w : Sender). PieceAt u h i w false k c) e p.2))

-- the newest of the pieces
newest : (u : Use) (h : List Event) (w : Sender) (x : List ℕ) (r : ℕ) (is : List ℕ) → Joined u h w x r is
    → (k : ℕ) (js : List ℕ) → is ≡ k ∷ js → (f : Bool) × (n : ℕ) × (d : List ℕ) × PieceAt u h k w f n d
newest u h w x r is (first d n i a) k js e = let q : i ≡ k = cc in (true, n, d, subst (λ (p : ℕ). PieceAt u h p w true n d) q a)
newest u h w x r is (then d c n i is1 j lt a) k js e = let q : i ≡ k = cc in (false, n, c, subst (λ (p : ℕ). PieceAt u h p w false n c) q a)

-- What was handed up, and what was not released since.

pub handed_felt : (u : Use) (h : List Event) (k s : ℕ) (r : law.Receipt) (x : List ℕ) → HandedUp u h k s r x → laws.HandedUp (slotly u) (project u h) k r x
handed_felt u [] k s r x p = absurd p
handed_felt u (e ∷ h) k s r x (inl p) =
    inl (
      p.0 ∙ sym (length-map h (felt u.code)),
      (
        hands_said _ _ s r (replies_agree u h e) p.1,
        sym (slot_agrees u (e ∷ h) r.slot) ∙ p.2,
      ),
    )
handed_felt u (e ∷ h) k s r x (inr p) = inr (handed_felt u h k s r x p)

handed_back : (u : Use) (h : List Event) (k : ℕ) (r : law.Receipt) (x : List ℕ) → laws.HandedUp (slotly u) (project u h) k r x → (s : ℕ) × HandedUp u h k s r x
handed_back u [] k r x p = absurd p
handed_back u (e ∷ h) k r x (inl p) =
    let q = says_hands _ _ r (replies_agree u h e) p.1.0 in
    (q.0, inl (p.0 ∙ length-map h (felt u.code), q.1, slot_agrees u (e ∷ h) r.slot ∙ p.1.1))
handed_back u (e ∷ h) k r x (inr p) = let q = handed_back u h k r x p in (q.0, inr q.1)

handed_at : (u : Use) (h : List Event) (k s : ℕ) (r : law.Receipt) (x : List ℕ) → HandedUp u h k s r x
    → (e : Event) × (v : View) × At h k e × ((station_step u.code u.ticks v e).reply ≡ from_pieces s r)
handed_at u [] k s r x p = absurd p
handed_at u (e ∷ h) k s r x (inl p) = (e, after u h, inl (p.0, refl), p.1)
handed_at u (e ∷ h) k s r x (inr p) = let q = handed_at u h k s r x p in (q.0, q.1, inr q.2, q.3)

pub unreleased_felt : (u : Use) (h : List Event) (k i : ℕ) → Unreleased u h k i → laws.Unreleased (slotly u) (project u h) k i
unreleased_felt u [] k i p = tt
unreleased_felt u (e ∷ h) k i p = (
  (λ l a. p.0 (omega (arith, length-map h (felt u.code))) (says_by _ _ (law.released i) (replies_agree u h e) a tt (λ z. z))),
  unreleased_felt u h k i p.1,
)

unreleased_back : (u : Use) (h : List Event) (k i : ℕ) → laws.Unreleased (slotly u) (project u h) k i → Unreleased u h k i
unreleased_back u [] k i p = tt
unreleased_back u (e ∷ h) k i p = (
  (λ l a. p.0 (omega (arith, length-map h (felt u.code))) (by_said _ _ (law.released i) (replies_agree u h e) a)),
  unreleased_back u h k i p.1,
)

pub one_sender : (u : Use) → OneSender u
one_sender u h =
    let law-says = keep.one_sender (slotly u) (project u h) in (
      law-says.0,
      (λ k s r x p.
          let j = law-says.1 k r x (handed_felt u h k s r x p) in
          let q = joined_felt u h j.0 x 0 (k ∷ j.1) j.4 in
          let n = newest u h q.0 x 0 (k ∷ j.1) q.2 k j.1 refl in
          let b = n.3 in
          let g = handed_at u h k s r x p in
          let same : g.0 ≡ receive b.0 b.1 b.2 = at_one h k g.0 (receive b.0 b.1 b.2) g.2 b.3 in
          let told = ap (λ (e : Event). (station_step u.code u.ticks g.1 e).reply) (sym same) ∙ g.3 in
          let here = subsystem_told_is u.code b.0 b.2 q.0 n.0 n.1 n.2 b.4 u.ticks b.1 g.1 s r told in
          (q.0, j.1, here, j.2, j.3, q.2)),
      law-says.2,
      (λ i x e.
          let w = law-says.3 i x (sym (slot_agrees u h i) ∙ e) in
          let b = handed_back u h w.0 w.1 x w.3 in
          (w.0, b.0, w.1, w.2, b.1, unreleased_back u h w.0 i w.4)),
    )

pub kept : (u : Use) → Kept u
kept u h k s r x p n =
    let q = keep.kept (slotly u) (project u h) k r x (handed_felt u h k s r x p) (unreleased_felt u h k r.slot n) in (
      q.0,
      q.1,
      q.2,
      slot_agrees u h r.slot ∙ q.3,
      (λ room l.
          ap (λ (ss : List law.Slot). by_slots (law.step u.code u.ticks ss (law.copy r room)).1) (slots_agree u h) ∙ ap by_slots (q.4 room l)),
    )
