-- What is read without gaps or tail is written the same.
use Rattle.std.proofs.Common.{◌≡◌, ℕ, ◌+◌, ◌-◌, ◌<◌, ◌≤◌, Bool, true, false, cond, ◌&&◌, eqb, leb, ◌⊎◌, List, [], ◌∷◌, ◌++◌, length, take, drop, Some, None, Ok, Option, Result, sym, refl, ap, ◌∙◌, subst, inl, inr, ⊎_elim, arith, length-drop, take-append-drop}
use Rattle.std.proofs.lemmas.List.{drop-drop, drop_more, drop_all, take_all, length-take-le}
use Rattle.std.proofs.lemmas.Bool.{leb-true, eqb-true, eq-eqb, ne_eqb, and_parts, cond-true, cond-false, both_ways}
use Rattle.address.specs.declared.labels.Label.{Label}
use Rattle.address.specs.Label.{label_octets, label_of}
use Rattle.address.specs.Address.{address_ok}
use Rattle.address.proofs.LabelLaws.{label_forth}
use Rattle.message.specs.declared.faults.Fault.TheVariants.{Length, Pointer, Address, Data}
use Rattle.message.specs.declared.faults.ReadFault.{ReadFault}
use Rattle.message.specs.declared.messages.Form.{Form}
use Rattle.message.specs.declared.reading.Pointers.{Pointers}
use Rattle.message.specs.declared.reading.Places.{Places}
use Rattle.message.specs.declared.scanning.OptionSpan.{OptionSpan}
use Rattle.message.specs.Options.{octet, option_span}
use Rattle.message.specs.FirstFault.{pointers_of}
use Rattle.message.specs.Read.{Parsed, Three, parse, message_body, body, check, after, part, within, end_of, called_place, calling_place, data_place, options_place, places_body, parts_body, no_span, span_at, has_segmentation, calling_ok, data_ok}
use Rattle.message.proofs.Bodies.{within_parts}
use Rattle.message.proofs.WrongOptions.{Spanned, options_inside}
use Rattle.writing.specs.declared.layout.Lengths.{Lengths}
use Rattle.writing.specs.Write.{sized, kept, head, options_in, body_octets, laid}
use Rattle.writing.proofs.Types.{passed, gave, chose, same_ok, four, message_cases}
use Rattle.writing.proofs.Back.{three, places, span_read, parts_read, place_read}
use Rattle.writing.specs.RoundTrip.{Gapless, ReadWritesBack}

-- a part, opened
pub opened : (m : List ℕ) (i j : ℕ) → i < length m → end_of m i ≤ length m → j ≡ end_of m i → (sized (part m i) ++ drop j m ≡ drop i m) × (length (part m i) ≡ octet m i)
opened m i j h e ej =
    let l : length (part m i) ≡ octet m i = length-take-le (octet m i) (drop (i + 1) m) (let d = length-drop (i + 1) m in omega arith) in (
      (λ t. l t ∷ (part m i ++ drop (ej t) m))
          ∙ ap (λ z. octet m i ∷ z) (ap (λ z. part m i ++ z) (sym (drop-drop (octet m i) (i + 1) m)) ∙ take-append-drop (octet m i) (drop (i + 1) m))
          ∙ sym (drop_more m i 0 h),
      l,
    )

abbrev pub parts : Label → Form → List ℕ → Pointers → List ℕ → Parsed
parts l f m p o = record { label = l; form = f; called = part m (called_place p); calling = part m (calling_place p); «data» = part m (data_place p); options = o }

-- the options that were read: none if the pointer is 0, else from their place up to an end
abbrev pub OptionsAre : List ℕ → Pointers → List ℕ → Type 0
OptionsAre m p o =
    ((eqb p.options 0 ≡ true) × (o ≡ []))
    ⊎ ((e : ℕ) × (eqb p.options 0 ≡ false) × (p.at + 3 + p.options < length m) × (e ≤ length m) × (o ≡ take (e - (p.at + 3 + p.options)) (drop (p.at + 3 + p.options) m)) × (end_of m (data_place p) ≤ p.at + 3 + p.options))

pub options_are : (m : List ℕ) (p : Pointers) (i : Option ℕ) (s : OptionSpan) → options_place m p ≡ Ok i → span_at m i ≡ Ok s → OptionsAre m p (take (s.end - s.start) (drop s.start m))
options_are m p i s hi hs =
    let at : ℕ = p.at + 3 + p.options in
    ⊎_elim
    (λ (z : (eqb p.options 0 ≡ true) × (◌≡◌ {A = Result (Option ℕ) ReadFault} (Ok None) (Ok i))).
    let en : None ≡ i = same_ok None i z.1 in
    let es : no_span ≡ s = same_ok no_span s (ap (span_at m) en ∙ hs) in
    inl (z.0, ap (λ k. take (k.end - k.start) (drop k.start m)) (sym es)))
    (λ (z : (eqb p.options 0 ≡ false) × (check (within m (end_of m (data_place p)) (p.at + 3 + p.options)) Pointer (p.at + 3) (Ok (Some (p.at + 3 + p.options))) ≡ Ok i)).
    let w = passed (within m (end_of m (data_place p)) at) Pointer (p.at + 3) (Ok (Some at)) i z.1 in
    let inside = within_parts m (end_of m (data_place p)) at w.0 in
    let en : Some at ≡ i = same_ok (Some at) i w.1 in
    let hs2 : option_span m at ≡ Ok s = ap (span_at m) en ∙ hs in
    let sp : Spanned at m (Ok s) = subst (Spanned at m) hs2 (options_inside m at) in
    inr (s.end, z.0, inside.1, sp.2, ap (λ k. take (s.end - k) (drop k m)) sp.0, inside.0))
    (chose (eqb p.options 0) (Ok None) (check (within m (end_of m (data_place p)) at) Pointer (p.at + 3) (Ok (Some at))) i hi)

-- each part begins where the one before ends, or behind
abbrev pub InOrder : List ℕ → Pointers → Type 0
InOrder m p = (p.start ≤ called_place p) × (end_of m (called_place p) ≤ calling_place p) × (end_of m (calling_place p) ≤ data_place p)

-- where the parts are
places_gave : (l : Label) (f : Form) (m : List ℕ) (p : Pointers) (x : Places) → places_body m p ≡ Ok x → (places l f m p ≡ x) × InOrder m p
places_gave l f m p x h =
    let w1 = passed (within m p.start (called_place p)) Pointer p.at _ x h in
    let w2 = passed (within m (end_of m (called_place p)) (calling_place p)) Pointer (p.at + 1) _ x w1.1 in
    let w3 = passed (within m (end_of m (calling_place p)) (data_place p)) Pointer (p.at + 2) _ x w2.1 in
    let i1 = within_parts m p.start (called_place p) w1.0 in
    let i2 = within_parts m (end_of m (called_place p)) (calling_place p) w2.0 in
    let i3 = within_parts m (end_of m (calling_place p)) (data_place p) w3.0 in
    (same_ok (places l f m p) x w3.1, (i1.0, i2.0, i3.0))

-- addresses and data, which are good
parts_gave : (l : Label) (f : Form) (m : List ℕ) (p : Pointers) (g : Bool) (x : Three) → parts_body m (places l f m p) g ≡ Ok x
    → (three l f m p ≡ x) × (address_ok (part m (called_place p)) ≡ true) × (calling_ok (part m (calling_place p)) g ≡ true) × (data_ok m (data_place p) ≡ true)
parts_gave l f m p g x h =
    let t1 = passed (address_ok (part m (called_place p))) Address (called_place p) _ x h in
    let t2 = passed (calling_ok (part m (calling_place p)) g) Address (calling_place p) _ x t1.1 in
    let t3 = passed (data_ok m (data_place p)) Data (data_place p) _ x t2.1 in
    (same_ok (three l f m p) x t3.1, t1.0, t2.0, t3.0)

calling_by : (b : List ℕ) (r : Result OptionSpan ReadFault) (s : OptionSpan) → r ≡ Ok s → calling_ok b (has_segmentation r) ≡ true → calling_ok b s.segmented ≡ true
calling_by b r s e h = ap (λ z. calling_ok b (has_segmentation z)) (sym e) ∙ h

-- what a body that was read tells of its octets
pub record BodyRead (l : Label) (f : Form) (m : List ℕ) (p : Pointers) (q : Parsed) : Type 0 where
  pub order : InOrder m p
  pub place : Option ℕ
  pub span : OptionSpan
  pub placed : options_place m p ≡ Ok place
  pub spanned : span_at m place ≡ Ok span
  pub called : address_ok (part m (called_place p)) ≡ true
  pub calling : calling_ok (part m (calling_place p)) span.segmented ≡ true
  pub «data» : data_ok m (data_place p) ≡ true
  pub same : parts l f m p (take (span.end - span.start) (drop span.start m)) ≡ q

pub body_gave : (l : Label) (f : Form) (m : List ℕ) (p : Pointers) (q : Parsed) → body l f m p ≡ Ok q → BodyRead l f m p q
unfolding body
body_gave l f m p q h =
    let on : Places → Result Parsed ReadFault = λ x. after (options_place m p) (place_read l f m p x) in
    let a = gave (places_body m p) on q h in
    let at = places_gave l f m p a.0 a.1 in
    let ha : on (places l f m p) ≡ Ok q = subst (λ x. on x ≡ Ok q) (sym at.0) a.2 in
    let b = gave (options_place m p) (place_read l f m p (places l f m p)) q ha in
    let c = gave (parts_body m (places l f m p) (has_segmentation (span_at m b.0))) (parts_read l f m p b.0) q b.2 in
    let good = parts_gave l f m p (has_segmentation (span_at m b.0)) c.0 c.1 in
    let hc : parts_read l f m p b.0 (three l f m p) ≡ Ok q = subst (λ x. parts_read l f m p b.0 x ≡ Ok q) (sym good.0) c.2 in
    let d = gave (span_at m b.0) (span_read l f m p (three l f m p)) q hc in
    record {
      order = at.1;
      place = b.0;
      span = d.0;
      placed = b.1;
      spanned = d.1;
      called = good.1;
      calling = calling_by (part m (calling_place p)) (span_at m b.0) d.0 d.1 good.2;
      «data» = good.3;
      same = same_ok (parts l f m p (take (d.0.end - d.0.start) (drop d.0.start m))) q d.2;
    }

-- options that end the message are all that stands behind the data
tail_gave : (m : List ℕ) (p : Pointers) (o : List ℕ) → OptionsAre m p o
    → (eqb p.options 0 ≡ false → p.at + 3 + p.options ≡ end_of m (data_place p)) → end_of m (data_place p) + length o ≡ length m
    → (drop (end_of m (data_place p)) m ≡ o) × (eqb p.options 0 ≡ true → o ≡ []) × ((v : ℕ) → p.at + 3 + v ≡ end_of m (data_place p) → p.options ≡ cond (eqb (length o) 0) 0 v)
tail_gave m p o (inl h) fourth last =
    let empty : length o ≡ 0 = ap length h.1 in (
      drop_all (end_of m (data_place p)) m (omega arith) ∙ sym h.1,
      (λ _. h.1),
      (λ v e. eqb-true p.options 0 h.0 ∙ sym (cond-true (eqb (length o) 0) 0 v (eq-eqb (length o) 0 empty))),
    )
tail_gave m p o (inr h) fourth last =
    let at : ℕ = p.at + 3 + p.options in
    let e : ℕ = h.0 in
    let begins : p.at + 3 + p.options ≡ end_of m (data_place p) = fourth h.1 in
    let ld : length (drop (p.at + 3 + p.options) m) ≡ length m - (p.at + 3 + p.options) = length-drop at m in
    let lt : length (take (h.0 - (p.at + 3 + p.options)) (drop (p.at + 3 + p.options) m)) ≡ h.0 - (p.at + 3 + p.options) = length-take-le (e - at) (drop at m) (let k = h.3 in omega arith) in
    let lo : length o ≡ h.0 - (p.at + 3 + p.options) = ap length h.4 ∙ lt in
    let inside = h.2 in (
      ap (λ k. drop k m) (sym begins) ∙ sym (take_all (e - at) (drop at m) (omega arith)) ∙ sym h.4,
      (λ z. absurd (both_ways (eqb p.options 0) h.1 z)),
      (λ v ev. let same : p.options ≡ v = omega arith in same ∙ sym (cond-false (eqb (length o) 0) 0 v (ne_eqb (length o) 0 (λ z. omega arith)))),
    )

-- what stands behind the pointers of a message without gaps or tail
module _ (l : Label) (f : Form) (m : List ℕ) (p : Pointers) (q : Parsed) (read : body l f m p ≡ Ok q) (g : Gapless m p q.options) where
  abbrev a : List ℕ
  a = part m (called_place p)

  abbrev b : List ℕ
  b = part m (calling_place p)

  abbrev d : List ℕ
  d = part m (data_place p)

  body_forth : (o : List ℕ) × (parts l f m p o ≡ q) × (eqb p.options 0 ≡ true → o ≡ []) × (sized a ++ (sized b ++ (sized d ++ o)) ≡ drop p.start m)
      × (calling_place p ≡ p.start + 1 + length a) × (data_place p ≡ p.start + 2 + length a + length b)
      × ((v : ℕ) → p.at + 3 + v ≡ p.start + 3 + length a + length b + length d → p.options ≡ cond (eqb (length o) 0) 0 v)
  body_forth =
      let r = body_gave l f m p q read in
      let o : List ℕ = take (r.span.end - r.span.start) (drop r.span.start m) in
      let lo : length o ≡ length q.options = ap (λ z. length z.options) r.same in
      let first = g.first in
      let second = g.second in
      let third = g.third in
      let last = g.last in
      let tail = tail_gave m p o (options_are m p r.place r.span r.placed r.spanned) g.fourth (omega arith) in
      let x1 = opened m (called_place p) (calling_place p) (omega arith) (omega arith) second in
      let x2 = opened m (calling_place p) (data_place p) (omega arith) (omega arith) third in
      let x3 = opened m (data_place p) (end_of m (data_place p)) (omega arith) (omega arith) refl in
      let la : length a ≡ octet m (called_place p) = x1.1 in
      let lb : length b ≡ octet m (calling_place p) = x2.1 in
      let lc : length d ≡ octet m (data_place p) = x3.1 in (
        o,
        r.same,
        tail.1,
        ap (λ z. sized a ++ (sized b ++ (sized d ++ z))) (sym tail.0) ∙ ap (λ z. sized a ++ (sized b ++ z)) x3.0 ∙ ap (λ z. sized a ++ z) x2.0 ∙ x1.0 ∙ ap (λ k. drop k m) first,
        omega arith,
        omega arith,
        (λ v e. tail.2 v (omega arith)),
      )

-- behind the label
message_forth : (l : Label) (m : List ℕ) (q : Parsed) → Gapless m (pointers_of m) q.options → message_body l m ≡ Ok q → (q.label ≡ l) × (body_octets (kept q) ≡ m)
message_forth l m q gapless read =
    message_cases l m q ((q.label ≡ l) × (body_octets (kept q) ≡ m)) read (λ f p t r.
    let g : Gapless m p q.options = subst (λ z. Gapless m z q.options) t.pointers gapless in
    let b = body_forth l f m p q r g in
    let o : List ℕ = b.0 in
    let none : options_in f b.0 ≡ b.0 = t.none o b.2 in
    let x : List ℕ = part m (called_place p) in
    let y : List ℕ = part m (calling_place p) in
    let z : List ℕ = part m (data_place p) in
    let n : List ℕ → Lengths = λ w. record { called = length x; calling = length y; «data» = length z; options = length w } in
    let octets : body_octets (kept (parts l f m p o)) ≡ m =
    ap (λ w. head f (n w) ++ (sized x ++ (sized y ++ (sized z ++ w)))) none ∙ ap (λ w. head f (n o) ++ w) b.3 ∙ t.headed (n o) g.first b.4 b.5 b.6 in
    (sym (ap (λ w. w.label) b.1), sym (ap (λ w. body_octets (kept w)) b.1) ∙ octets))

pub read_writes_back : ReadWritesBack
unfolding laid parse
read_writes_back x q oct read g =
    let fits = passed (leb 5 (length x) && leb (length x) 272) Length 0 (message_body (label_of x) (drop 4 x)) q read in
    let low = leb-true 5 (length x) (and_parts (leb 5 (length x)) (leb (length x) 272) fits.0).0 in
    let s = message_forth (label_of x) (drop 4 x) q g fits.1 in
    let b : label_octets (label_of x) ≡ octet x 0 ∷ octet x 1 ∷ octet x 2 ∷ octet x 3 ∷ [] = label_forth (octet x 0) (octet x 1) (octet x 2) (octet x 3) (oct 0) (oct 1) (oct 2) (oct 3) in
    (λ t. label_octets (s.0 t) ++ s.1 t) ∙ ap (λ z. z ++ drop 4 x) b ∙ four x (omega arith)
