-- What is written reads back the same.
use Rattle.std.proofs.Common.{◌≡◌, ℕ, ◌+◌, ◌-◌, ◌<◌, ◌≤◌, Bool, true, false, cond, ◌&&◌, eqb, ltb, leb, List, [], ◌∷◌, ◌++◌, length, take, drop, Some, None, Ok, Err, Option, Result, sym, refl, ap, ◌∙◌, subst, append_assoc, arith, length-append}
use Rattle.std.proofs.lemmas.List.{take_at, drop_at, get_or_at, drop-drop, take_all}
use Rattle.std.proofs.lemmas.Bool.{leb-true, le-leb, lt-ltb, and_from, and_parts, ne_eqb, cond-false}
use Rattle.address.specs.declared.labels.Label.{Label}
use Rattle.address.specs.Label.{label_octets, label_of}
use Rattle.address.specs.Address.{address_ok}
use Rattle.address.proofs.LabelLaws.{label_back}
use Rattle.message.specs.declared.faults.Fault.{Fault}
use Rattle.message.specs.declared.faults.ReadFault.{ReadFault}
use Rattle.message.specs.declared.messages.Form.{Form}
use Rattle.message.specs.declared.messages.Form.TheVariants.{Udt, Udts, Xudt, Xudts}
use Rattle.message.specs.declared.reading.Pointers.{Pointers}
use Rattle.message.specs.declared.reading.Places.{Places}
use Rattle.message.specs.declared.scanning.OptionSpan.{OptionSpan}
use Rattle.message.specs.Options.{octet, option_span}
use Rattle.message.specs.Read.{Parsed, Three, parse, message_body, body, check, after, part, within, end_of, called_place, calling_place, data_place, options_place, places_body, parts_body, no_span, span_at, has_segmentation, calling_ok, data_ok, parsed, short_pointers, long_pointers, class_ok, hop_ok}
use Rattle.writing.specs.declared.layout.Lengths.{Lengths}
use Rattle.writing.specs.declared.refusals.WriteRefusal.{WriteRefusal}
use Rattle.writing.specs.declared.refusals.WriteRefusal.TheVariants.{TooLong, PointerTooFar, ShortBuffer}
use Rattle.writing.specs.Write.{sized, body_octets, laid, encode, size, options_in, kept, lengths_of, test, short_enough, near_enough, write_answer, buffer_after}
use Rattle.writing.specs.RoundTrip.{form_ok, scanned, segmented_by, WrittenReadsBack, ReadsBack}
use Rattle.writing.proofs.Pieces.{head_length}
use Rattle.writing.proofs.Shifts.{moved, options_moved}

pub passes : {A : Type 0} (b : Bool) (f : Fault) (i : ℕ) (k : Result A ReadFault) → b ≡ true → check b f i k ≡ k
passes b f i k e = ap (λ t. check t f i k) e

goes_on : {A B : Type 0} (r : Result A ReadFault) (x : A) (k : A → Result B ReadFault) → r ≡ Ok x → after r k ≡ k x
goes_on r x k e = ap (λ z. after z k) e

within_true : (m : List ℕ) (e i : ℕ) → e ≤ i → i < length m → within m e i ≡ true
within_true m e i h k = and_from (leb e i) (ltb i (length m)) (le-leb e i h) (lt-ltb i (length m) k)

-- a body whose tests all pass
module _ (l : Label) (f : Form) (m : List ℕ) (p : Pointers) where
  abbrev pub three : Three
  three = record { called = part m (called_place p); calling = part m (calling_place p); «data» = part m (data_place p) }

  abbrev pub places : Places
  places = record { called = called_place p; calling = calling_place p; «data» = data_place p }

  abbrev pub span_read : Three → OptionSpan → Result Parsed ReadFault
  span_read t s = Ok (parsed l f t (take (s.end - s.start) (drop s.start m)))

  abbrev pub parts_read : Option ℕ → Three → Result Parsed ReadFault
  parts_read o t = after (span_at m o) (span_read t)

  abbrev pub place_read : Places → Option ℕ → Result Parsed ReadFault
  place_read q o = after (parts_body m q (has_segmentation (span_at m o))) (parts_read o)

  body_reads : (o : Option ℕ) (s : OptionSpan)
      → within m p.start (called_place p) ≡ true → within m (end_of m (called_place p)) (calling_place p) ≡ true → within m (end_of m (calling_place p)) (data_place p) ≡ true
      → options_place m p ≡ Ok o → span_at m o ≡ Ok s
      → address_ok (part m (called_place p)) ≡ true → calling_ok (part m (calling_place p)) s.segmented ≡ true → data_ok m (data_place p) ≡ true
      → body l f m p ≡ span_read three s
  unfolding body
  body_reads o s w1 w2 w3 ho hs a1 a2 d =
      let seg : calling_ok (part m (calling_place p)) (has_segmentation (span_at m o)) ≡ true = ap (λ r. calling_ok (part m (calling_place p)) (has_segmentation r)) hs ∙ a2 in
      goes_on (places_body m p) places (λ q. after (options_place m p) (place_read q)) (passes _ _ _ _ w1 ∙ passes _ _ _ _ w2 ∙ passes _ _ _ _ w3)
      ∙ goes_on (options_place m p) o (place_read places) ho
      ∙ goes_on (parts_body m places (has_segmentation (span_at m o))) three (parts_read o) (passes _ _ _ _ a1 ∙ passes _ _ _ _ seg ∙ passes _ _ _ _ d)
      ∙ goes_on (span_at m o) s (span_read three) hs

-- a part behind what stands before it
octet_at : (pre xs post m : List ℕ) (i : ℕ) → m ≡ pre ++ (length xs ∷ (xs ++ post)) → length pre ≡ i → octet m i ≡ length xs
octet_at pre xs post m i em e = ap (λ z. octet z i) em ∙ get_or_at pre (length xs) (xs ++ post) 0 i e

part_at : (pre xs post m : List ℕ) (i : ℕ) → m ≡ pre ++ (length xs ∷ (xs ++ post)) → length pre ≡ i → part m i ≡ xs
part_at pre xs post m i em e =
    let o : octet m i ≡ length xs = octet_at pre xs post m i em e in
    let r : drop (i + 1) m ≡ xs ++ post = ap (drop (i + 1)) em ∙ sym (drop-drop 1 i (pre ++ (length xs ∷ (xs ++ post)))) ∙ ap (drop 1) (drop_at pre (length xs ∷ (xs ++ post)) i e) in
    (λ t. take (o t) (r t)) ∙ take_at xs post (length xs) refl

-- the options behind a message's front: where they begin, and what is read of them
abbrev OptionsRead : List ℕ → Pointers → List ℕ → Bool → Type 0
OptionsRead m p o g =
    (i : Option ℕ) × (s : OptionSpan) × (options_place m p ≡ Ok i) × (span_at m i ≡ Ok s) × (s.segmented ≡ g) × (take (s.end - s.start) (drop s.start m) ≡ o)

options_read : (front o : List ℕ) (p : Pointers) (v : ℕ) (g : Bool)
    → p.options ≡ cond (eqb (length o) 0) 0 v → 1 ≤ v → p.at + 3 + v ≡ length front → end_of (front ++ o) (data_place p) ≡ length front
    → scanned o ≡ Ok (record { start = 0; end = length o; segmented = g })
    → OptionsRead (front ++ o) p o g
options_read front [] p v g ev one ef ed es =
    let n = no_span in
    (None, n, ap (λ k. cond (eqb k 0) (Ok None) (check (within (front ++ []) (end_of (front ++ []) (data_place p)) (p.at + 3 + k)) Fault.Pointer (p.at + 3) (Ok (Some (p.at + 3 + k))))) ev, refl, cc, refl)
options_read front (x ∷ r) p v g ev one ef ed es =
    let o : List ℕ = x ∷ r in
    let m : List ℕ = front ++ (x ∷ r) in
    let i : ℕ = p.at + 3 + p.options in
    let filled : eqb (length (x ∷ r)) 0 ≡ false = ne_eqb (length (x ∷ r)) 0 (λ z. omega arith) in
    let value : p.options ≡ v = ev ∙ cond-false (eqb (length (x ∷ r)) 0) 0 v filled in
    let scan : option_span (x ∷ r) 0 ≡ Ok (record { start = 0; end = length (x ∷ r); segmented = g }) = sym (cond-false (eqb (length (x ∷ r)) 0) (Ok no_span) (option_span (x ∷ r) 0) filled) ∙ es in
    let ei : p.at + 3 + p.options ≡ length front = omega arith in
    let some : eqb p.options 0 ≡ false = ne_eqb p.options 0 (λ z. omega arith) in
    let lm = length-append front (x ∷ r) in
    let place : options_place (front ++ (x ∷ r)) p ≡ Ok (Some (p.at + 3 + p.options)) =
    cond-false (eqb p.options 0) (Ok None) (check (within m (end_of m (data_place p)) i) Fault.Pointer (p.at + 3) (Ok (Some i))) some
    ∙ passes (within m (end_of m (data_place p)) i) Fault.Pointer (p.at + 3) (Ok (Some i)) (within_true m (end_of m (data_place p)) i (omega arith) (omega arith)) in (
      Some i,
      record { start = length front + 0; end = length front + length o; segmented = g },
      place,
      ap (option_span m) ei ∙ options_moved front o ∙ ap (moved (length front)) scan,
      refl,
      ap (take (length front + length o - (length front + 0))) (drop_at front o (length front + 0) (omega arith)) ∙ take_all (length front + length o - (length front + 0)) o (omega arith),
    )

-- addresses, data and options one behind the other read back, whatever stands before them, if
-- the pointers tell where they are
body_back : (l : Label) (f : Form) (pre a b d o : List ℕ) (p : Pointers) (v : ℕ)
    → length pre ≡ p.start → called_place p ≡ p.start → calling_place p ≡ p.start + 1 + length a → data_place p ≡ p.start + 2 + length a + length b
    → p.options ≡ cond (eqb (length o) 0) 0 v → 1 ≤ v → p.at + 3 + v ≡ p.start + 3 + length a + length b + length d
    → address_ok a ≡ true → calling_ok b (segmented_by o) ≡ true → 1 ≤ length d
    → scanned o ≡ Ok (record { start = 0; end = length o; segmented = segmented_by o })
    → body l f (pre ++ (sized a ++ (sized b ++ (sized d ++ o)))) p ≡ Ok (record { label = l; form = f; called = a; calling = b; «data» = d; options = o })
body_back l f pre a b d o p v e0 e1 e2 e3 ev one ef oka okb okd oko =
    let m : List ℕ = pre ++ (sized a ++ (sized b ++ (sized d ++ o))) in
    let front2 : List ℕ = pre ++ sized a in
    let front3 : List ℕ = (pre ++ sized a) ++ sized b in
    let front4 : List ℕ = ((pre ++ sized a) ++ sized b) ++ sized d in
    let m2 : pre ++ (sized a ++ (sized b ++ (sized d ++ o))) ≡ (pre ++ sized a) ++ (sized b ++ (sized d ++ o)) = sym (append_assoc pre (sized a) (sized b ++ (sized d ++ o))) in
    let m3 : pre ++ (sized a ++ (sized b ++ (sized d ++ o))) ≡ ((pre ++ sized a) ++ sized b) ++ (sized d ++ o) = m2 ∙ sym (append_assoc front2 (sized b) (sized d ++ o)) in
    let m4 : pre ++ (sized a ++ (sized b ++ (sized d ++ o))) ≡ (((pre ++ sized a) ++ sized b) ++ sized d) ++ o = m3 ∙ sym (append_assoc front3 (sized d) o) in
    let l2 : length (pre ++ sized a) ≡ p.start + 1 + length a = length-append pre (sized a) ∙ omega arith in
    let l3 : length ((pre ++ sized a) ++ sized b) ≡ p.start + 2 + length a + length b = length-append front2 (sized b) ∙ omega arith in
    let l4 : length (((pre ++ sized a) ++ sized b) ++ sized d) ≡ p.start + 3 + length a + length b + length d = length-append front3 (sized d) ∙ omega arith in
    let lm : length (pre ++ (sized a ++ (sized b ++ (sized d ++ o)))) ≡ p.start + 3 + length a + length b + length d + length o = ap length m4 ∙ length-append front4 o ∙ omega arith in
    let x1 : octet m (called_place p) ≡ length a = octet_at pre a (sized b ++ (sized d ++ o)) m (called_place p) refl (omega arith) in
    let x2 : octet m (calling_place p) ≡ length b = octet_at front2 b (sized d ++ o) m (calling_place p) m2 (omega arith) in
    let x3 : octet m (data_place p) ≡ length d = octet_at front3 d o m (data_place p) m3 (omega arith) in
    let y1 : part m (called_place p) ≡ a = part_at pre a (sized b ++ (sized d ++ o)) m (called_place p) refl (omega arith) in
    let y2 : part m (calling_place p) ≡ b = part_at front2 b (sized d ++ o) m (calling_place p) m2 (omega arith) in
    let y3 : part m (data_place p) ≡ d = part_at front3 d o m (data_place p) m3 (omega arith) in
    let ends : end_of (front4 ++ o) (data_place p) ≡ length front4 = ap (λ z. end_of z (data_place p)) (sym m4) ∙ omega arith in
    let r : OptionsRead m p o (segmented_by o) = subst (λ z. OptionsRead z p o (segmented_by o)) (sym m4) (options_read front4 o p v (segmented_by o) ev one (omega arith) ends oko) in
    let tail = r.5 in
    body_reads l f m p r.0 r.1
    (within_true m p.start (called_place p) (omega arith) (omega arith))
    (within_true m (end_of m (called_place p)) (calling_place p) (omega arith) (omega arith))
    (within_true m (end_of m (calling_place p)) (data_place p) (omega arith) (omega arith))
    r.2 r.3
    (ap address_ok y1 ∙ oka)
    ((λ t. calling_ok (y2 t) (r.4 t)) ∙ okb)
    (and_from (leb 1 (octet m (data_place p))) (leb (end_of m (data_place p)) (length m)) (le-leb 1 (octet m (data_place p)) (omega arith)) (le-leb (end_of m (data_place p)) (length m) (omega arith)))
    ∙ (λ t. Ok (record { label = l; form = f; called = y1 t; calling = y2 t; «data» = y3 t; options = tail t }))

abbrev parts : Label → Form → List ℕ → List ℕ → List ℕ → List ℕ → Parsed
parts l f a b d o = record { label = l; form = f; called = a; calling = b; «data» = d; options = o }

module _ (l : Label) (a b d o : List ℕ) (oka : address_ok a ≡ true) (okb : calling_ok b (segmented_by o) ≡ true) (okd : 1 ≤ length d) (oko : scanned o ≡ Ok (record { start = 0; end = length o; segmented = segmented_by o })) where
  abbrev Back : Form → Type 0
  Back f = form_ok f ≡ true → options_in f o ≡ o → message_body l (body_octets (kept (parts l f a b d o))) ≡ Ok (parts l f a b d o)

  abbrev octets_of_is : Form → List ℕ
  octets_of_is f = body_octets (kept (parts l f a b d o))

  -- three pointers and no options
  short_back : (f : Form) (t c : ℕ) → o ≡ [] → body l f (t ∷ c ∷ 3 ∷ (3 + length a) ∷ (3 + length a + length b) ∷ (sized a ++ (sized b ++ (sized d ++ [])))) (short_pointers (t ∷ c ∷ 3 ∷ (3 + length a) ∷ (3 + length a + length b) ∷ [])) ≡ Ok (parts l f a b d o)
  short_back f t c e =
      let pre : List ℕ = t ∷ c ∷ 3 ∷ (3 + length a) ∷ (3 + length a + length b) ∷ [] in
      body_back l f pre a b d [] (short_pointers pre) (3 + length a + length b + length d) refl refl (omega arith) (omega arith) refl (omega arith) (omega arith)
      oka (ap (λ z. calling_ok b (segmented_by z)) (sym e) ∙ okb) okd refl
      ∙ ap (λ z. Ok (parts l f a b d z)) (sym e)

  long_back : (f : Form) (t c h : ℕ) → body l f (t ∷ c ∷ h ∷ 4 ∷ (4 + length a) ∷ (4 + length a + length b) ∷ cond (eqb (length o) 0) 0 (4 + length a + length b + length d) ∷ (sized a ++ (sized b ++ (sized d ++ o)))) (long_pointers (t ∷ c ∷ h ∷ 4 ∷ (4 + length a) ∷ (4 + length a + length b) ∷ cond (eqb (length o) 0) 0 (4 + length a + length b + length d) ∷ [])) ≡ Ok (parts l f a b d o)
  long_back f t c h =
      let pre : List ℕ = t ∷ c ∷ h ∷ 4 ∷ (4 + length a) ∷ (4 + length a + length b) ∷ cond (eqb (length o) 0) 0 (4 + length a + length b + length d) ∷ [] in
      body_back l f pre a b d o (long_pointers pre) (4 + length a + length b + length d) refl refl (omega arith) (omega arith) refl (omega arith) (omega arith) oka okb okd oko

  message_back : (f : Form) → Back f
  message_back (Udt c) okf none =
      passes _ _ _ _ (le-leb 5 (length (octets_of_is (Udt c))) (omega arith)) ∙ passes _ _ _ _ okf ∙ short_back (Udt c) 0x09 c (sym none)
  message_back (Udts c) okf none =
      passes _ _ _ _ (le-leb 5 (length (octets_of_is (Udts c))) (omega arith)) ∙ short_back (Udts c) 0x0A c (sym none)
  message_back (Xudt c h) okf none =
      let k = and_parts (class_ok c) (hop_ok h) okf in
      passes _ _ _ _ (le-leb 7 (length (octets_of_is (Xudt c h))) (omega arith)) ∙ passes _ _ _ _ k.0 ∙ passes _ _ _ _ k.1 ∙ long_back (Xudt c h) 0x11 c h
  message_back (Xudts c h) okf none =
      passes _ _ _ _ (le-leb 7 (length (octets_of_is (Xudts c h))) (omega arith)) ∙ passes _ _ _ _ okf ∙ long_back (Xudts c h) 0x12 c h

body_length : (p : Parsed) → 4 + length (body_octets (kept p)) ≡ size p
body_length p =
    let h = head_length p.form (lengths_of (kept p)) in
    simp length-append (omega arith)

pub written_reads_back : WrittenReadsBack
unfolding laid parse
written_reads_back p v fits =
    let x : List ℕ = label_octets p.label ++ body_octets (kept p) in
    let n = body_length p in
    let h = head_length p.form (lengths_of (kept p)) in
    let k : 5 ≤ length (label_octets p.label ++ body_octets (kept p)) = omega arith in
    passes (leb 5 (length x) && leb (length x) 272) Fault.Length 0 (message_body (label_of x) (drop 4 x)) (and_from (leb 5 (length x)) (leb (length x) 272) (le-leb 5 (length x) k) (le-leb (length x) 272 (omega arith)))
    ∙ ap (λ l. message_body l (body_octets (kept p))) (label_back p.label v.label)
    ∙ message_back p.label p.called p.calling p.«data» p.options v.called v.calling v.«data» v.options p.form v.form v.none_in_short

-- a test that was passed
pub held : (b : Bool) (e : WriteRefusal) (k : Result ℕ WriteRefusal) (n : ℕ) → Ok n ≡ test b e k → (b ≡ true) × (Ok n ≡ k)
held true e k n h = (refl, h)
held false e k n h = let z : ◌≡◌ {A = ℕ} 0 1 = cc in absurd (omega arith)

same_size : (m n : ℕ) → ◌≡◌ {A = Result ℕ WriteRefusal} (Ok m) (Ok n) → m ≡ n
same_size m n h = cc

pub answered : (p : Parsed) (room n : ℕ) → Ok n ≡ write_answer p room → (n ≡ size p) × (size p ≤ 272)
answered p room n h =
    let f : Form = p.form in
    let k : Lengths = lengths_of (kept p) in
    let a = held (short_enough f k) TooLong (test (near_enough f k) PointerTooFar (test (leb (size p) room) ShortBuffer (Ok (size p)))) n h in
    let b = held (near_enough f k) PointerTooFar (test (leb (size p) room) ShortBuffer (Ok (size p))) n a.1 in
    let c = held (leb (size p) room) ShortBuffer (Ok (size p)) n b.1 in
    let s1 = and_parts (leb k.called 255) (leb k.calling 255 && (leb k.«data» 255 && leb (size p) 272)) a.0 in
    let s2 = and_parts (leb k.calling 255) (leb k.«data» 255 && leb (size p) 272) s1.1 in
    let s3 = and_parts (leb k.«data» 255) (leb (size p) 272) s2.1 in
    (same_size n (size p) c.1, leb-true (size p) 272 s3.1)

pub encode_length : (p : Parsed) → length (encode p) ≡ size p
unfolding laid
encode_length p = let h = body_length p in omega arith

pub reads_back : (p : Parsed) (before after : List ℕ) (r : Result ℕ WriteRefusal) → r ≡ write_answer p (length before) → after ≡ buffer_after p before r → ReadsBack p after r
reads_back p before after (Ok n) ea eb =
    let a = answered p (length before) n ea in
    let e : take n after ≡ encode p = ap (take n) eb ∙ take_at (encode p) (drop n before) n (encode_length p ∙ sym a.0) in
    λ v. ap parse e ∙ written_reads_back p v a.1
reads_back p before after (Err e) ea eb = tt
