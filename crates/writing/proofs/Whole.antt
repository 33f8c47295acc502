-- What was read is a message.
use Rattle.std.proofs.Common.{◌≡◌, ℕ, ◌+◌, ◌-◌, ◌≤◌, true, false, ◌&&◌, eqb, leb, List, [], length, drop, Some, None, Ok, Option, Result, sym, refl, ap, ◌∙◌, subst, inl, inr, ⊎_elim, arith, length-drop}
use Rattle.std.proofs.lemmas.List.{length-take-le}
use Rattle.std.proofs.lemmas.Bool.{leb-true, and_parts, both_ways}
use Rattle.address.specs.declared.labels.Label.{Label}
use Rattle.address.specs.Label.{LabelFits, label_of}
use Rattle.message.specs.declared.faults.Fault.TheVariants.{Length, Pointer}
use Rattle.message.specs.declared.faults.ReadFault.{ReadFault}
use Rattle.message.specs.declared.messages.Form.{Form}
use Rattle.message.specs.declared.reading.Pointers.{Pointers}
use Rattle.message.specs.declared.scanning.OptionSpan.{OptionSpan}
use Rattle.message.specs.Options.{octet}
use Rattle.message.specs.Read.{Parsed, parse, message_body, body, check, part, within, end_of, called_place, calling_place, data_place, options_place, no_span, span_at, has_segmentation, calling_ok}
use Rattle.message.proofs.Bodies.{within_parts}
use Rattle.writing.specs.Write.{options_in, size}
use Rattle.writing.specs.RoundTrip.{form_ok, segmented_by, IsMessage, Octets, ReadIsMessage, RewrittenReadsSame}
use Rattle.writing.proofs.Types.{passed, chose, same_ok, Typed, message_cases}
use Rattle.writing.proofs.Back.{written_reads_back}
use Rattle.writing.proofs.Forth.{opened, parts, OptionsAre, options_are, body_gave}
use Rattle.writing.proofs.Alone.{found_in, Alone, alone}

-- the options that were read, by themselves
options_alone : (m : List ℕ) (p : Pointers) (i : Option ℕ) (s : OptionSpan) → options_place m p ≡ Ok i → span_at m i ≡ Ok s
    → Alone (found_in m s) s.segmented × (eqb p.options 0 ≡ true → found_in m s ≡ [])
options_alone m p i s hi hs =
    let at : ℕ = p.at + 3 + p.options in
    ⊎_elim
    (λ (z : (eqb p.options 0 ≡ true) × (◌≡◌ {A = Result (Option ℕ) ReadFault} (Ok None) (Ok i))).
    let en : None ≡ i = same_ok None i z.1 in
    let es : no_span ≡ s = same_ok no_span s (ap (span_at m) en ∙ hs) in
    (subst (λ k. Alone (found_in m k) k.segmented) es refl, λ _. ap (found_in m) (sym es)))
    (λ (z : (eqb p.options 0 ≡ false) × (check (within m (end_of m (data_place p)) (p.at + 3 + p.options)) Pointer (p.at + 3) (Ok (Some (p.at + 3 + p.options))) ≡ Ok i)).
    let w = passed (within m (end_of m (data_place p)) at) Pointer (p.at + 3) (Ok (Some at)) i z.1 in
    let inside = within_parts m (end_of m (data_place p)) at w.0 in
    let en : Some at ≡ i = same_ok (Some at) i w.1 in
    (alone m at s inside.1 (ap (span_at m) en ∙ hs), λ y. absurd (both_ways (eqb p.options 0) z.0 y)))
    (chose (eqb p.options 0) (Ok None) (check (within m (end_of m (data_place p)) at) Pointer (p.at + 3) (Ok (Some at))) i hi)

-- whatever the type: `none` tells that a type without options has none
body_whole : (l : Label) (f : Form) (m : List ℕ) (p : Pointers) (q : Parsed) → LabelFits l → form_ok f ≡ true
    → ((o : List ℕ) → (eqb p.options 0 ≡ true → o ≡ []) → options_in f o ≡ o) → body l f m p ≡ Ok q → IsMessage q
body_whole l f m p q fits okf none read =
    let r = body_gave l f m p q read in
    let o : List ℕ = found_in m r.span in
    let a = options_alone m p r.place r.span r.placed r.spanned in
    let g : segmented_by (found_in m r.span) ≡ r.span.segmented = ap has_segmentation a.0 in
    let d = and_parts (leb 1 (octet m (data_place p))) (leb (end_of m (data_place p)) (length m)) r.«data» in
    let low = leb-true 1 (octet m (data_place p)) d.0 in
    let high = leb-true (end_of m (data_place p)) (length m) d.1 in
    let size = (opened m (data_place p) (end_of m (data_place p)) (omega arith) high refl).1 in
    let whole : IsMessage (parts l f m p o) = record {
      label = fits;
      form = okf;
      called = r.called;
      calling = ap (calling_ok (part m (calling_place p))) g ∙ r.calling;
      «data» = omega arith;
      options = a.0 ∙ ap (λ z. Ok (record { start = 0; end = length (found_in m r.span); segmented = z })) (sym g);
      none_in_short = none o a.1;
    } in
    subst IsMessage r.same whole

label_fits : (x : List ℕ) → Octets x → LabelFits (label_of x)
label_fits x oct =
    let a = oct 0 in
    let b = oct 1 in
    let c = oct 2 in
    let d = oct 3 in
    (omega arith, omega arith, omega arith)

pub read_is_message : ReadIsMessage
unfolding parse
read_is_message x q oct read =
    let p = passed (leb 5 (length x) && leb (length x) 272) Length 0 (message_body (label_of x) (drop 4 x)) q read in
    message_cases (label_of x) (drop 4 x) q (IsMessage q) p.1 (λ f b t r. body_whole (label_of x) f (drop 4 x) b q (label_fits x oct) t.form t.none r)

options_length : (m : List ℕ) (p : Pointers) (o : List ℕ) → OptionsAre m p o → end_of m (data_place p) ≤ length m → end_of m (data_place p) + length o ≤ length m
options_length m p o (inl h) e = let l : length o ≡ 0 = ap length h.1 in omega arith
options_length m p o (inr h) e =
    let at : ℕ = p.at + 3 + p.options in
    let d : length (drop (p.at + 3 + p.options) m) ≡ length m - (p.at + 3 + p.options) = length-drop at m in
    let within = h.3 in
    let begins = h.5 in
    let l : length o ≡ h.0 - (p.at + 3 + p.options) = ap length h.4 ∙ length-take-le (h.0 - at) (drop at m) (omega arith) in
    let inside = h.2 in
    omega arith

-- written anew, a message has no more octets than it was read from
body_size : (l : Label) (f : Form) (m : List ℕ) (p : Pointers) (q : Parsed) → Typed m f p → body l f m p ≡ Ok q → size q ≤ 4 + length m
body_size l f m p q t read =
    let r = body_gave l f m p q read in
    let o : List ℕ = found_in m r.span in
    let are = options_are m p r.place r.span r.placed r.spanned in
    let d = and_parts (leb 1 (octet m (data_place p))) (leb (end_of m (data_place p)) (length m)) r.«data» in
    let high = leb-true (end_of m (data_place p)) (length m) d.1 in
    let ends = options_length m p o are high in
    let order = r.order in
    let la = (opened m (called_place p) (end_of m (called_place p)) (omega arith) (omega arith) refl).1 in
    let lb = (opened m (calling_place p) (end_of m (calling_place p)) (omega arith) (omega arith) refl).1 in
    let ld = (opened m (data_place p) (end_of m (data_place p)) (omega arith) high refl).1 in
    let a = options_alone m p r.place r.span r.placed r.spanned in
    let lo : length (options_in f (found_in m r.span)) ≡ length (found_in m r.span) = ap length (t.none o a.1) in
    let start = t.start in
    let bound : size (parts l f m p o) ≤ 4 + length m = omega arith in
    subst (λ z. size z ≤ 4 + length m) r.same bound

pub rewritten_reads_same : RewrittenReadsSame
unfolding parse
rewritten_reads_same x q oct read =
    let p = passed (leb 5 (length x) && leb (length x) 272) Length 0 (message_body (label_of x) (drop 4 x)) q read in
    let range = and_parts (leb 5 (length x)) (leb (length x) 272) p.0 in
    let low = leb-true 5 (length x) range.0 in
    let high = leb-true (length x) 272 range.1 in
    let n = length-drop 4 x in
    let fits : size q ≤ 4 + length (drop 4 x) = message_cases (label_of x) (drop 4 x) q (size q ≤ 4 + length (drop 4 x)) p.1 (λ f b t r. body_size (label_of x) f (drop 4 x) b q t r) in
    (omega arith, written_reads_back q (read_is_message x q oct read) (omega arith))
