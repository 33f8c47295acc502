-- What the pointers name: the first fault, and where the parts stand.
use Rattle.std.proofs.Common.{◌≡◌, ℕ, suc, ◌+◌, ◌-◌, ◌<◌, ◌≤◌, Bool, true, false, cond, eqb, ltb, leb, List, length, take, drop, Some, None, Ok, Err, Option, Result, sym, refl, ap, ◌∙◌, subst, inl, inr, ⊎_elim, arith}
use Rattle.std.proofs.lemmas.List.{drop-drop, length-drop, length-take-le}
use Rattle.std.proofs.lemmas.Bool.{both_ways, leb-true, ltb-true, and_parts}
use Rattle.address.specs.declared.labels.Label.{Label}
use Rattle.address.specs.Address.{address_ok}
use Rattle.message.specs.declared.faults.Fault.{Fault}
use Rattle.message.specs.declared.faults.Fault.TheVariants.{Pointer, Address, Data, Options}
use Rattle.message.specs.declared.faults.ReadFault.{ReadFault}
use Rattle.message.specs.declared.messages.Form.{Form}
use Rattle.message.specs.declared.reading.Pointers.{Pointers}
use Rattle.message.specs.declared.reading.Places.{Places}
use Rattle.message.specs.declared.scanning.OptionSpan.{OptionSpan}
use Rattle.message.specs.Options.{octet, option_span}
use Rattle.message.specs.Read.{Parsed, Three, check, after, end_of, part, within, called_place, calling_place, data_place, options_place, span_at, has_segmentation, calling_ok, data_ok, parsed, parts_body, body}
use Rattle.message.specs.Faults.{FaultPlace}
use Rattle.message.specs.FirstFault.{PointerWrong, WrongFrom, FaultIn, First, options_start, segmented}
use Rattle.message.specs.Inside.{Stands, InOrder, PartsInside}
use Rattle.message.proofs.Orders.{Clear, clear_more, clear_all, stop, checked_on, chosen_on}
use Rattle.message.proofs.WrongOptions.{options_first, options_inside, wrong_inside, SpanFirst, Spanned}

-- a part of what stands behind the label stands in the whole, four octets on
pub stands_behind : (x : List ℕ) (i n : ℕ) → 4 ≤ length x → i + n ≤ length (drop 4 x) → Stands x (4 + i) (take n (drop i (drop 4 x))) × (length (take n (drop i (drop 4 x))) ≡ n)
stands_behind x i n low h =
    let d : drop i (drop 4 x) ≡ drop (4 + i) x = drop-drop i 4 x in
    let k : length (drop 4 x) ≡ length x - 4 = length-drop 4 x in
    let j : length (drop i (drop 4 x)) ≡ length (drop 4 x) - i = length-drop i (drop 4 x) in
    let e : length (take n (drop i (drop 4 x))) ≡ n = length-take-le n (drop i (drop 4 x)) (omega arith) in
    ((ap (λ l. take l (drop (4 + i) x)) e ∙ ap (take n) (sym d), omega arith), e)

-- a place that was tested lies in the message, behind the end of what stands before
pub within_parts : (m : List ℕ) (e i : ℕ) → within m e i ≡ true → (e ≤ i) × (i < length m)
within_parts m e i h =
    let a = and_parts (leb e i) (ltb i (length m)) h in
    (leb-true e i a.0, ltb-true i (length m) a.1)

-- which pointer is wrong
pointer_cases : {C : Type 0} (m : List ℕ) (p : Pointers) (k : ℕ) → PointerWrong m p k
    → (k ≡ p.at → within m p.start (called_place p) ≡ false → C)
    → (k ≡ p.at + 1 → within m (end_of m (called_place p)) (calling_place p) ≡ false → C)
    → (k ≡ p.at + 2 → within m (end_of m (calling_place p)) (data_place p) ≡ false → C)
    → (k ≡ p.at + 3 → eqb p.options 0 ≡ false → within m (end_of m (data_place p)) (p.at + 3 + p.options) ≡ false → C) → C
pointer_cases m p k (inl h) a b c d = a h.0 h.1
pointer_cases m p k (inr (inl h)) a b c d = b h.0 h.1
pointer_cases m p k (inr (inr (inl h))) a b c d = c h.0 h.1
pointer_cases m p k (inr (inr (inr h))) a b c d = d h.0 h.1 h.2

module _ (x : List ℕ) (p : Pointers) (low : 4 ≤ length x) (high : length x ≤ 272) (five : 5 ≤ p.start) (early : p.at ≤ 3) (l : Label) (f : Form) where
  abbrev m : List ℕ
  m = drop 4 x

  abbrev Holds : Fault → ℕ → Type 0
  Holds = FaultIn x m p

  -- an answer is the first fault, which lies in the message, or a message whose parts are in order
  abbrev pub Right : Result Parsed ReadFault → Type 0
  Right r = First Holds r × PartsInside x r × FaultPlace r

  short : length m ≤ 268
  short = let d = length-drop 4 x in omega arith

  abbrev halted : Fault → ℕ → Result Parsed ReadFault
  halted g o = Err (record { fault = g; offset = o })

  -- the four tests of pointers
  abbrev W1 : Bool
  W1 = within m p.start (called_place p)

  abbrev W2 : Bool
  W2 = within m (end_of m (called_place p)) (calling_place p)

  abbrev W3 : Bool
  W3 = within m (end_of m (calling_place p)) (data_place p)

  abbrev W4 : Bool
  W4 = within m (end_of m (data_place p)) (p.at + 3 + p.options)

  abbrev q : Places
  q = record { called = called_place p; calling = calling_place p; «data» = data_place p }

  abbrev three : Three
  three = record { called = part m (called_place p); calling = part m (calling_place p); «data» = part m (data_place p) }

  abbrev ended : OptionSpan → Parsed
  ended s = parsed l f three (take (s.end - s.start) (drop s.start m))

  -- what follows on the parts, on the place of the options, and on the places
  abbrev on_parts : Option ℕ → Three → Result Parsed ReadFault
  on_parts o t = after (span_at m o) (λ s. Ok (parsed l f t (take (s.end - s.start) (drop s.start m))))

  abbrev on_options : Places → Option ℕ → Result Parsed ReadFault
  on_options r o = after (parts_body m r (has_segmentation (span_at m o))) (on_parts o)

  abbrev on_places : Places → Result Parsed ReadFault
  on_places r = after (options_place m p) (on_options r)

  module _ (e1 : W1 ≡ true) (e2 : W2 ≡ true) (e3 : W3 ≡ true) where
    -- all parts stand in order, with options that begin at i and have n octets
    in_order : (i n : ℕ) → end_of m (data_place p) ≤ i → i + n ≤ length m → InOrder x (parsed l f three (take n (drop i m)))
    in_order i n h k =
        let w1 = within_parts m p.start (called_place p) e1 in
        let w2 = within_parts m (end_of m (called_place p)) (calling_place p) e2 in
        let w3 = within_parts m (end_of m (calling_place p)) (data_place p) e3 in
        let a = stands_behind x (called_place p + 1) (octet m (called_place p)) low (omega arith) in
        let b = stands_behind x (calling_place p + 1) (octet m (calling_place p)) low (omega arith) in
        let c = stands_behind x (data_place p + 1) (octet m (data_place p)) low (omega arith) in
        let d = stands_behind x i n low k in
        record {
          called_at = 4 + (called_place p + 1);
          calling_at = 4 + (calling_place p + 1);
          data_at = 4 + (data_place p + 1);
          options_at = 4 + i;
          called = a.0;
          calling = b.0;
          «data» = c.0;
          options = d.0;
          first = omega arith;
          second = omega arith;
          third = omega arith;
          fourth = omega arith;
        }

    -- the options, once all before them is right
    span_right : (i : ℕ) (z : eqb p.options 0 ≡ false) → p.at + 3 + p.options ≡ i → W4 ≡ true → Clear Holds 18 → (r : Result OptionSpan ReadFault) → SpanFirst (suc (length m)) false m i r → Spanned i m r → Right (after r (λ s. Ok (ended s)))
    span_right i z ei e4 clear (Ok s) first inside =
        let w4 = within_parts m (end_of m (data_place p)) (p.at + 3 + p.options) e4 in
        (clear_all Holds (ended s) (clear_more Holds Options clear (λ o h. first o (subst (λ j. WrongFrom (suc (length m)) false m j o) ei h.1))), in_order s.start (s.end - s.start) (omega arith) (omega arith), tt)
    span_right i z ei e4 clear (Err e) first inside =
        let same : ◌≡◌ {A = ReadFault} (record { fault = Options; offset = e.offset }) e = ap (λ g. record { fault = g; offset = e.offset }) (sym first.0) in (
          subst (λ d. First {A = Parsed} Holds (Err d)) same
              (stop Parsed Holds Options e.offset clear (z, subst (λ j. WrongFrom (suc (length m)) false m j e.offset) (sym ei) first.1) (λ k h. first.2 k (subst (λ j. WrongFrom (suc (length m)) false m j k) ei h.1))),
          tt,
          let w = wrong_inside (suc (length m)) false m i e.offset first.1 in let s = short in omega arith,
        )

    -- no options: none can be wrong
    none_right : eqb p.options 0 ≡ true → data_ok m (data_place p) ≡ true → Clear Holds 18 → Right (on_parts None three)
    none_right z d clear =
        let inside = leb-true (end_of m (data_place p)) (length m) (and_parts (leb 1 (octet m (data_place p))) (leb (end_of m (data_place p)) (length m)) d).1 in (
          clear_all Holds (ended (record { start = 0; end = 0; segmented = false })) (clear_more Holds Options clear (λ o h. both_ways (eqb p.options 0) h.0 z)),
          in_order (end_of m (data_place p)) 0 (omega arith) (omega arith),
          tt,
        )

    -- addresses and data, once the pointers are right
    parts-right : (o : Option ℕ) → options_start p ≡ o → Clear Holds 16 → (data_ok m (data_place p) ≡ true → Clear Holds 18 → Right (on_parts o three)) → Right (on_options q o)
    parts-right o eo clear go =
        let s = short in
        let w1 = within_parts m p.start (called_place p) e1 in
        let w2 = within_parts m (end_of m (called_place p)) (calling_place p) e2 in
        let w3 = within_parts m (end_of m (calling_place p)) (data_place p) e3 in
        let sg = has_segmentation (span_at m o) in
        let es : segmented m p ≡ sg = ap (λ k. has_segmentation (span_at m k)) eo in
        let called = address_ok (part m (called_place p)) in
        let calling = calling_ok (part m (calling_place p)) sg in
        let content = data_ok m (data_place p) in
        let k3 : Result Three ReadFault = Ok three in
        let k2 = check content Data (data_place p) k3 in
        let k1 = check calling Address (calling_place p) k2 in
        checked_on Right called Address (called_place p) k1 (on_parts o)
        (λ e. (stop Parsed Holds Address (called_place p) clear (inl (refl, e)) (λ k h. ⊎_elim (λ (a : (k ≡ called_place p) × (called ≡ false)). omega arith) (λ b. omega arith) h), tt, omega arith))
        (λ a1.
        checked_on Right calling Address (calling_place p) k2 (on_parts o)
        (λ e. (stop Parsed Holds Address (calling_place p) clear (inr (refl, ap (calling_ok (part m (calling_place p))) es ∙ e)) (λ k h. ⊎_elim (λ (a : (k ≡ called_place p) × (called ≡ false)). absurd (both_ways called a.1 a1)) (λ b. omega arith) h), tt, omega arith))
        (λ a2.
        let clear17 = clear_more Holds Address clear (λ k h. ⊎_elim (λ (a : (k ≡ called_place p) × (called ≡ false)). both_ways called a.1 a1) (λ b. both_ways calling (sym (ap (calling_ok (part m (calling_place p))) es) ∙ b.1) a2) h) in
        checked_on Right content Data (data_place p) k3 (on_parts o)
        (λ e. (stop Parsed Holds Data (data_place p) clear17 (refl, e) (λ k h. omega arith), tt, omega arith))
        (λ d. go d (clear_more Holds Data clear17 (λ k h. both_ways content h.1 d)))))

    -- the options' pointer, once the others are right
    options-right : Clear Holds 15 → Right (on_places q)
    options-right clear =
        let i = p.at + 3 + p.options in
        let named : Result (Option ℕ) ReadFault = Ok (Some i) in
        let clear16 : (eqb p.options 0 ≡ false → W4 ≡ true) → Clear Holds 16 = λ fine.
        clear_more Holds Pointer clear (λ k h. pointer_cases m p k h (λ _ w. both_ways W1 w e1) (λ _ w. both_ways W2 w e2) (λ _ w. both_ways W3 w e3) (λ _ z w. both_ways W4 w (fine z))) in
        chosen_on Right (eqb p.options 0) (Ok None) (check W4 Pointer (p.at + 3) named) (on_options q)
        (λ z. parts-right None (ap (λ b. cond b None (Some i)) z) (clear16 (λ w. absurd (both_ways (eqb p.options 0) w z))) (none_right z))
        (λ z.
        checked_on Right W4 Pointer (p.at + 3) named (on_options q)
        (λ e. (stop Parsed Holds Pointer (p.at + 3) clear (inr (inr (inr (refl, z, e)))) (λ k h. pointer_cases m p k h (λ _ w. absurd (both_ways W1 w e1)) (λ _ w. absurd (both_ways W2 w e2)) (λ _ w. absurd (both_ways W3 w e3)) (λ g _ _. omega arith)), tt, omega arith))
        (λ e4.
        let w4 = within_parts m (end_of m (data_place p)) i e4 in
        parts-right (Some i) (ap (λ b. cond b None (Some i)) z) (clear16 (λ _. e4))
        (λ d clear18. span_right i z refl e4 clear18 (option_span m i) (options_first m i (omega arith)) (options_inside m i))))

  -- the whole body, once what stands before the parts is right
  pub body_right : Clear Holds 15 → Right (body l f m p)
  unfolding body
  body_right clear =
      let k3 : Result Places ReadFault = Ok q in
      let k2 = check W3 Pointer (p.at + 2) k3 in
      let k1 = check W2 Pointer (p.at + 1) k2 in
      checked_on Right W1 Pointer p.at k1 on_places
      (λ e. (stop Parsed Holds Pointer p.at clear (inl (refl, e)) (λ k h. pointer_cases m p k h (λ g _. omega arith) (λ g _. omega arith) (λ g _. omega arith) (λ g _ _. omega arith)), tt, omega arith))
      (λ e1.
      checked_on Right W2 Pointer (p.at + 1) k2 on_places
      (λ e. (stop Parsed Holds Pointer (p.at + 1) clear (inr (inl (refl, e))) (λ k h. pointer_cases m p k h (λ _ w. absurd (both_ways W1 w e1)) (λ g _. omega arith) (λ g _. omega arith) (λ g _ _. omega arith)), tt, omega arith))
      (λ e2.
      checked_on Right W3 Pointer (p.at + 2) k3 on_places
      (λ e. (stop Parsed Holds Pointer (p.at + 2) clear (inr (inr (inl (refl, e)))) (λ k h. pointer_cases m p k h (λ _ w. absurd (both_ways W1 w e1)) (λ _ w. absurd (both_ways W2 w e2)) (λ g _. omega arith) (λ g _ _. omega arith)), tt, omega arith))
      (λ e3. options-right e1 e2 e3 clear)))
