-- Options that were read in a message are right by themselves.
use Rattle.std.proofs.Common.{◌≡◌, ℕ, zero, suc, ◌+◌, ◌-◌, ◌<◌, ◌≤◌, Bool, true, false, cond, not, ◌&&◌, ◌||◌, eqb, ltb, leb, ◌⊎◌, List, ◌++◌, length, take, drop, Ok, Err, Result, sym, refl, ap, ◌∙◌, subst, inl, inr, ⊎_elim, arith, take-append-drop}
use Rattle.std.proofs.lemmas.List.{get_or_append_left, length-take-le}
use Rattle.std.proofs.lemmas.Bool.{lt-leb, le-ltb, or_from, ne_eqb, cond-false}
use Rattle.message.specs.declared.faults.ReadFault.{ReadFault}
use Rattle.message.specs.declared.scanning.OptionSpan.{OptionSpan}
use Rattle.message.specs.Options.{octet, wrong, cut_at, bad_at, span_in, span_on, option_span}
use Rattle.message.specs.Read.{no_span}
use Rattle.message.proofs.Spans.{enough}
use Rattle.message.proofs.WrongOptions.{Spanned, options_inside}
use Rattle.writing.specs.RoundTrip.{scanned}
use Rattle.writing.proofs.Shifts.{moved, options_moved}
use Rattle.writing.proofs.Types.{same_ok}

-- a choice that gave a value, and not by being wrong
not_wrong : (b : Bool) (i : ℕ) (k : Result OptionSpan ReadFault) (s : OptionSpan) → cond b (wrong i) k ≡ Ok s → (b ≡ false) × (k ≡ Ok s)
not_wrong true i k s h = let z : ◌≡◌ {A = ℕ} 0 1 = cc in absurd (omega arith)
not_wrong false i k s h = (refl, h)

-- the tests that were passed where options were found from i on: the end mark is at i, or the
-- walk went on
abbrev Passed : ℕ → ℕ → Bool → List ℕ → ℕ → OptionSpan → Type 0
Passed n from seen m i s =
    (leb (length m) i ≡ false)
    × (((eqb (octet m i) 0 ≡ true) × (◌≡◌ {A = OptionSpan} (record { start = from; end = i + 1; segmented = seen }) s))
    ⊎ ((eqb (octet m i) 0 ≡ false) × (cut_at m i ≡ false) × (bad_at seen m i ≡ false) × (span_in n from (eqb (octet m i) 16 || seen) m (i + 2 + octet m (i + 1)) ≡ Ok s)))

went : (z c d : Bool) (i : ℕ) (e s : OptionSpan) (k : Result OptionSpan ReadFault) → cond z (Ok e) (cond c (wrong i) (cond d (wrong i) k)) ≡ Ok s
    → ((z ≡ true) × (e ≡ s)) ⊎ ((z ≡ false) × (c ≡ false) × (d ≡ false) × (k ≡ Ok s))
went true c d i e s k h = inl (refl, same_ok e s h)
went false c d i e s k h =
    let a = not_wrong c i (cond d (wrong i) k) s h in
    let b = not_wrong d i k s a.1 in
    inr (refl, a.0, b.0, b.1)

tests_passed : (n from : ℕ) (seen : Bool) (m : List ℕ) (i : ℕ) (s : OptionSpan) → span_in (suc n) from seen m i ≡ Ok s → Passed n from seen m i s
tests_passed n from seen m i s h =
    let rest = span_in n from (eqb (octet m i) 16 || seen) m (i + 2 + octet m (i + 1)) in
    let found : OptionSpan = record { start = from; end = i + 1; segmented = seen } in
    let a = not_wrong (leb (length m) i) (length m) (cond (eqb (octet m i) 0) (Ok found) (cond (cut_at m i) (wrong i) (cond (bad_at seen m i) (wrong i) rest))) s h in
    (a.0, went (eqb (octet m i) 0) (cut_at m i) (bad_at seen m i) i found s rest a.1)

-- options end behind the place where the walk begins
later : (n from : ℕ) (seen : Bool) (m : List ℕ) (i : ℕ) (s : OptionSpan) → span_in n from seen m i ≡ Ok s → i < s.end
later zero from seen m i s h = let z : ◌≡◌ {A = ℕ} 0 1 = cc in absurd (omega arith)
later (suc n) from seen m i s h =
    ⊎_elim
    (λ (a : (eqb (octet m i) 0 ≡ true) × (◌≡◌ {A = OptionSpan} (record { start = from; end = i + 1; segmented = seen }) s)).
    let e : i + 1 ≡ s.end = ap (λ z. z.end) a.1 in omega arith)
    (λ b. let k = later n from (eqb (octet m i) 16 || seen) m (i + 2 + octet m (i + 1)) s b.3 in omega arith)
    (tests_passed n from seen m i s h).1

tests_pass : (n from : ℕ) (seen : Bool) (m : List ℕ) (i : ℕ) (s : OptionSpan) → Passed n from seen m i s → span_in (suc n) from seen m i ≡ Ok s
tests_pass n from seen m i s h =
    let rest = span_in n from (eqb (octet m i) 16 || seen) m (i + 2 + octet m (i + 1)) in
    let found : OptionSpan = record { start = from; end = i + 1; segmented = seen } in
    ⊎_elim
    (λ (a : (eqb (octet m i) 0 ≡ true) × (◌≡◌ {A = OptionSpan} (record { start = from; end = i + 1; segmented = seen }) s)).
    λ t. cond (h.0 t) (wrong (length m)) (cond (a.0 t) (Ok (a.1 t)) (cond (cut_at m i) (wrong i) (cond (bad_at seen m i) (wrong i) rest))))
    (λ b. λ t. cond (h.0 t) (wrong (length m)) (cond (b.0 t) (Ok found) (cond (b.1 t) (wrong i) (cond (b.2 t) (wrong i) (b.3 t)))))
    h.1

-- what stands behind the end mark does not matter
front_only : (n from : ℕ) (seen : Bool) (o t : List ℕ) (i : ℕ) (s : OptionSpan) → s.end ≤ length o → span_in n from seen (o ++ t) i ≡ Ok s → span_in n from seen o i ≡ Ok s
front_only zero from seen o t i s l h = let z : ◌≡◌ {A = ℕ} 0 1 = cc in absurd (omega arith)
front_only (suc n) from seen o t i s l h =
    let before = later (suc n) from seen (o ++ t) i s h in
    let a = tests_passed n from seen (o ++ t) i s h in
    let name : octet (o ++ t) i ≡ octet o i = get_or_append_left o t 0 i (omega arith) in
    let past : leb (length o) i ≡ false = lt-leb (length o) i (omega arith) in
    tests_pass n from seen o i s (
      past,
      ⊎_elim
          (λ (z : (eqb (octet (o ++ t) i) 0 ≡ true) × (◌≡◌ {A = OptionSpan} (record { start = from; end = i + 1; segmented = seen }) s)).
          inl (ap (λ k. eqb k 0) (sym name) ∙ z.0, z.1))
          (λ b.
          let ahead = later n from (eqb (octet (o ++ t) i) 16 || seen) (o ++ t) (i + 2 + octet (o ++ t) (i + 1)) s b.3 in
          let size : octet (o ++ t) (i + 1) ≡ octet o (i + 1) = get_or_append_left o t 0 (i + 1) (omega arith) in
          let rest = front_only n from (eqb (octet (o ++ t) i) 16 || seen) o t (i + 2 + octet (o ++ t) (i + 1)) s l b.3 in
          inr (
            ap (λ k. eqb k 0) (sym name) ∙ b.0,
            or_from (leb (length o) (i + 1)) (ltb (length o) (i + 2 + octet o (i + 1))) (lt-leb (length o) (i + 1) (omega arith)) (le-ltb (length o) (i + 2 + octet o (i + 1)) (omega arith)),
            (λ u. eqb (sym name u) 16 && (not (eqb (sym size u) 4) || seen)) ∙ b.2,
            (λ u. span_in n from (eqb (sym name u) 16 || seen) o (i + 2 + sym size u)) ∙ rest,
          ))
          a.1,
    )

unmoved : (k : ℕ) (x : Result OptionSpan ReadFault) (s : OptionSpan) → moved k x ≡ Ok s → (r : OptionSpan) × (x ≡ Ok r) × (k + r.start ≡ s.start) × (k + r.end ≡ s.end) × (r.segmented ≡ s.segmented)
unmoved k (Ok r) s h =
    let e : ◌≡◌ {A = OptionSpan} (record { start = k + r.start; end = k + r.end; segmented = r.segmented }) s = same_ok (record { start = k + r.start; end = k + r.end; segmented = r.segmented }) s h in
    (r, refl, ap (λ z. z.start) e, ap (λ z. z.end) e, ap (λ z. z.segmented) e)
unmoved k (Err e) s h = let z : ◌≡◌ {A = ℕ} 0 1 = cc in absurd (omega arith)

-- the options that were found from i on
abbrev pub found_in : List ℕ → OptionSpan → List ℕ
found_in m s = take (s.end - s.start) (drop s.start m)

abbrev pub Alone : List ℕ → Bool → Type 0
Alone o g = scanned o ≡ Ok (record { start = 0; end = length o; segmented = g })

-- at the front of a list
alone_front : (r : List ℕ) (s : OptionSpan) → option_span r 0 ≡ Ok s → (s.start ≡ 0) × (s.end ≤ length r) × Alone (take s.end r) s.segmented
unfolding span_on
alone_front r s h =
    let e : ℕ = s.end in
    let sp : Spanned 0 r (Ok s) = subst (Spanned 0 r) h (options_inside r 0) in
    let inside = sp.2 in
    let some = later (length r) 0 false r 0 s h in
    let lo : length (take s.end r) ≡ s.end = length-take-le e r inside in
    let split : span_in (length r) 0 false (take e r ++ drop e r) 0 ≡ Ok s = ap (λ z. span_in (length r) 0 false z 0) (take-append-drop e r) ∙ h in
    let alone = front_only (length r) 0 false (take e r) (drop e r) 0 s (omega arith) split in
    let st = sp.0 in (
      st,
      inside,
      cond-false (eqb (length (take e r)) 0) (Ok no_span) (option_span (take e r) 0) (ne_eqb (length (take e r)) 0 (λ z. omega arith))
          ∙ enough (length (take e r)) (length r) 0 false (take e r) 0 (omega arith) (omega arith)
          ∙ alone
          ∙ (λ u. Ok (record { start = st u; end = sym lo u; segmented = s.segmented })),
    )

pub alone : (m : List ℕ) (i : ℕ) (s : OptionSpan) → i < length m → option_span m i ≡ Ok s → Alone (found_in m s) s.segmented
alone m i s l h =
    let lf : length (take i m) ≡ i = length-take-le i m (omega arith) in
    let split = take-append-drop i m in
    let shift : option_span m i ≡ moved i (option_span (drop i m) 0) =
    (λ u. option_span (sym split u) (sym lf u)) ∙ options_moved (take i m) (drop i m) ∙ ap (λ k. moved k (option_span (drop i m) 0)) lf in
    let u = unmoved i (option_span (drop i m) 0) s (sym shift ∙ h) in
    let f = alone_front (drop i m) u.0 u.1 in
    let zero-start = f.0 in
    let e1 = u.2 in
    let e2 = u.3 in
    let n1 : u.0.end ≡ s.end - s.start = omega arith in
    let n2 : i ≡ s.start = omega arith in
    let same : take u.0.end (drop i m) ≡ found_in m s = λ t. take (n1 t) (drop (n2 t) m) in
    subst (λ z. Alone z s.segmented) same (subst (λ g. Alone (take u.0.end (drop i m)) g) u.4 f.2)
