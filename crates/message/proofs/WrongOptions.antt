-- Going through the options finds the first that is wrong.
use Rattle.std.proofs.Common.{◌≡◌, ℕ, zero, suc, ◌+◌, ◌<◌, ◌≤◌, Bool, true, false, cond, ◌||◌, eqb, ltb, leb, List, length, IfOk, Ok, Err, Result, refl, subst, inl, inr, ⊎_elim, arith, MatchResult}
use Rattle.std.proofs.lemmas.Bool.{both_ways, leb-true, leb-false, ltb-false, or_left, or_right, or_cases, or_parts, cond_both}
use Rattle.message.specs.declared.faults.Fault.TheVariants.{Options}
use Rattle.message.specs.declared.faults.ReadFault.{ReadFault}
use Rattle.message.specs.declared.scanning.OptionSpan.{OptionSpan}
use Rattle.message.specs.Options.{octet, wrong, cut_at, bad_at, span_in, span_on, option_span}
use Rattle.message.specs.FirstFault.{WrongFrom}
use Rattle.message.proofs.Spans.{enough}

-- the next option begins in the message or where it ends
next_inside : (m : List ℕ) (i : ℕ) → cut_at m i ≡ false → i + 2 + octet m (i + 1) ≤ length m
next_inside m i e = ltb-false (length m) (i + 2 + octet m (i + 1)) (or_parts (leb (length m) (i + 1)) (ltb (length m) (i + 2 + octet m (i + 1))) e).1

-- nothing before the place where the walk begins is found wrong
not_before : (n : ℕ) (seen : Bool) (m : List ℕ) (i o : ℕ) → i ≤ length m → WrongFrom n seen m i o → i ≤ o
not_before zero seen m i o l h = absurd h
not_before (suc n) seen m i o l (inl h) = omega arith
not_before (suc n) seen m i o l (inr h) =
    ⊎_elim
    (λ (a : (o ≡ i) × ((cut_at m i || bad_at seen m i) ≡ true)). omega arith)
    (λ (b : (cut_at m i ≡ false) × WrongFrom n (eqb (octet m i) 16 || seen) m (i + 2 + octet m (i + 1)) o).
    let k = not_before n (eqb (octet m i) 16 || seen) m (i + 2 + octet m (i + 1)) o (next_inside m i b.0) b.1 in omega arith)
    h.2

-- what is found wrong lies in the message or at its end
pub wrong_inside : (n : ℕ) (seen : Bool) (m : List ℕ) (i o : ℕ) → WrongFrom n seen m i o → o ≤ length m
wrong_inside zero seen m i o h = absurd h
wrong_inside (suc n) seen m i o (inl h) = omega arith
wrong_inside (suc n) seen m i o (inr h) =
    ⊎_elim
    (λ (a : (o ≡ i) × ((cut_at m i || bad_at seen m i) ≡ true)). omega arith)
    (λ (b : (cut_at m i ≡ false) × WrongFrom n (eqb (octet m i) 16 || seen) m (i + 2 + octet m (i + 1)) o). wrong_inside n (eqb (octet m i) 16 || seen) m (i + 2 + octet m (i + 1)) o b.1)
    h.2

-- an answer of the walk is the first that is wrong, or none is
abbrev pub SpanFirst : ℕ → Bool → List ℕ → ℕ → Result OptionSpan ReadFault → Type 0
SpanFirst n seen m i r =
    MatchResult r (λ _. (o : ℕ) → WrongFrom n seen m i o → ⊥)
    (λ e. (e.fault ≡ Options) × WrongFrom n seen m i e.offset × ((o : ℕ) → WrongFrom n seen m i o → e.offset ≤ o))

-- past an option that is neither the end nor wrong, all is as from the next
module _ (n : ℕ) (seen : Bool) (m : List ℕ) (i : ℕ) (inside : i < length m) (named : eqb (octet m i) 0 ≡ false) (uncut : cut_at m i ≡ false) (good : bad_at seen m i ≡ false) where
  abbrev passed : Bool
  passed = eqb (octet m i) 16 || seen

  abbrev next : ℕ
  next = i + 2 + octet m (i + 1)

  up : (o : ℕ) → WrongFrom n passed m next o → WrongFrom (suc n) seen m i o
  up o w = inr (inside, named, inr (uncut, w))

  down : (o : ℕ) → WrongFrom (suc n) seen m i o → WrongFrom n passed m next o
  down o (inl h) = absurd (omega arith)
  down o (inr h) =
      ⊎_elim
      (λ (a : (o ≡ i) × ((cut_at m i || bad_at seen m i) ≡ true)).
      absurd (⊎_elim (both_ways (cut_at m i) uncut) (both_ways (bad_at seen m i) good) (or_cases (cut_at m i) (bad_at seen m i) a.1)))
      (λ (b : (cut_at m i ≡ false) × WrongFrom n passed m next o). b.1)
      h.2

  carry : (r : Result OptionSpan ReadFault) → SpanFirst n passed m next r → SpanFirst (suc n) seen m i r
  carry (Ok s) h = λ o w. h o (down o w)
  carry (Err e) h = (h.0, up e.offset h.1, λ o w. h.2 o (down o w))

span_first : (n from : ℕ) (seen : Bool) (m : List ℕ) (i : ℕ) → i ≤ length m → length m < n + i → SpanFirst n seen m i (span_in n from seen m i)
span_first zero from seen m i l k = absurd (omega arith)
span_first (suc n) from seen m i l k =
    let P : Result OptionSpan ReadFault → Type 0 = SpanFirst (suc n) seen m i in
    let passed = eqb (octet m i) 16 || seen in
    let next = i + 2 + octet m (i + 1) in
    let t4 = span_in n from passed m next in
    let t3 : Result OptionSpan ReadFault = cond (bad_at seen m i) (wrong i) t4 in
    let t2 : Result OptionSpan ReadFault = cond (cut_at m i) (wrong i) t3 in
    let found : Result OptionSpan ReadFault = Ok (record { start = from; end = i + 1; segmented = seen }) in
    let t1 : Result OptionSpan ReadFault = cond (eqb (octet m i) 0) found t2 in
    cond_both (leb (length m) i) (wrong (length m)) t1 P
    (λ e. (refl, inl (refl, leb-true (length m) i e), λ o h. ⊎_elim (λ (a : (o ≡ length m) × (length m ≤ i)). omega arith) (λ b. let q = leb-true (length m) i e in absurd (omega arith)) h))
    (λ e. let inside = leb-false (length m) i e in
    cond_both (eqb (octet m i) 0) found t2 P
    (λ z. λ o h. ⊎_elim (λ (a : (o ≡ length m) × (length m ≤ i)). absurd (omega arith)) (λ b. both_ways (eqb (octet m i) 0) b.1 z) h)
    (λ z.
    cond_both (cut_at m i) (wrong i) t3 P
    (λ cut. (refl, inr (inside, z, inl (refl, or_left (cut_at m i) (bad_at seen m i) cut)), λ o h. not_before (suc n) seen m i o l h))
    (λ uncut.
    cond_both (bad_at seen m i) (wrong i) t4 P
    (λ bad. (refl, inr (inside, z, inl (refl, or_right (cut_at m i) (bad_at seen m i) bad)), λ o h. not_before (suc n) seen m i o l h))
    (λ good. carry n seen m i inside z uncut good t4 (span_first n from passed m next (next_inside m i uncut) (omega arith))))))

-- of all the options from a place on
pub options_first : (m : List ℕ) (i : ℕ) → i ≤ length m → SpanFirst (suc (length m)) false m i (option_span m i)
unfolding span_on
options_first m i l =
    subst (SpanFirst (suc (length m)) false m i) (enough (suc (length m)) (length m) i false m i (omega arith) (omega arith)) (span_first (suc (length m)) i false m i l (omega arith))

-- options that are right begin where the walk began, and end in the message
abbrev pub Spanned : ℕ → List ℕ → Result OptionSpan ReadFault → Type 0
Spanned from m r = IfOk r (λ s. (s.start ≡ from) × (from ≤ s.end) × (s.end ≤ length m))

span_inside : (n from : ℕ) (seen : Bool) (m : List ℕ) (i : ℕ) → from ≤ i → Spanned from m (span_in n from seen m i)
span_inside zero from seen m i l = tt
span_inside (suc n) from seen m i l =
    let P : Result OptionSpan ReadFault → Type 0 = Spanned from m in
    let passed = eqb (octet m i) 16 || seen in
    let next = i + 2 + octet m (i + 1) in
    let t4 = span_in n from passed m next in
    let t3 : Result OptionSpan ReadFault = cond (bad_at seen m i) (wrong i) t4 in
    let t2 : Result OptionSpan ReadFault = cond (cut_at m i) (wrong i) t3 in
    let found : Result OptionSpan ReadFault = Ok (record { start = from; end = i + 1; segmented = seen }) in
    let t1 : Result OptionSpan ReadFault = cond (eqb (octet m i) 0) found t2 in
    cond_both (leb (length m) i) (wrong (length m)) t1 P
    (λ e. tt)
    (λ e. let inside = leb-false (length m) i e in
    cond_both (eqb (octet m i) 0) found t2 P
    (λ z. (refl, omega arith, omega arith))
    (λ z. cond_both (cut_at m i) (wrong i) t3 P (λ cut. tt) (λ uncut. cond_both (bad_at seen m i) (wrong i) t4 P (λ bad. tt) (λ good. span_inside n from passed m next (omega arith)))))

pub options_inside : (m : List ℕ) (i : ℕ) → Spanned i m (option_span m i)
unfolding span_on
options_inside m i = span_inside (length m) i false m i (omega arith)
