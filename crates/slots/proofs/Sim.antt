-- What the calls do to the slots as they are seen.
use Rattle.std.proofs.Common.{◌≡◌, ℕ, zero, suc, ◌+◌, ◌-◌, ◌*◌, ◌<◌, ◌≤◌, min, Bool, true, false, cond, not, ◌&&◌, ◌||◌, eqb, ltb, leb, ◌≢◌, List, [], ◌∷◌, ◌++◌, length, get_or, take, drop, set, Some, None, Option, sym, refl, ap, ◌∙◌, subst, inl, inr, arith}
use Rattle.slots.specs.declared.alone.Slots.{Slots}
use Rattle.slots.specs.Became.{Became}
use Rattle.std.proofs.lemmas.Bool.{and_parts, leb-true, cases_lt}
use Rattle.std.proofs.Math.ListN.{get_or-eq_default}
use borrow.Rule.Slice.PartMut.{put_mid}
use Rattle.std.proofs.lemmas.Slice.{take-put_mid, take-put_mid_below, drop-put_mid}
use Rattle.std.proofs.lemmas.List.{length-take-le, length-drop, length-append, drop-append-le, drop-take, drop-drop}
use Rattle.slot_laws.specs.Machine as law
use Rattle.timed_table.specs.declared.entry.Entry.{Entry}
use Rattle.timed_table.specs.declared.entry.Entry.TheVariants.{Free, Timed, Held}
use Rattle.slot_parts.specs.declared.load.Load.{Load}
use Rattle.timed_table.specs.Marks.{same_numbers}
use Rattle.slots.specs.Loads.{entry_ok, all_ok}
use Rattle.slot_parts.specs.Copies.{overwritten}
use Rattle.timed_table.specs.Table.{timed_as, first_from, last_from, is_free, reloaded}
use Rattle.slot_parts.specs.Deciding.{decided, first_load, grown_load}
use Rattle.slots.specs.Pieces.{step_for, found_of, found_entry, answer_of, entries_after, octets_after, outside, piece_answer, piece_entries, piece_octets}
use Rattle.slot_parts.specs.declared.deciding.Step.{Step}
use Rattle.slot_parts.specs.declared.deciding.Step.TheVariants as step
use Rattle.slot_laws.proofs.Look.{Frees, frees}
use Rattle.slots.proofs.Loads.{all_ok_at, load_bounds}
use Rattle.slots.specs.View.{view, view_from, view_one}

same_is : (a b : List ℕ) → law.same a b ≡ same_numbers a b
same_is [] [] = refl
same_is [] (y ∷ ys) = refl
same_is (x ∷ xs) [] = refl
same_is (x ∷ xs) (y ∷ ys) = ap (λ b. eqb x y && b) (same_is xs ys)

-- the first index from one on
abbrev up : Option ℕ → Option ℕ
up None = None
up (Some i) = Some (suc i)

up_cond : (b : Bool) (n : ℕ) (o : Option ℕ) → up (cond b (Some n) o) ≡ cond b (Some (suc n)) (up o)
up_cond true n o = refl
up_cond false n o = refl

first_up : {X : Type 0} (p : X → Bool) (n m : ℕ) (xs : List X) → m ≡ suc n → first_from p m xs ≡ up (first_from p n xs)
first_up p n m [] e = refl
first_up p n m (x ∷ xs) e =
    ap (λ k. cond (p x) (Some k) (first_from p (m + 1) xs)) e
    ∙ ap (λ o. cond (p x) (Some (suc n)) o) (first_up p (n + 1) (m + 1) xs (omega arith))
    ∙ sym (up_cond (p x) n (first_from p (n + 1) xs))

module _ {K : Type 0} (numbers : K → List ℕ) where
  pub get_view : (i j a : ℕ) (os : List ℕ) (es : List (Entry K Load)) → a ≡ i + j → get_or (view_from numbers i os es) j law.free ≡ view_one numbers a os (get_or es j Free)
  get_view i j a os [] e = refl
  get_view i zero a os (x ∷ xs) e = ap (λ k. view_one numbers k os x) (omega arith)
  get_view i (suc j) a os (x ∷ xs) e = get_view (suc i) j a os xs (omega arith)

  -- the slot that is found open, as the law sees it
  abbrev seen_at : ℕ → law.Slot → law.Found
  seen_at k law.free = law.missing
  seen_at k (law.opened o) = law.found k o
  seen_at k (law.whole d) = law.missing

  abbrev seen_found : ℕ → List ℕ → List (Entry K Load) → Option ℕ → law.Found
  seen_found i os es None = law.missing
  seen_found i os es (Some k) = seen_at k (view_one numbers (i + k) os (get_or es k Free))

  seen_shift : (k : ℕ) (s : law.Slot) → law.shift (seen_at k s) ≡ seen_at (suc k) s
  seen_shift k law.free = refl
  seen_shift k (law.opened o) = refl
  seen_shift k (law.whole d) = refl

  seen_up : (i : ℕ) (os : List ℕ) (e : Entry K Load) (es : List (Entry K Load)) (o : Option ℕ) → law.shift (seen_found (suc i) os es o) ≡ seen_found i os (e ∷ es) (up o)
  seen_up i os e es None = refl
  seen_up i os e es (Some k) = seen_shift k (view_one numbers (suc i + k) os (get_or es k Free)) ∙ ap (λ j. seen_at (suc k) (view_one numbers j os (get_or es k Free))) (omega arith)

  seen_pick : (i : ℕ) (os : List ℕ) (key : K) (ticks : ℕ) (load : Load) (es : List (Entry K Load)) (b : Bool) (o : Option ℕ)
      → law.pick b (record { mark = numbers key; octets = take load.len (drop (i * 3952) os); remaining = load.remaining; limit = load.limit; ticks = ticks }) (seen_found (suc i) os es o)
      ≡ seen_found i os (Timed key ticks load ∷ es) (cond b (Some 0) (up o))
  seen_pick i os key ticks load es true o = ap (λ j. seen_at 0 (view_one numbers j os (Timed key ticks load))) (omega arith)
  seen_pick i os key ticks load es false o = seen_up i os (Timed key ticks load) es o

  look_view : (i : ℕ) (os : List ℕ) (es : List (Entry K Load)) (m : List ℕ) → law.look m (view_from numbers i os es) ≡ seen_found i os es (first_from (timed_as numbers m) 0 es)
  look_view i os [] m = refl
  look_view i os (Free ∷ es) m = ap law.shift (look_view (suc i) os es m) ∙ seen_up i os Free es _ ∙ ap (seen_found i os (Free ∷ es)) (sym (first_up (timed_as numbers m) 0 1 es refl))
  look_view i os (Held l ∷ es) m = ap law.shift (look_view (suc i) os es m) ∙ seen_up i os (Held l) es _ ∙ ap (seen_found i os (Held l ∷ es)) (sym (first_up (timed_as numbers m) 0 1 es refl))
  look_view i os (Timed key ticks load ∷ es) m =
      let o : law.Open = record { mark = numbers key; octets = take load.len (drop (i * 3952) os); remaining = load.remaining; limit = load.limit; ticks = ticks } in
      ap (λ b. law.pick b o (law.look m (view_from numbers (suc i) os es))) (same_is (numbers key) m)
      ∙ ap (law.pick (same_numbers (numbers key) m) o) (look_view (suc i) os es m)
      ∙ seen_pick i os key ticks load es (same_numbers (numbers key) m) (first_from (timed_as numbers m) 0 es)
      ∙ ap (λ x. seen_found i os (Timed key ticks load ∷ es) (cond (same_numbers (numbers key) m) (Some 0) x)) (sym (first_up (timed_as numbers m) 0 1 es refl))

  -- the highest free slot
  abbrev past : ℕ → Option ℕ → Option ℕ → Option ℕ
  past n None f = f
  past n (Some k) f = Some (n + k)

  past_next : (n : ℕ) (e : Entry K Load) (i : ℕ) (os : List ℕ) (o f : Option ℕ) → past (n + 1) o (cond (is_free e) (Some n) f) ≡ past n (law.next_free o (law.here_free (view_one numbers i os e))) f
  past_next n e i os (Some k) f = ap Some (omega arith)
  past_next n Free i os None f = ap Some (omega arith)
  past_next n (Timed key ticks load) i os None f = refl
  past_next n (Held load) i os None f = refl

  free_past : (n i : ℕ) (os : List ℕ) (f : Option ℕ) (es : List (Entry K Load)) → last_from is_free n f es ≡ past n (law.last_free (view_from numbers i os es)) f
  free_past n i os f [] = refl
  free_past n i os f (e ∷ es) = free_past (n + 1) (suc i) os (cond (is_free e) (Some n) f) es ∙ past_next n e i os (law.last_free (view_from numbers (suc i) os es)) f

  past_zero : (o : Option ℕ) → past 0 o None ≡ o
  past_zero None = refl
  past_zero (Some k) = ap Some (omega arith)

  free_view : (os : List ℕ) (es : List (Entry K Load)) → last_from is_free 0 None es ≡ law.last_free (view_from numbers 0 os es)
  free_view os es = free_past 0 0 os None es ∙ past_zero (law.last_free (view_from numbers 0 os es))

  pub set_view : (i j a : ℕ) (os : List ℕ) (es : List (Entry K Load)) (e : Entry K Load) → a ≡ i + j → view_from numbers i os (set es j e) ≡ set (view_from numbers i os es) j (view_one numbers a os e)
  set_view i j a os [] e q = refl
  set_view i zero a os (x ∷ xs) e q = ap (λ k. view_one numbers k os e ∷ view_from numbers (suc i) os xs) (omega arith)
  set_view i (suc j) a os (x ∷ xs) e q = ap (λ l. view_one numbers i os x ∷ l) (set_view (suc i) j a os xs e (omega arith))

  -- octets altered in the stretch of one slot
  abbrev SameBut : ℕ → List ℕ → List ℕ → Type 0
  SameBut a os os' = (k n : ℕ) → k ≢ a → n ≤ 3952 → take n (drop (k * 3952) os') ≡ take n (drop (k * 3952) os)

  one_same : (i a : ℕ) (os os' : List ℕ) (e : Entry K Load) → SameBut a os os' → i ≢ a → entry_ok e ≡ true → view_one numbers i os' e ≡ view_one numbers i os e
  one_same i a os os' Free s n ok = refl
  one_same i a os os' (Timed key ticks load) s n ok =
      let b = load_bounds load ok in
      ap (λ x. law.opened (record { mark = numbers key; octets = x; remaining = load.remaining; limit = load.limit; ticks = ticks })) (s i load.len n (omega (arith, b.0, b.1)))
  one_same i a os os' (Held load) s n ok =
      let b = load_bounds load ok in
      ap law.whole (s i load.len n (omega (arith, b.0, b.1)))

  tail_same : (i a : ℕ) (os os' : List ℕ) (es : List (Entry K Load)) → SameBut a os os' → a < i → all_ok es ≡ true → view_from numbers i os' es ≡ view_from numbers i os es
  tail_same i a os os' [] s l ok = refl
  tail_same i a os os' (e ∷ es) s l ok =
      let p = and_parts (entry_ok e) (all_ok es) ok in
      let h = one_same i a os os' e s (omega arith) p.0 in
      let t = tail_same (suc i) a os os' es s (omega arith) p.1 in
      cc

  write_view : (i j a : ℕ) (os os' : List ℕ) (es : List (Entry K Load)) (e : Entry K Load) → a ≡ i + j → SameBut a os os' → all_ok es ≡ true
      → view_from numbers i os' (set es j e) ≡ set (view_from numbers i os es) j (view_one numbers a os' e)
  write_view i j a os os' [] e q s ok = refl
  write_view i zero a os os' (x ∷ xs) e q s ok =
      let p = and_parts (entry_ok x) (all_ok xs) ok in
      let h : view_one numbers i os' e ≡ view_one numbers a os' e = ap (λ k. view_one numbers k os' e) (omega arith) in
      let t = tail_same (suc i) a os os' xs s (omega arith) p.1 in
      cc
  write_view i (suc j) a os os' (x ∷ xs) e q s ok =
      let p = and_parts (entry_ok x) (all_ok xs) ok in
      let h = one_same i a os os' x s (omega arith) p.0 in
      let t = write_view (suc i) j a os os' xs e (omega arith) s p.1 in
      cc

-- a copy into a stretch
module _ (a c : ℕ) (ys os : List ℕ) (within : c + length ys ≤ 3952) (room : (a + 1) * 3952 ≤ length os) where
  abbrev after : List ℕ
  after = put_mid (a * 3952 + c) (length ys) os ys

  after-is : overwritten (a * 3952 + c) ys os ≡ after
  after-is = ap (λ z. take (a * 3952 + c) os ++ (ys ++ z)) (sym (drop-drop (length ys) (a * 3952 + c) os))

  own_stretch : (n : ℕ) → n ≡ c + length ys → take n (drop (a * 3952) (overwritten (a * 3952 + c) ys os)) ≡ take c (drop (a * 3952) os) ++ ys
  own_stretch n e =
      let p = a * 3952 in
      let l : length (take (p + c) os) ≡ p + c = length-take-le (p + c) os (omega arith) in
      ap (λ x. take n (drop p x)) after-is
      ∙ sym (drop-take p n after)
      ∙ ap (drop p) (take-put_mid (p + c) (length ys) os ys (p + n) (omega arith) (omega arith))
      ∙ drop-append-le p (take (p + c) os) ys (omega arith)
      ∙ ap (λ x. x ++ ys) (drop-take p c os)

  same_but : (k n : ℕ) → k ≢ a → n ≤ 3952 → take n (drop (k * 3952) (overwritten (a * 3952 + c) ys os)) ≡ take n (drop (k * 3952) os)
  same_but k n ne small =
      let p = k * 3952 in
      let b = a * 3952 + c in
      ap (λ x. take n (drop p x)) after-is
      ∙ elim (cases_lt k a) [
        | inl lt ↦ sym (drop-take p n after) ∙ ap (drop p) (take-put_mid_below b (length ys) os ys (p + n) (omega arith) (omega arith)) ∙ drop-take p n os
        | inr le ↦ ap (take n) (drop-put_mid b (length ys) os ys p (let l : a < k = omega arith in omega arith) (omega arith) refl)
      ]

-- the law's step, with the slot that is found
abbrev taken_at : ℕ → ℕ → List law.Slot → List ℕ → Bool → ℕ → List ℕ → law.Found → law.Step
taken_at C T ss m true zero d f = (ss, law.alone d)
taken_at C T ss m true (suc r) d f = law.first_step T ss m (suc r) d f
taken_at C T ss m false r d f = law.later_step C ss r d f

taken_is : (C T : ℕ) (ss : List law.Slot) (m : List ℕ) (f : Bool) (r : ℕ) (d : List ℕ) → law.taken C T ss m f r d ≡ taken_at C T ss m f r d (law.look m ss)
taken_is C T ss m true zero d = refl
taken_is C T ss m true (suc r) d = refl
taken_is C T ss m false r d = refl

timed_below : {K : Type 0} (es : List (Entry K Load)) (k : ℕ) (key : K) (t : ℕ) (load : Load) → get_or es k Free ≡ Timed key t load → k < length es
timed_below es k key t load e = elim (cases_lt k (length es)) [ inl h ↦ h | inr h ↦ (let z = get_or-eq_default es Free h in cc) ]

module _ {K : Type 0} (numbers : K → List ℕ) where
  length_view : (i : ℕ) (os : List ℕ) (es : List (Entry K Load)) → length (view_from numbers i os es) ≡ length es
  length_view i os [] = refl
  length_view i os (e ∷ es) = ap suc (length_view (suc i) os es)

  module _ (es : List (Entry K Load)) (os : List ℕ) (key : K) (C T : ℕ) (d : List ℕ)
      (fits : length es * 3952 ≤ length os) (ok : all_ok es ≡ true) (short : length d ≤ 255) where
    abbrev V : List law.Slot
    V = view_from numbers 0 os es

    abbrev Agree : Option ℕ → Step → law.Step → Type 0
    Agree fr s p = (answer_of C s fr es d ≡ p.1) × (view_from numbers 0 (octets_after s fr d os) (entries_after s fr key T es) ≡ p.0)

    written-view : (i c : ℕ) (e : Entry K Load) → i < length es → c + length d ≤ 3952
        → view_from numbers 0 (overwritten (i * 3952 + c) d os) (set es i e) ≡ set V i (view_one numbers i (overwritten (i * 3952 + c) d os) e)
    written-view i c e lt w = write_view numbers 0 i i os (overwritten (i * 3952 + c) d os) es e (omega arith) (same_but i c d os w (omega arith)) ok

    first-view : (i r : ℕ) → i < length es
        → view_from numbers 0 (overwritten (i * 3952 + 0) d os) (set es i (Timed key T (first_load r (length d)))) ≡ set V i (law.opened (law.fresh T (numbers key) r d))
    first-view i r lt =
        written-view i 0 (Timed key T (first_load r (length d))) lt (omega arith)
        ∙ ap (λ x. set V i (law.opened (record { mark = numbers key; octets = x; remaining = r; limit = min ((r + 1) * length d) 3952; ticks = T })))
        (own_stretch i 0 d os (omega arith) (omega arith) (length d) (omega arith))

    open-agree : (r : ℕ) (o : Option ℕ) → Frees V o → Agree o (step.Open (first_load r (length d))) (law.new_step T V (numbers key) r d o)
    open-agree r None l = (ap (λ n. law.refused (cond (eqb n 0) 10 6)) (sym (length_view 0 os es)), refl)
    open-agree r (Some i) l = let e = length_view 0 os es in let q : i < length V = l.0 in (refl, first-view i r (omega arith))

    not-zero : (r : ℕ) → eqb (suc r) 0 ≡ false
    not-zero r = grind (arith)

    absent : (f : Bool) (r : ℕ) → Agree (law.last_free V) (decided None f r (length d)) (taken_at C T V (numbers key) f r d law.missing)
    absent true zero = (refl, refl)
    absent true (suc r) =
        subst (λ (b : Bool). Agree (law.last_free V) (cond b step.Alone (step.Open (first_load (suc r) (length d)))) (law.new_step T V (numbers key) (suc r) d (law.last_free V)))
        (sym (not-zero r)) (open-agree (suc r) (law.last_free V) (frees V))
    absent false r = (refl, refl)

    module _ (k : ℕ) (held : K) (t : ℕ) (load : Load) (at : get_or es k Free ≡ Timed held t load) where
      abbrev o : law.Open
      o = record { mark = numbers held; octets = take load.len (drop (k * 3952) os); remaining = load.remaining; limit = load.limit; ticks = t }

      lt : k < length es
      lt = timed_below es k held t load at

      bounds : (load.len ≤ load.limit) × (load.limit ≤ 3952)
      bounds = load_bounds load (ap entry_ok (sym at) ∙ all_ok_at es k ok)

      octets-long : length o.octets ≡ load.len
      octets-long =
          let b0 : load.len ≤ load.limit = bounds.0 in
          let b1 : load.limit ≤ 3952 = bounds.1 in
          let l = lt in
          let e : length (drop (k * 3952) os) ≡ length os - k * 3952 = length-drop (k * 3952) os in
          length-take-le load.len (drop (k * 3952) os) (omega arith)

      grown-octets : load.len + length d ≤ load.limit → take (load.len + length d) (drop (k * 3952) (overwritten (k * 3952 + (load.len + length d - length d)) d os)) ≡ o.octets ++ d
      grown-octets h =
          let b1 : load.limit ≤ 3952 = bounds.1 in
          let l = lt in
          let c : load.len + length d - length d ≡ load.len = omega arith in
          ap (λ x. take (load.len + length d) (drop (k * 3952) (overwritten (k * 3952 + x) d os))) c
          ∙ own_stretch k load.len d os (omega arith) (omega arith) (load.len + length d) refl

      grown-view : (e : Entry K Load) → load.len + length d ≤ load.limit
          → view_from numbers 0 (overwritten (k * 3952 + (load.len + length d - length d)) d os) (set es k e) ≡ set V k (view_one numbers k (overwritten (k * 3952 + (load.len + length d - length d)) d os) e)
      grown-view e h = let b1 : load.limit ≤ 3952 = bounds.1 in written-view k (load.len + length d - length d) e lt (omega arith)

      grown-long : length (o.octets ++ d) ≡ load.len + length d
      grown-long = length-append o.octets d ∙ ap (λ n. n + length d) octets-long

      checked-agree : (r : ℕ) (b : Bool) → (b ≡ true → load.len + length d ≤ load.limit)
          → Agree (law.last_free V) (cond b (cond (eqb r 0) (step.Finish k (grown_load load r (length d))) (step.Hold k (grown_load load r (length d)))) (step.Break k)) (law.checked C V k o r d b)
      checked-agree r false h = (refl, set_view numbers 0 k k os es Free (omega arith))
      checked-agree zero true h = (ap (λ n. law.hands (record { code = C; slot = k; size = n })) (sym grown-long), grown-view (Held (grown_load load 0 (length d))) (h refl) ∙ ap (λ x. set V k (law.whole x)) (grown-octets (h refl)))
      checked-agree (suc r) true h =
          subst (λ (b : Bool). Agree (law.last_free V) (cond b (step.Finish k (grown_load load (suc r) (length d))) (step.Hold k (grown_load load (suc r) (length d)))) (law.checked C V k o (suc r) d true)) (sym (not-zero r)) (
            refl,
            ap (λ x. view_from numbers 0 (overwritten (k * 3952 + (load.len + length d - length d)) d os) (set es k (reloaded (grown_load load (suc r) (length d)) x))) at
                ∙ grown-view (Timed held t (grown_load load (suc r) (length d))) (h refl)
                ∙ ap (λ x. set V k (law.opened (record { mark = numbers held; octets = x; remaining = suc r; limit = load.limit; ticks = t }))) (grown-octets (h refl)),
          )

      follows_same : (r : ℕ) → (eqb (r + 1) load.remaining && leb (load.len + length d) load.limit) ≡ law.follows_on o r d
      follows_same r =
          let e1 : eqb (r + 1) load.remaining ≡ eqb load.remaining (suc r) = grind (arith) in
          let e2 : length (o.octets ++ d) ≡ load.len + length d = grown-long in
          cc

      opened-agree : (f : Bool) (r : ℕ) → Agree (law.last_free V) (decided (Some (record { slot = k; load = load })) f r (length d)) (taken_at C T V (numbers key) f r d (law.found k o))
      opened-agree true zero = (refl, refl)
      opened-agree true (suc r) =
          subst (λ (b : Bool). Agree (law.last_free V) (cond b step.Alone (step.Restart k (first_load (suc r) (length d)))) (law.first_step T V (numbers key) (suc r) d (law.found k o)))
          (sym (not-zero r)) (refl, first-view k (suc r) lt)
      opened-agree false r =
          let b = eqb (r + 1) load.remaining && leb (load.len + length d) load.limit in
          subst (λ (x : Bool). Agree (law.last_free V) (cond b (cond (eqb r 0) (step.Finish k (grown_load load r (length d))) (step.Hold k (grown_load load r (length d)))) (step.Break k)) (law.checked C V k o r d x))
          (follows_same r)
          (checked-agree r b (λ e. leb-true _ _ (and_parts (eqb (r + 1) load.remaining) (leb (load.len + length d) load.limit) e).1))

    entry-agree : (f : Bool) (r k : ℕ) (x : Entry K Load) → get_or es k Free ≡ x → Agree (law.last_free V) (decided (found_entry k x) f r (length d)) (taken_at C T V (numbers key) f r d (seen_at numbers k (view_one numbers k os x)))
    entry-agree f r k Free e = absent f r
    entry-agree f r k (Timed held t load) e = opened-agree k held t load e f r
    entry-agree f r k (Held load) e = absent f r

    found-agree : (f : Bool) (r : ℕ) (q : Option ℕ) → Agree (law.last_free V) (decided (found_of q es) f r (length d)) (taken_at C T V (numbers key) f r d (seen_found numbers 0 os es q))
    found-agree f r None = absent f r
    found-agree f r (Some k) =
        let z : k ≡ 0 + k = omega arith in
        subst (λ (j : ℕ). Agree (law.last_free V) (decided (found_entry k (get_or es k Free)) f r (length d)) (taken_at C T V (numbers key) f r d (seen_at numbers k (view_one numbers j os (get_or es k Free))))) z
        (entry-agree f r k (get_or es k Free) refl)

    pub all-agree : (f : Bool) (r : ℕ) → Agree (last_from is_free 0 None es) (step_for (timed_as numbers (numbers key)) f r (length d) es) (law.taken C T V (numbers key) f r d)
    all-agree f r =
        let q = first_from (timed_as numbers (numbers key)) 0 es in
        let s = step_for (timed_as numbers (numbers key)) f r (length d) es in
        let e1 : law.taken C T V (numbers key) f r d ≡ taken_at C T V (numbers key) f r d (seen_found numbers 0 os es q) =
        taken_is C T V (numbers key) f r d ∙ ap (taken_at C T V (numbers key) f r d) (look_view numbers 0 os es (numbers key)) in
        subst (λ (p : law.Step). Agree (last_from is_free 0 None es) s p) (sym e1)
        (subst (λ (x : Option ℕ). Agree x s (taken_at C T V (numbers key) f r d (seen_found numbers 0 os es q))) (sym (free_view numbers os es)) (found-agree f r q))

proper_not : (a b c : Bool) → (not a && (not b && not c)) ≡ not (a || (b || c))
proper_not true b c = refl
proper_not false true c = refl
proper_not false false true = refl
proper_not false false false = refl

proper_is : (r : ℕ) (d : List ℕ) → law.proper r d ≡ not (outside r (length d))
proper_is r d =
    let e1 : leb r 15 ≡ not (ltb 15 r) = grind (arith) in
    let e2 : leb 1 (length d) ≡ not (eqb (length d) 0) = grind (arith) in
    let e3 : leb (length d) 255 ≡ not (ltb 255 (length d)) = grind (arith) in
    let e4 = proper_not (ltb 15 r) (eqb (length d) 0) (ltb 255 (length d)) in
    cc

inside_short : (r k : ℕ) → outside r k ≡ false → k ≤ 255
inside_short r k e = grind (arith)

module _ {K : Type 0} (numbers : K → List ℕ) (s s' : Slots K) where
  abbrev es : List (Entry K Load)
  es = s.table.entries.now

  abbrev os : List ℕ
  os = s.store.octets.now

  pub became_view : (xs : List (Entry K Load)) (ys : List ℕ) → Became s s' xs ys → view numbers s' ≡ view_from numbers 0 ys xs
  unfolding view
  became_view xs ys b = ap (λ y. view_from numbers 0 y s'.table.entries.now) b.store ∙ ap (view_from numbers 0 ys) b.table

  module _ (key : K) (C T : ℕ) (f : Bool) (r : ℕ) (d : List ℕ) where
    abbrev st : Step
    st = step_for (timed_as numbers (numbers key)) f r (length d) es

    abbrev fr : Option ℕ
    fr = last_from is_free 0 None es

    either_way : (b p : Bool) → p ≡ not b → (b ≡ false → length d ≤ 255)
        → (cond b (law.declined 43) (answer_of C st fr es d) ≡ (law.piece_step C T (view_from numbers 0 os es) (numbers key) f r d p).1)
        × (view_from numbers 0 (cond b os (octets_after st fr d os)) (cond b es (entries_after st fr key T es)) ≡ (law.piece_step C T (view_from numbers 0 os es) (numbers key) f r d p).0)
    either_way true true e h = cc
    either_way true false e h = (refl, refl)
    either_way false false e h = cc
    either_way false true e h = all-agree numbers es os key C T d s.sound.1 s.sound.2 (h refl) f r

    pub took_in : Became s s' (piece_entries numbers key f r d es T) (piece_octets numbers key f r d es os)
        → (piece_answer numbers key f r d es C ≡ (law.step C T (view numbers s) (law.piece (numbers key) f r d)).1)
        × (view numbers s' ≡ (law.step C T (view numbers s) (law.piece (numbers key) f r d)).0)
    unfolding view
    took_in b =
        let w = either_way (outside r (length d)) (law.proper r d) (proper_is r d) (inside_short r (length d)) in
        (w.0, became_view _ _ b ∙ w.1)
