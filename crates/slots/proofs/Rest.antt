-- What ticks, releases, copies and the opening do to the slots as they are seen.
use Rattle.std.proofs.Common.{◌≡◌, ℕ, zero, suc, ◌+◌, ◌-◌, ◌*◌, ◌<◌, ◌≤◌, Bool, true, false, cond, eqb, ltb, List, [], ◌∷◌, ◌++◌, map, length, get_or, take, drop, set, replicate, Some, None, Option, is_some, OnSome, Ok, Err, count_by, sym, refl, ap, ◌∙◌, subst, arith, take_at}
use Rattle.std.proofs.lemmas.Bool.{cond-true, le-leb, lt-leb}
use Rattle.std.proofs.lemmas.List.{length-take-le, length-drop}
use Rattle.std.proofs.lemmas.List.Sums.{sum_by-cons}
use Rattle.slot_laws.specs.Machine as law
use Rattle.timed_table.specs.declared.entry.Entry.{Entry}
use Rattle.timed_table.specs.declared.entry.Entry.TheVariants.{Free, Timed, Held}
use Rattle.timed_table.specs.Table.{ticked, lapses, is_timed, held_load}
use Rattle.slot_parts.specs.declared.load.Load.{Load}
use Rattle.slot_parts.specs.declared.refusals.CopyRefusal.TheVariants.{NotWhole, BufferShort}
use Rattle.slots.specs.declared.alone.Slots.{Slots}
use Rattle.slots.specs.Loads.{entry_ok}
use Rattle.slots.specs.Became.{Became}
use Rattle.slots.specs.Pieces.{named_load}
use Rattle.slots.specs.View.{view, view_from, view_one, copy_told, copy_out}
use Rattle.slots.proofs.Loads.{all_ok_at, load_bounds}
use Rattle.slots.proofs.Sim.{get_view, set_view, became_view}

taken_from : (o : Option Load) → is_some o ≡ true → (l : Load) × (Some l ≡ o)
taken_from None e = cc
taken_from (Some l) e = (l, refl)

-- what holds where there is a load, where it is this one
pub ok_in : (o : Option Load) (l : Load) (P : Type 0) → o ≡ Some l → OnSome o P → P
ok_in None l P e h = cc
ok_in (Some x) l P e h = h

module _ {K : Type 0} (numbers : K → List ℕ) where
  one_age : (i : ℕ) (os : List ℕ) (e : Entry K Load) → view_one numbers i os (ticked e) ≡ law.age (view_one numbers i os e)
  one_age i os Free = refl
  one_age i os (Held load) = refl
  one_age i os (Timed key zero load) = refl
  one_age i os (Timed key (suc zero) load) = refl
  one_age i os (Timed key (suc (suc t)) load) =
      let h : ltb 1 (suc (suc t)) ≡ true = grind (arith) in
      let z : suc (suc t) - 1 ≡ suc t = omega arith in
      ap (view_one numbers i os) (cond-true (ltb 1 (suc (suc t))) (Timed key (suc (suc t) - 1) load) Free h)
      ∙ ap (λ x. view_one numbers i os (Timed key x load)) z

  one_lapse : (i : ℕ) (os : List ℕ) (e : Entry K Load) → cond (lapses e) 1 0 ≡ law.one_lapses (view_one numbers i os e)
  one_lapse i os Free = refl
  one_lapse i os (Held load) = refl
  one_lapse i os (Timed key zero load) = refl
  one_lapse i os (Timed key (suc zero) load) = refl
  one_lapse i os (Timed key (suc (suc t)) load) =
      let h : ltb 1 (suc (suc t)) ≡ true = grind (arith) in
      ap (λ b. cond (cond b false true) 1 0) h

  ages : (i : ℕ) (os : List ℕ) (es : List (Entry K Load)) → view_from numbers i os (map ticked es) ≡ map law.age (view_from numbers i os es)
  ages i os [] = refl
  ages i os (e ∷ es) = let h = one_age i os e in let t = ages (suc i) os es in cc

  lapse_counts : (i : ℕ) (os : List ℕ) (es : List (Entry K Load)) → count_by lapses es ≡ law.lapse_count (view_from numbers i os es)
  lapse_counts i os [] = refl
  lapse_counts i os (e ∷ es) = let h = one_lapse i os e in let t = lapse_counts (suc i) os es in let q = sum_by-cons (λ (x : Entry K Load). cond (lapses x) 1 0) e es in omega arith

  one_open : (i : ℕ) (os : List ℕ) (e : Entry K Load) → cond (is_timed e) 1 0 ≡ law.one_open (view_one numbers i os e)
  one_open i os Free = refl
  one_open i os (Timed key ticks load) = refl
  one_open i os (Held load) = refl

  open_counts : (i : ℕ) (os : List ℕ) (es : List (Entry K Load)) → count_by is_timed es ≡ law.open_count (view_from numbers i os es)
  open_counts i os [] = refl
  open_counts i os (e ∷ es) = let h = one_open i os e in let t = open_counts (suc i) os es in let q = sum_by-cons (λ (x : Entry K Load). cond (is_timed x) 1 0) e es in omega arith

  -- the open slots, counted from the records
  pub counted : (s : Slots K) → count_by is_timed s.table.entries.now ≡ law.open_count (view numbers s)
  unfolding view
  counted s = open_counts 0 s.store.octets.now s.table.entries.now

  pub lapse_counted : (s : Slots K) (n : ℕ) → n ≡ count_by lapses s.table.entries.now → n ≡ law.lapse_count (view numbers s)
  unfolding view
  lapse_counted s n e = e ∙ lapse_counts 0 s.store.octets.now s.table.entries.now

  pub aged : (s s' : Slots K) → s'.table.entries.now ≡ map ticked s.table.entries.now → s'.store.octets.now ≡ s.store.octets.now → view numbers s' ≡ map law.age (view numbers s)
  unfolding view
  aged s s' t o = ap (λ os. view_from numbers 0 os s'.table.entries.now) o ∙ ap (view_from numbers 0 s.store.octets.now) t ∙ ages 0 s.store.octets.now s.table.entries.now

  frees : (i : ℕ) (os : List ℕ) (xs : List (Entry K Load)) → view_from numbers i os (map (λ _. Free) xs) ≡ replicate (length xs) law.free
  frees i os [] = refl
  frees i os (x ∷ xs) = ap (λ l. law.free ∷ l) (frees (suc i) os xs)

  pub all_free : (s : Slots K) (xs : List (Entry K Load)) (n : ℕ) → n ≤ length xs → s.table.entries.now ≡ map (λ _. Free) (take n xs) → view numbers s ≡ replicate n law.free
  unfolding view
  all_free s xs n h e =
      ap (view_from numbers 0 s.store.octets.now) e ∙ frees 0 s.store.octets.now (take n xs) ∙ ap (λ k. replicate k law.free) (length-take-le n xs h)

  -- the slot that a receipt names
  at_view : (s : Slots K) (i : ℕ) → get_or (view numbers s) i law.free ≡ view_one numbers i s.store.octets.now (get_or s.table.entries.now i Free)
  unfolding view
  at_view s i = get_view numbers 0 i i s.store.octets.now s.table.entries.now (omega arith)

  whole_named : (b : Bool) (i : ℕ) (os : List ℕ) (x : Entry K Load) (l : Load) → Some l ≡ cond b (held_load x) None → cond b (view_one numbers i os x) law.free ≡ law.whole (take l.len (drop (i * 3952) os))
  whole_named false i os x l e = cc
  whole_named true i os Free l e = cc
  whole_named true i os (Timed key t load) l e = cc
  whole_named true i os (Held load) l e = let z : load ≡ l = cc in ap (λ (y : Load). law.whole (take y.len (drop (i * 3952) os))) z

  -- what a slot that is not whole gives
  abbrev pub NotWholeSlot : law.Slot → Type 0
  NotWholeSlot x = ((ss : List law.Slot) (i : ℕ) → law.release_step ss i x ≡ (ss, law.declined 51)) × ((n : ℕ) → copy_told x n ≡ Err NotWhole) × ((n : ℕ) → law.copy_answer n x ≡ law.declined 51)

  free_not_whole : NotWholeSlot law.free
  free_not_whole = ((λ ss i. refl), (λ n. refl), (λ n. refl))

  not_named : (b : Bool) (i : ℕ) (os : List ℕ) (x : Entry K Load) → None ≡ cond b (held_load x) None → NotWholeSlot (cond b (view_one numbers i os x) law.free)
  not_named false i os x e = free_not_whole
  not_named true i os Free e = free_not_whole
  not_named true i os (Timed key t load) e = ((λ ss i. refl), (λ n. refl), (λ n. refl))
  not_named true i os (Held load) e = cc

  module _ (s : Slots K) (C : ℕ) (r : law.Receipt) where
    named-is : law.named C (view numbers s) r ≡ cond (eqb r.code C) (view_one numbers r.slot s.store.octets.now (get_or s.table.entries.now r.slot Free)) law.free
    named-is = ap (λ x. cond (eqb r.code C) x law.free) (at_view s r.slot)

    pub is_whole : (l : Load) → Some l ≡ named_load C r s.table.entries.now → law.named C (view numbers s) r ≡ law.whole (take l.len (drop (r.slot * 3952) s.store.octets.now))
    is_whole l e = named-is ∙ whole_named (eqb r.code C) r.slot s.store.octets.now (get_or s.table.entries.now r.slot Free) l e

    pub not_whole : None ≡ named_load C r s.table.entries.now → NotWholeSlot (law.named C (view numbers s) r)
    not_whole e = subst (λ (x : law.Slot). NotWholeSlot x) (sym named-is) (not_named (eqb r.code C) r.slot s.store.octets.now (get_or s.table.entries.now r.slot Free) e)

    pub freed : (s' : Slots K) → is_some (named_load C r s.table.entries.now) ≡ true → Became s s' (set s.table.entries.now r.slot Free) s.store.octets.now
        → (law.released r.slot ≡ (law.release_step (view numbers s) r.slot (law.named C (view numbers s) r)).1)
        × (view numbers s' ≡ (law.release_step (view numbers s) r.slot (law.named C (view numbers s) r)).0)
    unfolding view
    freed s' h b =
        let l = taken_from _ h in
        let w = is_whole l.0 l.1 in (
          sym (ap (λ x. (law.release_step (view numbers s) r.slot x).1) w),
          became_view numbers s s' (set s.table.entries.now r.slot Free) s.store.octets.now b
              ∙ set_view numbers 0 r.slot r.slot s.store.octets.now s.table.entries.now Free (omega arith)
              ∙ sym (ap (λ x. (law.release_step (view numbers s) r.slot x).0) w),
        )

  -- the unit of a whole slot lies within its stretch
  held_short : (b : Bool) (x : Entry K Load) (l : Load) → entry_ok x ≡ true → Some l ≡ cond b (held_load x) None → l.len ≤ 3952
  held_short false x l o e = cc
  held_short true Free l o e = cc
  held_short true (Timed key t load) l o e = cc
  held_short true (Held load) l o e =
      let b = load_bounds load o in
      let z : load ≡ l = cc in
      omega (arith, b.0, b.1, ap (λ (x : Load). x.len) z)

  pub within : (s : Slots K) (C : ℕ) (r : law.Receipt) (l : Load) → r.slot < length s.table.entries.now → Some l ≡ named_load C r s.table.entries.now
      → (r.slot < 16) × (r.slot * 3952 + l.len ≤ length s.store.octets.now) × (length (take l.len (drop (r.slot * 3952) s.store.octets.now)) ≡ l.len)
  within s C r l lt e =
      let p = s.sound in
      let i = r.slot in
      let few : length s.table.entries.now ≤ 16 = p.0 in
      let fits : length s.table.entries.now * 3952 ≤ length s.store.octets.now = p.1 in
      let h : l.len ≤ 3952 = held_short (eqb r.code C) (get_or s.table.entries.now i Free) l (all_ok_at s.table.entries.now i p.2) e in
      let d : length (drop (i * 3952) s.store.octets.now) ≡ length s.store.octets.now - i * 3952 = length-drop (i * 3952) s.store.octets.now in
      (omega arith, omega arith, length-take-le l.len (drop (i * 3952) s.store.octets.now) (omega arith))

  -- what a copy of a unit gives, from what is kept of its slot
  pub record Copied (s : Slots K) (C : ℕ) (r : law.Receipt) (l : Load) (buffer : List ℕ) : Type 0 where
    pub fits : r.slot * 3952 + l.len ≤ length s.store.octets.now
    pub low : r.slot < 16
    pub short : length buffer < l.len → (copy_told (law.named C (view numbers s) r) (length buffer) ≡ Err BufferShort) × (law.copy_answer (length buffer) (law.named C (view numbers s) r) ≡ law.declined 52)
    pub told : l.len ≤ length buffer → copy_told (law.named C (view numbers s) r) (length buffer) ≡ Ok l.len
    pub answer : l.len ≤ length buffer → law.copy_answer (length buffer) (law.named C (view numbers s) r) ≡ law.copied (take l.len (take l.len (drop (r.slot * 3952) s.store.octets.now) ++ drop l.len buffer))
    pub filled : copy_out (law.named C (view numbers s) r) (Ok l.len) buffer ≡ take l.len (drop (r.slot * 3952) s.store.octets.now) ++ drop l.len buffer

  pub copied : (s : Slots K) (C : ℕ) (r : law.Receipt) (l : Load) (buffer : List ℕ) (o : Option Load) → o ≡ Some l → o ≡ named_load C r s.table.entries.now → OnSome o (r.slot < length s.table.entries.now) → Copied s C r l buffer
  copied s C r l buffer o e v b =
      let w = is_whole s C r l (sym e ∙ v) in
      let i = within s C r l (ok_in o l _ e b) (sym e ∙ v) in
      let u = take l.len (drop (r.slot * 3952) s.store.octets.now) in
      let k : length u ≡ l.len = i.2 in
      let n = length buffer in
      record {
        fits = i.1;
        low = i.0;
        short = λ h. rw (w, lt-leb (length u) n (omega arith)) (refl, refl);
        told = λ h. rw (w, le-leb (length u) n (omega arith)) (ap Ok k);
        answer = λ h. rw (w, le-leb (length u) n (omega arith), take_at u (drop l.len buffer) l.len k) refl;
        filled = rw w refl;
      }
