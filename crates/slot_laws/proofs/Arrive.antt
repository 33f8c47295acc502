-- A unit whose pieces come in order, in time and with room arrives entire.
use Rattle.std.proofs.Common.{◌≡◌, ℕ, zero, suc, ◌+◌, ◌-◌, ◌<◌, ◌≤◌, Bool, true, false, ◌&&◌, eqb, leb, ◌⊎◌, List, [], ◌∷◌, ◌++◌, length, get_or, set, Some, None, Option, sym, refl, ap, ◌∙◌, subst, inl, inr, arith, length-append}
use Rattle.std.proofs.lemmas.List.{get_or-set_same}
use Rattle.std.proofs.lemmas.Bool.{eq-eqb, le-leb, and_from}
use Rattle.std.proofs.Math.ListN.{get_or-map}
use Rattle.slot_laws.specs.Machine.{Open, Slot, free, opened, whole, Receipt, Event, piece, tick, release, copy, limit_of, Found, missing, found, look, next_free, here_free, last_free, fresh, grown, aged, Step, new_step, first_step, checked, follows_on, later_step, taken, proper, piece_step, older, age, receipt_for, step}
use Rattle.slot_laws.specs.Uses.{Use, slots_after, is_tick, tick_count, Hands, HandedUp, NotOf, Sent, begins, between, continues, ArrivesEntire}
use Rattle.slot_laws.proofs.Does.{Does, leaves, opening, again, breaking, adding, handing, ticking, freeing, does, untouched}
use Rattle.slot_laws.proofs.Keep.{slots_long, kept}
use Rattle.slot_laws.proofs.Look.{Looks, looks, Frees, frees, in_range}
use Rattle.slot_laws.proofs.Single.{Single, one_open_each}

-- the slot that is open under the mark is the one that the look-up finds
found_is : (m : List ℕ) (ss : List Slot) (f : Found) (i : ℕ) (o : Open) → Looks m ss f → Single ss → get_or ss i free ≡ opened o → o.mark ≡ m → f ≡ found i o
found_is m ss missing i o l s e k = absurd (l i o e k)
found_is m ss (found j p) i o l s e k =
    let q : i ≡ j = s i j o p e l.1 (k ∙ sym l.2) in
    let g : get_or ss i free ≡ opened p = ap (λ n. get_or ss n free) q ∙ l.1 in
    cc

older_is : (o : Open) (t u : ℕ) → t ≡ suc u → 1 ≤ u → older o t ≡ opened (aged o u)
older_is o t zero e h = absurd (omega arith)
older_is o t (suc u) e h = ap (older o) e

-- a piece of another mark, a release and a copy leave the slot
unmarked : (m n : List ℕ) (o p : Open) → (n ≡ m → ⊥) → o.mark ≡ m → p.mark ≡ n → opened o ≡ opened p → ⊥
unmarked m n o p ne k l e = ne (let q : o ≡ p = cc in sym l ∙ ap (λ (x : Open). x.mark) (sym q) ∙ k)

left : {C T : ℕ} {ss : List Slot} {e : Event} {p : Step} (m : List ℕ) (i : ℕ) (o : Open) → Does C T ss e p → NotOf m e → is_tick e ≡ 0 → get_or ss i free ≡ opened o → o.mark ≡ m → get_or p.0 i free ≡ opened o
left m i o (leaves e a q) n z g k = g
left {T = T} {ss = ss} m i o (opening l d r j h e a) n z g k = untouched ss j (opened (fresh T l r d)) i g e (λ q. cc)
left {T = T} {ss = ss} m i o (again l d r j p h e y) n z g k = untouched ss j (opened (fresh T l r d)) i g e (unmarked m l o p n k y)
left {ss = ss} m i o (breaking l d r j p h e y) n z g k = untouched ss j free i g e (unmarked m l o p n k y)
left {ss = ss} m i o (adding l d r j p h e y x) n z g k = untouched ss j (opened (grown p r d)) i g e (unmarked m l o p n k y)
left {ss = ss} m i o (handing l d j p h e y x) n z g k = untouched ss j (whole (p.octets ++ d)) i g e (unmarked m l o p n k y)
left m i o ticking n z g k = absurd (omega arith)
left {ss = ss} m i o (freeing q d h e) n z g k = untouched ss q.slot free i g e (λ f. cc)

-- a slot is open under m with these octets, remaining, limit and ticks
pub record Holds (m : List ℕ) (ss : List Slot) (d : List ℕ) (r L t : ℕ) : Type 0 where
  pub slot : ℕ
  pub held : Open
  pub at : get_or ss slot free ≡ opened held
  pub mark : held.mark ≡ m
  pub octets : held.octets ≡ d
  pub remaining : held.remaining ≡ r
  pub limit : held.limit ≡ L
  pub ticks : held.ticks ≡ t

holds_on : (C T : ℕ) (m : List ℕ) (ss : List Slot) (e : Event) (d : List ℕ) (r L t : ℕ) → NotOf m e → is_tick e ≡ 0 → Holds m ss d r L (t + is_tick e) → Holds m (step C T ss e).0 d r L t
holds_on C T m ss e d r L t ne z x =
    record { slot = x.slot; held = x.held; at = left m x.slot x.held (does C T ss e) ne z x.at x.mark; mark = x.mark; octets = x.octets; remaining = x.remaining; limit = x.limit; ticks = x.ticks ∙ omega arith }

undisturbed : (C T : ℕ) (m : List ℕ) (ss : List Slot) (e : Event) (d : List ℕ) (r L t : ℕ) → NotOf m e → Holds m ss d r L (t + is_tick e) → 1 ≤ t → Holds m (step C T ss e).0 d r L t
undisturbed C T m ss (piece n f k c) d r L t ne x h = holds_on C T m ss (piece n f k c) d r L t ne refl x
undisturbed C T m ss (release q) d r L t ne x h = holds_on C T m ss (release q) d r L t ne refl x
undisturbed C T m ss (copy q n) d r L t ne x h = holds_on C T m ss (copy q n) d r L t ne refl x
undisturbed C T m ss tick d r L t ne x h =
    let at = get_or-map age ss x.slot free ∙ ap age x.at ∙ older_is x.held x.held.ticks t (x.ticks ∙ omega arith) h in
    record { slot = x.slot; held = aged x.held t; at = at; mark = x.mark; octets = x.octets; remaining = x.remaining; limit = x.limit; ticks = refl }

-- a free slot is found where there is one
abbrev SomeFree : Option ℕ → Type 0
SomeFree None = ⊥
SomeFree (Some i) = Unit {0}

next_some : (f g : Option ℕ) → SomeFree f ⊎ SomeFree g → SomeFree (next_free f g)
next_some None g (inl x) = absurd x
next_some None g (inr y) = y
next_some (Some i) g z = tt

finds_free : (ss : List Slot) (i : ℕ) → i < length ss → get_or ss i free ≡ free → SomeFree (last_free ss)
finds_free [] i h e = absurd (omega arith)
finds_free (s ∷ ss) zero h e = next_some (last_free ss) (here_free s) (inr (subst (λ (x : Slot). SomeFree (here_free x)) (sym e) tt))
finds_free (s ∷ ss) (suc i) h e = next_some (last_free ss) (here_free s) (inl (finds_free ss i (omega arith) e))

is_proper : (r : ℕ) (d : List ℕ) → r ≤ 15 → 1 ≤ length d → length d ≤ 255 → proper r d ≡ true
is_proper r d a b c = and_from (leb r 15) (leb 1 (length d) && leb (length d) 255) (le-leb r 15 a) (and_from (leb 1 (length d)) (leb (length d) 255) (le-leb 1 (length d) b) (le-leb (length d) 255 c))

opened_at : (T : ℕ) (m : List ℕ) (ss : List Slot) (r : ℕ) (d : List ℕ) (i : ℕ) → i < length ss → Holds m (set ss i (opened (fresh T m r d))) d r (limit_of r (length d)) T
opened_at T m ss r d i h =
    record { slot = i; held = fresh T m r d; at = get_or-set_same ss i (opened (fresh T m r d)) free h; mark = refl; octets = refl; remaining = refl; limit = refl; ticks = refl }

opened_new : (T : ℕ) (m : List ℕ) (ss : List Slot) (r : ℕ) (d : List ℕ) (f : Option ℕ) → SomeFree f → Frees ss f → Holds m (new_step T ss m r d f).0 d r (limit_of r (length d)) T
opened_new T m ss r d None s l = absurd s
opened_new T m ss r d (Some i) s l = opened_at T m ss r d i l.0

opened_first : (T : ℕ) (m : List ℕ) (ss : List Slot) (r : ℕ) (d : List ℕ) (f : Found) → SomeFree (last_free ss) → Looks m ss f → Holds m (first_step T ss m r d f).0 d r (limit_of r (length d)) T
opened_first T m ss r d missing s v = opened_new T m ss r d (last_free ss) s (frees ss)
opened_first T m ss r d (found i o) s v = opened_at T m ss r d i v.0

opened_taken : (C T : ℕ) (m : List ℕ) (ss : List Slot) (r : ℕ) (d : List ℕ) → 1 ≤ r → SomeFree (last_free ss) → Holds m (taken C T ss m true r d).0 d r (limit_of r (length d)) T
opened_taken C T m ss zero d h s = absurd (omega arith)
opened_taken C T m ss (suc r) d h s = opened_first T m ss (suc r) d (look m ss) s (looks m ss)

opened_piece : (C T : ℕ) (m : List ℕ) (ss : List Slot) (r : ℕ) (d : List ℕ) (b : Bool) → b ≡ true → 1 ≤ r → SomeFree (last_free ss) → Holds m (piece_step C T ss m true r d b).0 d r (limit_of r (length d)) T
opened_piece C T m ss r d true e h s = opened_taken C T m ss r d h s
opened_piece C T m ss r d false e h s = cc

-- a later piece that follows on
piece_is : (C T : ℕ) (m : List ℕ) (ss : List Slot) (d c : List ℕ) (r L t : ℕ) (x : Holds m ss d (suc r) L t) → Single ss → r ≤ 15 → 1 ≤ length c → length c ≤ 255 → length (d ++ c) ≤ L → step C T ss (piece m false r c) ≡ checked C ss x.slot x.held r c true
piece_is C T m ss d c r L t x one a b b' le =
    let i = x.slot in
    let o = x.held in
    let on : follows_on o r c ≡ true = and_from (eqb o.remaining (suc r)) (leb (length (o.octets ++ c)) o.limit) (eq-eqb o.remaining (suc r) x.remaining) (le-leb (length (o.octets ++ c)) o.limit (omega (arith, ap (λ y. length (y ++ c)) x.octets, x.limit))) in
    ap (λ y. piece_step C T ss m false r c y) (is_proper r c a b b')
    ∙ ap (λ f. later_step C ss r c f) (found_is m ss (look m ss) i o (looks m ss) one x.at x.mark)
    ∙ ap (λ y. checked C ss i o r c y) on

grown_holds : (C T : ℕ) (m : List ℕ) (ss : List Slot) (d c : List ℕ) (r L t : ℕ) → 1 ≤ r → r ≤ 15 → 1 ≤ length c → length c ≤ 255 → length (d ++ c) ≤ L → Single ss → Holds m ss d (suc r) L t → Holds m (step C T ss (piece m false r c)).0 (d ++ c) r L t
grown_holds C T m ss d c zero L t p a b b' le one x = absurd (omega arith)
grown_holds C T m ss d c (suc r) L t p a b b' le one x =
    let i = x.slot in
    let o = x.held in
    let v = grown o (suc r) c in
    let y : Holds m (set ss i (opened v)) (d ++ c) (suc r) L t = record { slot = i; held = v; at = get_or-set_same ss i (opened v) free (in_range ss i (opened o) x.at (λ f. cc)); mark = x.mark; octets = ap (λ z. z ++ c) x.octets; remaining = refl; limit = x.limit; ticks = x.ticks } in
    subst (λ (q : Step). Holds m q.0 (d ++ c) (suc r) L t) (sym (piece_is C T m ss d c (suc r) L t x one a b b' le)) y

-- so far as the pieces have come, the slot holds them
so_far : (U : Use) (h : List Event) (m d0 : List ℕ) (r0 : ℕ) → 1 ≤ r0 → r0 ≤ 15 → 1 ≤ length d0 → length d0 ≤ 255 → SomeFree (last_free (slots_after U h))
    → {d : List ℕ} {r : ℕ} {g : List Event} → Sent m d0 r0 d r g → 1 ≤ r → length d ≤ limit_of r0 (length d0) → (t : ℕ) → 1 ≤ t → t + tick_count g ≡ U.ticks
    → (r ≤ r0) × Holds m (slots_after U (g ++ h)) d r (limit_of r0 (length d0)) t
so_far U h m d0 r0 p a b b' s begins hr le t ht q =
    (omega arith, subst (λ (u : ℕ). Holds m (step U.code U.ticks (slots_after U h) (piece m true r0 d0)).0 d0 r0 (limit_of r0 (length d0)) u) (omega arith) (opened_piece U.code U.ticks m (slots_after U h) r0 d0 (proper r0 d0) (is_proper r0 d0 a b b') p s))
so_far U h m d0 r0 p a b b' s (between d r g e x ne) hr le t ht q =
    let w = so_far U h m d0 r0 p a b b' s x hr le (t + is_tick e) (omega arith) (omega arith) in
    (w.0, undisturbed U.code U.ticks m (slots_after U (g ++ h)) e d r (limit_of r0 (length d0)) t ne w.1 ht)
so_far U h m d0 r0 p a b b' s (continues d c r g x l l') hr le t ht q =
    let w = so_far U h m d0 r0 p a b b' s x (omega arith) (omega (arith, length-append d c)) t ht (omega arith) in
    (omega (arith, w.0), grown_holds U.code U.ticks m (slots_after U (g ++ h)) d c r (limit_of r0 (length d0)) t hr (omega (arith, w.0)) l l' le (one_open_each U (g ++ h)) w.1)

handed_whole : (C T : ℕ) (m : List ℕ) (ss : List Slot) (d c : List ℕ) (L t : ℕ) → 1 ≤ length c → length c ≤ 255 → length (d ++ c) ≤ L → Single ss → Holds m ss d 1 L t → (q : Receipt) × Hands (step C T ss (piece m false 0 c)) q (d ++ c)
handed_whole C T m ss d c L t b b' le one x =
    let i = x.slot in
    let o = x.held in
    let v = whole (o.octets ++ c) in
    let rho = receipt_for C i (o.octets ++ c) in
    let y : Hands (checked C ss i o 0 c true) rho (d ++ c) = (refl, get_or-set_same ss i v free (in_range ss i (opened o) x.at (λ f. cc)) ∙ ap (λ z. whole (z ++ c)) x.octets) in
    (rho, subst (λ (q : Step). Hands q rho (d ++ c)) (sym (piece_is C T m ss d c 0 L t x one (omega arith) b b' le)) y)

still_handed : (U : Use) (h f : List Event) (k : ℕ) (r : Receipt) (x : List ℕ) → HandedUp U h k r x → HandedUp U (f ++ h) k r x
still_handed U h [] k r x z = z
still_handed U h (e ∷ f) k r x z = inr (still_handed U h f k r x z)

pub arrives_entire : (U : Use) → ArrivesEntire U
arrives_entire U h g m d0 d c r0 i p a b b' hi e s l l' le le' tk =
    let n = slots_long U h in
    let w = so_far U h m d0 r0 p a b b' (finds_free (slots_after U h) i (omega arith) e) s (omega arith) (omega (arith, length-append d c)) (U.ticks - tick_count g) (omega arith) (omega arith) in
    let z = handed_whole U.code U.ticks m (slots_after U (g ++ h)) d c (limit_of r0 (length d0)) (U.ticks - tick_count g) l l' (omega arith) (one_open_each U (g ++ h)) w.1 in (
      z.0,
      z.1.0,
      λ f room un fits.
          (kept U (f ++ (piece m false 0 c ∷ (g ++ h))) (length (g ++ h)) z.0 (d ++ c)
          (still_handed U (piece m false 0 c ∷ (g ++ h)) f (length (g ++ h)) z.0 (d ++ c) (inl (refl, z.1))) un).4 room fits,
    )
