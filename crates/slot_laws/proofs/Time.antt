-- T ticks after a slot was opened, that opening is over.
use Rattle.std.proofs.Common.{◌≡◌, ℕ, zero, suc, ◌+◌, ◌<◌, ◌≤◌, ◌≢◌, ◌⊎◌, List, [], ◌∷◌, ◌++◌, map, length, get_or, set, sym, refl, ap, ◌∙◌, inl, inr, arith}
use Rattle.std.proofs.lemmas.List.{get_or-set_same, get_or-set_other}
use Rattle.std.proofs.lemmas.Bool.{cases_eq}
use Rattle.std.proofs.Math.ListN.{get_or-map}
use Rattle.slot_laws.specs.Machine.{Open, Slot, free, opened, whole, Receipt, Event, piece, tick, release, copy, Answer, restarts, breaks, hands, fresh, grown, aged, Step, older, age, receipt_for, step}
use Rattle.slot_laws.specs.Uses.{Use, counts_opened, slots_after, is_tick, tick_count, Ends, handed, broken, restarted, lapsed, Over, now_over, before, Opens, NoOpeningOutlives}
use Rattle.slot_laws.proofs.Does.{no, only, full, lost, out, Does, leaves, opening, again, breaking, adding, handing, ticking, freeing, does, untouched}

-- the slot i is open, with so many ticks
abbrev Runs : List Slot → ℕ → ℕ → Type 0
Runs ss i t = (o : Open) × (get_or ss i free ≡ opened o) × (o.ticks ≡ t)

-- a step that is no tick ends the opening in the slot i, or leaves it its ticks
abbrev Stays : ℕ → ℕ → Step → Type 0
Stays i t p = ((r : Receipt) × (p.1 ≡ hands r) × (r.slot ≡ i)) ⊎ ((p.1 ≡ breaks i) ⊎ ((p.1 ≡ restarts i) ⊎ Runs p.0 i t))

beside : (ss : List Slot) (i j t : ℕ) (v : Slot) → i ≢ j → Runs ss i t → Runs (set ss j v) i t
beside ss i j t v ne r = (r.0, get_or-set_other ss j i v free ne ∙ r.1, r.2)

stays : {C T : ℕ} {ss : List Slot} {e : Event} {p : Step} (i t : ℕ) → Does C T ss e p → is_tick e ≡ 0 → Runs ss i t → Stays i t p
stays i t (leaves e a q) z k = inr (inr (inr k))
stays {T = T} {ss = ss} i t (opening m d r j h e a) z k = inr (inr (inr (k.0, untouched ss j (opened (fresh T m r d)) i k.1 e (λ q. cc), k.2)))
stays {T = T} {ss = ss} i t (again m d r j o h e y) z k =
    elim (cases_eq i j) [ inl q ↦ inr (inr (inl (ap restarts (sym q)))) | inr ne ↦ inr (inr (inr (beside ss i j t (opened (fresh T m r d)) ne k))) ]
stays {ss = ss} i t (breaking m d r j o h e y) z k =
    elim (cases_eq i j) [ inl q ↦ inr (inl (ap breaks (sym q))) | inr ne ↦ inr (inr (inr (beside ss i j t free ne k))) ]
stays {ss = ss} i t (adding m d r j o h e y l) z k =
    let v = opened (grown o r d) in
    elim (cases_eq i j) [
      | inl q ↦
          (let w : k.0 ≡ o = (let f = k.1 in let g : get_or ss i free ≡ opened o = ap (λ n. get_or ss n free) q ∙ e in cc) in
          inr (inr (inr (grown o r d, ap (λ n. get_or (set ss j v) n free) q ∙ get_or-set_same ss j v free h, sym (ap (λ (x : Open). x.ticks) w) ∙ k.2))))
      | inr ne ↦ inr (inr (inr (beside ss i j t v ne k)))
    ]
stays {C = C} {ss = ss} i t (handing m d j o h e y l) z k =
    elim (cases_eq i j) [ inl q ↦ inl (receipt_for C j (o.octets ++ d), refl, sym q) | inr ne ↦ inr (inr (inr (beside ss i j t (whole (o.octets ++ d)) ne k))) ]
stays i t ticking z k = absurd (omega arith)
stays {ss = ss} i t (freeing q d h e) z k = inr (inr (inr (k.0, untouched ss q.slot free i k.1 e (λ f. cc), k.2)))

-- an event ends the opening, or leaves it one tick less if it is a tick
abbrev Lives : ℕ → ℕ → List Slot → ℕ → ℕ → Event → Type 0
Lives C T ss i t e = Ends C T ss i e ⊎ ((u : ℕ) × Runs (step C T ss e).0 i u × (u + is_tick e ≡ t) × (1 ≤ u))

lives_kept : (C T : ℕ) (ss : List Slot) (i t : ℕ) (e : Event) → 1 ≤ t → is_tick e ≡ 0 → Stays i t (step C T ss e) → Lives C T ss i t e
lives_kept C T ss i t e h z (inl a) = inl (handed a.0 a.1 a.2)
lives_kept C T ss i t e h z (inr (inl a)) = inl (broken a)
lives_kept C T ss i t e h z (inr (inr (inl a))) = inl (restarted a)
lives_kept C T ss i t e h z (inr (inr (inr k))) = inr (t, k, omega arith, h)

lives_tick : (C T : ℕ) (ss : List Slot) (i t u : ℕ) (o : Open) → 1 ≤ t → u ≡ t → get_or (map age ss) i free ≡ older o u → Lives C T ss i t tick
lives_tick C T ss i t zero o h q e = absurd (omega arith)
lives_tick C T ss i t (suc zero) o h q e = inl (lapsed e)
lives_tick C T ss i t (suc (suc v)) o h q e = inr (suc v, (aged o (suc v), e, refl), omega arith, omega arith)

lives : (C T : ℕ) (ss : List Slot) (i t : ℕ) (e : Event) → 1 ≤ t → Runs ss i t → Lives C T ss i t e
lives C T ss i t tick h k = lives_tick C T ss i t k.0.ticks k.0 h k.2 (get_or-map age ss i free ∙ ap age k.1)
lives C T ss i t (piece m f r d) h k = lives_kept C T ss i t _ h refl (stays i t (does C T ss (piece m f r d)) refl k)
lives C T ss i t (release r) h k = lives_kept C T ss i t _ h refl (stays i t (does C T ss (release r)) refl k)
lives C T ss i t (copy r n) h k = lives_kept C T ss i t _ h refl (inr (inr (inr k)))

-- an opening has T ticks
starts_at : (T : ℕ) (ss : List Slot) (m : List ℕ) (r : ℕ) (d : List ℕ) (i j : ℕ) → j < length ss → j ≡ i → Runs (set ss j (opened (fresh T m r d))) i T
starts_at T ss m r d i j h q = (fresh T m r d, ap (λ n. get_or (set ss j (opened (fresh T m r d))) n free) (sym q) ∙ get_or-set_same ss j (opened (fresh T m r d)) free h, refl)

not_opened : {i : ℕ} {a : Answer} → counts_opened a ≡ 0 → Opens i a → ⊥
not_opened z (inl e) = let f = ap counts_opened e in omega arith
not_opened z (inr e) = let f = ap counts_opened e in omega arith

starts : {C T : ℕ} {ss : List Slot} {e : Event} {p : Step} (i : ℕ) → Does C T ss e p → Opens i p.1 → Runs p.0 i T
starts {T = T} {ss = ss} i (opening m d r j h e a) (inl x) = starts_at T ss m r d i j h (cc)
starts i (opening m d r j h e a) (inr x) = cc
starts i (again m d r j o h e k) (inl x) = cc
starts {T = T} {ss = ss} i (again m d r j o h e k) (inr x) = starts_at T ss m r d i j h (cc)
starts i (leaves e a (no n)) x = absurd (not_opened refl x)
starts i (leaves e a (only d)) x = absurd (not_opened refl x)
starts i (leaves e a (full n)) x = absurd (not_opened refl x)
starts i (leaves e a lost) x = absurd (not_opened refl x)
starts i (leaves e a (out d)) x = absurd (not_opened refl x)
starts i (breaking m d r j o h e k) x = absurd (not_opened refl x)
starts i (adding m d r j o h e k l) x = absurd (not_opened refl x)
starts i (handing m d j o h e k l) x = absurd (not_opened refl x)
starts i ticking x = absurd (not_opened refl x)
starts i (freeing q d h e) x = absurd (not_opened refl x)

-- after g the opening is over, or it has T less the ticks of g left
abbrev Going : Use → List Event → ℕ → List Event → Type 0
Going u h i g = Over u h i g ⊎ ((t : ℕ) × Runs (slots_after u (g ++ h)) i t × (t + tick_count g ≡ u.ticks) × (1 ≤ t))

goes_on : (u : Use) (h g : List Event) (x : Event) (i t : ℕ) → t + tick_count g ≡ u.ticks → Lives u.code u.ticks (slots_after u (g ++ h)) i t x → Going u h i (x ∷ g)
goes_on u h g x i t q (inl e) = inl (now_over e)
goes_on u h g x i t q (inr l) = inr (l.0, l.1, omega arith, l.3)

going : (u : Use) (h : List Event) (i : ℕ) → 1 ≤ u.ticks → Runs (slots_after u h) i u.ticks → (g : List Event) → Going u h i g
going u h i p k [] = inr (u.ticks, k, omega arith, p)
going u h i p k (x ∷ g) = further (going u h i p k g)
  where
    further : Going u h i g → Going u h i (x ∷ g)
    further (inl o) = inl (before o)
    further (inr l) = goes_on u h g x i l.0 l.2 (lives u.code u.ticks (slots_after u (g ++ h)) i l.0 x l.3 l.1)

must_be_over : (u : Use) (h g : List Event) (i : ℕ) → u.ticks ≤ tick_count g → Going u h i g → Over u h i g
must_be_over u h g i le (inl o) = o
must_be_over u h g i le (inr l) = absurd (omega arith)

pub no_opening_outlives : (u : Use) → 1 ≤ u.ticks → NoOpeningOutlives u
no_opening_outlives u p h g e i x le = must_be_over u (e ∷ h) g i le (going u (e ∷ h) i p (starts i (does u.code u.ticks (slots_after u h) e) x) g)
