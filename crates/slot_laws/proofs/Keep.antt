-- A whole slot's unit was handed up there, and stays until it is released; and no call changes the number of slots.
use Rattle.std.proofs.Common.{◌≡◌, ℕ, zero, suc, ◌<◌, ◌≤◌, eqb, ◌⊎◌, List, [], ◌∷◌, ◌++◌, length, get_or, set, sym, refl, ap, ◌∙◌, inl, inr, arith}
use Rattle.std.proofs.lemmas.List.{get_or-set_other, length-set, length-map, length-replicate}
use Rattle.std.proofs.lemmas.Bool.{cases_eq, eq-eqb, le-leb, cond-true}
use Rattle.std.proofs.Math.ListN.{get_or-map}
use Rattle.slot_laws.specs.Machine.{Open, Slot, free, opened, whole, Receipt, Event, Answer, opens, restarts, breaks, holds, released, fresh, grown, Step, older, age, receipt_for, copied_if, copy_answer, step}
use Rattle.slot_laws.specs.Uses.{Use, slots_after, answer_to, Hands, HandedUp, Unreleased, OneSender, Kept}
use Rattle.slot_laws.proofs.Does.{no, only, full, lost, out, Does, leaves, opening, again, breaking, adding, handing, ticking, freeing, does, written, untouched}
use Rattle.slot_laws.proofs.Splice.{gives, handed_low, unspliced, all_free}

-- no call changes the number of slots
long : {C T : ℕ} {ss : List Slot} {e : Event} {p : Step} → Does C T ss e p → length p.0 ≡ length ss
long (leaves e a q) = refl
long {T = T} {ss = ss} (opening m d r i h e a) = length-set ss i (opened (fresh T m r d))
long {T = T} {ss = ss} (again m d r i o h e k) = length-set ss i (opened (fresh T m r d))
long {ss = ss} (breaking m d r i o h e k) = length-set ss i free
long {ss = ss} (adding m d r i o h e k l) = length-set ss i (opened (grown o r d))
long {ss = ss} (handing m d i o h e k l) = length-set ss i (whole (o.octets ++ d))
long {ss = ss} ticking = length-map ss age
long {ss = ss} (freeing q d h e) = length-set ss q.slot free

pub slots_long : (U : Use) (h : List Event) → length (slots_after U h) ≡ U.slots
slots_long U [] = length-replicate U.slots free
slots_long U (e ∷ h) = long (does U.code U.ticks (slots_after U h) e) ∙ slots_long U h

-- what is whole after a step was handed up by it, or was whole before and is not released by it
abbrev WholeFrom : List Slot → Step → Type 0
WholeFrom ss p = (i : ℕ) (x : List ℕ) → get_or p.0 i free ≡ whole x → ((r : Receipt) × (r.slot ≡ i) × Hands p r x) ⊎ ((get_or ss i free ≡ whole x) × (p.1 ≡ released i → ⊥))

-- what is whole before a step is released by it, or stays
abbrev WholeStays : List Slot → Step → Type 0
WholeStays ss p = (i : ℕ) (x : List ℕ) → get_or ss i free ≡ whole x → (p.1 ≡ released i) ⊎ (get_or p.0 i free ≡ whole x)

abbrev Keeps : List Slot → Step → Type 0
Keeps ss p = WholeFrom ss p × WholeStays ss p

keeps_same : (ss : List Slot) (a : Answer) → ((i : ℕ) → a ≡ released i → ⊥) → Keeps ss (ss, a)
keeps_same ss a n = ((λ i x e. inr (e, n i)), (λ i x e. inr e))

-- a slot that is not whole is written over with what is not whole
keeps_over : (ss : List Slot) (j : ℕ) (v s : Slot) (a : Answer) → j < length ss → get_or ss j free ≡ s → ((y : List ℕ) → s ≡ whole y → ⊥) → ((y : List ℕ) → v ≡ whole y → ⊥) → ((i : ℕ) → a ≡ released i → ⊥) → Keeps ss (set ss j v, a)
keeps_over ss j v s a h e ns nv n = (
  (λ i x g. elim (written ss j v i (whole x) h g) [ inl w ↦ absurd (nv x w.1) | inr w ↦ inr (w.1, n i) ]),
  (λ i x g. inr (untouched ss j v i g e (λ f. ns x (sym f)))),
)

older_whole : (o : Open) (t : ℕ) (x : List ℕ) → older o t ≡ whole x → ⊥
older_whole o zero x e = cc
older_whole o (suc zero) x e = cc
older_whole o (suc (suc t)) x e = cc

age_whole : (s : Slot) (x : List ℕ) → age s ≡ whole x → s ≡ whole x
age_whole free x e = e
age_whole (opened o) x e = absurd (older_whole o o.ticks x e)
age_whole (whole d) x e = e

pub released_inj : (i j : ℕ) → released i ≡ released j → i ≡ j
released_inj i j e = cc

kept_by : {C T : ℕ} {ss : List Slot} {e : Event} {p : Step} → Does C T ss e p → Keeps ss p
kept_by {ss = ss} (leaves e a (no n)) = keeps_same ss a (λ i f. cc)
kept_by {ss = ss} (leaves e a (only d)) = keeps_same ss a (λ i f. cc)
kept_by {ss = ss} (leaves e a (full n)) = keeps_same ss a (λ i f. cc)
kept_by {ss = ss} (leaves e a lost) = keeps_same ss a (λ i f. cc)
kept_by {ss = ss} (leaves e a (out d)) = keeps_same ss a (λ i f. cc)
kept_by {T = T} {ss = ss} (opening m d r j h e a) = keeps_over ss j (opened (fresh T m r d)) free (opens j) h e (λ y f. cc) (λ y f. cc) (λ i f. cc)
kept_by {T = T} {ss = ss} (again m d r j o h e k) = keeps_over ss j (opened (fresh T m r d)) (opened o) (restarts j) h e (λ y f. cc) (λ y f. cc) (λ i f. cc)
kept_by {ss = ss} (breaking m d r j o h e k) = keeps_over ss j free (opened o) (breaks j) h e (λ y f. cc) (λ y f. cc) (λ i f. cc)
kept_by {ss = ss} (adding m d r j o h e k l) = keeps_over ss j (opened (grown o r d)) (opened o) (holds j) h e (λ y f. cc) (λ y f. cc) (λ i f. cc)
kept_by {C} {ss = ss} (handing m d j o h e k l) =
    let v = whole (o.octets ++ d) in
    let rho = receipt_for C j (o.octets ++ d) in (
      (λ i x g. elim (written ss j v i (whole x) h g) [
        | inl w ↦ inl (rho, sym w.0, (refl, ap (λ n. get_or (set ss j v) n free) (sym w.0) ∙ g))
        | inr w ↦ inr (w.1, λ f. cc)
      ]),
      (λ i x g. inr (untouched ss j v i g e (λ f. cc))),
    )
kept_by {ss = ss} ticking = (
  (λ i x e. inr (age_whole (get_or ss i free) x (sym (get_or-map age ss i free) ∙ e), λ f. cc)),
  (λ i x e. inr (get_or-map age ss i free ∙ ap age e)),
)
kept_by {ss = ss} (freeing q d h e) = (
  (λ i x g. elim (written ss q.slot free i (whole x) h g) [ inl w ↦ (let f = w.1 in cc) | inr w ↦ inr (w.1, λ f. w.0 (released_inj i q.slot (sym f))) ]),
  (λ i x g. elim (cases_eq i q.slot) [ inl w ↦ inl (ap released (sym w)) | inr ne ↦ inr (get_or-set_other ss q.slot i free free ne ∙ g) ]),
)

pub keeps : (C T : ℕ) (ss : List Slot) (e : Event) → Keeps ss (step C T ss e)
keeps C T ss e = kept_by (does C T ss e)

-- nothing comes after the newest call
unreleased_new : (U : Use) (h : List Event) (k i : ℕ) → length h ≤ k → Unreleased U h k i
unreleased_new U [] k i le = tt
unreleased_new U (e ∷ h) k i le = ((λ lt r. absurd (omega arith)), unreleased_new U h k i (omega arith))

abbrev Origin : Use → List Event → ℕ → List ℕ → Type 0
Origin U h i x = (k : ℕ) × (r : Receipt) × (r.slot ≡ i) × HandedUp U h k r x × Unreleased U h k i

origin_step : (U : Use) (h : List Event) (e : Event) (i : ℕ) (x : List ℕ) → (get_or (slots_after U h) i free ≡ whole x → Origin U h i x)
    → ((r : Receipt) × (r.slot ≡ i) × Hands (step U.code U.ticks (slots_after U h) e) r x) ⊎ ((get_or (slots_after U h) i free ≡ whole x) × (answer_to U h e ≡ released i → ⊥))
    → Origin U (e ∷ h) i x
origin_step U h e i x ih (inl a) = (length h, a.0, a.1, inl (refl, a.2), ((λ lt q. absurd (omega arith)), unreleased_new U h (length h) i (omega arith)))
origin_step U h e i x ih (inr b) =
    let w = ih b.0 in
    (w.0, w.1, w.2, inr w.3, ((λ lt q. b.1 q), w.4))

origin : (U : Use) (h : List Event) (i : ℕ) (x : List ℕ) → get_or (slots_after U h) i free ≡ whole x → Origin U h i x
origin U [] i x g = let e = all_free U.slots i in cc
origin U (e ∷ h) i x g = origin_step U h e i x (origin U h i x) ((keeps U.code U.ticks (slots_after U h) e).0 i x g)

pub one_sender : (U : Use) → OneSender U
one_sender U h = let w = unspliced U h in (w.0, w.1, w.2, origin U h)

-- what a receipt tells
abbrev Told : Use → Receipt → List ℕ → Type 0
Told U r x = (r.code ≡ U.code) × (r.slot < U.slots) × (r.size ≡ length x)

told : (U : Use) (h : List Event) (k : ℕ) (r : Receipt) (x : List ℕ) → HandedUp U h k r x → Told U r x
told U [] k r x z = absurd z
told U (e ∷ h) k r x (inl p) =
    let w = gives U.code U.ticks (slots_after U h) e r p.1.0 in
    let f = w.is in
    let q : w.was.octets ++ w.load ≡ x = cc in
    let n = slots_long U h in
    let b = w.below in
    (w.ours, omega arith, w.long ∙ ap (λ (y : List ℕ). length y) q)
told U (e ∷ h) k r x (inr q) = told U h k r x q

stays_if : {A B : Type 0} → (A → ⊥) → A ⊎ B → B
stays_if n (inl a) = absurd (n a)
stays_if n (inr b) = b

stays : (U : Use) (h : List Event) (k : ℕ) (r : Receipt) (x : List ℕ) → HandedUp U h k r x → Unreleased U h k r.slot → get_or (slots_after U h) r.slot free ≡ whole x
stays U [] k r x z n = absurd z
stays U (e ∷ h) k r x (inl p) n = p.1.1
stays U (e ∷ h) k r x (inr q) n =
    stays_if (n.0 (handed_low U h k r x q)) ((keeps U.code U.ticks (slots_after U h) e).1 r.slot x (stays U h k r x q n.1))

pub kept : (U : Use) → Kept U
kept U h k r x z n =
    let t = told U h k r x z in
    let s = stays U h k r x z n in (
      t.0,
      t.1,
      t.2,
      s,
      λ room le.
          ap (copy_answer room) (cond-true (eqb r.code U.code) (get_or (slots_after U h) r.slot free) free (eq-eqb r.code U.code t.0) ∙ s)
          ∙ ap (copied_if x) (le-leb (length x) room le),
    )
