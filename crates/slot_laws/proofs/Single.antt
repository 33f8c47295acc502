-- Under one mark at most one slot is open.
use Rattle.std.proofs.Common.{◌≡◌, ℕ, ◌<◌, ◌≢◌, List, [], ◌∷◌, ◌++◌, map, length, get_or, set, sym, refl, ap, ◌∙◌, inl, inr}
use Rattle.std.proofs.Math.ListN.{get_or-map}
use Rattle.slot_laws.specs.Machine.{Open, Slot, free, opened, whole, Event, fresh, grown, Step, age}
use Rattle.slot_laws.specs.Uses.{Use, slots_after, OneOpenEach}
use Rattle.slot_laws.proofs.Does.{Does, leaves, opening, again, breaking, adding, handing, ticking, freeing, does, written}
use Rattle.slot_laws.proofs.Splice.{all_free, elder}

abbrev pub Single : List Slot → Type 0
Single ss = (i j : ℕ) (o p : Open) → get_or ss i free ≡ opened o → get_or ss j free ≡ opened p → o.mark ≡ p.mark → i ≡ j

-- no open slot but the one at j has the mark m
abbrev Alone : List ℕ → ℕ → List Slot → Type 0
Alone m j ss = (i : ℕ) (o : Open) → i ≢ j → get_or ss i free ≡ opened o → o.mark ≡ m → ⊥

alone_at : (m : List ℕ) (j : ℕ) (ss : List Slot) (p : Open) → Single ss → get_or ss j free ≡ opened p → p.mark ≡ m → Alone m j ss
alone_at m j ss p s e q i o ne f r = ne (s i j o p f e (r ∙ sym q))

opened_mark : (v : Open) (o : Open) → opened v ≡ opened o → v.mark ≡ o.mark
opened_mark v o e = let x : v ≡ o = cc in ap (λ (y : Open). y.mark) x

single_open : (ss : List Slot) (j : ℕ) (v : Open) → j < length ss → Single ss → Alone v.mark j ss → Single (set ss j (opened v))
single_open ss j v h s a i k o p e f q =
    elim (written ss j (opened v) i (opened o) h e) [
      | inl x ↦ (elim (written ss j (opened v) k (opened p) h f) [
        | inl y ↦ x.0 ∙ sym y.0
        | inr y ↦ absurd (a k p y.0 y.1 (sym q ∙ sym (opened_mark v o x.1)))
      ])
      | inr x ↦ (elim (written ss j (opened v) k (opened p) h f) [
        | inl y ↦ absurd (a i o x.0 x.1 (q ∙ sym (opened_mark v p y.1)))
        | inr y ↦ s i k o p x.1 y.1 q
      ])
    ]

-- a slot that is shut
single_shut : (ss : List Slot) (j : ℕ) (v : Slot) → j < length ss → ((o : Open) → v ≡ opened o → ⊥) → Single ss → Single (set ss j v)
single_shut ss j v h n s i k o p e f q =
    elim (written ss j v i (opened o) h e) [
      | inl x ↦ absurd (n o x.1)
      | inr x ↦ (elim (written ss j v k (opened p) h f) [ inl y ↦ absurd (n p y.1) | inr y ↦ s i k o p x.1 y.1 q ])
    ]

single_age : (ss : List Slot) → Single ss → Single (map age ss)
single_age ss s i j o p e f q =
    let a = elder (get_or ss i free) o (sym (get_or-map age ss i free) ∙ e) in
    let b = elder (get_or ss j free) p (sym (get_or-map age ss j free) ∙ f) in
    s i j a.0 b.0 a.1 b.1 (sym a.2 ∙ q ∙ b.2)

single : {C T : ℕ} {ss : List Slot} {e : Event} {p : Step} → Does C T ss e p → Single ss → Single p.0
single (leaves e a q) s = s
single {T = T} {ss = ss} (opening m d r j h e a) s = single_open ss j (fresh T m r d) h s (λ i o ne f q. a i o f q)
single {T = T} {ss = ss} (again m d r j o h e k) s = single_open ss j (fresh T m r d) h s (alone_at m j ss o s e k)
single {ss = ss} (breaking m d r j o h e k) s = single_shut ss j free h (λ y f. cc) s
single {ss = ss} (adding m d r j o h e k l) s = single_open ss j (grown o r d) h s (alone_at o.mark j ss o s e refl)
single {ss = ss} (handing m d j o h e k l) s = single_shut ss j (whole (o.octets ++ d)) h (λ y f. cc) s
single {ss = ss} ticking s = single_age ss s
single {ss = ss} (freeing q d h e) s = single_shut ss q.slot free h (λ y f. cc) s

pub one_open_each : (U : Use) → OneOpenEach U
one_open_each U [] = λ i j o p e f q. let a = all_free U.slots i in cc
one_open_each U (x ∷ h) = single (does U.code U.ticks (slots_after U h) x) (one_open_each U h)
