-- Receipts that can be spent stay so through every call that does not spend them.
use Rattle.std.proofs.Common.{◌≡◌, true, false, not, ◌&&◌, eqb, cond, ◌≢◌, ℕ, zero, suc, ◌<◌, List, [], ◌∷◌, ◌++◌, length, get_or, take, drop, sym, refl, ap, ◌∙◌, inl, inr, arith, subst}
use Rattle.slot_laws.specs.Machine.{Open, Slot, free, opened, whole, Receipt, Event, release, Answer, released, hands, named, release_step, step}
use Rattle.std.proofs.lemmas.Bool.{and_parts, and_from, eqb-true, eq-eqb, ne_eqb}
use Rattle.slot_laws.proofs.Keep.{keeps, released_inj}
use Rattle.slot_laws.proofs.Splice.{gives}
use Rattle.kept_receipts.specs.Receipts.{is_whole, names, apart, spendable}

false_true : false ≡ true → ⊥
false_true e = cc

-- the tests as facts
abbrev pub Names : ℕ → List Slot → Receipt → Type 0
Names C ss r = (r.code ≡ C) × (is_whole (get_or ss r.slot free) ≡ true)

abbrev pub Apart : ℕ → List Receipt → Type 0
Apart i [] = Unit {0}
Apart i (q ∷ qs) = (i ≢ q.slot) × Apart i qs

abbrev pub Spendable : ℕ → List Slot → List Receipt → Type 0
Spendable C ss [] = Unit {0}
Spendable C ss (r ∷ rs) = Names C ss r × (Apart r.slot rs × Spendable C ss rs)

names_told : (C : ℕ) (ss : List Slot) (r : Receipt) → names C ss r ≡ true → Names C ss r
names_told C ss r h =
    let p = and_parts (eqb r.code C) (is_whole (get_or ss r.slot free)) h in
    (eqb-true r.code C p.0, p.1)

names_tests : (C : ℕ) (ss : List Slot) (r : Receipt) → Names C ss r → names C ss r ≡ true
names_tests C ss r h = and_from (eqb r.code C) (is_whole (get_or ss r.slot free)) (eq-eqb r.code C h.0) h.1

unlike_told : (i j : ℕ) → not (eqb i j) ≡ true → (i ≢ j)
unlike_told i j h e = false_true (ap not (sym (eq-eqb i j e)) ∙ h)

unlike_tests : (i j : ℕ) → (i ≢ j) → not (eqb i j) ≡ true
unlike_tests i j n = ap not (ne_eqb i j n)

apart_told : (i : ℕ) (rs : List Receipt) → apart i rs ≡ true → Apart i rs
apart_told i [] h = tt
apart_told i (q ∷ qs) h =
    let p = and_parts (not (eqb i q.slot)) (apart i qs) h in
    (unlike_told i q.slot p.0, apart_told i qs p.1)

apart_tests : (i : ℕ) (rs : List Receipt) → Apart i rs → apart i rs ≡ true
apart_tests i [] h = refl
apart_tests i (q ∷ qs) h = and_from (not (eqb i q.slot)) (apart i qs) (unlike_tests i q.slot h.0) (apart_tests i qs h.1)

pub told : (C : ℕ) (ss : List Slot) (rs : List Receipt) → spendable C ss rs ≡ true → Spendable C ss rs
told C ss [] h = tt
told C ss (r ∷ rs) h =
    let p = and_parts (names C ss r) (apart r.slot rs && spendable C ss rs) h in
    let q = and_parts (apart r.slot rs) (spendable C ss rs) p.1 in
    (names_told C ss r p.0, (apart_told r.slot rs q.0, told C ss rs q.1))

pub tests : (C : ℕ) (ss : List Slot) (rs : List Receipt) → Spendable C ss rs → spendable C ss rs ≡ true
tests C ss [] h = refl
tests C ss (r ∷ rs) h =
    and_from (names C ss r) (apart r.slot rs && spendable C ss rs) (names_tests C ss r h.0)
    (and_from (apart r.slot rs) (spendable C ss rs) (apart_tests r.slot rs h.1.0) (tests C ss rs h.1.1))

whole_of : (s : Slot) → is_whole s ≡ true → (x : List ℕ) × (s ≡ whole x)
whole_of free e = absurd (false_true e)
whole_of (opened o) e = absurd (false_true e)
whole_of (whole d) e = (d, refl)

-- a call that does not release its slot leaves what a receipt names
names_after : (C T : ℕ) (ss : List Slot) (e : Event) (r : Receipt) → ((step C T ss e).1 ≡ released r.slot → ⊥) → Names C ss r → Names C (step C T ss e).0 r
names_after C T ss e r n h =
    let w = whole_of (get_or ss r.slot free) h.1 in
    elim ((keeps C T ss e).1 r.slot w.0 w.1) [
      | inl k ↦ absurd (n k)
      | inr k ↦ (h.0, ap is_whole k)
    ]

-- a call that releases none of their slots leaves them as they are
abbrev Unspent : Answer → List Receipt → Type 0
Unspent a [] = Unit {0}
Unspent a (r ∷ rs) = (a ≡ released r.slot → ⊥) × Unspent a rs

stay : (C T : ℕ) (ss : List Slot) (e : Event) (rs : List Receipt) → Unspent (step C T ss e).1 rs → Spendable C ss rs → Spendable C (step C T ss e).0 rs
stay C T ss e [] u h = tt
stay C T ss e (r ∷ rs) u h = (names_after C T ss e r u.0 h.0, (h.1.0, stay C T ss e rs u.1 h.1.1))

unspent_by : (a : Answer) (rs : List Receipt) → ((i : ℕ) → a ≡ released i → ⊥) → Unspent a rs
unspent_by a [] n = tt
unspent_by a (r ∷ rs) n = (n r.slot, unspent_by a rs n)

pub stay_by : (C T : ℕ) (ss : List Slot) (e : Event) (rs : List Receipt) → ((i : ℕ) → (step C T ss e).1 ≡ released i → ⊥) → Spendable C ss rs → Spendable C (step C T ss e).0 rs
stay_by C T ss e rs n h = stay C T ss e rs (unspent_by (step C T ss e).1 rs n) h

-- a receipt that a call gives names a slot that was open: none of those before
apart_from : (C : ℕ) (ss : List Slot) (i : ℕ) (o : Open) (rs : List Receipt) → get_or ss i free ≡ opened o → Spendable C ss rs → Apart i rs
apart_from C ss i o [] e h = tt
apart_from C ss i o (r ∷ rs) e h =
    ((λ q. false_true (sym (ap is_whole (ap (λ n. get_or ss n free) (sym q) ∙ e)) ∙ h.0.1)), apart_from C ss i o rs e h.1.1)

apart_end : (i : ℕ) (rs : List Receipt) (r : Receipt) → Apart i rs → (i ≢ r.slot) → Apart i (rs ++ r ∷ [])
apart_end i [] r h n = (n, tt)
apart_end i (q ∷ qs) r h n = (h.0, apart_end i qs r h.1 n)

pub with_end : (C : ℕ) (ss : List Slot) (rs : List Receipt) (r : Receipt) → Spendable C ss rs → Names C ss r → Apart r.slot rs → Spendable C ss (rs ++ r ∷ [])
with_end C ss [] r h n a = (n, (tt, tt))
with_end C ss (q ∷ qs) r h n a = (h.0, (apart_end q.slot qs r h.1.0 (λ e. a.0 (sym e)), with_end C ss qs r h.1.1 n a.1))

hands_released : (r : Receipt) (i : ℕ) → hands r ≡ released i → ⊥
hands_released r i e = cc

pub given_too : (C T : ℕ) (ss : List Slot) (e : Event) (rs : List Receipt) (r : Receipt) → (step C T ss e).1 ≡ hands r → Spendable C ss rs → Spendable C (step C T ss e).0 (rs ++ r ∷ [])
given_too C T ss e rs r a h =
    let w = gives C T ss e r a in
    with_end C (step C T ss e).0 rs r
    (stay_by C T ss e rs (λ i q. hands_released r i (sym a ∙ q)) h)
    (w.ours, ap is_whole w.is)
    (apart_from C ss r.slot w.was rs w.at h)

-- the receipts without the one at a place
apart_without : (i k : ℕ) (rs : List Receipt) → Apart i rs → Apart i (take k rs ++ drop (suc k) rs)
apart_without i zero [] h = tt
apart_without i zero (q ∷ qs) h = h.1
apart_without i (suc k) [] h = tt
apart_without i (suc k) (q ∷ qs) h = (h.0, apart_without i k qs h.1)

apart_at : (i k : ℕ) (rs : List Receipt) (d : Receipt) → k < length rs → Apart i rs → (i ≢ (get_or rs k d).slot)
apart_at i k [] d l h = absurd (omega arith)
apart_at i zero (q ∷ qs) d l h = h.0
apart_at i (suc k) (q ∷ qs) d l h = apart_at i k qs d (omega arith) h.1

pub names_at : (C : ℕ) (ss : List Slot) (k : ℕ) (rs : List Receipt) (d : Receipt) → k < length rs → Spendable C ss rs → Names C ss (get_or rs k d)
names_at C ss k [] d l h = absurd (omega arith)
names_at C ss zero (q ∷ qs) d l h = h.0
names_at C ss (suc k) (q ∷ qs) d l h = names_at C ss k qs d (omega arith) h.1.1

pub apart_there : (C : ℕ) (ss : List Slot) (k : ℕ) (rs : List Receipt) (d : Receipt) → k < length rs → Spendable C ss rs → Apart (get_or rs k d).slot (take k rs ++ drop (suc k) rs)
apart_there C ss k [] d l h = absurd (omega arith)
apart_there C ss zero (q ∷ qs) d l h = h.1.0
apart_there C ss (suc k) (q ∷ qs) d l h =
    ((λ e. apart_at q.slot k qs d (omega arith) h.1.0 (sym e)), apart_there C ss k qs d (omega arith) h.1.1)

pub without : (C : ℕ) (ss : List Slot) (k : ℕ) (rs : List Receipt) → Spendable C ss rs → Spendable C ss (take k rs ++ drop (suc k) rs)
without C ss zero [] h = tt
without C ss zero (q ∷ qs) h = h.1.1
without C ss (suc k) [] h = tt
without C ss (suc k) (q ∷ qs) h = (h.0, (apart_without q.slot k qs h.1.0, without C ss k qs h.1.1))

-- spending one leaves the others
named_is : (C : ℕ) (ss : List Slot) (r : Receipt) → Names C ss r → named C ss r ≡ get_or ss r.slot free
named_is C ss r h = ap (λ b. cond b (get_or ss r.slot free) free) (eq-eqb r.code C h.0)

unspent_apart : (i : ℕ) (rs : List Receipt) → Apart i rs → Unspent (released i) rs
unspent_apart i [] h = tt
unspent_apart i (q ∷ qs) h = ((λ e. h.0 (released_inj i q.slot e)), unspent_apart i qs h.1)

pub takes : (C T : ℕ) (ss : List Slot) (r : Receipt) → Names C ss r → (step C T ss (release r)).1 ≡ released r.slot
takes C T ss r h =
    let w = whole_of (get_or ss r.slot free) h.1 in
    ap (λ s. (release_step ss r.slot s).1) (named_is C ss r h ∙ w.1)

pub spent : (C T : ℕ) (ss : List Slot) (r : Receipt) (rs : List Receipt) → Names C ss r → Apart r.slot rs → Spendable C ss rs → Spendable C (step C T ss (release r)).0 rs
spent C T ss r rs n a h =
    stay C T ss (release r) rs (subst (λ x. Unspent x rs) (sym (takes C T ss r n)) (unspent_apart r.slot rs a)) h
