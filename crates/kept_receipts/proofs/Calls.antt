-- Calls of the slots leave their receipts so that each can be spent.
use Rattle.std.proofs.Common.{◌≡◌, ℕ, zero, suc, ◌+◌, ◌<◌, arith, eqb, cond, false, ◌≢◌, List, [], ◌∷◌, ◌++◌, map, length, get_or, take, drop, true, refl, ap, ◌∙◌, sym, subst}
use Rattle.std.proofs.lemmas.List.{map-append, take-map, drop-map, get_or-map, length-map}
use Rattle.std.proofs.lemmas.Bool.{ne_eqb}
use Rattle.slot_laws.specs.Machine as law
use Rattle.timed_table.specs.declared.entry.Entry.{Entry}
use Rattle.timed_table.specs.declared.entry.Entry.TheVariants.{Free, Timed, Held}
use Rattle.slot_parts.specs.declared.load.Load.{Load}
use Rattle.slots.specs.declared.receipt.Receipt.{Receipt}
use Rattle.slots.specs.declared.answers.PieceAnswer.{PieceAnswer}
use Rattle.slots.specs.declared.answers.PieceAnswer.TheVariants as answer
use Rattle.slots.specs.Answers.{receipt_of, answered}
use Rattle.slots.specs.View.{view_one, view_from, view}
use Rattle.slots.specs.declared.alone.Slots.{Slots}
use Rattle.slots.specs.Opened.{step_of}
use Rattle.kept_receipts.specs.Receipts.{is_whole, spendable, kept, Kept}
use Rattle.kept_receipts.specs.Replies.{added}
use Rattle.kept_receipts.proofs.Spending.{Names, Apart, told, tests, stay_by, given_too, with_end, names_at, apart_there, without, takes, spent}

-- which slots are whole does not depend on what a mark means
whole_one : {K : Type 0} (m n : K → List ℕ) (i : ℕ) (os : List ℕ) (e : Entry K Load) → is_whole (view_one m i os e) ≡ is_whole (view_one n i os e)
whole_one m n i os Free = refl
whole_one m n i os (Timed key ticks load) = refl
whole_one m n i os (Held load) = refl

whole_from : {K : Type 0} (m n : K → List ℕ) (j : ℕ) (os : List ℕ) (es : List (Entry K Load)) (i : ℕ) → is_whole (get_or (view_from m j os es) i law.free) ≡ is_whole (get_or (view_from n j os es) i law.free)
whole_from m n j os [] i = refl
whole_from m n j os (e ∷ es) zero = whole_one m n j os e
whole_from m n j os (e ∷ es) (suc i) = whole_from m n (suc j) os es i

spendable_as : (C : ℕ) (ss tt' : List law.Slot) (rs : List law.Receipt) → ((i : ℕ) → is_whole (get_or ss i law.free) ≡ is_whole (get_or tt' i law.free)) → spendable C ss rs ≡ spendable C tt' rs
spendable_as C ss tt' [] h = refl
spendable_as C ss tt' (r ∷ rs) h =
    let a = h r.slot in
    let b = spendable_as C ss tt' rs h in
    cc

kept_seen : {K : Type 0} (m : K → List ℕ) (s : Slots K) (rs : List Receipt) → kept s rs ≡ spendable s.settings.code (view m s) (map receipt_of rs)
unfolding kept view
kept_seen m s rs = spendable_as s.settings.code _ _ (map receipt_of rs) (whole_from (λ _. []) m 0 s.store.octets.now s.table.entries.now)

-- what is spendable in the slots that are seen is kept
kept_from : {K : Type 0} (m : K → List ℕ) (s s' : Slots K) (tt' : List law.Slot) (rs : List Receipt)
    → s'.settings ≡ s.settings → view m s' ≡ tt' → spendable s.settings.code tt' (map receipt_of rs) ≡ true → Kept s' rs
kept_from m s s' tt' rs same after h =
    kept_seen m s' rs ∙ ap (λ x. spendable x.code (view m s') (map receipt_of rs)) same ∙ ap (λ x. spendable s.settings.code x (map receipt_of rs)) after ∙ h

-- whether an answer says that a slot was released
abbrev releases : law.Answer → ℕ
releases (law.declined n) = 0
releases (law.alone d) = 0
releases (law.refused c) = 0
releases (law.opens i) = 0
releases (law.restarts i) = 0
releases law.stray = 0
releases (law.breaks i) = 0
releases (law.holds i) = 0
releases (law.hands r) = 0
releases (law.lapses n) = 0
releases (law.released i) = 1
releases (law.copied d) = 0

plain : (a : law.Answer) (i : ℕ) → releases a ≡ 0 → a ≡ law.released i → ⊥
plain a i z e = let f = ap releases e in omega arith

-- a call that releases nothing
pub kept_on : {K : Type 0} (m : K → List ℕ) (s s' : Slots K) (e : law.Event) (rs : List Receipt)
    → s'.settings ≡ s.settings → view m s' ≡ (step_of m s e).0 → ((i : ℕ) → (step_of m s e).1 ≡ law.released i → ⊥) → Kept s rs → Kept s' rs
kept_on m s s' e rs same after n h =
    let a = told s.settings.code (view m s) (map receipt_of rs) (sym (kept_seen m s rs) ∙ h) in
    let b = stay_by s.settings.code s.settings.ticks (view m s) e (map receipt_of rs) n a in
    kept_from m s s' (step_of m s e).0 rs same after (tests s.settings.code (step_of m s e).0 (map receipt_of rs) b)

-- no receipt at all
pub none_kept : {K : Type 0} (s : Slots K) (rs : List Receipt) → rs ≡ [] → Kept s rs
unfolding kept
none_kept s rs e = ap (λ x. spendable s.settings.code (view (λ _. []) s) (map receipt_of x)) e

-- a tick releases nothing
pub ticked : {K : Type 0} (m : K → List ℕ) (s s' : Slots K) (n : ℕ) (rs : List Receipt)
    → s'.settings ≡ s.settings → view m s' ≡ (step_of m s law.tick).0 → law.lapses n ≡ (step_of m s law.tick).1 → Kept s rs → Kept s' rs
ticked m s s' n rs same after t h = kept_on m s s' law.tick rs same after (λ i q. plain (law.lapses n) i refl (t ∙ q)) h

-- a piece that is answered without a receipt releases nothing; a receipt in the answer can be spent too
pub taken_in : {K : Type 0} (m : K → List ℕ) (s s' : Slots K) (e : law.Event) (a : PieceAnswer Receipt) (rs : List Receipt)
    → s'.settings ≡ s.settings → view m s' ≡ (step_of m s e).0 → answered a ≡ (step_of m s e).1 → Kept s rs → Kept s' (added rs a)
taken_in m s s' e (answer.Alone unit) rs same after t h = kept_on m s s' e rs same after (λ i q. plain (answered (answer.Alone unit)) i refl (t ∙ q)) h
taken_in m s s' e answer.NoSlots rs same after t h = kept_on m s s' e rs same after (λ i q. plain (answered answer.NoSlots) i refl (t ∙ q)) h
taken_in m s s' e answer.NoneFree rs same after t h = kept_on m s s' e rs same after (λ i q. plain (answered answer.NoneFree) i refl (t ∙ q)) h
taken_in m s s' e (answer.Opened slot) rs same after t h = kept_on m s s' e rs same after (λ i q. plain (answered (answer.Opened slot)) i refl (t ∙ q)) h
taken_in m s s' e (answer.Restarted slot) rs same after t h = kept_on m s s' e rs same after (λ i q. plain (answered (answer.Restarted slot)) i refl (t ∙ q)) h
taken_in m s s' e answer.Stray rs same after t h = kept_on m s s' e rs same after (λ i q. plain (answered answer.Stray) i refl (t ∙ q)) h
taken_in m s s' e (answer.Broken slot) rs same after t h = kept_on m s s' e rs same after (λ i q. plain (answered (answer.Broken slot)) i refl (t ∙ q)) h
taken_in m s s' e (answer.Held slot) rs same after t h = kept_on m s s' e rs same after (λ i q. plain (answered (answer.Held slot)) i refl (t ∙ q)) h
taken_in m s s' e (answer.HandedUp r) rs same after t h =
    let a = told s.settings.code (view m s) (map receipt_of rs) (sym (kept_seen m s rs) ∙ h) in
    let b = given_too s.settings.code s.settings.ticks (view m s) e (map receipt_of rs) (receipt_of r) (sym t) a in
    kept_from m s s' (step_of m s e).0 (rs ++ r ∷ []) same after
    (subst (λ x. spendable s.settings.code (step_of m s e).0 x ≡ true) (sym (map-append receipt_of rs (r ∷ []))) (tests s.settings.code (step_of m s e).0 (map receipt_of rs ++ receipt_of r ∷ []) b))

-- a piece that is declined alters nothing
pub not_taken : {K : Type 0} (m : K → List ℕ) (s s' : Slots K) (e : law.Event) (n : ℕ) (rs : List Receipt)
    → s'.settings ≡ s.settings → view m s' ≡ (step_of m s e).0 → law.declined n ≡ (step_of m s e).1 → Kept s rs → Kept s' rs
not_taken m s s' e n rs same after t h = kept_on m s s' e rs same after (λ i q. plain (law.declined n) i refl (t ∙ q)) h

-- the receipt at a place: it is accepted, and the others are kept
abbrev Rest : List Receipt → ℕ → List Receipt
Rest rs k = take k rs ++ drop (k + 1) rs

rest_map : (rs : List Receipt) (k : ℕ) → map receipt_of (Rest rs k) ≡ take k (map receipt_of rs) ++ drop (suc k) (map receipt_of rs)
rest_map rs k =
    let one : k + 1 ≡ suc k = omega arith in
    map-append receipt_of (take k rs) (drop (k + 1) rs)
    ∙ ap (λ x. x ++ map receipt_of (drop (k + 1) rs)) (sym (take-map receipt_of k rs))
    ∙ ap (λ x. take k (map receipt_of rs) ++ x) (sym (drop-map receipt_of (k + 1) rs) ∙ ap (λ n. drop n (map receipt_of rs)) one)

names_one : {K : Type 0} (m : K → List ℕ) (s : Slots K) (rs : List Receipt) (k : ℕ) (d : Receipt) → k < length rs → Kept s rs → Names s.settings.code (view m s) (receipt_of (get_or rs k d))
names_one m s rs k d l h =
    let a = told s.settings.code (view m s) (map receipt_of rs) (sym (kept_seen m s rs) ∙ h) in
    let e = get_or-map receipt_of rs k d (receipt_of d) l in
    let k2 : k < length (map receipt_of rs) = omega (arith, length-map rs receipt_of) in
    subst (λ r. Names s.settings.code (view m s) r) e (names_at s.settings.code (view m s) k (map receipt_of rs) (receipt_of d) k2 a)

pub accepted : {K : Type 0} (m : K → List ℕ) (s : Slots K) (rs : List Receipt) (k : ℕ) (d r : Receipt) → k < length rs → r ≡ get_or rs k d → Kept s rs → (step_of m s (law.release (receipt_of r))).1 ≡ law.released r.slot
accepted m s rs k d r l e h =
    takes s.settings.code s.settings.ticks (view m s) (receipt_of r) (subst (λ q. Names s.settings.code (view m s) (receipt_of q)) (sym e) (names_one m s rs k d l h))

pub spends : {K : Type 0} (m : K → List ℕ) (s s' : Slots K) (rs : List Receipt) (k : ℕ) (d r : Receipt) → k < length rs → r ≡ get_or rs k d
    → s'.settings ≡ s.settings → view m s' ≡ (step_of m s (law.release (receipt_of r))).0 → Kept s rs → Kept s' (Rest rs k)
spends m s s' rs k d r l e same after h =
    let C = s.settings.code in
    let ss = view m s in
    let a = told C ss (map receipt_of rs) (sym (kept_seen m s rs) ∙ h) in
    let k2 : k < length (map receipt_of rs) = omega (arith, length-map rs receipt_of) in
    let there = apart_there C ss k (map receipt_of rs) (receipt_of d) k2 a in
    let q : get_or (map receipt_of rs) k (receipt_of d) ≡ receipt_of r = get_or-map receipt_of rs k d (receipt_of d) l ∙ ap receipt_of (sym e) in
    let apart_r = subst (λ x. Apart x.slot (take k (map receipt_of rs) ++ drop (suc k) (map receipt_of rs))) q there in
    let n = subst (λ x. Names C ss (receipt_of x)) (sym e) (names_one m s rs k d l h) in
    let b = spent C s.settings.ticks ss (receipt_of r) (take k (map receipt_of rs) ++ drop (suc k) (map receipt_of rs)) n apart_r (without C ss k (map receipt_of rs) a) in
    kept_from m s s' (step_of m s (law.release (receipt_of r))).0 (Rest rs k) same after
    (subst (λ x. spendable C (step_of m s (law.release (receipt_of r))).0 x ≡ true) (sym (rest_map rs k))
    (tests C (step_of m s (law.release (receipt_of r))).0 (take k (map receipt_of rs) ++ drop (suc k) (map receipt_of rs)) b))

pub declined_released : (n i : ℕ) → law.declined n ≡ law.released i → ⊥
declined_released n i e = plain (law.declined n) i refl e

-- a receipt that was taken out and comes back
pub put_back : {K : Type 0} (m : K → List ℕ) (s : Slots K) (rs : List Receipt) (k : ℕ) (d r : Receipt) → k < length rs → r ≡ get_or rs k d → Kept s rs → Kept s (Rest rs k ++ r ∷ [])
put_back m s rs k d r l e h =
    let C = s.settings.code in
    let ss = view m s in
    let a = told C ss (map receipt_of rs) (sym (kept_seen m s rs) ∙ h) in
    let rest = take k (map receipt_of rs) ++ drop (suc k) (map receipt_of rs) in
    let k2 : k < length (map receipt_of rs) = omega (arith, length-map rs receipt_of) in
    let q : get_or (map receipt_of rs) k (receipt_of d) ≡ receipt_of r = get_or-map receipt_of rs k d (receipt_of d) l ∙ ap receipt_of (sym e) in
    let apart_r = subst (λ x. Apart x.slot rest) q (apart_there C ss k (map receipt_of rs) (receipt_of d) k2 a) in
    let n = subst (λ x. Names C ss (receipt_of x)) (sym e) (names_one m s rs k d l h) in
    let b = with_end C ss rest (receipt_of r) (without C ss k (map receipt_of rs) a) n apart_r in
    let f : map receipt_of (Rest rs k ++ r ∷ []) ≡ rest ++ receipt_of r ∷ [] =
    map-append receipt_of (Rest rs k) (r ∷ []) ∙ ap (λ x. x ++ receipt_of r ∷ []) (rest_map rs k) in
    kept_from m s s ss (Rest rs k ++ r ∷ []) refl refl (subst (λ x. spendable C ss x ≡ true) (sym f) (tests C ss (rest ++ receipt_of r ∷ []) b))

pub taken_out : {K : Type 0} (m : K → List ℕ) (s : Slots K) (rs : List Receipt) (k : ℕ) → Kept s rs → Kept s (Rest rs k)
taken_out m s rs k h =
    let C = s.settings.code in
    let ss = view m s in
    let a = told C ss (map receipt_of rs) (sym (kept_seen m s rs) ∙ h) in
    kept_from m s s ss (Rest rs k) refl refl
    (subst (λ x. spendable C ss x ≡ true) (sym (rest_map rs k)) (tests C ss (take k (map receipt_of rs) ++ drop (suc k) (map receipt_of rs)) (without C ss k (map receipt_of rs) a)))

-- to slots of another code it is a stranger
pub strange : {K : Type 0} (m : K → List ℕ) (s other : Slots K) (rs : List Receipt) (k : ℕ) (d r : Receipt) → k < length rs → r ≡ get_or rs k d → Kept s rs
    → (s.settings.code ≢ other.settings.code) → (step_of m other (law.release (receipt_of r))).1 ≡ law.declined 51
strange m s other rs k d r l e h ne =
    let n = subst (λ x. Names s.settings.code (view m s) (receipt_of x)) (sym e) (names_one m s rs k d l h) in
    let t : eqb r.code other.settings.code ≡ false = ne_eqb r.code other.settings.code (λ x. ne (sym n.0 ∙ x)) in
    ap (λ b. (law.release_step (view m other) r.slot (cond b (get_or (view m other) r.slot law.free) law.free)).1) t

pub released_declined : (i n : ℕ) → law.released i ≡ law.declined n → ⊥
released_declined i n e = plain (law.declined n) i refl (sym e)
