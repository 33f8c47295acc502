-- Each unit is one mark's pieces, and no piece is in two units.
use Rattle.std.proofs.Common.{◌≡◌, ℕ, zero, suc, ◌<◌, ◌≤◌, Bool, true, false, cond, eqb, ◌≢◌, ◌⊎◌, List, [], ◌∷◌, ◌++◌, length, get_or, set, replicate, sym, refl, ap, ◌∙◌, subst, inl, inr, arith}
use Rattle.std.proofs.lemmas.List.{get_or-set_same}
use Rattle.std.proofs.lemmas.Bool.{eqb-true, eqb-false, eq-eqb, ne_eqb}
use Rattle.std.proofs.Math.ListN.{get_or-map}
use Rattle.slot_laws.specs.Machine.{Open, Slot, free, opened, whole, Receipt, Event, piece, tick, release, Answer, declined, alone, refused, opens, restarts, stray, breaks, holds, hands, lapses, released, copied, fresh, grown, aged, Step, older, age, receipt_for, step}
use Rattle.slot_laws.specs.Uses.{Use, slots_after, answer_to, Mem, Joined, first, next, Hands, HandedUp}
use Rattle.slot_laws.proofs.Does.{no, only, full, lost, out, Does, leaves, opening, again, breaking, adding, handing, ticking, freeing, does, written}

-- what an answer says of the pieces in a slot
data Deed : Type 0 where
  begun : ℕ → Deed
  added : ℕ → Deed
  ended : ℕ → Deed
  nothing : Deed

abbrev deed : Answer → Deed
deed (declined n) = nothing
deed (alone d) = nothing
deed (refused c) = nothing
deed (opens i) = begun i
deed (restarts i) = begun i
deed stray = nothing
deed (breaks i) = nothing
deed (holds i) = added i
deed (hands r) = ended r.slot
deed (lapses n) = nothing
deed (released i) = nothing
deed (copied d) = nothing

-- the numbers of the pieces in the slot i, the newest first
abbrev trail_step : Deed → ℕ → ℕ → List ℕ → List ℕ
trail_step (begun j) n i t = cond (eqb i j) (n ∷ []) t
trail_step (added j) n i t = cond (eqb i j) (n ∷ t) t
trail_step (ended j) n i t = cond (eqb i j) [] t
trail_step nothing n i t = t

abbrev trail : Use → List Event → ℕ → List ℕ
trail U [] i = []
trail U (e ∷ h) i = trail_step (deed (answer_to U h e)) (length h) i (trail U h i)

abbrev unit : Deed → ℕ → (ℕ → List ℕ) → List ℕ
unit (begun j) n t = []
unit (added j) n t = []
unit (ended j) n t = n ∷ t j
unit nothing n t = []

abbrev members : Use → List Event → ℕ → List ℕ
members U [] k = []
members U (e ∷ h) k = cond (eqb k (length h)) (unit (deed (answer_to U h e)) (length h) (trail U h)) (members U h k)

mem_pick : (x : ℕ) (b : Bool) (p q : List ℕ) → Mem x (cond b p q) → ((b ≡ true) × Mem x p) ⊎ ((b ≡ false) × Mem x q)
mem_pick x true p q m = inl (refl, m)
mem_pick x false p q m = inr (refl, m)

-- the deed puts the new piece into the slot i
abbrev Adds : Deed → ℕ → Type 0
Adds (begun j) i = i ≡ j
Adds (added j) i = i ≡ j
Adds (ended j) i = ⊥
Adds nothing i = ⊥

adds_one : (a : Deed) (i j : ℕ) → Adds a i → Adds a j → i ≡ j
adds_one (begun k) i j p q = omega arith
adds_one (added k) i j p q = omega arith
adds_one (ended k) i j p q = absurd p
adds_one nothing i j p q = absurd p

in_trail : (a : Deed) (n i x : ℕ) (t : List ℕ) → Mem x (trail_step a n i t) → ((x ≡ n) × Adds a i) ⊎ Mem x t
in_trail (begun j) n i x t m = grind (arith, mem_pick, eqb-true)
in_trail (added j) n i x t m = grind (arith, mem_pick, eqb-true)
in_trail (ended j) n i x t m = grind (arith, mem_pick, eqb-true)
in_trail nothing n i x t m = inr m

trail_low : (U : Use) (h : List Event) (i x : ℕ) → Mem x (trail U h i) → x < length h
trail_low U [] i x m = absurd m
trail_low U (e ∷ h) i x m = grind (arith, in_trail (deed (answer_to U h e)) (length h) i x (trail U h i) m, trail_low U h i x)

-- two slots share no piece
trails_apart : (U : Use) (h : List Event) (i j x : ℕ) → i ≢ j → Mem x (trail U h i) → Mem x (trail U h j) → ⊥
trails_apart U [] i j x ne p q = p
trails_apart U (e ∷ h) i j x ne p q = grind (arith, in_trail (deed (answer_to U h e)) (length h) i x (trail U h i) p, in_trail (deed (answer_to U h e)) (length h) j x (trail U h j) q, adds_one (deed (answer_to U h e)) i j, trail_low U h i x, trail_low U h j x, trails_apart U h i j x ne)

-- what a new unit has
in_unit : (a : Deed) (n x : ℕ) (t : ℕ → List ℕ) → Mem x (unit a n t) → (j : ℕ) × (a ≡ ended j) × ((x ≡ n) ⊎ Mem x (t j))
in_unit (begun j) n x t m = absurd m
in_unit (added j) n x t m = absurd m
in_unit (ended j) n x t m = (j, refl, m)
in_unit nothing n x t m = absurd m

in_members : (U : Use) (h : List Event) (e : Event) (k x : ℕ) → Mem x (members U (e ∷ h) k) → ((k ≡ length h) × Mem x (unit (deed (answer_to U h e)) (length h) (trail U h))) ⊎ Mem x (members U h k)
in_members U h e k x m = grind (arith, mem_pick x (eqb k (length h)) (unit (deed (answer_to U h e)) (length h) (trail U h)) (members U h k) m, eqb-true)

unit_low : (U : Use) (h : List Event) (a : Deed) (x : ℕ) → Mem x (unit a (length h) (trail U h)) → x ≤ length h
unit_low U h a x m = let u = in_unit a (length h) x (trail U h) m in let l = trail_low U h u.0 x in grind (arith, u.2)

members_low : (U : Use) (h : List Event) (k x : ℕ) → Mem x (members U h k) → x < length h
members_low U [] k x m = absurd m
members_low U (e ∷ h) k x m = grind (arith, in_members U h e k x m, unit_low U h (deed (answer_to U h e)) x, members_low U h k x)

-- after a unit is handed up, its slot has none of its pieces
emptied : (a : Deed) (n i j x : ℕ) (t : List ℕ) → a ≡ ended j → Mem x (trail_step a n i t) → (i ≢ j) × Mem x t
emptied (begun k) n i j x t e m = cc
emptied (added k) n i j x t e m = cc
emptied nothing n i j x t e m = cc
emptied (ended k) n i j x t e m = grind (arith, mem_pick x (eqb i k) [] t m, eqb-false)

-- no piece of a unit is in a slot
unit_trail : (U : Use) (h : List Event) (k j x : ℕ) → Mem x (members U h k) → Mem x (trail U h j) → ⊥
unit_trail U [] k j x p q = p
unit_trail U (e ∷ h) k j x p q =
    let a = deed (answer_to U h e) in
    elim (in_members U h e k x p) [
      | inl u ↦
          (let w = in_unit a (length h) x (trail U h) u.1 in
          let v = emptied a (length h) j w.0 x (trail U h j) w.1 q in
          grind (arith, w.2, trail_low U h j x v.1, trails_apart U h j w.0 x v.0 v.1))
      | inr u ↦ grind (arith, in_trail a (length h) j x (trail U h j) q, members_low U h k x u, unit_trail U h k j x u)
    ]

unit_old : (U : Use) (h : List Event) (a : Deed) (l x : ℕ) → Mem x (unit a (length h) (trail U h)) → Mem x (members U h l) → ⊥
unit_old U h a l x p q = let w = in_unit a (length h) x (trail U h) p in grind (arith, w.2, members_low U h l x q, unit_trail U h l w.0 x q)

no_two : (U : Use) (h : List Event) (k l x : ℕ) → Mem x (members U h k) → Mem x (members U h l) → k ≡ l
no_two U [] k l x p q = absurd p
no_two U (e ∷ h) k l x p q =
    grind (arith, in_members U h e k x p, in_members U h e l x q, unit_old U h (deed (answer_to U h e)) l x, unit_old U h (deed (answer_to U h e)) k x, no_two U h k l x)

-- a slot that is open after a tick was open before, with the same pieces
abbrev Elder : Slot → Open → Type 0
Elder s o = (q : Open) × (s ≡ opened q) × (o.mark ≡ q.mark) × (o.octets ≡ q.octets) × (o.remaining ≡ q.remaining)

elder_older : (q : Open) (t : ℕ) (o : Open) → older q t ≡ opened o → Elder (opened q) o
elder_older q zero o e = cc
elder_older q (suc zero) o e = cc
elder_older q (suc (suc t)) o e =
    let w : o ≡ aged q (suc t) = cc in
    (q, refl, ap (λ (x : Open). x.mark) w, ap (λ (x : Open). x.octets) w, ap (λ (x : Open). x.remaining) w)

pub elder : (s : Slot) (o : Open) → age s ≡ opened o → Elder s o
elder free o e = cc
elder (opened q) o e = elder_older q q.ticks o e
elder (whole d) o e = cc

weaken : (h : List Event) (m : List ℕ) (x : Event) {d : List ℕ} {r : ℕ} {is : List ℕ} → Joined h m d r is → Joined (x ∷ h) m d r is
weaken h m x (first d r i a) = first d r i (inr a)
weaken h m x (next d c r i is j b a) = next d c r i is (weaken h m x j) b (inr a)

-- what an open slot holds is joined from the pieces of its trail, where t was the trail before the call
module _ (h : List Event) (i : ℕ) (t : List ℕ) (o : Open) where
  abbrev Was : List Slot → Type 0
  Was ss = (q : Open) → get_or ss i free ≡ opened q → Joined h q.mark q.octets q.remaining t

  abbrev Now : Event → Answer → Type 0
  Now e a = Joined (e ∷ h) o.mark o.octets o.remaining (trail_step (deed a) (length h) i t)

  joined_fresh : (T : ℕ) (ss : List Slot) (m d : List ℕ) (r j : ℕ) → j < length ss → Was ss → get_or (set ss j (opened (fresh T m r d))) i free ≡ opened o → Now (piece m true r d) (opens j)
  joined_fresh T ss m d r j l ih g =
      elim (written ss j (opened (fresh T m r d)) i (opened o) l g) [
        | inl w ↦ (let x : fresh T m r d ≡ o = (let f = w.1 in cc) in rw (← x, eq-eqb i j w.0) (first d r (length h) (inl (refl, refl))))
        | inr w ↦ rw (ne_eqb i j w.0) (weaken h o.mark (piece m true r d) (ih o w.1))
      ]

  -- a slot that is shut, or is beside the one that is written
  joined_beside : (e : Event) (ss : List Slot) (v : Slot) (j : ℕ) → j < length ss → ((q : Open) → v ≡ opened q → ⊥) → Was ss → get_or (set ss j v) i free ≡ opened o → Joined (e ∷ h) o.mark o.octets o.remaining (cond (eqb i j) [] t)
  joined_beside e ss v j l n ih g =
      elim (written ss j v i (opened o) l g) [ inl w ↦ absurd (n o w.1) | inr w ↦ rw (ne_eqb i j w.0) (weaken h o.mark e (ih o w.1)) ]

  joined_as : {g : List Event} (q : Open) → o.mark ≡ q.mark → o.octets ≡ q.octets → o.remaining ≡ q.remaining → Joined g q.mark q.octets q.remaining t → Joined g o.mark o.octets o.remaining t
  joined_as q a b c j = rw (a, b, c) j

  joined_step : {C T : ℕ} {ss : List Slot} {e : Event} {p : Step} → Does C T ss e p → Was ss → ((k : ℕ) → Mem k t → k < length h) → get_or p.0 i free ≡ opened o → Now e p.1
  joined_step (leaves e a (no n)) ih low g = weaken h o.mark e (ih o g)
  joined_step (leaves e a (only d)) ih low g = weaken h o.mark e (ih o g)
  joined_step (leaves e a (full n)) ih low g = weaken h o.mark e (ih o g)
  joined_step (leaves e a lost) ih low g = weaken h o.mark e (ih o g)
  joined_step (leaves e a (out d)) ih low g = weaken h o.mark e (ih o g)
  joined_step {T = T} {ss = ss} (opening m d r j l e a) ih low g = joined_fresh T ss m d r j l ih g
  joined_step {T = T} {ss = ss} (again m d r j q l e k) ih low g = joined_fresh T ss m d r j l ih g
  joined_step {ss = ss} (breaking m d r j q l e k) ih low g =
      elim (written ss j free i (opened o) l g) [ inl w ↦ (let f = w.1 in cc) | inr w ↦ weaken h o.mark (piece m false r d) (ih o w.1) ]
  joined_step {ss = ss} (adding m d r j q l e k x) ih low g =
      elim (written ss j (opened (grown q r d)) i (opened o) l g) [
        | inl w ↦
            (let y : grown q r d ≡ o = (let f = w.1 in cc) in
            let was : Joined h q.mark q.octets (suc r) t = rw (← x) (ih q (ap (λ n. get_or ss n free) w.0 ∙ e)) in
            rw (← y, eq-eqb i j w.0) (next q.octets d r (length h) t (weaken h q.mark (piece m false r d) was) low (inl (refl, ap (λ z. piece z false r d) (sym k)))))
        | inr w ↦ rw (ne_eqb i j w.0) (weaken h o.mark (piece m false r d) (ih o w.1))
      ]
  joined_step {ss = ss} (handing m d j q l e k x) ih low g = joined_beside (piece m false 0 d) ss (whole (q.octets ++ d)) j l (λ y f. cc) ih g
  joined_step {ss = ss} ticking ih low g =
      let w = elder (get_or ss i free) o (sym (get_or-map age ss i free) ∙ g) in
      joined_as w.0 w.2 w.3 w.4 (weaken h w.0.mark tick (ih w.0 w.1))
  joined_step {ss = ss} (freeing q d l e) ih low g =
      elim (written ss q.slot free i (opened o) l g) [ inl w ↦ (let f = w.1 in cc) | inr w ↦ weaken h o.mark (release q) (ih o w.1) ]

pub all_free : (N i : ℕ) → get_or (replicate N free) i free ≡ free
all_free zero i = refl
all_free (suc N) zero = refl
all_free (suc N) (suc i) = all_free N i

joined : (U : Use) (h : List Event) (i : ℕ) (o : Open) → get_or (slots_after U h) i free ≡ opened o → Joined h o.mark o.octets o.remaining (trail U h i)
joined U [] i o g = let e = all_free U.slots i in cc
joined U (e ∷ h) i o g = joined_step h i (trail U h i) o (does U.code U.ticks (slots_after U h) e) (joined U h i) (trail_low U h i) g

-- a step that hands up: which receipt, which slot, which piece
pub record Given (C : ℕ) (e : Event) (ss : List Slot) (p : Step) (r : Receipt) : Type 0 where
  pub was : Open
  pub load : List ℕ
  pub at : get_or ss r.slot free ≡ opened was
  pub by : e ≡ piece was.mark false 0 load
  pub last : was.remaining ≡ 1
  pub is : get_or p.0 r.slot free ≡ whole (was.octets ++ load)
  pub below : r.slot < length ss
  pub ours : r.code ≡ C
  pub long : r.size ≡ length (was.octets ++ load)

given : {C T : ℕ} {ss : List Slot} {e : Event} {p : Step} (r : Receipt) → Does C T ss e p → p.1 ≡ hands r → Given C e ss p r
given r (leaves e a (no n)) g = cc
given r (leaves e a (only d)) g = cc
given r (leaves e a (full n)) g = cc
given r (leaves e a lost) g = cc
given r (leaves e a (out d)) g = cc
given r (opening m d n i h e a) g = cc
given r (again m d n i o h e k) g = cc
given r (breaking m d n i o h e k) g = cc
given r (adding m d n i o h e k x) g = cc
given {C} {ss = ss} r (handing m d i o h e k x) g =
    let u = o.octets ++ d in
    let q : receipt_for C i u ≡ r = cc in
    subst (λ (y : Receipt). Given C (piece m false 0 d) ss (set ss i (whole u), hands (receipt_for C i u)) y) q
    (record { was = o; load = d; at = e; by = ap (λ y. piece y false 0 d) (sym k); last = x; is = get_or-set_same ss i (whole u) free h; below = h; ours = refl; long = refl })
given r ticking g = cc
given r (freeing q d h e) g = cc

pub gives : (C T : ℕ) (ss : List Slot) (e : Event) (r : Receipt) → (step C T ss e).1 ≡ hands r → Given C e ss (step C T ss e) r
gives C T ss e r g = given r (does C T ss e) g

pub handed_low : (U : Use) (h : List Event) (k : ℕ) (r : Receipt) (x : List ℕ) → HandedUp U h k r x → k < length h
handed_low U [] k r x z = absurd z
handed_low U (e ∷ h) k r x (inl p) = omega (arith, p.0)
handed_low U (e ∷ h) k r x (inr q) = omega (arith, handed_low U h k r x q)

members_new : (U : Use) (h : List Event) (e : Event) (k : ℕ) (r : Receipt) → k ≡ length h → answer_to U h e ≡ hands r → members U (e ∷ h) k ≡ length h ∷ trail U h r.slot
members_new U h e k r q a = rw (eq-eqb k (length h) q) (ap (λ x. unit (deed x) (length h) (trail U h)) a)

members_old : (U : Use) (h : List Event) (e : Event) (k : ℕ) → k < length h → members U (e ∷ h) k ≡ members U h k
members_old U h e k q = rw (ne_eqb k (length h) (λ z. omega arith)) refl

some_pieces : {h : List Event} {m d : List ℕ} {r : ℕ} {ps : List ℕ} → Joined h m d r ps → 1 ≤ length ps
some_pieces (first d r p a) = omega arith
some_pieces (next d c r p ps j b a) = omega arith

-- the pieces of the unit that the call numbered k handed up
abbrev Made : Use → List Event → ℕ → List ℕ → Type 0
Made U h k x = (m : List ℕ) × (before-it : List ℕ) × (members U h k ≡ k ∷ before-it) × (1 ≤ length before-it) × Joined h m x 0 (k ∷ before-it)

unit_joined : (U : Use) (h : List Event) (e : Event) (k : ℕ) (r : Receipt) (x : List ℕ) → k ≡ length h → Hands (step U.code U.ticks (slots_after U h) e) r x → Made U (e ∷ h) k x
unit_joined U h e k r x q a =
    let j = r.slot in
    let w = gives U.code U.ticks (slots_after U h) e r a.0 in
    let o = w.was in
    let d = w.load in
    let was : Joined h o.mark o.octets 1 (trail U h j) = rw (← w.last) (joined U h j o w.at) in
    let new : Joined (e ∷ h) o.mark (o.octets ++ d) 0 (length h ∷ trail U h j) =
    next o.octets d 0 (length h) (trail U h j) (weaken h o.mark e was) (λ i. trail_low U h j i) (inl (refl, w.by)) in
    let at = w.is in
    let same-x : o.octets ++ d ≡ x = (let is = a.1 in cc) in
    (o.mark, trail U h j, members_new U h e k r q a.0 ∙ ap (λ n. n ∷ trail U h j) (sym q), some_pieces was, rw (q, ← same-x) new)

units_joined : (U : Use) (h : List Event) (k : ℕ) (r : Receipt) (x : List ℕ) → HandedUp U h k r x → Made U h k x
units_joined U [] k r x z = absurd z
units_joined U (e ∷ h) k r x (inl p) = unit_joined U h e k r x p.0 p.1
units_joined U (e ∷ h) k r x (inr q) =
    let w = units_joined U h k r x q in
    (w.0, w.1, members_old U h e k (handed_low U h k r x q) ∙ w.2, w.3, weaken h w.0 e w.4)

-- the pieces of each unit, and that no piece is in two
abbrev pub Unspliced : Use → List Event → Type 0
Unspliced U h =
    (pieces_of : ℕ → List ℕ)
    × ((k : ℕ) (r : Receipt) (x : List ℕ) → HandedUp U h k r x
    → (m : List ℕ) × (before-it : List ℕ) × (pieces_of k ≡ k ∷ before-it) × (1 ≤ length before-it) × Joined h m x 0 (k ∷ before-it))
    × ((k l p : ℕ) → Mem p (pieces_of k) → Mem p (pieces_of l) → k ≡ l)

pub unspliced : (U : Use) (h : List Event) → Unspliced U h
unspliced U h = (members U h, units_joined U h, no_two U h)
