-- What the look-ups find.
use Rattle.std.proofs.Common.{◌≡◌, ℕ, zero, suc, ◌<◌, Bool, true, false, cond, eqb, List, [], ◌∷◌, length, get_or, Some, None, Option, sym, refl, ap, ◌∙◌, inl, inr, arith}
use Rattle.std.proofs.lemmas.Bool.{eqb-true, and_parts, eq-eqb, cases_lt}
use Rattle.std.proofs.Math.ListN.{get_or-eq_default}
use Rattle.slot_laws.specs.Machine.{Open, Slot, free, opened, whole, Receipt, named, same, Found, missing, found, shift, pick, look, next_free, here_free, last_free}

pub same_eq : (a b : List ℕ) → same a b ≡ true → a ≡ b
same_eq [] [] e = refl
same_eq [] (y ∷ ys) e = cc
same_eq (x ∷ xs) [] e = cc
same_eq (x ∷ xs) (y ∷ ys) e =
    let p = and_parts (eqb x y) (same xs ys) e in
    let q : x ≡ y = eqb-true x y p.0 in
    let r : xs ≡ ys = same_eq xs ys p.1 in
    cc

pub same_refl : (a : List ℕ) → same a a ≡ true
same_refl [] = refl
same_refl (x ∷ xs) = rw (eq-eqb x x refl, same_refl xs) refl

same_not : (a b : List ℕ) → same a b ≡ false → a ≡ b → ⊥
same_not a b e q = let t : same b b ≡ true = same_refl b in let u : same a b ≡ same b b = ap (λ x. same x b) q in cc

-- no slot is open under the mark
abbrev pub AllOff : List ℕ → List Slot → Type 0
AllOff m ss = (i : ℕ) (o : Open) → get_or ss i free ≡ opened o → o.mark ≡ m → ⊥

-- what a look-up says of the slots
abbrev pub Looks : List ℕ → List Slot → Found → Type 0
Looks m ss missing = AllOff m ss
Looks m ss (found i o) = (i < length ss) × (get_or ss i free ≡ opened o) × (o.mark ≡ m)

looks_shift : (m : List ℕ) (s : Slot) (ss : List Slot) (f : Found) → ((o : Open) → s ≡ opened o → o.mark ≡ m → ⊥) → Looks m ss f → Looks m (s ∷ ss) (shift f)
looks_shift m s ss (found i o) n l = (omega arith, l.1, l.2)
looks_shift m s ss missing n l = off
  where
    off : AllOff m (s ∷ ss)
    off zero o e q = n o e q
    off (suc i) o e q = l i o e q

looks_pick : (m : List ℕ) (o : Open) (ss : List Slot) (b : Bool) (f : Found) → same o.mark m ≡ b → Looks m ss f → Looks m (opened o ∷ ss) (pick b o f)
looks_pick m o ss true f e l = (omega arith, refl, same_eq o.mark m e)
looks_pick m o ss false f e l = looks_shift m (opened o) ss f (λ p q k. same_not o.mark m e (let h : o ≡ p = cc in ap (λ (x : Open). x.mark) h ∙ k)) l

pub looks : (m : List ℕ) (ss : List Slot) → Looks m ss (look m ss)
looks m [] = λ i o e q. cc
looks m (free ∷ ss) = looks_shift m free ss (look m ss) (λ o e q. cc) (looks m ss)
looks m (whole d ∷ ss) = looks_shift m (whole d) ss (look m ss) (λ o e q. cc) (looks m ss)
looks m (opened o ∷ ss) = looks_pick m o ss (same o.mark m) (look m ss) refl (looks m ss)

-- what the search for a free slot says
abbrev pub Frees : List Slot → Option ℕ → Type 0
Frees ss None = Unit {0}
Frees ss (Some i) = (i < length ss) × (get_or ss i free ≡ free)

frees_here : (s : Slot) (ss : List Slot) → Frees (s ∷ ss) (here_free s)
frees_here free ss = (omega arith, refl)
frees_here (opened o) ss = tt
frees_here (whole d) ss = tt

frees_next : (s : Slot) (ss : List Slot) (f : Option ℕ) → Frees ss f → Frees (s ∷ ss) (next_free f (here_free s))
frees_next s ss None l = frees_here s ss
frees_next s ss (Some i) l = (omega arith, l.1)

pub frees : (ss : List Slot) → Frees ss (last_free ss)
frees [] = tt
frees (s ∷ ss) = frees_next s ss (last_free ss) (frees ss)

-- a slot that is not free is one that there is
pub in_range : (ss : List Slot) (i : ℕ) (s : Slot) → get_or ss i free ≡ s → (s ≡ free → ⊥) → i < length ss
in_range ss i s e n = elim (cases_lt i (length ss)) [ inl h ↦ h | inr k ↦ absurd (n (sym e ∙ get_or-eq_default ss free k)) ]

named_cond : (b : Bool) (s : Slot) (d : List ℕ) → cond b s free ≡ whole d → s ≡ whole d
named_cond true s d e = e
named_cond false s d e = cc

pub named_whole : (C : ℕ) (ss : List Slot) (r : Receipt) (d : List ℕ) → named C ss r ≡ whole d → (r.slot < length ss) × (get_or ss r.slot free ≡ whole d)
named_whole C ss r d e =
    let w = named_cond (eqb r.code C) (get_or ss r.slot free) d e in
    (in_range ss r.slot (whole d) w (λ f. cc), w)
