-- Lists of numbers with one more at the end.
use Rattle.std.proofs.Common.{◌≡◌, ℕ, Bool, true, false, ◌&&◌, eqb, List, [], ◌∷◌, ◌++◌, sym, refl, ap, ◌∙◌, arith}
use Rattle.timed_table.specs.Marks.{same_numbers}

and_false : (b : Bool) → (b && false) ≡ false
and_false true = refl
and_false false = refl

and_swap : (a b c : Bool) → (a && (b && c)) ≡ (b && (a && c))
and_swap true b c = refl
and_swap false true c = refl
and_swap false false c = refl

left_short : (ys : List ℕ) (q : ℕ) → same_numbers [] (ys ++ (q ∷ [])) ≡ false
left_short [] q = refl
left_short (y ∷ ys) q = refl

right_short : (xs : List ℕ) (p : ℕ) → same_numbers (xs ++ (p ∷ [])) [] ≡ false
right_short [] p = refl
right_short (x ∷ xs) p = refl

pub same_ends : (xs ys : List ℕ) (p q : ℕ) → same_numbers (xs ++ (p ∷ [])) (ys ++ (q ∷ [])) ≡ (eqb p q && same_numbers xs ys)
same_ends [] [] p q = refl
same_ends [] (y ∷ ys) p q = ap (λ b. eqb p y && b) (left_short ys q) ∙ and_false (eqb p y) ∙ sym (and_false (eqb p q))
same_ends (x ∷ xs) [] p q = ap (λ b. eqb x q && b) (right_short xs p) ∙ and_false (eqb x q) ∙ sym (and_false (eqb p q))
same_ends (x ∷ xs) (y ∷ ys) p q = ap (λ b. eqb x y && b) (same_ends xs ys p q) ∙ and_swap (eqb x y) (eqb p q) (same_numbers xs ys)

no_end : (ys : List ℕ) (p q : ℕ) (y : ℕ) → (p ∷ []) ≡ y ∷ (ys ++ (q ∷ [])) → ⊥
no_end [] p q y e = let z : ◌≡◌ {A = ℕ} 0 1 = cc in omega arith
no_end (x ∷ ys) p q y e = let z : ◌≡◌ {A = ℕ} 0 1 = cc in omega arith

-- equal lists with one more at the end have equal ends and equal fronts
pub ends_tell : (xs ys : List ℕ) (p q : ℕ) → xs ++ (p ∷ []) ≡ ys ++ (q ∷ []) → (xs ≡ ys) × (p ≡ q)
ends_tell [] [] p q e = (refl, cc)
ends_tell [] (y ∷ ys) p q e = absurd (no_end ys p q y e)
ends_tell (x ∷ xs) [] p q e = absurd (no_end xs q p x (sym e))
ends_tell (x ∷ xs) (y ∷ ys) p q e =
    let h : x ≡ y = cc in
    let t : xs ++ (p ∷ []) ≡ ys ++ (q ∷ []) = cc in
    let w = ends_tell xs ys p q t in
    let w0 : xs ≡ ys = w.0 in
    (cc, w.1)
