-- The first and the last place at which a test holds, against the library's words.
use Rattle.std.proofs.Common.{◌≡◌, ℕ, zero, suc, ◌+◌, ◌<◌, Bool, true, false, cond, not, ltb, List, [], ◌∷◌, length, get_or, Some, None, Option, refl, sym, ap, ◌∙◌, arith}
use Rattle.std.specs.List.{position, position_or_len}
use Rattle.std.proofs.lemmas.Bool.{cond-true, cond-false}
use Rattle.timed_table.specs.Table.{first_from, last_from, IsLast}

module _ {X : Type 0} (p : X → Bool) where
  first_step : (b : Bool) (n k m : ℕ) (f : Option ℕ) → f ≡ cond (ltb k m) (Some (n + 1 + k)) None → cond b (Some n) f ≡ cond (ltb (cond (not b) (1 + k) 0) (suc m)) (Some (n + cond (not b) (1 + k) 0)) None
  first_step true n k m f e = let a : ltb 0 (suc m) ≡ true = grind (arith) in ap (λ j. cond true (Some j) None) (omega arith) ∙ ap (λ x. cond x (Some (n + 0)) None) (sym a)
  first_step false n k m f e = let a : ltb (1 + k) (suc m) ≡ ltb k m = grind (arith) in e ∙ ap (λ j. cond (ltb k m) (Some j) None) (omega arith) ∙ ap (λ x. cond x (Some (n + (1 + k))) None) (sym a)

  first_at : (n : ℕ) (xs : List X) → first_from p n xs ≡ cond (ltb (position_or_len p xs) (length xs)) (Some (n + position_or_len p xs)) None
  first_at n [] = refl
  first_at n (x ∷ xs) = first_step (p x) n (position_or_len p xs) (length xs) _ (first_at (n + 1) xs)

  pub first_is : (xs : List X) → first_from p 0 xs ≡ position p xs
  first_is xs = first_at 0 xs ∙ ap (λ k. cond (ltb (position_or_len p xs) (length xs)) (Some k) None) (omega arith)

  last_none : (n : ℕ) (f : Option ℕ) (xs : List X) (d : X) → ((k : ℕ) → k < length xs → p (get_or xs k d) ≡ false) → last_from p n f xs ≡ f
  last_none n f [] d h = refl
  last_none n f (x ∷ xs) d h =
      ap (λ g. last_from p (n + 1) g xs) (cond-false (p x) (Some n) f (h 0 (omega arith)))
      ∙ last_none (n + 1) f xs d (λ k l. h (suc k) (omega arith))

  last_some : (n : ℕ) (f : Option ℕ) (xs : List X) (d : X) (i : ℕ) → i < length xs → p (get_or xs i d) ≡ true
      → ((k : ℕ) → i < k → k < length xs → p (get_or xs k d) ≡ false) → last_from p n f xs ≡ Some (n + i)
  last_some n f [] d i l t h = absurd (omega arith)
  last_some n f (x ∷ xs) d zero l t h =
      ap (λ g. last_from p (n + 1) g xs) (cond-true (p x) (Some n) f t)
      ∙ last_none (n + 1) (Some n) xs d (λ k l. h (suc k) (omega arith) (omega arith))
      ∙ ap Some (omega arith)
  last_some n f (x ∷ xs) d (suc i) l t h =
      last_some (n + 1) (cond (p x) (Some n) f) xs d i (omega arith) t (λ k a b. h (suc k) (omega arith) (omega arith)) ∙ ap Some (omega arith)

  pub last_is : (d : X) (xs : List X) (r : Option ℕ) → IsLast p d xs r → r ≡ last_from p 0 None xs
  last_is d xs None h = sym (last_none 0 None xs d h)
  last_is d xs (Some i) h = sym (last_some 0 None xs d i h.0 h.1 h.2 ∙ ap Some (omega arith))
