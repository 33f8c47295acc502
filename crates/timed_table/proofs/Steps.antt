-- The steps of a loop that goes over a list, for each definition of the table.
use Rattle.std.proofs.Common.{◌≡◌, ℕ, ◌+◌, ◌-◌, ◌<◌, ◌≤◌, Bool, true, false, cond, List, [], ◌∷◌, ◌++◌, refl, map, length, get_or, take, drop, Some, None, Option, count_by, sym, ap, ◌∙◌, arith}
use Rattle.std.proofs.lemmas.List.{at_drop_more, at_drop_all, take_all, drop_all, append-nil, length-map, length-take-le, get_or-append_right, get_or-drop}
use Rattle.std.proofs.lemmas.Bool.{cond-true, cond-false}
use Rattle.std.proofs.lemmas.List.Sums.{count_by_more_yes, count_by_more_no}
use Rattle.std.specs.List.{FoldsTo}
use Rattle.timed_table.specs.Table.{first_from, last_from}

module _ {X : Type 0} (p : X → Bool) (xs : List X) (i : ℕ) where
  module _ (x : X) (lt : i < length xs) (read : x ≡ get_or xs i x) where
    pub first-yes : p x ≡ true → first_from p i (drop i xs) ≡ Some i
    first-yes h =
        at_drop_more (first_from p i) xs i x lt ∙ cond-true (p (get_or xs i x)) _ _ (ap p (sym read) ∙ h)

    pub first-no : p x ≡ false → first_from p i (drop i xs) ≡ first_from p (i + 1) (drop (i + 1) xs)
    first-no h =
        at_drop_more (first_from p i) xs i x lt ∙ cond-false (p (get_or xs i x)) _ _ (ap p (sym read) ∙ h)

    pub last_more : (f : Option ℕ) → last_from p i f (drop i xs) ≡ last_from p (i + 1) (cond (p x) (Some i) f) (drop (i + 1) xs)
    last_more f =
        at_drop_more (last_from p i f) xs i x lt ∙ ap (λ y. last_from p (i + 1) (cond (p y) (Some i) f) (drop (i + 1) xs)) (sym read)

    pub count_yes : p x ≡ true → count_by p (take (i + 1) xs) ≡ count_by p (take i xs) + 1
    count_yes h = count_by_more_yes p xs i x lt (ap p (sym read) ∙ h)

    pub count_no : p x ≡ false → count_by p (take (i + 1) xs) ≡ count_by p (take i xs)
    count_no h = count_by_more_no p xs i x lt (ap p (sym read) ∙ h)

  pub first_end : length xs ≤ i → first_from p i (drop i xs) ≡ None
  first_end le = at_drop_all (first_from p i) xs i le

  pub last_end : (f : Option ℕ) → length xs ≤ i → last_from p i f (drop i xs) ≡ f
  last_end f le = at_drop_all (last_from p i f) xs i le

  pub count_end : length xs ≤ i → count_by p (take i xs) ≡ count_by p xs
  count_end le = ap (count_by p) (take_all i xs le)

-- a loop that writes f x over each element x has not yet come to those from i on
pub rest_read : {X : Type 0} (f : X → X) (xs ys : List X) (i : ℕ) (x : X) → i < length xs → ys ≡ map f (take i xs) ++ drop i xs → x ≡ get_or ys i x → x ≡ get_or xs i x
rest_read f xs ys i x lt is read =
    let long : length (map f (take i xs)) ≡ i = length-map (take i xs) f ∙ length-take-le i xs (omega arith) in
    read ∙ ap (λ zs. get_or zs i x) is ∙ get_or-append_right (map f (take i xs)) (drop i xs) i i x long (omega arith) ∙ get_or-drop i xs (i - i) x ∙ ap (λ k. get_or xs k x) (omega arith)

-- such a loop at its end
pub map_end : {X : Type 0} (f : X → X) (xs ys : List X) (i : ℕ) → length xs ≤ i → ys ≡ map f (take i xs) ++ drop i xs → ys ≡ map f xs
map_end f xs ys i le is = is ∙ rw (take_all i xs le, drop_all i xs le) (append-nil (map f xs))

-- what was made by steps of which each gives v
pub all_one : {P A B : Type 0} (R : P → A → P → Type 0) (v : A) → ((p : P) (x : A) (q : P) → R p x q → x ≡ v) → (ys : List A) (xs : List B) (p q : P) → FoldsTo R p ys q → length ys ≡ length xs → ys ≡ map (λ _. v) xs
all_one R v one [] [] p q f e = refl
all_one R v one [] (x ∷ xs) p q f e = absurd (omega arith)
all_one R v one (y ∷ ys) [] p q f e = absurd (omega arith)
all_one R v one (y ∷ ys) (x ∷ xs) p q f e = let h = one p y f.0 f.1 in let t = all_one R v one ys xs f.0 q f.2 (omega arith) in cc
