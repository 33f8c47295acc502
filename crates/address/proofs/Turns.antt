-- One more octet's halves.
use Rattle.std.proofs.Common.{◌≡◌, ℕ, ◌+◌, ◌-◌, ◌*◌, ◌/◌, ◌%◌, ◌<◌, Bool, cond, List, [], ◌∷◌, ◌++◌, length, get_or, take, set, sym, refl, ap, ◌∙◌, append_assoc, arith, length-set}
use Rattle.std.proofs.lemmas.List.{take_more, take_more_set, take-take, take_all}
use Rattle.address.specs.Title.{halves, digits_of}

pub halves_push : (xs : List ℕ) (x : ℕ) → halves (xs ++ x ∷ []) ≡ halves xs ++ (x % 16 ∷ x / 16 ∷ [])
halves_push [] x = refl
halves_push (y ∷ xs) x = ap (λ z. y % 16 ∷ y / 16 ∷ z) (halves_push xs x)

pub halves_length : (xs : List ℕ) → length (halves xs) ≡ 2 * length xs
halves_length [] = refl
halves_length (x ∷ xs) = let h = halves_length xs in omega arith

-- what a turn writes
pub turn : (v xs : List ℕ) (i j : ℕ) → take (2 * i) v ≡ halves (take i xs) → i < length xs → 2 * i + 1 < length v → j ≡ 2 * (i + 1) → take j (set (set v (2 * i) (get_or xs i 0 % 16)) (2 * i + 1) (get_or xs i 0 / 16)) ≡ halves (take (i + 1) xs)
turn v xs i j h l k e =
    let x = get_or xs i 0 in
    let w = set v (2 * i) (x % 16) in
    let lw : 2 * i + 1 < length w = simp length-set (omega arith) in
    let je : j ≡ 2 * i + 1 + 1 = omega arith in
    ap (λ n. take n (set w (2 * i + 1) (x / 16))) je
    ∙ take_more_set w (2 * i + 1) (x / 16) lw
    ∙ ap (λ z. z ++ (x / 16 ∷ [])) (take_more_set v (2 * i) (x % 16) (omega arith))
    ∙ append_assoc (take (2 * i) v) (x % 16 ∷ []) (x / 16 ∷ [])
    ∙ ap (λ z. z ++ (x % 16 ∷ x / 16 ∷ [])) h
    ∙ sym (halves_push (take i xs) x)
    ∙ ap halves (sym (take_more xs i 0 l))

-- what is left of the whole
pub ended : (v xs : List ℕ) (odd : Bool) (n i : ℕ) → take (2 * i) v ≡ halves (take i xs) → i ≡ length xs → n ≡ 2 * length xs - cond odd 1 0 → take n v ≡ digits_of odd xs
ended v xs odd n i h l e =
    let w : take (2 * length xs) v ≡ halves xs = ap (λ k. take (2 * k) v) (sym l) ∙ h ∙ ap halves (take_all i xs (omega arith)) in
    ap (λ k. take k v) e ∙ sym (take-take (2 * length xs - cond odd 1 0) (2 * length xs) v (omega arith)) ∙ ap (take (2 * length xs - cond odd 1 0)) w
