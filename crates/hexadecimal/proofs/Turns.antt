-- Digits read and written one octet after the other, and both ways round.
use Rattle.std.proofs.Common.{◌≡◌, ℕ, ◌+◌, ◌-◌, ◌*◌, ◌/◌, ◌%◌, ◌<◌, ◌≤◌, cond, List, [], ◌∷◌, ◌++◌, length, get_or, take, drop, Some, None, sym, refl, ap, ◌∙◌, append_assoc, arith}
use Rattle.std.proofs.lemmas.List.{take_rest, append-nil}
use Rattle.std.proofs.lemmas.Bool.{eq-eqb, ne_eqb}
use Rattle.std.proofs.lemmas.Bool.Decides.{nat_tests}
use Rattle.hexadecimal.specs.Hexadecimal.{digit_value, digit_text, joined, pair_value, with, octets_on, octets_in, octet_text, digits_of, text_of, Octets, ReadsBack}

pub turn : (done text : List ℕ) → 2 ≤ length text → octets_on done text ≡ with (pair_value (get_or text 0 0) (get_or text 1 0)) (λ x. octets_on (done ++ x ∷ []) (take (length text - 2) (drop 2 text)))
turn done [] h = absurd (omega arith)
turn done (x ∷ []) h = absurd (omega arith)
turn done (x ∷ y ∷ rest) h = ap (λ z. with (pair_value x y) (λ v. octets_on (done ++ v ∷ []) z)) (sym (take_rest (x ∷ y ∷ rest) 2))

pub digits_push : (xs : List ℕ) (x : ℕ) → digits_of (xs ++ x ∷ []) ≡ digits_of xs ++ octet_text x
digits_push [] x = refl
digits_push (y ∷ xs) x = ap (λ r. octet_text y ++ r) (digits_push xs x)

digit_back : (v : ℕ) → v < 16 → digit_value (digit_text v) ≡ Some v
digit_back v h = grind (arith, nat_tests)

octet_back : (x : ℕ) → x < 256 → pair_value (digit_text (x / 16)) (digit_text (x % 16)) ≡ Some x
octet_back x h =
    let e : 16 * (x / 16) + x % 16 ≡ x = omega arith in
    ap (λ o. joined o (digit_value (digit_text (x % 16)))) (digit_back (x / 16) (omega arith)) ∙ ap (joined (Some (x / 16))) (digit_back (x % 16) (omega arith)) ∙ ap Some e

digits_back : (done xs : List ℕ) → Octets xs → octets_on done (digits_of xs) ≡ Some (done ++ xs)
digits_back done [] h = ap Some (sym (append-nil done))
digits_back done (x ∷ xs) h =
    ap (λ o. with o (λ y. octets_on (done ++ y ∷ []) (digits_of xs))) (octet_back x h.0)
    ∙ digits_back (done ++ x ∷ []) xs h.1
    ∙ ap Some (append_assoc done (x ∷ []) xs)

pub reads_back : ReadsBack
reads_back [] h = refl
reads_back (x ∷ xs) h = digits_back [] (x ∷ xs) h

pub in_empty : (w : List ℕ) → length w ≡ 0 → octets_in w ≡ None
in_empty [] h = refl
in_empty (x ∷ w) h = absurd (omega arith)

pub in_dash : (w : List ℕ) → length w ≡ 1 → get_or w 0 0 ≡ 45 → octets_in w ≡ Some []
in_dash [] h k = absurd (omega arith)
in_dash (x ∷ []) h k = ap (λ b. cond b (Some []) None) (eq-eqb x 45 k)
in_dash (x ∷ y ∷ w) h k = absurd (omega arith)

pub in_rest : (w : List ℕ) → (length w ≡ 0 → ⊥) → (length w ≡ 1 → get_or w 0 0 ≡ 45 → ⊥) → octets_in w ≡ octets_on [] w
in_rest [] h k = absurd (h refl)
in_rest (x ∷ []) h k = ap (λ b. cond b (Some []) None) (ne_eqb x 45 (k refl))
in_rest (x ∷ y ∷ w) h k = refl

pub text_some : (xs : List ℕ) → (length xs ≡ 0 → ⊥) → digits_of xs ≡ text_of xs
text_some [] h = absurd (h refl)
text_some (x ∷ xs) h = refl

pub text_none : (xs : List ℕ) → length xs ≡ 0 → 45 ∷ [] ≡ text_of xs
text_none [] h = refl
text_none (x ∷ xs) h = absurd (omega arith)
