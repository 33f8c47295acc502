-- Laws of what is written over a list.
use Rattle.std.proofs.Common.{◌≡◌, ℕ, ◌+◌, ◌<◌, ◌≤◌, List, [], ◌∷◌, ◌++◌, length, take, drop, set, sym, ap, ◌∙◌, append_assoc, add-one, arith, length-append, length-drop}
use borrow.Rule.Slice.PartMut.{put_mid}
use Rattle.std.proofs.lemmas.List.{take_at, drop_at, drop-drop, set_split, length-take-le}
use Rattle.octets.specs.Over.{over}

pub over_set : (out : List ℕ) (at b : ℕ) → at < length out → set out at b ≡ over out at (b ∷ [])
unfolding over
over_set out at b h = set_split out at b h ∙ ap (λ k. take at out ++ (b ∷ drop k out)) (sym (add-one at))

pub over_part : (out xs : List ℕ) (at k : ℕ) → k ≡ length xs → put_mid at k out xs ≡ over out at xs
unfolding over
over_part out xs at k e = ap (λ z. take at out ++ (xs ++ z)) (drop-drop k at out ∙ ap (λ j. drop (at + j) out) e)

pub over_length : (out xs : List ℕ) (at : ℕ) → at + length xs ≤ length out → length (over out at xs) ≡ length out
unfolding over
over_length out xs at h =
    let t : at ≤ length out = omega arith in
    simp (length-append, length-take-le, length-drop) (omega arith)

pub over_more : (out xs ys : List ℕ) (at n : ℕ) → at + length xs ≡ n → n ≤ length out → over (over out at xs) n ys ≡ over out at (xs ++ ys)
unfolding over
over_more out xs ys at n e h =
    let lt : length (take at out) ≡ at = length-take-le at out (omega arith) in
    let lp : length (take at out ++ xs) ≡ n = length-append (take at out) xs ∙ (omega arith) in
    let re : take at out ++ (xs ++ drop (at + length xs) out) ≡ (take at out ++ xs) ++ drop (at + length xs) out = sym (append_assoc (take at out) xs (drop (at + length xs) out)) in
    let tk : take n (take at out ++ (xs ++ drop (at + length xs) out)) ≡ take at out ++ xs = ap (take n) re ∙ take_at (take at out ++ xs) (drop (at + length xs) out) n lp in
    let dk : drop n (take at out ++ (xs ++ drop (at + length xs) out)) ≡ drop (at + length xs) out = ap (drop n) re ∙ drop_at (take at out ++ xs) (drop (at + length xs) out) n lp in
    let dl : drop (n + length ys) (take at out ++ (xs ++ drop (at + length xs) out)) ≡ drop (at + length (xs ++ ys)) out = sym (drop-drop (length ys) n _) ∙ ap (drop (length ys)) dk ∙ drop-drop (length ys) (at + length xs) out ∙ ap (λ k. drop k out) (let l = length-append xs ys in omega arith) in
    (λ i. tk i ++ (ys ++ dl i)) ∙ append_assoc (take at out) xs (ys ++ drop (at + length (xs ++ ys)) out) ∙ ap (λ z. take at out ++ z) (sym (append_assoc xs ys (drop (at + length (xs ++ ys)) out)))

pub over_front : (out xs : List ℕ) (n : ℕ) → length xs ≡ n → over out 0 xs ≡ xs ++ drop n out
unfolding over
over_front out xs n e = ap (λ k. xs ++ drop k out) (let z : 0 + length xs ≡ n = omega arith in z)

-- one more piece behind what stands at the front
pub over_next : (out xs ys o p : List ℕ) (n : ℕ) → o ≡ over out 0 xs → p ≡ over o n ys → length xs ≡ n → n ≤ length out → p ≡ over out 0 (xs ++ ys)
over_next out xs ys o p n e f l h = f ∙ ap (λ z. over z n ys) e ∙ over_more out xs ys 0 n (omega arith) h

-- what stands at the front
pub over_take : (out xs : List ℕ) (n : ℕ) → length xs ≡ n → take n (over out 0 xs) ≡ xs
over_take out xs n e = ap (take n) (over_front out xs n e) ∙ take_at xs (drop n out) n e
