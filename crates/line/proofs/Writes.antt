-- What a write of octets leaves of an area.
use Rattle.std.proofs.Common.{◌≡◌, ℕ, ◌+◌, ◌-◌, ◌/◌, ◌%◌, ◌<◌, ◌≤◌, ◌⊎◌, List, ◌∷◌, length, get_or, take, drop, sym, ap, ◌∙◌, inl, inr, zero-add, arith}
use Rattle.std.proofs.lemmas.Bool.{cases_order}
use Rattle.std.proofs.lemmas.Grind.{common_steps}
use Rattle.std.proofs.lemmas.List.{ext_get_or}
use Rattle.octets.specs.Over.{over}
use Rattle.octets.proofs.Over.{over_length}
use Rattle.line.specs.Written.{two, Holds, SameOut}

-- the octets are there, all others stay
pub over_in : (xs : List ℕ) (at : ℕ) (ys : List ℕ) → at ≤ length xs → (k : ℕ) → k < length ys → get_or (over xs at ys) (at + k) 0 ≡ get_or ys k 0
unfolding over
over_in xs at ys h k l = grind (arith, common_steps)

pub over_out : (xs : List ℕ) (at : ℕ) (ys : List ℕ) → at ≤ length xs → SameOut (over xs at ys) xs at (at + length ys)
unfolding over
over_out xs at ys h k side = grind (arith, common_steps)

-- and nothing else has these two and the length
pub over_is : (zs xs : List ℕ) (at : ℕ) (ys : List ℕ) → length zs ≡ length xs → at + length ys ≤ length xs → Holds zs at ys 0 (length ys) → SameOut zs xs at (at + length ys) → zs ≡ over xs at ys
over_is zs xs at ys e h held same =
    let n = over_length xs ys at h in
    let at_in : (i : ℕ) → at ≤ i → i < at + length ys → get_or zs i 0 ≡ get_or (over xs at ys) i 0 = λ i p q.
    let k : at + (i - at) ≡ i = omega arith in
    ap (λ j. get_or zs j 0) (sym k)
    ∙ (held (i - at) (omega arith)
    ∙ (ap (λ j. get_or ys j 0) (zero-add (i - at))
    ∙ (sym (over_in xs at ys (omega arith) (i - at) (omega arith)) ∙ ap (λ j. get_or (over xs at ys) j 0) k))) in
    let at_out : (i : ℕ) → (i < at) ⊎ (at + length ys ≤ i) → get_or zs i 0 ≡ get_or (over xs at ys) i 0 = λ i s. same i s ∙ sym (over_out xs at ys (omega arith) i s) in
    ext_get_or 0 zs (over xs at ys) (e ∙ sym n)
    (λ i l. elim (cases_order i at) [
      | inl q ↦ elim (cases_order i (at + length ys)) [
        | inl r ↦ at_out i (inr (omega arith))
        | inr r ↦ elim r [ inl p ↦ at_in i (omega arith) p | inr p ↦ at_out i (inr (omega arith)) ]
      ]
      | inr q ↦ elim q [
        | inl p ↦ at_out i (inl p)
        | inr p ↦ elim (cases_order i (at + length ys)) [
          | inl r ↦ at_out i (inr (omega arith))
          | inr r ↦ elim r [ inl u ↦ at_in i (omega arith) u | inr u ↦ at_out i (inr (omega arith)) ]
        ]
      ]
    ])

-- the same octets in the same stretch are the same part
pub part_same : (a b : List ℕ) (i j n : ℕ) → i + n ≤ length a → j + n ≤ length b → Holds a i b j n → take n (drop i a) ≡ take n (drop j b)
part_same a b i j n ha hb e = grind (arith, common_steps, ext_get_or 0 (take n (drop i a)) (take n (drop j b)))

-- a number that was written in two octets is told by them
pub two_over : (xs : List ℕ) (at n : ℕ) (ys : List ℕ) → at + 2 ≤ length xs → two (over xs at (n % 256 ∷ n / 256 ∷ ys)) at ≡ n
two_over xs at n ys h =
    let low = over_in xs at (n % 256 ∷ n / 256 ∷ ys) (omega arith) 0 (omega arith) in
    let high = over_in xs at (n % 256 ∷ n / 256 ∷ ys) (omega arith) 1 (omega arith) in
    grind arith
