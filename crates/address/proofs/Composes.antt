-- The parts of an address written one behind the other.
use Rattle.std.proofs.Common.{◌≡◌, ℕ, ◌+◌, ◌≤◌, List, [], ◌∷◌, ◌++◌, length, take, set, refl, ap, ◌∙◌, append_assoc, arith, length-append}
use Rattle.octets.specs.Over.{over}
use Rattle.octets.proofs.Over.{over_set, over_next, over_take}
use Rattle.address.specs.Rewrite.{composed}

pub parts_put : (out a b d c s t : List ℕ) (i n : ℕ) → 1 + length c + length s + length t ≤ length out → a ≡ over (set out 0 i) 1 c → b ≡ over a (1 + length c) s → d ≡ over b (1 + length c + length s) t → n ≡ 1 + length c + length s + length t → take n d ≡ composed i c s t
parts_put out a b d c s t i n fits ea eb ed en =
    let e0 : set out 0 i ≡ over out 0 (i ∷ []) = over_set out 0 i (omega arith) in
    let fa : a ≡ over out 0 (i ∷ c) = over_next out (i ∷ []) c (set out 0 i) a 1 e0 ea refl (omega arith) in
    let fb : b ≡ over out 0 ((i ∷ c) ++ s) = over_next out (i ∷ c) s a b (1 + length c) fa eb (omega arith) (omega arith) in
    let lb : length ((i ∷ c) ++ s) ≡ 1 + length c + length s = length-append (i ∷ c) s ∙ (omega arith) in
    let fd : d ≡ over out 0 (((i ∷ c) ++ s) ++ t) = over_next out ((i ∷ c) ++ s) t b d (1 + length c + length s) fb ed lb (omega arith) in
    let ld : length (((i ∷ c) ++ s) ++ t) ≡ n = length-append ((i ∷ c) ++ s) t ∙ (omega arith) in
    ap (take n) fd ∙ over_take out (((i ∷ c) ++ s) ++ t) n ld ∙ ap (λ z. i ∷ z) (append_assoc c s t)
