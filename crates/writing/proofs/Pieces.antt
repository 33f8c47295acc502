-- The pieces of a message written one behind the other.
use Rattle.std.proofs.Common.{◌≡◌, ℕ, ◌+◌, ◌≤◌, List, ◌++◌, length, drop, refl, ap, ◌∙◌, append_assoc, arith, length-append}
use Rattle.octets.specs.Over.{over}
use Rattle.octets.proofs.Over.{over_next, over_front}
use Rattle.message.specs.declared.messages.Form.{Form}
use Rattle.message.specs.declared.messages.Form.TheVariants.{Udt, Udts, Xudt, Xudts}
use Rattle.writing.specs.declared.layout.Lengths.{Lengths}
use Rattle.writing.specs.Write.{head, head_size}

pub head_length : (f : Form) (n : Lengths) → length (head f n) ≡ head_size f
head_length (Udt c) n = refl
head_length (Udts c) n = refl
head_length (Xudt c h) n = refl
head_length (Xudts c h) n = refl

-- six pieces, each behind the one before
pub six_put : (out l h a b d o o1 o2 o3 o4 o5 o6 : List ℕ) (n2 n3 n4 n5 n6 n : ℕ)
    → n2 ≡ length l → n3 ≡ n2 + length h → n4 ≡ n3 + length a → n5 ≡ n4 + length b → n6 ≡ n5 + length d → n ≡ n6 + length o → n ≤ length out
    → o1 ≡ over out 0 l → o2 ≡ over o1 n2 h → o3 ≡ over o2 n3 a → o4 ≡ over o3 n4 b → o5 ≡ over o4 n5 d → o6 ≡ over o5 n6 o
    → o6 ≡ (l ++ (h ++ (a ++ (b ++ (d ++ o))))) ++ drop n out
six_put out l h a b d o o1 o2 o3 o4 o5 o6 n2 n3 n4 n5 n6 n k2 k3 k4 k5 k6 k fits e1 e2 e3 e4 e5 e6 =
    let l2 : length l ≡ n2 = omega arith in
    let l3 : length (l ++ h) ≡ n3 = length-append l h ∙ omega arith in
    let l4 : length ((l ++ h) ++ a) ≡ n4 = length-append (l ++ h) a ∙ omega arith in
    let l5 : length (((l ++ h) ++ a) ++ b) ≡ n5 = length-append ((l ++ h) ++ a) b ∙ omega arith in
    let l6 : length ((((l ++ h) ++ a) ++ b) ++ d) ≡ n6 = length-append (((l ++ h) ++ a) ++ b) d ∙ omega arith in
    let l7 : length (((((l ++ h) ++ a) ++ b) ++ d) ++ o) ≡ n = length-append ((((l ++ h) ++ a) ++ b) ++ d) o ∙ omega arith in
    let f2 = over_next out l h o1 o2 n2 e1 e2 l2 (omega arith) in
    let f3 = over_next out (l ++ h) a o2 o3 n3 f2 e3 l3 (omega arith) in
    let f4 = over_next out ((l ++ h) ++ a) b o3 o4 n4 f3 e4 l4 (omega arith) in
    let f5 = over_next out (((l ++ h) ++ a) ++ b) d o4 o5 n5 f4 e5 l5 (omega arith) in
    let f6 = over_next out ((((l ++ h) ++ a) ++ b) ++ d) o o5 o6 n6 f5 e6 l6 (omega arith) in
    f6 ∙ over_front out (((((l ++ h) ++ a) ++ b) ++ d) ++ o) n l7 ∙ ap (λ z. z ++ drop n out) (simp append_assoc)
