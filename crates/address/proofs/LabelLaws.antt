-- A label written and read, both ways round.
use Rattle.std.proofs.Common.{◌≡◌, ℕ, ◌+◌, ◌*◌, ◌/◌, ◌%◌, ◌<◌, List, [], ◌∷◌, ap, ◌∙◌, arith}
use Rattle.address.specs.declared.labels.Label.{Label}
use Rattle.address.specs.Label.{LabelReadsBack, LabelWritesBack, label_octets, label_of, label_word, word, word_octets}

low_part : (x y : ℕ) → x < 16384 → (x + 16384 * y) % 16384 ≡ x
low_part x y h = omega arith

abbrev labelled : ℕ → Label
labelled w = record { dpc = w % 16384; opc = w / 16384 % 16384; sls = w / 268435456 }

pub label_back : LabelReadsBack
label_back l f =
    let s : label_word l ≡ l.dpc + 16384 * l.opc + 268435456 * l.sls = omega arith in
    let e : word (label_octets l) ≡ label_word l = omega arith in
    let x : label_word l % 16384 ≡ l.dpc = omega arith in
    let q : label_word l / 16384 ≡ l.opc + 16384 * l.sls = omega arith in
    let y : label_word l / 16384 % 16384 ≡ l.opc = ap (λ k. k % 16384) q ∙ low_part l.opc l.sls f.1 in
    let z : label_word l / 268435456 ≡ l.sls = omega arith in
    let same : labelled (label_word l) ≡ l = λ t. record { dpc = x t; opc = y t; sls = z t } in
    ap labelled e ∙ same

low_octet : (x y : ℕ) → x < 256 → (x + 256 * y) % 256 ≡ x
low_octet x y h = omega arith

pub label_forth : LabelWritesBack
label_forth a b c d ha hb hc hd =
    let x : List ℕ = a ∷ b ∷ c ∷ d ∷ [] in
    let e : label_word (label_of x) ≡ word x = omega arith in
    let p : word x % 256 ≡ a = omega arith in
    let q1 : word x / 256 ≡ b + 256 * (c + 256 * d) = omega arith in
    let q : word x / 256 % 256 ≡ b = ap (λ v. v % 256) q1 ∙ low_octet b (c + 256 * d) hb in
    let r1 : word x / 65536 ≡ c + 256 * d = omega arith in
    let r : word x / 65536 % 256 ≡ c = ap (λ v. v % 256) r1 ∙ low_octet c d hc in
    let s : word x / 16777216 ≡ d = omega arith in
    let same : word_octets (word x) ≡ a ∷ b ∷ c ∷ d ∷ [] = λ t. p t ∷ q t ∷ r t ∷ s t ∷ [] in
    ap word_octets e ∙ same
