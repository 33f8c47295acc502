-- The four types of messages that were read, as one: their form, their pointers and what these
-- have to do with the octets before them.
use Rattle.std.proofs.Common.{◌≡◌, ℕ, ◌+◌, ◌≤◌, Bool, true, false, cond, eqb, leb, ◌⊎◌, List, [], ◌∷◌, ◌++◌, length, drop, Ok, Err, Result, sym, refl, ap, ◌∙◌, inl, inr, ⊎_elim, arith}
use Rattle.std.proofs.lemmas.List.{drop_more}
use Rattle.std.proofs.lemmas.Bool.{leb-true, eqb-true, and_from}
use Rattle.address.specs.declared.labels.Label.{Label}
use Rattle.message.specs.declared.faults.Fault.{Fault}
use Rattle.message.specs.declared.faults.Fault.TheVariants.{PointersCutOff, ClassOrHop}
use Rattle.message.specs.declared.faults.ReadFault.{ReadFault}
use Rattle.message.specs.declared.messages.Form.{Form}
use Rattle.message.specs.declared.messages.Form.TheVariants.{Udt, Udts, Xudt, Xudts}
use Rattle.message.specs.declared.reading.Pointers.{Pointers}
use Rattle.message.specs.Options.{octet}
use Rattle.message.specs.FirstFault.{pointers_of, has_hop}
use Rattle.message.specs.Read.{Parsed, message_body, body, check, after, called_place, calling_place, data_place, short_pointers, long_pointers, class_ok, hop_ok}
use Rattle.writing.specs.declared.layout.Lengths.{Lengths}
use Rattle.writing.specs.Write.{options_in, head, head_size, to_calling, to_data, to_options}
use Rattle.writing.specs.RoundTrip.{form_ok}

-- a test that was passed
pub passed : {A : Type 0} (b : Bool) (f : Fault) (i : ℕ) (k : Result A ReadFault) (y : A) → check b f i k ≡ Ok y → (b ≡ true) × (k ≡ Ok y)
passed true f i k y h = (refl, h)
passed false f i k y h = let z : ◌≡◌ {A = ℕ} 0 1 = cc in absurd (omega arith)

-- a step that gave a value
pub gave : {A B : Type 0} (r : Result A ReadFault) (k : A → Result B ReadFault) (y : B) → after r k ≡ Ok y → (x : A) × (r ≡ Ok x) × (k x ≡ Ok y)
gave (Ok x) k y h = (x, refl, h)
gave (Err e) k y h = let z : ◌≡◌ {A = ℕ} 0 1 = cc in absurd (omega arith)

-- a choice that gave a value
pub chose : {A : Type 0} (b : Bool) (j k : Result A ReadFault) (y : A) → cond b j k ≡ Ok y → ((b ≡ true) × (j ≡ Ok y)) ⊎ ((b ≡ false) × (k ≡ Ok y))
chose true j k y h = inl (refl, h)
chose false j k y h = inr (refl, h)

pub same_ok : {A : Type 0} (x y : A) → ◌≡◌ {A = Result A ReadFault} (Ok x) (Ok y) → x ≡ y
same_ok x y h = cc

-- a message of the type n, or of another
pub by_type : {j k : Result Parsed ReadFault} (t n : ℕ) (q : Parsed) (G : Type 0) → cond (eqb t n) j k ≡ Ok q → (t ≡ n → j ≡ Ok q → G) → (k ≡ Ok q → G) → G
by_type {j} {k} t n q G h this others =
    ⊎_elim (λ (z : (eqb t n ≡ true) × (j ≡ Ok q)). this (eqb-true t n z.0) z.1) (λ z. others z.1) (chose (eqb t n) j k q h)

pub four : (x : List ℕ) → 4 ≤ length x → octet x 0 ∷ octet x 1 ∷ octet x 2 ∷ octet x 3 ∷ drop 4 x ≡ x
four x h =
    ap (λ z. octet x 0 ∷ octet x 1 ∷ octet x 2 ∷ z) (sym (drop_more x 3 0 (omega arith)))
    ∙ ap (λ z. octet x 0 ∷ octet x 1 ∷ z) (sym (drop_more x 2 0 (omega arith)))
    ∙ ap (λ z. octet x 0 ∷ z) (sym (drop_more x 1 0 (omega arith)))
    ∙ sym (drop_more x 0 0 (omega arith))

five : (x : List ℕ) → 5 ≤ length x → octet x 0 ∷ octet x 1 ∷ octet x 2 ∷ octet x 3 ∷ octet x 4 ∷ drop 5 x ≡ x
five x h = ap (λ z. octet x 0 ∷ octet x 1 ∷ octet x 2 ∷ octet x 3 ∷ z) (sym (drop_more x 4 0 (omega arith))) ∙ four x (omega arith)

seven : (x : List ℕ) → 7 ≤ length x → octet x 0 ∷ octet x 1 ∷ octet x 2 ∷ octet x 3 ∷ octet x 4 ∷ octet x 5 ∷ octet x 6 ∷ drop 7 x ≡ x
seven x h =
    ap (λ z. octet x 0 ∷ octet x 1 ∷ octet x 2 ∷ octet x 3 ∷ octet x 4 ∷ octet x 5 ∷ z) (sym (drop_more x 6 0 (omega arith)))
    ∙ ap (λ z. octet x 0 ∷ octet x 1 ∷ octet x 2 ∷ octet x 3 ∷ octet x 4 ∷ z) (sym (drop_more x 5 0 (omega arith)))
    ∙ five x (omega arith)

-- m begins as a message of this form with these pointers; its head is the one that is written,
-- if the pointers tell parts of the lengths n one behind the other
pub record Typed (m : List ℕ) (f : Form) (p : Pointers) : Type 0 where
  pub pointers : pointers_of m ≡ p
  pub form : form_ok f ≡ true
  pub start : p.start ≡ head_size f
  pub none : (o : List ℕ) → (eqb p.options 0 ≡ true → o ≡ []) → options_in f o ≡ o
  pub headed : (n : Lengths) → called_place p ≡ p.start → calling_place p ≡ p.start + 1 + n.called → data_place p ≡ p.start + 2 + n.called + n.calling
      → ((v : ℕ) → p.at + 3 + v ≡ p.start + 3 + n.called + n.calling + n.«data» → p.options ≡ cond (eqb n.options 0) 0 v) → head f n ++ drop p.start m ≡ m

pointed : (m : List ℕ) (t : ℕ) → octet m 0 ≡ t → pointers_of m ≡ cond (has_hop t) (long_pointers m) (short_pointers m)
pointed m t e = ap (λ z. cond (has_hop z) (long_pointers m) (short_pointers m)) e

-- three pointers
short_head : (m : List ℕ) (t : ℕ) (n : Lengths) → octet m 0 ≡ t → 5 ≤ length m → 2 + octet m 2 ≡ 5 → 3 + octet m 3 ≡ 5 + 1 + n.called → 4 + octet m 4 ≡ 5 + 2 + n.called + n.calling
    → t ∷ octet m 1 ∷ 3 ∷ to_calling 3 n ∷ to_data 3 n ∷ drop 5 m ≡ m
short_head m t n et h a b c =
    let e2 : 3 ≡ octet m 2 = omega arith in
    let e3 : to_calling 3 n ≡ octet m 3 = omega arith in
    let e4 : to_data 3 n ≡ octet m 4 = omega arith in
    (λ i. sym et i ∷ octet m 1 ∷ e2 i ∷ e3 i ∷ e4 i ∷ drop 5 m) ∙ five m h

-- four pointers
long_head : (m : List ℕ) (t : ℕ) (n : Lengths) → octet m 0 ≡ t → 7 ≤ length m → 3 + octet m 3 ≡ 7 → 4 + octet m 4 ≡ 7 + 1 + n.called → 5 + octet m 5 ≡ 7 + 2 + n.called + n.calling
    → ((v : ℕ) → 6 + v ≡ 7 + 3 + n.called + n.calling + n.«data» → octet m 6 ≡ cond (eqb n.options 0) 0 v)
    → t ∷ octet m 1 ∷ octet m 2 ∷ 4 ∷ to_calling 4 n ∷ to_data 4 n ∷ to_options 4 n ∷ drop 7 m ≡ m
long_head m t n et h a b c o =
    let e3 : 4 ≡ octet m 3 = omega arith in
    let e4 : to_calling 4 n ≡ octet m 4 = omega arith in
    let e5 : to_data 4 n ≡ octet m 5 = omega arith in
    let e6 : octet m 6 ≡ to_options 4 n = o (4 + n.called + n.calling + n.«data») (omega arith) in
    (λ i. sym et i ∷ octet m 1 ∷ octet m 2 ∷ e3 i ∷ e4 i ∷ e5 i ∷ sym e6 i ∷ drop 7 m) ∙ seven m h

short_typed : (m : List ℕ) (t : ℕ) (f : Form) → octet m 0 ≡ t → has_hop t ≡ false → 5 ≤ length m → form_ok f ≡ true → head_size f ≡ 5 → ((o : List ℕ) → options_in f o ≡ [])
    → ((n : Lengths) → head f n ≡ t ∷ octet m 1 ∷ 3 ∷ to_calling 3 n ∷ to_data 3 n ∷ []) → Typed m f (short_pointers m)
short_typed m t f e hop h ok size none is = record {
  pointers = pointed m t e ∙ ap (λ z. cond z (long_pointers m) (short_pointers m)) hop;
  form = ok;
  start = sym size;
  none = λ o z. none o ∙ sym (z refl);
  headed = λ n a b c _. ap (λ z. z ++ drop 5 m) (is n) ∙ short_head m t n e h a b c;
}

long_typed : (m : List ℕ) (t : ℕ) (f : Form) → octet m 0 ≡ t → has_hop t ≡ true → 7 ≤ length m → form_ok f ≡ true → head_size f ≡ 7 → ((o : List ℕ) → options_in f o ≡ o)
    → ((n : Lengths) → head f n ≡ t ∷ octet m 1 ∷ octet m 2 ∷ 4 ∷ to_calling 4 n ∷ to_data 4 n ∷ to_options 4 n ∷ []) → Typed m f (long_pointers m)
long_typed m t f e hop h ok size none is = record {
  pointers = pointed m t e ∙ ap (λ z. cond z (long_pointers m) (short_pointers m)) hop;
  form = ok;
  start = sym size;
  none = λ o z. none o;
  headed = λ n a b c d. ap (λ z. z ++ drop 7 m) (is n) ∙ long_head m t n e h a b c d;
}

-- a message that was read is of one of the types
pub message_cases : (l : Label) (m : List ℕ) (q : Parsed) (G : Type 0) → message_body l m ≡ Ok q → ((f : Form) (p : Pointers) → Typed m f p → body l f m p ≡ Ok q → G) → G
message_cases l m q G read go =
    let c : ℕ = octet m 1 in
    let h : ℕ = octet m 2 in
    let short = λ (x : leb 5 (length m) ≡ true). leb-true 5 (length m) x in
    let long = λ (x : leb 7 (length m) ≡ true). leb-true 7 (length m) x in
    by_type (octet m 0) 0x09 q G read
    (λ e r.
    let p1 = passed (leb 5 (length m)) PointersCutOff 0 _ q r in
    let p2 = passed (class_ok c) ClassOrHop 1 _ q p1.1 in
    go (Udt c) (short_pointers m) (short_typed m 0x09 (Udt c) e refl (short p1.0) p2.0 refl (λ o. refl) (λ n. refl)) p2.1)
    (λ r1. by_type (octet m 0) 0x0A q G r1
    (λ e r.
    let p1 = passed (leb 5 (length m)) PointersCutOff 0 _ q r in
    go (Udts c) (short_pointers m) (short_typed m 0x0A (Udts c) e refl (short p1.0) refl refl (λ o. refl) (λ n. refl)) p1.1)
    (λ r2. by_type (octet m 0) 0x11 q G r2
    (λ e r.
    let p1 = passed (leb 7 (length m)) PointersCutOff 0 _ q r in
    let p2 = passed (class_ok c) ClassOrHop 1 _ q p1.1 in
    let p3 = passed (hop_ok h) ClassOrHop 2 _ q p2.1 in
    go (Xudt c h) (long_pointers m) (long_typed m 0x11 (Xudt c h) e refl (long p1.0) (and_from (class_ok c) (hop_ok h) p2.0 p3.0) refl (λ o. refl) (λ n. refl)) p3.1)
    (λ r3. by_type (octet m 0) 0x12 q G r3
    (λ e r.
    let p1 = passed (leb 7 (length m)) PointersCutOff 0 _ q r in
    let p2 = passed (hop_ok h) ClassOrHop 2 _ q p1.1 in
    go (Xudts c h) (long_pointers m) (long_typed m 0x12 (Xudts c h) e refl (long p1.0) p2.0 refl (λ o. refl) (λ n. refl)) p2.1)
    (λ r4. let z : ◌≡◌ {A = ℕ} 0 1 = cc in absurd (omega arith)))))
