-- An address written anew says what it was told to say, and else what it said.
use Rattle.std.proofs.Common.{◌≡◌, ℕ, ◌+◌, ◌-◌, ◌*◌, ◌/◌, ◌%◌, ◌≤◌, Bool, true, false, cond, ◌&&◌, eqb, leb, ◌⊎◌, List, [], ◌∷◌, ◌++◌, length, get_or, drop, is_some, Some, None, Option, sym, refl, ap, ◌∙◌, inl, inr, ⊎_elim, append_assoc, arith, length-append}
use Rattle.std.proofs.lemmas.List.{take_at, drop_at, get_or_at, get_or_append_left, length-take-le, length-drop, get_or-take, get_or-drop}
use Rattle.std.proofs.lemmas.Bool.{and_parts, and_from, and_left, leb-true, le-leb, eqb-true, eqb-false, eq-eqb, ne_eqb, cases_Bool, cond-true, cond-false}
use Rattle.address.specs.declared.rewriting.CodeChange.{CodeChange}
use Rattle.address.specs.declared.rewriting.CodeChange.TheVariants.{Keep, Remove, Put}
use Rattle.address.specs.Code.{code_number}
use Rattle.address.specs.Address.{indicator, code_size, subsystem_size, title_kind, title_place, least_title, title_length_ok, address_ok, on_subsystem_of, code_of, subsystem_of}
use Rattle.address.specs.Rewrite.{Bounded, code_part, title_part, indicator_with, code_as, subsystem_as, rewrite_with, rewrite, code_then, Rewriting}

-- a title of a good length has at most 28 octets
short_title : (k t : ℕ) → title_length_ok k t ≡ true → t ≤ 28
short_title k t h =
    ⊎_elim
    (λ (e : eqb k 0 ≡ true). let z = eqb-true t 0 (sym (cond-true (eqb k 0) (eqb t 0) (leb (least_title k) t && leb t 28) e) ∙ h) in omega arith)
    (λ (e : eqb k 0 ≡ false). leb-true t 28 (and_parts (leb (least_title k) t) (leb t 28) (sym (cond-false (eqb k 0) (eqb t 0) (leb (least_title k) t && leb t 28) e) ∙ h)).1)
    (cases_Bool (eqb k 0))

-- what the goodness of an address says
pub good_parts : (a : List ℕ) → address_ok a ≡ true → (2 ≤ length a) × (length a ≤ 32) × (title_place (indicator a) ≤ length a) × (title_length_ok (title_kind (indicator a)) (length a - title_place (indicator a)) ≡ true)
unfolding address_ok
good_parts a h =
    let rest3 = title_length_ok (title_kind (indicator a)) (length a - title_place (indicator a)) in
    let rest2 = leb (title_place (indicator a)) (length a) && rest3 in
    let p = and_parts (leb 2 (length a)) (leb (length a) 32 && rest2) h in
    let q = and_parts (leb (length a) 32) rest2 p.1 in
    let r = and_parts (leb (title_place (indicator a)) (length a)) rest3 q.1 in
    (leb-true 2 (length a) p.0, leb-true (length a) 32 q.0, leb-true (title_place (indicator a)) (length a) r.0, r.1)

good_from : (a : List ℕ) → 2 ≤ length a → length a ≤ 32 → title_place (indicator a) ≤ length a → title_length_ok (title_kind (indicator a)) (length a - title_place (indicator a)) ≡ true → address_ok a ≡ true
unfolding address_ok
good_from a p q r s =
    let rest3 = title_length_ok (title_kind (indicator a)) (length a - title_place (indicator a)) in
    let rest2 = leb (title_place (indicator a)) (length a) && rest3 in
    and_from (leb 2 (length a)) (leb (length a) 32 && rest2) (le-leb 2 (length a) p)
    (and_from (leb (length a) 32) rest2 (le-leb (length a) 32 q) (and_from (leb (title_place (indicator a)) (length a)) rest3 (le-leb (title_place (indicator a)) (length a) r) s))

pub good_bounded : (a : List ℕ) → address_ok a ≡ true → Bounded a
good_bounded a h =
    let g = good_parts a h in
    let t = short_title (title_kind (indicator a)) (length a - title_place (indicator a)) g.3 in
    (omega arith, g.2, omega arith)

-- the bits of a new indicator
abbrev Bits : ℕ → Bool → Bool → Bool → ℕ → Type 0
Bits i on code subsystem j = (j % 2 ≡ cond code 1 0) × (j / 2 % 2 ≡ cond subsystem 1 0) × (j / 4 % 16 ≡ i / 4 % 16) × (j / 64 % 2 ≡ cond on 1 0) × (j / 128 ≡ i / 128)

bits : (i : ℕ) (on code subsystem : Bool) → Bits i on code subsystem (indicator_with i on code subsystem)
bits i true true true = (omega arith, omega arith, omega arith, omega arith, omega arith)
bits i true true false = (omega arith, omega arith, omega arith, omega arith, omega arith)
bits i true false true = (omega arith, omega arith, omega arith, omega arith, omega arith)
bits i true false false = (omega arith, omega arith, omega arith, omega arith, omega arith)
bits i false true true = (omega arith, omega arith, omega arith, omega arith, omega arith)
bits i false true false = (omega arith, omega arith, omega arith, omega arith, omega arith)
bits i false false true = (omega arith, omega arith, omega arith, omega arith, omega arith)
bits i false false false = (omega arith, omega arith, omega arith, omega arith, omega arith)

-- the octets of a code, and of a subsystem, as the new indicator tells them
code_told_is : (c : List ℕ) → (length c ≡ 0) ⊎ (length c ≡ 2) → 2 * cond (eqb (length c) 2) 1 0 ≡ length c
code_told_is c (inl e) = ap (λ b. 2 * cond b 1 0) (ne_eqb (length c) 2 (λ h. omega arith)) ∙ sym e
code_told_is c (inr e) = ap (λ b. 2 * cond b 1 0) (eq-eqb (length c) 2 e) ∙ sym e

way : (on : Bool) → eqb (cond on 1 0) 1 ≡ on
way true = refl
way false = refl

subsystem_told_is : (s : Option ℕ) → cond (is_some s) 1 0 ≡ length (subsystem_as s)
subsystem_told_is None = refl
subsystem_told_is (Some x) = refl

-- the octets of the code of a good address
code_size_is : (a : List ℕ) → Bounded a → (length (code_part a) ≡ 0) ⊎ (length (code_part a) ≡ 2)
code_size_is a h =
    let d = length-drop 1 a in
    let l : length (code_part a) ≡ code_size (indicator a) = length-take-le (code_size (indicator a)) (drop 1 a) (omega arith) in
    ⊎_elim (λ (e : eqb (indicator a % 2) 1 ≡ true). inr (let k = eqb-true (indicator a % 2) 1 e in omega arith))
    (λ (e : eqb (indicator a % 2) 1 ≡ false). inl (let k = eqb-false (indicator a % 2) 1 e in omega arith))
    (cases_Bool (eqb (indicator a % 2) 1))

change_size : (change : CodeChange) (a : List ℕ) → Bounded a → (length (code_as change a) ≡ 0) ⊎ (length (code_as change a) ≡ 2)
change_size Keep a h = code_size_is a h
change_size Remove a h = inl refl
change_size (Put c) a h = inr refl

module _ (on : Bool) (c : List ℕ) (s : Option ℕ) (a : List ℕ) (size : (length c ≡ 0) ⊎ (length c ≡ 2)) where
  abbrev t : List ℕ
  t = title_part a

  abbrev j : ℕ
  j = indicator_with (indicator a) on (eqb (length c) 2) (is_some s)

  abbrev b : List ℕ
  b = rewrite_with on c s a

  told : Bits (indicator a) on (eqb (length c) 2) (is_some s) j
  told = bits (indicator a) on (eqb (length c) 2) (is_some s)

  code_in_is : code_size j ≡ length c
  code_in_is = ap (λ k. 2 * k) told.0 ∙ code_told_is c size

  subsystem_in : subsystem_size j ≡ length (subsystem_as s)
  subsystem_in = told.1 ∙ subsystem_told_is s

  pub new_code : code_part b ≡ c
  new_code = take_at c (subsystem_as s ++ t) (code_size j) (sym code_in_is)

  pub new_place : title_place j ≡ 1 + length c + length (subsystem_as s)
  new_place = let p = code_in_is in let q = subsystem_in in omega arith

  pub new_length : length b ≡ 1 + length c + length (subsystem_as s) + length t
  new_length = let p = length-append c (subsystem_as s ++ t) in let q = length-append (subsystem_as s) t in omega arith

  pub new_title : title_part b ≡ t
  new_title =
      let e : (j ∷ (c ++ subsystem_as s)) ++ t ≡ b = ap (λ z. j ∷ z) (append_assoc c (subsystem_as s) t) in
      let l : length (j ∷ (c ++ subsystem_as s)) ≡ title_place j = let p = length-append c (subsystem_as s) in let q = new_place in omega arith in
      ap (drop (title_place j)) (sym e) ∙ drop_at (j ∷ (c ++ subsystem_as s)) t (title_place j) l

  pub new_way : on_subsystem_of b ≡ on
  new_way = ap (λ k. eqb k 1) told.3 ∙ way on

-- the subsystem anew
new_subsystem : (on : Bool) (c : List ℕ) (s : Option ℕ) (a : List ℕ) → (length c ≡ 0) ⊎ (length c ≡ 2) → subsystem_of (rewrite_with on c s a) ≡ s
new_subsystem on c None a size =
    let q = subsystem_in on c None a size in
    let b = rewrite_with on c None a in
    ap (λ k. cond k (Some (get_or b (1 + code_size (indicator b)) 0)) None) (and_left (eqb (subsystem_size (indicator b)) 1) (leb (1 + code_size (indicator b) + 1) (length b)) (ne_eqb (subsystem_size (indicator b)) 1 (λ h. omega arith)))
new_subsystem on c (Some x) a size =
    let q = subsystem_in on c (Some x) a size in
    let p = code_in_is on c (Some x) a size in
    let b = rewrite_with on c (Some x) a in
    let n = new_length on c (Some x) a size in
    let l : length (indicator b ∷ c) ≡ 1 + code_size (indicator b) = omega arith in
    ap (λ k. cond k (Some (get_or b (1 + code_size (indicator b)) 0)) None)
    (and_from (eqb (subsystem_size (indicator b)) 1) (leb (1 + code_size (indicator b) + 1) (length b)) (eq-eqb (subsystem_size (indicator b)) 1 q) (le-leb (1 + code_size (indicator b) + 1) (length b) (omega arith)))
    ∙ ap Some (get_or_at (indicator b ∷ c) x (title_part a) 0 (1 + code_size (indicator b)) l)

-- the code that octets tell
abbrev code_in : List ℕ → Option ℕ
code_in c = Some ((get_or c 0 0 + 256 * get_or c 1 0) % 16384)

-- the code anew, where there is none and where there is one
no_code : (on : Bool) (c : List ℕ) (s : Option ℕ) (a : List ℕ) → length c ≡ 0 → code_of (rewrite_with on c s a) ≡ None
no_code on c s a e =
    let b = rewrite_with on c s a in
    let p = code_in_is on c s a (inl e) in
    ap (λ k. cond k (code_in (drop 1 b)) None) (and_left (eqb (indicator b % 2) 1) (leb 3 (length b)) (ne_eqb (indicator b % 2) 1 (λ h. omega arith)))

a_code : (on : Bool) (c : List ℕ) (s : Option ℕ) (a : List ℕ) → length c ≡ 2 → code_of (rewrite_with on c s a) ≡ code_in c
a_code on c s a e =
    let b = rewrite_with on c s a in
    let p = code_in_is on c s a (inr e) in
    let n = new_length on c s a (inr e) in
    let x : get_or b 1 0 ≡ get_or c 0 0 = get_or_append_left c (subsystem_as s ++ title_part a) 0 0 (omega arith) in
    let y : get_or b 2 0 ≡ get_or c 1 0 = get_or_append_left c (subsystem_as s ++ title_part a) 0 1 (omega arith) in
    ap (λ k. cond k (Some ((get_or b 1 0 + 256 * get_or b 2 0) % 16384)) None)
    (and_from (eqb (indicator b % 2) 1) (leb 3 (length b)) (eq-eqb (indicator b % 2) 1 (omega arith)) (le-leb 3 (length b) (omega arith)))
    ∙ ap (λ k. Some ((k + 256 * get_or b 2 0) % 16384)) x ∙ ap (λ k. Some ((get_or c 0 0 + 256 * k) % 16384)) y

kept_none : (a : List ℕ) → Bounded a → eqb (indicator a % 2) 1 ≡ false → (length (code_part a) ≡ 0) × (code_of a ≡ None)
kept_none a h e =
    let k = eqb-false (indicator a % 2) 1 e in
    let d = length-drop 1 a in
    let l : length (code_part a) ≡ code_size (indicator a) = length-take-le (code_size (indicator a)) (drop 1 a) (omega arith) in
    (omega arith, ap (λ b. cond b (Some ((get_or a 1 0 + 256 * get_or a 2 0) % 16384)) None) (and_left (eqb (indicator a % 2) 1) (leb 3 (length a)) e))

kept_some : (a : List ℕ) → Bounded a → eqb (indicator a % 2) 1 ≡ true → (length (code_part a) ≡ 2) × (code_of a ≡ code_in (code_part a))
kept_some a h e =
    let k = eqb-true (indicator a % 2) 1 e in
    let d = length-drop 1 a in
    let l : length (code_part a) ≡ code_size (indicator a) = length-take-le (code_size (indicator a)) (drop 1 a) (omega arith) in
    let x : get_or (code_part a) 0 0 ≡ get_or a 1 0 = get_or-take (code_size (indicator a)) (drop 1 a) 0 0 (omega arith) ∙ get_or-drop 1 a 0 0 in
    let y : get_or (code_part a) 1 0 ≡ get_or a 2 0 = get_or-take (code_size (indicator a)) (drop 1 a) 1 0 (omega arith) ∙ get_or-drop 1 a 1 0 in (
      omega arith,
      ap (λ b. cond b (Some ((get_or a 1 0 + 256 * get_or a 2 0) % 16384)) None) (and_from (eqb (indicator a % 2) 1) (leb 3 (length a)) e (le-leb 3 (length a) (omega arith)))
          ∙ sym (ap (λ z. Some ((z + 256 * get_or (code_part a) 1 0) % 16384)) x ∙ ap (λ z. Some ((get_or a 1 0 + 256 * z) % 16384)) y),
    )

code_then_is : (on : Bool) (change : CodeChange) (s : Option ℕ) (a : List ℕ) → Bounded a → code_of (rewrite_with on (code_as change a) s a) ≡ code_then change a
code_then_is on Keep s a h =
    ⊎_elim
    (λ (e : eqb (indicator a % 2) 1 ≡ true). let k = kept_some a h e in a_code on (code_part a) s a k.0 ∙ sym k.1)
    (λ (e : eqb (indicator a % 2) 1 ≡ false). let k = kept_none a h e in no_code on (code_part a) s a k.0 ∙ sym k.1)
    (cases_Bool (eqb (indicator a % 2) 1))
code_then_is on Remove s a h = no_code on [] s a refl
code_then_is on (Put c) s a h =
    let f = c.fits in
    let n : (code_number c % 256 + 256 * (code_number c / 256)) % 16384 ≡ code_number c = omega arith in
    a_code on (code_number c % 256 ∷ code_number c / 256 ∷ []) s a refl ∙ ap Some n

subsystem_size_is : (s : Option ℕ) → length (subsystem_as s) ≤ 1
subsystem_size_is None = omega arith
subsystem_size_is (Some x) = omega arith

pub rewriting : Rewriting
unfolding rewrite
rewriting on change s a h two =
    let g = good_parts a h in
    let bounded = good_bounded a h in
    let c = code_as change a in
    let size = change_size change a bounded in
    let small : length c ≤ 2 = ⊎_elim (λ (e : length c ≡ 0). omega arith) (λ (e : length c ≡ 2). omega arith) size in
    let b = rewrite_with on c s a in
    let place = new_place on c s a size in
    let n = new_length on c s a size in
    let ss = subsystem_size_is s in
    let d : length (title_part a) ≡ length a - title_place (indicator a) = length-drop (title_place (indicator a)) a in
    let told = bits (indicator a) on (eqb (length c) 2) (is_some s) in
    let t : length b - title_place (indicator b) ≡ length a - title_place (indicator a) = omega arith in
    let fine : title_length_ok (title_kind (indicator b)) (length b - title_place (indicator b)) ≡ true =
    ap (λ k. title_length_ok k (length b - title_place (indicator b))) told.2 ∙ ap (title_length_ok (title_kind (indicator a))) t ∙ g.3 in
    record {
      good = good_from b two (omega arith) (omega arith) fine;
      way = new_way on c s a size;
      code = code_then_is on change s a bounded;
      kept_code = new_code on c s a size;
      told = new_subsystem on c s a size;
      kind = told.2;
      title = new_title on c s a size;
      spare = told.4;
    }
