-- The segmentation among options, from one option to the next, however many may come.
use Rattle.std.proofs.Common.{◌≡◌, ℕ, zero, suc, ◌+◌, ◌<◌, ◌≤◌, Bool, true, false, cond, not, ◌&&◌, eqb, leb, List, [], length, take, drop, Some, None, Option, sym, refl, ap, ◌∙◌, ⊎_elim, arith}
use Rattle.std.proofs.lemmas.List.{length-drop}
use Rattle.std.proofs.lemmas.Bool.{and_left, and_parts, leb-true, lt-leb, cases_Bool, cond-true, cond-false}
use Rattle.message.specs.declared.parts_of_options.Segmentation.{Segmentation}
use Rattle.message.specs.Options.{segment, other, ended, octet, segments, stands, first_option, segmentation_of, behind_option, segmentation_in, segmentation_found}

-- what stands behind an option is shorter by two at least
pub shorter : (x : List ℕ) → stands x ≡ true → length (behind_option x) + 2 ≤ length x
shorter x h =
    let a = and_parts (leb 2 (length x)) (not (eqb (octet x 0) 0) && leb (octet x 1) (length (drop 2 x))) h in
    let l = leb-true 2 (length x) a.0 in
    let e : behind_option x ≡ drop (octet x 1) (drop 2 x) = cond-true (stands x) (drop (octet x 1) (drop 2 x)) [] h in
    let f = ap length e in
    let g = length-drop (octet x 1) (drop 2 x) in
    let k = length-drop 2 x in
    omega arith

-- in fewer than two octets there is no option
small : (x : List ℕ) → length x < 2 → (segments x ≡ false) × (stands x ≡ false)
small x l = (
  and_left (leb 6 (length x)) (eqb (octet x 0) 16 && eqb (octet x 1) 4) (lt-leb 6 (length x) (omega arith)),
  and_left (leb 2 (length x)) (not (eqb (octet x 0) 0) && leb (octet x 1) (length (drop 2 x))) (lt-leb 2 (length x) (omega arith)),
)

-- what the option at the front decides, and who tells the rest
abbrev by : Option Segmentation → List ℕ → Option Segmentation
by rest x = cond (segments x) (Some (segmentation_of (drop 2 x))) (cond (stands x) rest None)

nothing : (rest : Option Segmentation) (x : List ℕ) → length x < 2 → by rest x ≡ None
nothing rest x l =
    cond-false (segments x) (Some (segmentation_of (drop 2 x))) (cond (stands x) rest None) (small x l).0
    ∙ cond-false (stands x) rest None (small x l).1

enough : (f g : ℕ) (x : List ℕ) → length x ≤ f → length x ≤ g → segmentation_in f x ≡ segmentation_in g x
enough zero zero x h k = refl
enough zero (suc g) x h k = sym (nothing (segmentation_in g (behind_option x)) x (omega arith))
enough (suc f) zero x h k = nothing (segmentation_in f (behind_option x)) x (omega arith)
enough (suc f) (suc g) x h k =
    ⊎_elim
    (λ (s : stands x ≡ true). let l = shorter x s in ap (λ r. by r x) (enough f g (behind_option x) (omega arith) (omega arith)))
    (λ (s : stands x ≡ false). ap (λ b. cond (segments x) (Some (segmentation_of (drop 2 x))) (cond b (segmentation_in f (behind_option x)) None)) s ∙ sym (ap (λ b. cond (segments x) (Some (segmentation_of (drop 2 x))) (cond b (segmentation_in g (behind_option x)) None)) s))
    (cases_Bool (stands x))

pub found_next : (x : List ℕ) → segmentation_found x ≡ cond (segments x) (Some (segmentation_of (drop 2 x))) (cond (stands x) (segmentation_found (behind_option x)) None)
unfolding segmentation_found
found_next x =
    ⊎_elim
    (λ (s : stands x ≡ true). let l = shorter x s in enough (length x) (suc (length x)) x (omega arith) (omega arith) ∙ ap (λ r. by r x) (enough (length x) (length (behind_option x)) (behind_option x) (omega arith) (omega arith)))
    (λ (s : stands x ≡ false). enough (length x) (suc (length x)) x (omega arith) (omega arith) ∙ ap (λ b. cond (segments x) (Some (segmentation_of (drop 2 x))) (cond b (segmentation_in (length x) (behind_option x)) None)) s ∙ sym (ap (λ b. cond (segments x) (Some (segmentation_of (drop 2 x))) (cond b (segmentation_in (length (behind_option x)) (behind_option x)) None)) s))
    (cases_Bool (stands x))

-- what the option at the front is tells the segmentation of the whole
segment_tells : (b d : Bool) (s t : Segmentation) (n : ℕ) (c : List ℕ) (r : Option Segmentation) → cond b (segment s) (cond d (other n c) ended) ≡ segment t → cond b (Some s) (cond d r None) ≡ Some t
segment_tells true d s t n c r h = cc
segment_tells false true s t n c r h = cc
segment_tells false false s t n c r h = cc

ended_tells : (b d : Bool) (s : Segmentation) (n : ℕ) (c : List ℕ) (r : Option Segmentation) → cond b (segment s) (cond d (other n c) ended) ≡ ended → cond b (Some s) (cond d r None) ≡ None
ended_tells true d s n c r h = cc
ended_tells false true s n c r h = cc
ended_tells false false s n c r h = cc

other_tells : (b d : Bool) (s : Segmentation) (n k : ℕ) (c e : List ℕ) (r : Option Segmentation) → cond b (segment s) (cond d (other n c) ended) ≡ other k e → (cond b (Some s) (cond d r None) ≡ r) × (d ≡ true)
other_tells true d s n k c e r h = (cc, cc)
other_tells false true s n k c e r h = (refl, refl)
other_tells false false s n k c e r h = (cc, cc)

pub first_segment : (x : List ℕ) (t : Segmentation) → first_option x ≡ segment t → segmentation_found x ≡ Some t
first_segment x t h =
    found_next x ∙ segment_tells (segments x) (stands x) (segmentation_of (drop 2 x)) t (octet x 0) (take (octet x 1) (drop 2 x)) (segmentation_found (behind_option x)) h

pub first_ended : (x : List ℕ) → first_option x ≡ ended → segmentation_found x ≡ None
first_ended x h =
    found_next x ∙ ended_tells (segments x) (stands x) (segmentation_of (drop 2 x)) (octet x 0) (take (octet x 1) (drop 2 x)) (segmentation_found (behind_option x)) h

pub first_other : (x : List ℕ) (k : ℕ) (e : List ℕ) → first_option x ≡ other k e → (segmentation_found x ≡ segmentation_found (behind_option x)) × (length (behind_option x) < length x)
first_other x k e h =
    let o = other_tells (segments x) (stands x) (segmentation_of (drop 2 x)) (octet x 0) k (take (octet x 1) (drop 2 x)) e (segmentation_found (behind_option x)) h in
    let l = shorter x o.1 in
    (found_next x ∙ o.0, omega arith)
