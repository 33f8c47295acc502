-- Messages by index, and the lengths that they may have.
use Rattle.std.proofs.Common.{◌≡◌, ℕ, zero, suc, ◌+◌, ◌<◌, ◌≤◌, true, ◌&&◌, List, map, length, sym, refl, ap, ◌∙◌, arith}
use Rattle.std.specs.List.{range_with_len}
use Rattle.std.proofs.lemmas.List.{same_lists}
use Rattle.std.proofs.lemmas.Bool.Decides.{nat_tests}
use Rattle.std.proofs.lemmas.List.FromFn.{length-map-range_with_len, get_or-map-range_with_len}
use Rattle.line.specs.Meaning.{fits, all_fit, least_octets, most_octets}

-- a list made by index, at two functions that agree
pub map_same : (f g : ℕ → List ℕ) (a b n : ℕ) → ((k : ℕ) → k < n → f (a + k) ≡ g (b + k)) → map f (range_with_len a n) ≡ map g (range_with_len b n)
map_same f g a b n e =
    let la = length-map-range_with_len f a n in
    let lb = length-map-range_with_len g b n in
    same_lists (map f (range_with_len a n)) (map g (range_with_len b n)) (la ∙ sym lb)
    (λ k d h. let kn : k < n = omega arith in get_or-map-range_with_len f a n k (a + k) d kn refl ∙ (e k kn ∙ sym (get_or-map-range_with_len g b n k (b + k) d kn refl)))

pub all_fit_map : (f : ℕ → List ℕ) (a n : ℕ) → ((k : ℕ) → k < n → fits (length (f (a + k))) ≡ true) → all_fit (map f (range_with_len a n)) ≡ true
all_fit_map f a zero e = refl
all_fit_map f a (suc n) e =
    let z : a + 0 ≡ a = omega arith in
    let h : fits (length (f a)) ≡ true = ap (λ x. fits (length (f x))) (sym z) ∙ e 0 (omega arith) in
    let t : all_fit (map f (range_with_len (a + 1) n)) ≡ true = all_fit_map f (a + 1) n (λ k l. ap (λ x. fits (length (f x))) (omega arith) ∙ e (k + 1) (omega arith)) in
    ap (λ b. b && all_fit (map f (range_with_len (a + 1) n))) h ∙ t

pub fits_bounds : (n : ℕ) → fits n ≡ true → (least_octets ≤ n) × (n ≤ most_octets)
fits_bounds n e = (grind (arith, nat_tests), grind (arith, nat_tests))

pub bounds_fit : (n : ℕ) → least_octets ≤ n → n ≤ most_octets → fits n ≡ true
bounds_fit n l u = grind (arith, nat_tests)
