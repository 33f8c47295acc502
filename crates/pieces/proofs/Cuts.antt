-- Units cut into pieces.
use Rattle.std.proofs.Common.{◌≡◌, ℕ, zero, suc, ◌+◌, ◌-◌, ◌*◌, ◌/◌, ◌<◌, ◌≤◌, min, leb, ◌⊎◌, List, [], ◌∷◌, length, sym, refl, ap, ◌∙◌, subst, inl, inr, ⊎_elim, mul-le-mul_right, div-lt_iff_lt-mul, add-mul, one-mul, le-div_iff_mul-le, arith}
use Rattle.std.proofs.lemmas.Bool.{le-leb, lt-leb, cond-true, cond-false, cases_lt}
use Rattle.pieces.specs.Pieces.{in_one, in_piece, piece_count, message_size, option_size, total, Fit, SomeEach, lengths_from, lengths, AddsUp, Fewest, Figures}

-- so many pieces of p octets hold n
pub enough : (n p : ℕ) → 0 < p → n ≤ (n + p - 1) / p * p
enough n p pos =
    let q = (n + p - 1) / p in
    ⊎_elim
    (λ (lt : (n + p - 1) / p < q). absurd (omega arith))
    (λ (ge : q ≤ (n + p - 1) / p).
    ⊎_elim
    (λ (small : q * p < n).
    let more : q + 1 ≤ (n + p - 1) / p = (le-div_iff_mul-le pos).1 (omega (arith, add-mul q 1 p, one-mul p)) in
    absurd (omega arith))
    (λ (big : n ≤ q * p). big)
    (cases_lt (q * p) n))
    (cases_lt ((n + p - 1) / p) q)

-- fewer do not
least : (n p k : ℕ) → 0 < p → n ≤ k * p → (n + p - 1) / p ≤ k
least n p k pos h =
    let lt : (n + p - 1) / p < k + 1 = (div-lt_iff_lt-mul pos).1 (omega (arith, add-mul k 1 p, one-mul p)) in
    omega arith

-- all but one piece do not hold it
pub short : (n p i : ℕ) → 0 < p → i < (n + p - 1) / p → i * p < n
short n p i pos h =
    let more : i + 1 ≤ (n + p - 1) / p = omega arith in
    let m : (i + 1) * p ≤ n + p - 1 = (le-div_iff_mul-le pos).0 more in
    omega (arith, add-mul i 1 p, one-mul p)

-- pieces that fit hold at most so much
held : (a b o p : ℕ) (ds : List ℕ) → Fit a b o ds → ((d : ℕ) → message_size a b o d ≤ 272 → d ≤ p) → total ds ≤ length ds * p
held a b o p [] f h = omega arith
held a b o p (d ∷ ds) f h =
    let k = held a b o p ds f.1 h in
    let e = h d f.0 in
    omega (arith, add-mul (length ds) 1 p, one-mul p)

count_one : (a b n : ℕ) → n ≤ in_one a b → piece_count a b n ≡ 1
count_one a b n h = cond-true (leb n (in_one a b)) 1 ((n + in_piece a b - 1) / in_piece a b) (le-leb n (in_one a b) h)

count_more : (a b n : ℕ) → in_one a b < n → piece_count a b n ≡ (n + in_piece a b - 1) / in_piece a b
count_more a b n h = cond-false (leb n (in_one a b)) 1 ((n + in_piece a b - 1) / in_piece a b) (lt-leb n (in_one a b) h)

fewest_of : (a b n : ℕ) → a ≤ 32 → b ≤ 32 → 1 ≤ n → (ds : List ℕ) → total ds ≡ n → Fit a b (option_size (length ds)) ds → (n ≤ in_one a b) ⊎ (in_one a b < n) → piece_count a b n ≤ length ds
fewest_of a b n ha hb one [] t f w = absurd (omega arith)
fewest_of a b n ha hb one (d ∷ ds) t f (inl w) = let e = count_one a b n w in omega arith
fewest_of a b n ha hb one (d ∷ []) t f (inr w) = absurd (omega (arith, f.0))
fewest_of a b n ha hb one (d ∷ e ∷ ds) t f (inr w) =
    let o : option_size (length (d ∷ e ∷ ds)) ≡ 7 = cond-false (leb (length (d ∷ e ∷ ds)) 1) 0 7 (lt-leb (length (d ∷ e ∷ ds)) 1 (omega arith)) in
    let g : Fit a b 7 (d ∷ e ∷ ds) = subst (λ k. Fit a b k (d ∷ e ∷ ds)) o f in
    let h = held a b 7 (in_piece a b) (d ∷ e ∷ ds) g (λ c k. omega arith) in
    let l = least n (in_piece a b) (length (d ∷ e ∷ ds)) (omega arith) (omega arith) in
    let c = count_more a b n w in
    omega arith

order : (n m : ℕ) → (n ≤ m) ⊎ (m < n)
order n m = ⊎_elim (λ (h : m < n). inr h) (λ (h : n ≤ m). inl h) (cases_lt m n)

pub fewest : Fewest
fewest a b n ha hb one ds t f = fewest_of a b n ha hb one ds t f (order n (in_one a b))

-- the lengths of k pieces of at most p octets, with i of them gone
abbrev even : ℕ → ℕ → ℕ → ℕ → List ℕ
even p n zero i = []
even p n (suc k) i = min p (n - i * p) ∷ even p n k (i + 1)

even_is : (a b n k i : ℕ) → in_one a b < n → lengths_from a b n k i ≡ even (in_piece a b) n k i
even_is a b n zero i h = refl
even_is a b n (suc k) i h =
    ap (λ z. z ∷ lengths_from a b n k (i + 1)) (cond-false (leb n (in_one a b)) n (min (in_piece a b) (n - i * in_piece a b)) (lt-leb n (in_one a b) h))
    ∙ ap (λ z. min (in_piece a b) (n - i * in_piece a b) ∷ z) (even_is a b n k (i + 1) h)

even_total : (p n k i : ℕ) → n ≤ (i + k) * p → total (even p n k i) ≡ n - i * p
even_total p n zero i h = let z : (i + 0) * p ≡ i * p = ap (λ j. j * p) (let e : i + 0 ≡ i = omega arith in e) in omega arith
even_total p n (suc k) i h =
    let z : (i + suc k) * p ≡ (i + 1 + k) * p = ap (λ j. j * p) (let e : i + suc k ≡ i + 1 + k = omega arith in e) in
    let r = even_total p n k (i + 1) (omega arith) in
    omega (arith, add-mul i 1 p, one-mul p)

even_some : (p n k i : ℕ) → 0 < p → (k ≡ 0) ⊎ ((i + k - 1) * p < n) → SomeEach (even p n k i)
even_some p n zero i pos h = tt
even_some p n (suc zero) i pos (inl h) = absurd (omega arith)
even_some p n (suc zero) i pos (inr h) =
    let z : (i + 1 - 1) * p ≡ i * p = ap (λ j. j * p) (let e : i + 1 - 1 ≡ i = omega arith in e) in
    (omega arith, tt)
even_some p n (suc (suc k)) i pos (inl h) = absurd (omega arith)
even_some p n (suc (suc k)) i pos (inr h) =
    let z : (i + suc (suc k) - 1) * p ≡ (i + 1 + suc k - 1) * p = ap (λ j. j * p) (let e : i + suc (suc k) - 1 ≡ i + 1 + suc k - 1 = omega arith in e) in
    let y : (i + suc (suc k) - 1) * p ≡ i * p + suc k * p = ap (λ j. j * p) (let e : i + suc (suc k) - 1 ≡ i + suc k = omega arith in e) ∙ add-mul i (suc k) p in
    (omega arith, even_some p n (suc k) (i + 1) pos (inr (omega arith)))

even_fit : (a b n k i : ℕ) → a ≤ 32 → b ≤ 32 → Fit a b 7 (even (in_piece a b) n k i)
even_fit a b n zero i ha hb = tt
even_fit a b n (suc k) i ha hb = (omega arith, even_fit a b n k (i + 1) ha hb)

adds_up_of : (a b n : ℕ) → a ≤ 32 → b ≤ 32 → 1 ≤ n → (n ≤ in_one a b) ⊎ (in_one a b < n) → (total (lengths a b n) ≡ n) × SomeEach (lengths a b n) × Fit a b (option_size (piece_count a b n)) (lengths a b n)
adds_up_of a b n ha hb one (inl w) =
    let c = count_one a b n w in
    let l : lengths a b n ≡ n ∷ [] = ap (λ k. lengths_from a b n k 0) c ∙ ap (λ z. z ∷ []) (cond-true (leb n (in_one a b)) n (min (in_piece a b) (n - 0 * in_piece a b)) (le-leb n (in_one a b) w)) in (
      ap total l ∙ (omega arith),
      subst SomeEach (sym l) (one, tt),
      subst (λ k. Fit a b (option_size k) (lengths a b n)) (sym c) (subst (Fit a b 0) (sym l) (omega arith, tt)),
    )
adds_up_of a b n ha hb one (inr w) =
    let p = in_piece a b in
    let q = (n + p - 1) / p in
    let c = count_more a b n w in
    let l : lengths a b n ≡ even p n q 0 = ap (λ k. lengths_from a b n k 0) c ∙ even_is a b n q 0 w in
    let e = enough n p (omega arith) in
    let z : (0 + q) * p ≡ q * p = ap (λ j. j * p) (let y : 0 + q ≡ q = omega arith in y) in
    let t = even_total p n q 0 (omega arith) in
    let many : 2 ≤ q = ⊎_elim (λ (h : q < 2). absurd (let k : q * p ≤ 1 * p = mul-le-mul_right p (let j : q ≤ 1 = omega arith in j) in omega (arith, one-mul p))) (λ (h : 2 ≤ q). h) (cases_lt q 2) in
    let s = short n p (q - 1) (omega arith) (omega arith) in
    let y : (0 + q - 1) * p ≡ (q - 1) * p = ap (λ j. j * p) (let x : 0 + q - 1 ≡ q - 1 = omega arith in x) in
    let o : option_size (piece_count a b n) ≡ 7 = cond-false (leb (piece_count a b n) 1) 0 7 (lt-leb (piece_count a b n) 1 (omega arith)) in (
      ap total l ∙ t ∙ (omega arith),
      subst SomeEach (sym l) (even_some p n q 0 (omega arith) (inr (omega arith))),
      subst (λ k. Fit a b k (lengths a b n)) (sym o) (subst (Fit a b 7) (sym l) (even_fit a b n q 0 ha hb)),
    )

pub adds_up : AddsUp
adds_up a b n ha hb one = adds_up_of a b n ha hb one (order n (in_one a b))

pub figures : Figures
figures = (refl, refl, refl)
