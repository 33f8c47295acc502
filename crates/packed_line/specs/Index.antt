-- Entries of the index.
use Rattle.std.specs.Prelude.{◌≡◌, ℕ, zero, suc, ◌+◌, ◌-◌, ◌*◌, ◌<◌, ◌≤◌, ◌⊎◌, List, ◌++◌, length, drop, slice_index, slice_range, refl}
use Rattle.std.proofs.Common.{arith, add-one, sym, ap, ◌∙◌, inl, inr, below_more}
use Rattle.std.proofs.Math.Seq.{paste}
use Rattle.std.proofs.lemmas.Grind.{common_steps}
use Rattle.octets.specs.Over.{over}
use Rattle.line.specs.Written.{two, two_octets, Holds}
use Rattle.octets.proofs.Over.{over_length}
use Rattle.line.proofs.Writes.{over_in, over_out, two_over}
use Rattle.packed_line.specs.Pack.{entry_start, entry_octets, offset_of, length_of, moved, lowered}

-- the entries of one list are those of another one place on, their offsets lowered by n
abbrev pub Lowered : List ℕ → List ℕ → ℕ → ℕ → ℕ → Type 0
Lowered a b total count n = (k : ℕ) → k < count → (offset_of a total k ≡ offset_of b total (k + 1) - n) × (length_of a total k ≡ length_of b total (k + 1))

-- an entry that was written
pub entry_off : (xs : List ℕ) (at off len : ℕ) → at + 4 ≤ length xs → two (over xs at (entry_octets off len)) at ≡ off
entry_off xs at off len h = two_over xs at off (two_octets len) (omega arith)

pub entry_len : (xs : List ℕ) (at off len : ℕ) → at + 4 ≤ length xs → two (over xs at (entry_octets off len)) (at + 2) ≡ len
entry_len xs at off len h =
    let low = over_in xs at (entry_octets off len) (omega arith) 2 (omega arith) in
    let high = over_in xs at (entry_octets off len) (omega arith) 3 (omega arith) in
    grind arith

-- an entry whose octets are the same
pub entry_same : (a b : List ℕ) (total k : ℕ) → ((i : ℕ) → entry_start total k ≤ i → i < entry_start total k + 4 → slice_index a i ≡ slice_index b i) → (offset_of a total k ≡ offset_of b total k) × (length_of a total k ≡ length_of b total k)
entry_same a b total k e = grind (arith, e)

-- what is outside the entries that were lowered stays
pub lowered_length : (xs : List ℕ) (total n k : ℕ) → 4 * (k + 1) ≤ total → total ≤ length xs → length (lowered xs total n k) ≡ length xs
unfolding lowered
lowered_length xs total n zero h i = refl
lowered_length xs total n (suc k) h i = grind (arith, over_length, lowered_length xs total n k)

pub lowered_out : (xs : List ℕ) (total n k : ℕ) → 4 * (k + 1) ≤ total → total ≤ length xs → (i : ℕ) → (i < total - 4 * k) ⊎ (total ≤ i) → slice_index (lowered xs total n k) i ≡ slice_index xs i
unfolding lowered
lowered_out xs total n zero h i j s = refl
lowered_out xs total n (suc k) h i j s = grind (arith, over_out, lowered_length xs total n k, lowered_out xs total n k)

-- entry k + 1 is as it was once the first k are lowered
pub lowered_next : (xs : List ℕ) (total n k : ℕ) → 4 * (k + 2) ≤ total → total ≤ length xs → (offset_of (lowered xs total n k) total (k + 1) ≡ offset_of xs total (k + 1)) × (length_of (lowered xs total n k) total (k + 1) ≡ length_of xs total (k + 1))
lowered_next xs total n k h i = entry_same (lowered xs total n k) xs total (k + 1) (λ j p q. lowered_out xs total n k (omega arith) i j (inl (omega arith)))

pub lowered_next_offset : (xs : List ℕ) (total n k : ℕ) → 4 * (k + 2) ≤ total → total ≤ length xs → offset_of (lowered xs total n k) total (k + 1) ≡ offset_of xs total (k + 1)
lowered_next_offset xs total n k h i = (lowered_next xs total n k h i).0

pub lowered_next_length : (xs : List ℕ) (total n k : ℕ) → 4 * (k + 2) ≤ total → total ≤ length xs → length_of (lowered xs total n k) total (k + 1) ≡ length_of xs total (k + 1)
lowered_next_length xs total n k h i = (lowered_next xs total n k h i).1

pub lowered_more : (xs : List ℕ) (total n k : ℕ) → lowered xs total n (k + 1) ≡ over (lowered xs total n k) (entry_start total k) (entry_octets (offset_of xs total (k + 1) - n) (length_of xs total (k + 1)))
unfolding lowered
lowered_more xs total n k = ap (lowered xs total n) (add-one k)

pub lowered_none : (xs : List ℕ) (total n : ℕ) → lowered xs total n 0 ≡ xs
unfolding lowered
lowered_none xs total n = refl

pub lowered_is : (xs : List ℕ) (total n k : ℕ) → 4 * (k + 1) ≤ total → total ≤ length xs → Lowered (lowered xs total n k) xs total k n
unfolding lowered
lowered_is xs total n zero h i j l = absurd (omega arith)
lowered_is xs total n (suc k) h i j l =
    let b = lowered xs total n k in
    let at = entry_start total k in
    let off = offset_of xs total (k + 1) - n in
    let len = length_of xs total (k + 1) in
    let z = lowered_length xs total n k (omega arith) i in
    let c = over b at (entry_octets off len) in
    below_more (λ x. (offset_of c total x ≡ offset_of xs total (x + 1) - n) × (length_of c total x ≡ length_of xs total (x + 1))) k
    (λ x y.
    let s = entry_same c b total x (λ u p q. over_out b at (entry_octets off len) (omega arith) u (inr (omega arith))) in
    let r = lowered_is xs total n k (omega arith) i x y in
    (s.0 ∙ r.0, s.1 ∙ r.1))
    (entry_off b at off len (omega arith), entry_len b at off len (omega arith))
    j (omega arith)

-- the first octets moved to the front
pub moved_length : (xs : List ℕ) (n used : ℕ) → n ≤ used → used ≤ length xs → length (slice_range xs n used) ≡ used - n
moved_length xs n used h i = grind (arith, common_steps)

-- as a copy within the area leaves it
pub moved_paste : (xs : List ℕ) (n used : ℕ) → n ≤ used → used ≤ length xs → paste xs 0 (drop n xs) (used - n) ≡ moved xs n used
unfolding over
moved_paste xs n used h i = ap (λ k. slice_range xs n used ++ drop (0 + k) xs) (sym (moved_length xs n used h i))

pub moved_in : (xs : List ℕ) (n used : ℕ) → n ≤ used → used ≤ length xs → Holds (moved xs n used) 0 xs n (used - n)
moved_in xs n used h i k l = grind (arith, common_steps, moved_length xs n used h i, over_in xs 0 (slice_range xs n used) (omega arith) k)

pub moved_out : (xs : List ℕ) (n used : ℕ) → n ≤ used → used ≤ length xs → (k : ℕ) → used - n ≤ k → slice_index (moved xs n used) k ≡ slice_index xs k
moved_out xs n used h i k l = grind (arith, over_out, moved_length xs n used h i)

pub moved_same : (xs : List ℕ) (n used : ℕ) → n ≤ used → used ≤ length xs → length (moved xs n used) ≡ length xs
moved_same xs n used h i = grind (arith, over_length, moved_length xs n used h i)
