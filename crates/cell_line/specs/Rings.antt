-- What a put and a take leave of a ring of cells.
use Rattle.std.specs.Prelude.{◌≡◌, ℕ, zero, suc, ◌+◌, ◌-◌, ◌*◌, ◌<◌, ◌≤◌, true, ◌⊎◌, List, [], ◌∷◌, ◌++◌, map, length, take, drop, slice_index}
use Rattle.std.proofs.Common.{arith, zero-add, sym, ap, ◌∙◌, subst, below_more}
use Rattle.std.specs.List.{range_with_len}
use Rattle.std.proofs.lemmas.Bool.Decides.{nat_tests}
use Rattle.std.proofs.lemmas.List.{take_all}
use Rattle.std.proofs.lemmas.List.FromFn.{length-map-range_with_len, map-range_with_len_more}
use Rattle.line.specs.Meaning.{fits, all_fit, least_octets, most_octets, oldest, others}
use Rattle.std.proofs.lemmas.Grind.{common_steps}
use Rattle.octets.specs.Over.{over}
use Rattle.line.specs.Written.{two, two_octets, SameOut}
use Rattle.octets.proofs.Over.{over_length}
use Rattle.line.proofs.Writes.{over_in, over_out, two_over, part_same}
use Rattle.line.proofs.Fitting.{map_same, all_fit_map, fits_bounds, bounds_fit}
use Rattle.cell_line.specs.Ring.{cell_octets, wrap, cell_start, cell_message, messages, Held}

-- the cells of a ring are apart
pub wrap_in : (cells head k : ℕ) → head < cells → k ≤ cells → wrap cells head k < cells
wrap_in cells head k h l = grind (arith, nat_tests)

wrap_zero : (cells head : ℕ) → head < cells → wrap cells head 0 ≡ head
wrap_zero cells head h = grind (arith, nat_tests)

wrap_next : (cells head k : ℕ) → head < cells → k < cells → wrap cells (wrap cells head 1) k ≡ wrap cells head (k + 1)
wrap_next cells head k h l = grind (arith, nat_tests)

start_in : (cells head k n : ℕ) → cell_octets * cells ≤ n → head < cells → k ≤ cells → cell_start cells head k + cell_octets ≤ n
start_in cells head k n i h l = let w = wrap_in cells head k h l in omega arith

abbrev Apart : ℕ → ℕ → Type 0
Apart c at = (c + cell_octets ≤ at) ⊎ (at + cell_octets ≤ c)

apart : (cells head k n : ℕ) → head < cells → k < n → n < cells → Apart (cell_start cells head k) (cell_start cells head n)
apart cells head k n h l u = grind (arith, nat_tests)

-- the cells that are not written stay
cell_same : (a b : List ℕ) (at c : ℕ) → length b ≡ length a → SameOut b a at (at + cell_octets) → Apart c at → c + cell_octets ≤ length a → two a c ≤ most_octets → (two b c ≡ two a c) × (cell_message b c ≡ cell_message a c)
cell_same a b at c el s side i le = grind (arith, common_steps, part_same b a (c + 2) (c + 2) (two a c))

-- the area after a message was written into the cell behind the last
abbrev pub wrote : List ℕ → ℕ → ℕ → ℕ → List ℕ → List ℕ
wrote a cells head count m = over a (cell_start cells head count) (two_octets (length m) ++ m)

-- what a put finds
pub record Put (a m : List ℕ) (cells head count : ℕ) : Type 0 where
  pub inside : cell_octets * cells ≤ length a
  pub headin : head < cells
  pub room : count < cells
  pub least : least_octets ≤ length m
  pub most : length m ≤ most_octets
  pub held : Held a cells head count

wrote_length : (a m : List ℕ) (cells head count : ℕ) → Put a m cells head count → length (wrote a cells head count m) ≡ length a
wrote_length a m cells head count p = grind (arith, over_length, start_in cells head count (length a) p.inside p.headin, p.room, p.most)

wrote_same : (a m : List ℕ) (cells head count : ℕ) → Put a m cells head count → SameOut (wrote a cells head count m) a (cell_start cells head count) (cell_start cells head count + cell_octets)
wrote_same a m cells head count p k side = grind (arith, over_out, start_in cells head count (length a) p.inside p.headin, p.room, p.most)

wrote_two : (a m : List ℕ) (cells head count : ℕ) → Put a m cells head count → two (wrote a cells head count m) (cell_start cells head count) ≡ length m
wrote_two a m cells head count p =
    let i = start_in cells head count (length a) p.inside p.headin (let r = p.room in omega arith) in
    two_over a (cell_start cells head count) (length m) m (omega arith)

wrote_message : (a m : List ℕ) (cells head count : ℕ) → Put a m cells head count → cell_message (wrote a cells head count m) (cell_start cells head count) ≡ m
wrote_message a m cells head count p =
    let at = cell_start cells head count in
    let b = wrote a cells head count m in
    let i = start_in cells head count (length a) p.inside p.headin (let r = p.room in omega arith) in
    let u = p.most in
    let n = wrote_length a m cells head count p in
    ap (λ k. take k (drop (at + 2) b)) (wrote_two a m cells head count p)
    ∙ (part_same b m (at + 2) 0 (length m) (omega arith) (omega arith)
    (λ k l. ap (λ j. slice_index b j) (omega arith) ∙ (over_in a at (two_octets (length m) ++ m) (omega arith) (suc (suc k)) (omega arith) ∙ ap (λ j. slice_index m j) (sym (zero-add k))))
    ∙ take_all (length m) m (omega arith))

wrote_cell : (a m : List ℕ) (cells head count : ℕ) → Put a m cells head count → (k : ℕ) → k < count → (two (wrote a cells head count m) (cell_start cells head k) ≡ two a (cell_start cells head k)) × (cell_message (wrote a cells head count m) (cell_start cells head k) ≡ cell_message a (cell_start cells head k))
wrote_cell a m cells head count p k l =
    let r = p.room in
    cell_same a (wrote a cells head count m) (cell_start cells head count) (cell_start cells head k) (wrote_length a m cells head count p) (wrote_same a m cells head count p)
    (apart cells head k count p.headin l p.room)
    (start_in cells head k (length a) p.inside p.headin (omega arith))
    (fits_bounds (two a (cell_start cells head k)) (p.held k l)).1

pub ring_put : (a m : List ℕ) (cells head count : ℕ) → Put a m cells head count → messages (wrote a cells head count m) cells head (count + 1) ≡ messages a cells head count ++ m ∷ []
unfolding messages
ring_put a m cells head count p =
    let f : ℕ → List ℕ = λ k. cell_message a (cell_start cells head k) in
    let g : ℕ → List ℕ = λ k. cell_message (wrote a cells head count m) (cell_start cells head k) in
    let agree : (k : ℕ) → k < count → g (0 + k) ≡ f (0 + k) = λ k l. ap g (zero-add k) ∙ ((wrote_cell a m cells head count p k l).1 ∙ ap f (sym (zero-add k))) in
    map-range_with_len_more g 0 count count (zero-add count)
    ∙ (ap (λ xs. xs ++ g count ∷ []) (map_same g f 0 0 count agree)
    ∙ ap (λ x. map f (range_with_len 0 count) ++ x ∷ []) (wrote_message a m cells head count p))

pub held_put : (a m : List ℕ) (cells head count : ℕ) → Put a m cells head count → Held (wrote a cells head count m) cells head (count + 1)
held_put a m cells head count p =
    below_more (λ k. fits (two (wrote a cells head count m) (cell_start cells head k)) ≡ true) count
    (λ k l. ap fits (wrote_cell a m cells head count p k l).0 ∙ p.held k l)
    (ap fits (wrote_two a m cells head count p) ∙ bounds_fit (length m) p.least p.most)

-- what a put leaves in an area
pub record Kept (a b m : List ℕ) (cells head count : ℕ) : Type 0 where
  pub after : messages b cells head (count + 1) ≡ messages a cells head count ++ m ∷ []
  pub held : Held b cells head (count + 1)

pub kept : (a b m : List ℕ) (cells head count : ℕ) → Put a m cells head count → b ≡ wrote a cells head count m → Kept a b m cells head count
kept a b m cells head count p w = subst (λ (z : List ℕ). Kept a z m cells head count) (sym w) (record { after = ring_put a m cells head count p; held = held_put a m cells head count p })

-- the oldest message taken
pub ring_take : (a : List ℕ) (cells head count : ℕ) → head < cells → count ≤ cells → 0 < count → messages a cells head count ≡ cell_message a (cell_octets * head) ∷ messages a cells (wrap cells head 1) (count - 1)
unfolding messages
ring_take a cells head zero h u p = absurd (omega arith)
ring_take a cells head (suc n) h u p =
    let f : ℕ → List ℕ = λ k. cell_message a (cell_start cells head k) in
    let g : ℕ → List ℕ = λ k. cell_message a (cell_start cells (wrap cells head 1) k) in
    let hd : f 0 ≡ cell_message a (cell_octets * head) = ap (λ x. cell_message a (cell_octets * x)) (wrap_zero cells head h) in
    let agree : (k : ℕ) → k < n → f (0 + 1 + k) ≡ g (0 + k) = λ k l. ap (λ x. cell_message a (cell_octets * x)) (ap (wrap cells head) (omega arith) ∙ (sym (wrap_next cells head k h (omega arith)) ∙ ap (wrap cells (wrap cells head 1)) (sym (zero-add k)))) in
    let tl : map f (range_with_len (0 + 1) n) ≡ map g (range_with_len 0 (suc n - 1)) = map_same f g (0 + 1) 0 n agree ∙ ap (λ x. map g (range_with_len 0 x)) (omega arith) in
    ap (λ x. x ∷ map f (range_with_len (0 + 1) n)) hd ∙ ap (λ xs. cell_message a (cell_octets * head) ∷ xs) tl

pub oldest_is : (a : List ℕ) (cells head count : ℕ) → head < cells → count ≤ cells → 0 < count → oldest (messages a cells head count) ≡ cell_message a (cell_octets * head)
oldest_is a cells head count h u p = ap oldest (ring_take a cells head count h u p)

pub others_are : (a : List ℕ) (cells head count : ℕ) → head < cells → count ≤ cells → 0 < count → messages a cells (wrap cells head 1) (count - 1) ≡ others (messages a cells head count)
others_are a cells head count h u p = sym (ap others (ring_take a cells head count h u p))

pub held_take : (a : List ℕ) (cells head count : ℕ) → head < cells → count ≤ cells → 0 < count → Held a cells head count → Held a cells (wrap cells head 1) (count - 1)
held_take a cells head count h u p held k l = grind (arith, wrap_next cells head k h, held (k + 1))

-- the length of the oldest message is one that a message may have
pub held_oldest : (a : List ℕ) (cells head count : ℕ) → head < cells → 0 < count → Held a cells head count → (least_octets ≤ two a (cell_octets * head)) × (two a (cell_octets * head) ≤ most_octets)
held_oldest a cells head count h p held = fits_bounds (two a (cell_octets * head)) (ap (λ (x : ℕ). fits (two a (cell_octets * x))) (sym (wrap_zero cells head h)) ∙ held 0 p)

pub ring_none : (a : List ℕ) (cells head count : ℕ) → count ≡ 0 → messages a cells head count ≡ []
unfolding messages
ring_none a cells head count e = ap (λ n. map (λ k. cell_message a (cell_start cells head k)) (range_with_len 0 n)) e

-- how many messages there are, and that each has a length that it may have
pub ring_length : (a : List ℕ) (cells head count : ℕ) → length (messages a cells head count) ≡ count
unfolding messages
ring_length a cells head count = length-map-range_with_len (λ k. cell_message a (cell_start cells head k)) 0 count

pub message_length : (a : List ℕ) (at : ℕ) → at + cell_octets ≤ length a → two a at ≤ most_octets → length (cell_message a at) ≡ two a at
message_length a at i u = grind (arith, common_steps)

pub ring_fits : (a : List ℕ) (cells head count : ℕ) → cell_octets * cells ≤ length a → head < cells → count ≤ cells → Held a cells head count → all_fit (messages a cells head count) ≡ true
unfolding messages
ring_fits a cells head count i h u held =
    all_fit_map _ 0 count (λ k l. grind (arith, message_length, start_in cells head k (length a) i h, held k, fits_bounds))
