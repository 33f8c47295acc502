-- What a put and a take leave of the messages.
use Rattle.std.specs.Prelude.{◌≡◌, ℕ, zero, suc, ◌+◌, ◌-◌, ◌*◌, ◌<◌, ◌≤◌, true, List, [], ◌∷◌, ◌++◌, map, length, take, drop, slice_index, refl}
use Rattle.std.proofs.Common.{arith, zero-add, add-one, sym, ap, ◌∙◌, subst, inl, inr}
use Rattle.std.specs.List.{range_with_len}
use Rattle.std.proofs.lemmas.List.{take_all}
use Rattle.std.proofs.Math.Seq.{paste}
use Rattle.std.proofs.lemmas.Bool.{cases_order}
use Rattle.std.proofs.lemmas.List.FromFn.{length-map-range_with_len, map-range_with_len_more}
use Rattle.line.specs.Meaning.{fits, all_fit, least_octets, most_octets, oldest, others}
use Rattle.std.proofs.lemmas.Grind.{common_steps}
use Rattle.std.proofs.lemmas.Bool.Decides.{nat_tests}
use Rattle.octets.specs.Over.{over}
use Rattle.line.specs.Written.{Holds, SameOut}
use Rattle.octets.proofs.Over.{over_length}
use Rattle.line.proofs.Writes.{over_in, over_out, part_same}
use Rattle.line.proofs.Fitting.{map_same, all_fit_map}
use Rattle.packed_line.specs.Pack.{entry_start, offset_of, length_of, message_of, messages, octets_of, uses, Placed, Held, put_packed, take_packed, moved, lowered}
use Rattle.packed_line.specs.Index.{Lowered, entry_off, entry_len, entry_same, lowered_length, lowered_out, lowered_is, moved_paste, moved_in, moved_out, moved_same}

-- octets of the first messages
oct_none : (a : List ℕ) (total : ℕ) → octets_of a total 0 ≡ 0
unfolding octets_of
oct_none a total = refl

oct_more : (a : List ℕ) (total k : ℕ) → octets_of a total (k + 1) ≡ octets_of a total k + length_of a total k
unfolding octets_of
oct_more a total k = ap (octets_of a total) (add-one k)

oct_below : (a : List ℕ) (total k count : ℕ) → k < count → octets_of a total k + length_of a total k ≤ octets_of a total count
unfolding octets_of
oct_below a total k zero h = absurd (omega arith)
oct_below a total k (suc n) h = elim (cases_order k n) [ inl e ↦ grind arith | inr s ↦ grind (arith, oct_below a total k n) ]

oct_same : (a b : List ℕ) (total k : ℕ) → ((j : ℕ) → j < k → length_of a total j ≡ length_of b total j) → octets_of a total k ≡ octets_of b total k
unfolding octets_of
oct_same a b total zero e = refl
oct_same a b total (suc n) e = grind (arith, oct_same a b total n, e)

oct_shift : (a b : List ℕ) (total k : ℕ) → ((j : ℕ) → j < k → length_of b total j ≡ length_of a total (j + 1)) → octets_of b total k + length_of a total 0 ≡ octets_of a total (k + 1)
unfolding octets_of
oct_shift a b total zero e = grind (arith, oct_more)
oct_shift a b total (suc n) e = grind (arith, oct_more, oct_shift a b total n, e)

pub pack_length : (a : List ℕ) (total count : ℕ) → length (messages a total count) ≡ count
unfolding messages
pack_length a total count = length-map-range_with_len (λ k. message_of a total k) 0 count

-- a message has the length that its entry tells
pub message_length : (a : List ℕ) (total used count : ℕ) → total ≤ length a → used + 4 * count ≤ total → octets_of a total count ≡ used → Placed a total count → (k : ℕ) → k < count → length (message_of a total k) ≡ length_of a total k
message_length a total used count i r e p k l = grind (arith, common_steps, oct_below a total k count l, p k l)

-- what the messages use is what the line counts
uses_push : (ms : List (List ℕ)) (m : List ℕ) → uses (ms ++ m ∷ []) ≡ uses ms + (length m + 4)
uses_push [] m = omega arith
uses_push (x ∷ xs) m = grind (arith, uses_push xs m)

uses_upto : (a : List ℕ) (total used count : ℕ) → total ≤ length a → used + 4 * count ≤ total → octets_of a total count ≡ used → Placed a total count → (n : ℕ) → n ≤ count → uses (messages a total n) ≡ octets_of a total n + 4 * n
unfolding messages
uses_upto a total used count h r e p zero l = let o = oct_none a total in omega arith
uses_upto a total used count h r e p (suc n) l =
    let i = uses_upto a total used count h r e p n (omega arith) in
    let m = message_length a total used count h r e p n (omega arith) in
    let o = oct_more a total n in
    let f : ℕ → List ℕ = λ k. message_of a total k in
    let s : map f (range_with_len 0 (suc n)) ≡ map f (range_with_len 0 n) ++ f n ∷ [] = ap (λ x. map f (range_with_len 0 x)) (sym (add-one n)) ∙ map-range_with_len_more f 0 n n (zero-add n) in
    let z = uses_push (map f (range_with_len 0 n)) (f n) in
    let d : octets_of a total (suc n) ≡ octets_of a total (n + 1) = ap (octets_of a total) (sym (add-one n)) in
    ap uses s ∙ omega arith

pub uses_is : (a : List ℕ) (total used count : ℕ) → total ≤ length a → used + 4 * count ≤ total → octets_of a total count ≡ used → Placed a total count → uses (messages a total count) ≡ used + 4 * count
uses_is a total used count h r e p = let u = uses_upto a total used count h r e p count (omega arith) in omega arith

-- what a put finds
pub record Put (a m : List ℕ) (total used count : ℕ) : Type 0 where
  pub inside : total ≤ length a
  pub room : used + length m + 4 * (count + 1) ≤ total
  pub least : least_octets ≤ length m
  pub most : length m ≤ most_octets
  pub ends : octets_of a total count ≡ used
  pub placed : Placed a total count
  pub held : Held a total count

-- and what it leaves
put_size : (a m : List ℕ) (total used count : ℕ) → Put a m total used count → (length (over a used m) ≡ length a) × (length (put_packed a total used count m) ≡ length a)
put_size a m total used count p = grind (arith, over_length, p.inside, p.room)

put_entry : (a m : List ℕ) (total used count : ℕ) → Put a m total used count → (offset_of (put_packed a total used count m) total count ≡ used) × (length_of (put_packed a total used count m) total count ≡ length m)
put_entry a m total used count p =
    let i = p.inside in
    let r = p.room in
    let l = (put_size a m total used count p).0 in
    (entry_off (over a used m) (entry_start total count) used (length m) (omega arith), entry_len (over a used m) (entry_start total count) used (length m) (omega arith))

put_octets : (a m : List ℕ) (total used count : ℕ) → Put a m total used count → Holds (put_packed a total used count m) used m 0 (length m)
put_octets a m total used count p k h = grind (arith, over_out, over_in, over_length, p.inside, p.room)

put_others : (a m : List ℕ) (total used count : ℕ) → Put a m total used count → SameOut (put_packed a total used count m) a used (total - 4 * count)
put_others a m total used count p k side = grind (arith, over_out, over_length, p.inside, p.room)

put_same : (a m : List ℕ) (total used count : ℕ) → Put a m total used count → (k : ℕ) → k < count → (offset_of (put_packed a total used count m) total k ≡ offset_of a total k) × (length_of (put_packed a total used count m) total k ≡ length_of a total k)
put_same a m total used count p k l =
    let r = p.room in
    entry_same (put_packed a total used count m) a total k (λ i x y. put_others a m total used count p i (inr (omega arith)))

put_oct : (a m : List ℕ) (total used count : ℕ) → Put a m total used count → (k : ℕ) → k ≤ count → octets_of (put_packed a total used count m) total k ≡ octets_of a total k
put_oct a m total used count p k l = oct_same (put_packed a total used count m) a total k (λ j h. (put_same a m total used count p j (omega arith)).1)

put_message : (a m : List ℕ) (total used count : ℕ) → Put a m total used count → (k : ℕ) → k < count → message_of (put_packed a total used count m) total k ≡ message_of a total k
put_message a m total used count p k l =
    let o = offset_of a total k in
    grind (arith, put_same a m total used count p k l, p.placed k l, oct_below a total k count l, p.room, (put_size a m total used count p).1, p.inside, p.ends, put_others a m total used count p, part_same (put_packed a total used count m) a o o (length_of a total k))

put_last : (a m : List ℕ) (total used count : ℕ) → Put a m total used count → message_of (put_packed a total used count m) total count ≡ m
put_last a m total used count p =
    let b = put_packed a total used count m in
    let r = p.room in
    let z = (put_size a m total used count p).1 in
    let i = p.inside in
    let e = put_entry a m total used count p in
    ap (λ x. take x (drop (offset_of b total count) b)) e.1
    ∙ (ap (λ x. take (length m) (drop x b)) e.0
    ∙ (part_same b m used 0 (length m) (omega arith) (omega arith) (put_octets a m total used count p)
    ∙ take_all (length m) m (omega arith)))

pub pack_put : (a m : List ℕ) (total used count : ℕ) → Put a m total used count → messages (put_packed a total used count m) total (count + 1) ≡ messages a total count ++ m ∷ []
unfolding messages
pack_put a m total used count p =
    let f : ℕ → List ℕ = λ k. message_of a total k in
    let g : ℕ → List ℕ = λ k. message_of (put_packed a total used count m) total k in
    let agree : (k : ℕ) → k < count → g (0 + k) ≡ f (0 + k) = λ k l. ap g (zero-add k) ∙ (put_message a m total used count p k l ∙ ap f (sym (zero-add k))) in
    map-range_with_len_more g 0 count count (zero-add count)
    ∙ (ap (λ xs. xs ++ g count ∷ []) (map_same g f 0 0 count agree)
    ∙ ap (λ x. map f (range_with_len 0 count) ++ x ∷ []) (put_last a m total used count p))

pub ends_put : (a m : List ℕ) (total used count : ℕ) → Put a m total used count → octets_of (put_packed a total used count m) total (count + 1) ≡ used + length m
ends_put a m total used count p = grind (arith, oct_more, put_oct a m total used count p count, put_entry a m total used count p, p.ends)

pub placed_put : (a m : List ℕ) (total used count : ℕ) → Put a m total used count → Placed (put_packed a total used count m) total (count + 1)
placed_put a m total used count p k l = grind (arith, put_same a m total used count p k, p.placed k, put_oct a m total used count p k, put_entry a m total used count p, p.ends)

pub held_put : (a m : List ℕ) (total used count : ℕ) → Put a m total used count → Held (put_packed a total used count m) total (count + 1)
held_put a m total used count p k l = grind (arith, put_same a m total used count p k, p.held k, put_entry a m total used count p, p.least, p.most, nat_tests)

-- what a put leaves in an area
pub record Grown (a b m : List ℕ) (total used count : ℕ) : Type 0 where
  pub after : messages b total (count + 1) ≡ messages a total count ++ m ∷ []
  pub spent : uses (messages b total (count + 1)) ≡ used + length m + 4 * (count + 1)
  pub ends : octets_of b total (count + 1) ≡ used + length m
  pub placed : Placed b total (count + 1)
  pub held : Held b total (count + 1)

pub grown : (a b m : List ℕ) (total used count : ℕ) → Put a m total used count → b ≡ put_packed a total used count m → Grown a b m total used count
grown a b m total used count p w =
    let i = p.inside in
    let z = (put_size a m total used count p).1 in
    let e = ends_put a m total used count p in
    let q = placed_put a m total used count p in
    subst (λ (x : List ℕ). Grown a x m total used count) (sym w) (record {
      after = pack_put a m total used count p;
      spent = uses_is (put_packed a total used count m) total (used + length m) (count + 1) (omega arith) p.room e q;
      ends = e;
      placed = q;
      held = held_put a m total used count p;
    })

-- what a take finds
pub record Took (a : List ℕ) (total used count n : ℕ) : Type 0 where
  pub inside : total ≤ length a
  pub some : 0 < count
  pub room : used + 4 * count ≤ total
  pub ends : octets_of a total count ≡ used
  pub placed : Placed a total count
  pub held : Held a total count
  pub is : n ≡ length_of a total 0

-- the later messages stand behind the oldest
pub above_oldest : (a : List ℕ) (total count : ℕ) → Placed a total count → (k : ℕ) → k < count - 1 → length_of a total 0 ≤ offset_of a total (k + 1)
above_oldest a total count p k l =
    let q = p (k + 1) (omega arith) in
    let u = oct_below a total 0 (k + 1) (omega arith) in
    omega arith

-- the oldest stands at the front
pub oldest_in : (a : List ℕ) (total count : ℕ) → 0 < count → Placed a total count → (offset_of a total 0 ≡ 0) × (length_of a total 0 ≤ octets_of a total count)
oldest_in a total count h p =
    let u = oct_below a total 0 count h in
    (p 0 h ∙ oct_none a total, omega arith)

pub oldest_within : (a : List ℕ) (total count : ℕ) → 0 < count → Placed a total count → offset_of a total 0 + length_of a total 0 ≤ octets_of a total count
oldest_within a total count h p =
    let o = oldest_in a total count h p in
    omega arith

took_within : (a : List ℕ) (total used count n : ℕ) → Took a total used count n → n ≤ used
took_within a total used count n t = grind (arith, oldest_in a total count t.some t.placed, t.ends, t.is)

-- and what it leaves
took_size : (a : List ℕ) (total used count n : ℕ) → Took a total used count n → (length (moved a n used) ≡ length a) × (length (take_packed a total used count n) ≡ length a)
took_size a total used count n t =
    let i = t.inside in
    let r = t.room in
    let s = t.some in
    let w = took_within a total used count n t in
    let l = moved_same a n used w (omega arith) in
    (l, lowered_length (moved a n used) total n (count - 1) (omega arith) (omega arith) ∙ l)

took_lowered : (a : List ℕ) (total used count n : ℕ) → Took a total used count n → Lowered (take_packed a total used count n) a total (count - 1) n
took_lowered a total used count n t k l =
    let i = t.inside in
    let r = t.room in
    let s = t.some in
    let w = took_within a total used count n t in
    let z = (took_size a total used count n t).0 in
    let b = moved a n used in
    let p = lowered_is b total n (count - 1) (omega arith) (omega arith) k l in
    let e = entry_same b a total (k + 1) (λ j x y. moved_out a n used w (omega arith) j (omega arith)) in
    (p.0 ∙ ap (λ x. x - n) e.0, p.1 ∙ e.1)

took_held : (a : List ℕ) (total used count n : ℕ) → Took a total used count n → Holds (take_packed a total used count n) 0 a n (used - n)
took_held a total used count n t k l =
    let i = t.inside in
    let r = t.room in
    let s = t.some in
    let w = took_within a total used count n t in
    let z = (took_size a total used count n t).0 in
    lowered_out (moved a n used) total n (count - 1) (omega arith) (omega arith) (0 + k) (inl (omega arith)) ∙ moved_in a n used w (omega arith) k l

took_oct : (a : List ℕ) (total used count n : ℕ) → Took a total used count n → (k : ℕ) → k < count → octets_of (take_packed a total used count n) total k + length_of a total 0 ≡ octets_of a total (k + 1)
took_oct a total used count n t k l = oct_shift a (take_packed a total used count n) total k (λ j h. (took_lowered a total used count n t j (omega arith)).1)

took_message : (a : List ℕ) (total used count n : ℕ) → Took a total used count n → (k : ℕ) → k < count - 1 → message_of (take_packed a total used count n) total k ≡ message_of a total (k + 1)
took_message a total used count n t k l =
    let b = take_packed a total used count n in
    let m = took_lowered a total used count n t k l in
    let v = t.is in
    let ln = length_of a total (k + 1) in
    let o = offset_of a total (k + 1) in
    let q = t.placed (k + 1) (omega arith) in
    let u = oct_below a total (k + 1) count (omega arith) in
    let w = took_oct a total used count n t k (omega arith) in
    let r = t.room in
    let z = (took_size a total used count n t).1 in
    let i = t.inside in
    let f = t.ends in
    ap (λ x. take x (drop (offset_of b total k) b)) m.1
    ∙ (ap (λ x. take ln (drop x b)) m.0
    ∙ part_same b a (o - n) o ln (omega arith) (omega arith)
    (λ j h. ap (λ x. slice_index b x) (omega arith) ∙ (took_held a total used count n t (o - n + j) (omega arith) ∙ ap (λ x. slice_index a x) (omega arith))))

pub pack_first : (a : List ℕ) (total count : ℕ) → 0 < count → messages a total count ≡ message_of a total 0 ∷ map (λ k. message_of a total k) (range_with_len (0 + 1) (count - 1))
unfolding messages
pack_first a total zero h = absurd (omega arith)
pack_first a total (suc q) h = ap (λ x. message_of a total 0 ∷ map (λ k. message_of a total k) (range_with_len (0 + 1) x)) (omega arith)

pub oldest_is : (a : List ℕ) (total count : ℕ) → 0 < count → oldest (messages a total count) ≡ message_of a total 0
oldest_is a total count h = ap oldest (pack_first a total count h)

pub oldest_length : (a : List ℕ) (total used count : ℕ) → total ≤ length a → used + 4 * count ≤ total → octets_of a total count ≡ used → Placed a total count → 0 < count → length (oldest (messages a total count)) ≡ length_of a total 0
oldest_length a total used count i r e p h = ap length (oldest_is a total count h) ∙ message_length a total used count i r e p 0 h

pub pack_take : (a : List ℕ) (total used count n : ℕ) → Took a total used count n → messages a total count ≡ message_of a total 0 ∷ messages (take_packed a total used count n) total (count - 1)
unfolding messages
pack_take a total used count n t =
    let f : ℕ → List ℕ = λ k. message_of a total k in
    let g : ℕ → List ℕ = λ k. message_of (take_packed a total used count n) total k in
    pack_first a total count t.some
    ∙ ap (λ xs. message_of a total 0 ∷ xs) (map_same f g (0 + 1) 0 (count - 1) (λ k l. ap f (omega arith) ∙ (sym (took_message a total used count n t k l) ∙ ap g (sym (zero-add k)))))

pub ends_take : (a : List ℕ) (total used count n : ℕ) → Took a total used count n → octets_of (take_packed a total used count n) total (count - 1) ≡ used - n
ends_take a total used count n t =
    let s = t.some in
    let v = t.is in
    let w = took_oct a total used count n t (count - 1) (omega arith) in
    let e : octets_of a total (count - 1 + 1) ≡ octets_of a total count = ap (octets_of a total) (omega arith) in
    let f = t.ends in
    omega arith

pub placed_take : (a : List ℕ) (total used count n : ℕ) → Took a total used count n → Placed (take_packed a total used count n) total (count - 1)
placed_take a total used count n t k l = grind (arith, took_lowered a total used count n t k l, t.is, t.placed (k + 1), took_oct a total used count n t k)

pub held_take : (a : List ℕ) (total used count n : ℕ) → Took a total used count n → Held (take_packed a total used count n) total (count - 1)
held_take a total used count n t k l = ap fits (took_lowered a total used count n t k l).1 ∙ t.held (k + 1) (omega arith)

pub pack_fits : (a : List ℕ) (total used count : ℕ) → total ≤ length a → used + 4 * count ≤ total → octets_of a total count ≡ used → Placed a total count → Held a total count → all_fit (messages a total count) ≡ true
unfolding messages
pack_fits a total used count i r e p h = all_fit_map _ 0 count (λ k l. grind (arith, message_length a total used count i r e p k l, h k l))

-- the octets moved and the index lowered, one behind the other
pub moved_lowered : (xs ys zs ws : List ℕ) (total used count n : ℕ) → n ≤ used → used ≤ length xs → ys ≡ paste xs 0 (drop n xs) (used - n) → zs ≡ ys → ws ≡ lowered zs total n (count - 1) → ws ≡ take_packed xs total used count n
moved_lowered xs ys zs ws total used count n h i m e l = l ∙ ap (λ z. lowered z total n (count - 1)) (e ∙ (m ∙ moved_paste xs n used h i))

-- the messages behind the oldest begin behind it, also where the entries lie once the octets were moved
pub above_moved : (xs ys zs : List ℕ) (total used count n : ℕ) → n ≤ used → used + 4 * count ≤ total → total ≤ length xs → ys ≡ paste xs 0 (drop n xs) (used - n) → zs ≡ ys → Placed xs total count → n ≡ length_of xs total 0 → (k : ℕ) → k < count - 1 → n ≤ offset_of zs total (k + 1)
above_moved xs ys zs total used count n h r i m e p f k l =
    let u : used ≤ length xs = omega arith in
    let z : zs ≡ moved xs n used = e ∙ (m ∙ moved_paste xs n used h u) in
    let s = entry_same zs xs total (k + 1) (λ j a b. ap (λ q. slice_index q j) z ∙ moved_out xs n used h u j (omega arith)) in
    let o = above_oldest xs total count p k l in
    omega (arith, s.0, o, f)

-- what a take leaves in an area
pub record Shrunk (a b : List ℕ) (total used count n : ℕ) : Type 0 where
  pub area : b ≡ take_packed a total used count n
  pub after : messages b total (count - 1) ≡ others (messages a total count)
  pub spent : uses (messages b total (count - 1)) ≡ used - n + 4 * (count - 1)
  pub ends : octets_of b total (count - 1) ≡ used - n
  pub placed : Placed b total (count - 1)
  pub held : Held b total (count - 1)

pub shrunk : (a b : List ℕ) (total used count n : ℕ) → Took a total used count n → b ≡ take_packed a total used count n → Shrunk a b total used count n
shrunk a b total used count n t w =
    let i = t.inside in
    let r = t.room in
    let s = t.some in
    let l = took_within a total used count n t in
    let z = (took_size a total used count n t).1 in
    let e = ends_take a total used count n t in
    let q = placed_take a total used count n t in
    subst (λ (x : List ℕ). Shrunk a x total used count n) (sym w) (record {
      area = refl;
      after = sym (ap others (pack_take a total used count n t));
      spent = uses_is (take_packed a total used count n) total (used - n) (count - 1) (omega arith) (omega arith) e q;
      ends = e;
      placed = q;
      held = held_take a total used count n t;
    })
