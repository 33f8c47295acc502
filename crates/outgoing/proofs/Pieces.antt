-- Pieces fit the line, and are put one behind the other.
use Rattle.std.proofs.Common.{◌≡◌, ℕ, zero, suc, ◌+◌, ◌-◌, ◌*◌, ◌<◌, ◌≤◌, Bool, true, false, ◌&&◌, eqb, leb, nat_eq, min, List, [], ◌∷◌, ◌++◌, length, take, drop, Ok, Err, Result, sym, refl, ap, ◌∙◌, subst, append_assoc, add-mul, arith}
use Rattle.std.proofs.lemmas.List.{append-nil, length-append, take_all, take_at, drop_at}
use Rattle.std.proofs.lemmas.Bool.{and_from, le-leb, ne_eqb, cond-true, cond-false}
use Rattle.translation.specs.declared.causes.Cause.{Cause}
use Rattle.translation.specs.declared.causes.Cause.TheVariants.{NetworkCongestion}
use Rattle.message.specs.Read.{Parsed}
use Rattle.pieces.specs.Pieces.{in_piece}
use Rattle.writing.specs.Write.{encode, short_enough, near_enough, lengths_of, kept}
use Rattle.outgoing.specs.Puts.{fits_line, put_outcome, put_by, Behind}
use Rattle.outgoing.specs.Units.{Heading, piece_message, piece_messages, Cut}

-- a message that fits is put where there is a place
goes : (places : ℕ) (p : Parsed) → fits_line p ≡ true → 0 < places → put_outcome places p ≡ Ok tt
goes places p f h = cond-true (fits_line p) _ _ f ∙ cond-false (eqb places 0) (Err NetworkCongestion) (Ok tt) (ne_eqb places 0 (omega arith))

-- parts of these lengths fit
fits_by : (p : Parsed) → short_enough p.form (lengths_of (kept p)) ≡ true → near_enough p.form (lengths_of (kept p)) ≡ true → fits_line p ≡ true
fits_by p s n = and_from (short_enough p.form (lengths_of (kept p))) (near_enough p.form (lengths_of (kept p))) s n

both : (a b c d : ℕ) → a ≤ b → c ≤ d → (leb a b && leb c d) ≡ true
both a b c d h k = and_from (leb a b) (leb c d) (le-leb a b h) (le-leb c d k)

four : (a b c d : ℕ) → a ≤ 255 → b ≤ 255 → c ≤ 255 → d ≤ 272 → (leb a 255 && (leb b 255 && (leb c 255 && leb d 272))) ≡ true
four a b c d ha hb hc hd =
    and_from (leb a 255) (leb b 255 && (leb c 255 && leb d 272)) (le-leb a 255 ha)
    (and_from (leb b 255) (leb c 255 && leb d 272) (le-leb b 255 hb) (both c 255 d 272 hc hd))

piece_fits : (h : Heading) (reference : ℕ) (first : Bool) (remaining : ℕ) (d : List ℕ) → length h.called ≤ 32 → length h.calling ≤ 32
    → length d ≤ in_piece (length h.called) (length h.calling) → fits_line (piece_message h reference first remaining d) ≡ true
piece_fits h reference first remaining d a b n =
    let x = length h.called in
    let y = length h.calling in
    let z = length d in
    fits_by (piece_message h reference first remaining d)
    (four x y z (4 + 7 + 3 + x + y + z + 7) (omega arith) (omega arith) (omega arith) (omega arith))
    (both (4 + x + y) 255 (4 + x + y + z) 255 (omega arith) (omega arith))

-- what m pieces of n octets are left of: all are whole but the last
abbrev pub Left : ℕ → ℕ → List ℕ → Type 0
Left n zero d = length d ≡ 0
Left n (suc r) d = (r * n < length d) × (length d ≤ (r + 1) * n)

-- the messages of the m pieces that are left
abbrev pub left_messages : Heading → ℕ → ℕ → Bool → ℕ → List ℕ → List (List ℕ)
left_messages h reference n first zero d = []
left_messages h reference n first (suc r) d = piece_messages h reference n first r d

some_left : (n m : ℕ) (rest : List ℕ) → Left n m rest → 0 < length rest → 0 < m
some_left n zero rest l some = absurd (omega arith)
some_left n (suc k) rest l some = omega arith

none_left : (n m : ℕ) (rest : List ℕ) → Left n m rest → length rest ≡ 0 → m ≡ 0
none_left n zero rest l none = refl
none_left n (suc k) rest l none = absurd (omega arith)

-- a piece comes off the front of what k more than one are left of
module _ (n : ℕ) (rest piece behind : List ℕ) (cut : rest ≡ piece ++ behind) (long : length piece ≡ min n (length rest)) where
  joined : length rest ≡ length piece + length behind
  joined = ap length cut ∙ length-append piece behind

  left_behind : (k : ℕ) → Left n (suc k) rest → Left n k behind
  left_behind zero l = omega (arith, joined)
  left_behind (suc j) l =
      let m : (j + 1) * n ≡ j * n + 1 * n = add-mul j 1 n in
      let m2 : (suc j + 1) * n ≡ suc j * n + 1 * n = add-mul (suc j) 1 n in
      let e : length rest ≡ length piece + length behind = joined in
      (omega arith, omega arith)

  front_message : (h : Heading) (reference : ℕ) (first : Bool) (k : ℕ) → Left n (suc k) rest
      → left_messages h reference n first (suc k) rest ≡ encode (piece_message h reference first k piece) ∷ left_messages h reference n false k behind
  front_message h reference first zero l =
      let e : length rest ≡ length piece + length behind = joined in
      let same : length piece ≡ length rest = omega arith in
      let is : piece ≡ rest = sym (take_at piece behind (length piece) refl) ∙ ap (take (length piece)) (sym cut) ∙ take_all (length piece) rest (omega arith) in
      ap (λ (y : List ℕ). encode (piece_message h reference first 0 y) ∷ []) (sym is)
  front_message h reference first (suc j) l =
      let e : length rest ≡ length piece + length behind = joined in
      let m : (j + 1) * n ≡ j * n + 1 * n = add-mul j 1 n in
      let whole : length piece ≡ n = omega arith in
      let front : take n rest ≡ piece = ap (take n) cut ∙ take_at piece behind n whole in
      let back : drop n rest ≡ behind = ap (drop n) cut ∙ drop_at piece behind n whole in
      ap (λ (y : List ℕ). encode (piece_message h reference first (suc j) y) ∷ piece_messages h reference n false j (drop n rest)) front
      ∙ ap (λ (y : List ℕ). encode (piece_message h reference first (suc j) piece) ∷ piece_messages h reference n false j y) back

one_at_most : (r : Result (Unit {0}) Cause) (p : Parsed) → length (put_by r p) ≤ 1
one_at_most (Ok _) p = omega arith
one_at_most (Err _) p = omega arith

-- how many messages there are
count : (h : Heading) (reference n : ℕ) (first : Bool) (r : ℕ) (d : List ℕ) → length (piece_messages h reference n first r d) ≡ r + 1
count h reference n first zero d = refl
count h reference n first (suc r) d = let c = count h reference n false r (drop n d) in omega arith

-- a line on which pieces of a unit were put, as many as index says, the first of them when it was as before
module _ {L : Type 0} (waiting : L → List (List ℕ)) (places : L → ℕ) (before : L) (h : Heading) (reference n r : ℕ) (d : List ℕ) where
  pub record PutSo (now : L) (size index : ℕ) (rest : List ℕ) : Type 0 where
    pub even : size ≡ n
    pub within : index ≤ r + 1
    pub room : r + 1 ≤ places now + index
    pub least : places before ≤ places now + index
    pub most : places now ≤ places before
    pub left : Left n (r + 1 - index) rest
    pub messages : waiting now ++ left_messages h reference n (nat_eq index 0) (r + 1 - index) rest ≡ waiting before ++ piece_messages h reference n true r d

  pub begun : (size index : ℕ) (rest : List ℕ) → Cut h n r d → r < places before → size ≡ n → index ≡ 0 → rest ≡ d → PutSo before size index rest
  begun size index rest cut room es ei er =
      let more : r + 1 - 0 ≡ suc r = omega arith in
      let l : Left n (suc r) d = (cut.long, cut.short) in
      subst (λ (y : List ℕ). PutSo before size index y) (sym er)
      (subst (λ (i : ℕ). PutSo before size i d) (sym ei)
      (record {
        even = es;
        within = omega arith;
        room = omega arith;
        least = omega arith;
        most = omega arith;
        left = subst (λ m. Left n m d) (sym more) l;
        messages = ap (λ m. waiting before ++ left_messages h reference n true m d) more;
      }))

  -- one piece more
  module _ (now later : L) (size index : ℕ) (rest piece behind : List ℕ) (s : PutSo now size index rest) (cut : Cut h n r d)
      (some : 0 < length rest) (es : rest ≡ piece ++ behind) (long : length piece ≡ min size (length rest)) where
    some_more : index < r + 1
    some_more = let m : 0 < r + 1 - index = some_left n (r + 1 - index) rest s.left some in omega arith

    now_left : r + 1 - index ≡ suc (r - index)
    now_left = let m : index < r + 1 = some_more in omega arith

    least_long : length piece ≡ min n (length rest)
    least_long = long ∙ ap (λ k. min k (length rest)) s.even

    piece_put : (res : Result (Unit {0}) Cause) → res ≡ put_outcome (places now) (piece_message h reference (nat_eq index 0) (r - index) piece) → res ≡ Ok tt
    piece_put res e =
        let m : index < r + 1 = some_more in
        let room : r + 1 ≤ places now + index = s.room in
        let each : n ≡ in_piece (length h.called) (length h.calling) = cut.each in
        let l : length piece ≡ min n (length rest) = least_long in
        let fit = piece_fits h reference (nat_eq index 0) (r - index) piece cut.called cut.calling (omega arith) in
        e ∙ goes (places now) (piece_message h reference (nat_eq index 0) (r - index) piece) fit (omega arith)

    pub one_more : (size1 index1 : ℕ) (res : Result (Unit {0}) Cause) → size1 ≡ size → index1 ≡ index + 1
        → res ≡ put_outcome (places now) (piece_message h reference (nat_eq index 0) (r - index) piece)
        → Behind waiting places now later (put_by res (piece_message h reference (nat_eq index 0) (r - index) piece))
        → PutSo later size1 index1 behind
    one_more size1 index1 res ez ei e b =
        let p : Parsed = piece_message h reference (nat_eq index 0) (r - index) piece in
        let m : index < r + 1 = some_more in
        let room : r + 1 ≤ places now + index = s.room in
        let least : places before ≤ places now + index = s.least in
        let most : places now ≤ places before = s.most in
        let one : length (put_by res p) ≤ 1 = one_at_most res p in
        let down : places now ≤ places later + length (put_by res p) = b.least in
        let up : places later ≤ places now = b.most in
        let then_left : r + 1 - (index + 1) ≡ r - index = omega arith in
        let l : Left n (suc (r - index)) rest = subst (λ k. Left n k rest) now_left s.left in
        let later_first : nat_eq (index + 1) 0 ≡ false = ne_eqb (index + 1) 0 (omega arith) in
        let x : List ℕ = encode p in
        let tail : List (List ℕ) = left_messages h reference n false (r - index) behind in
        let w : waiting later ≡ waiting now ++ x ∷ [] = b.messages ∙ ap (λ (y : Result (Unit {0}) Cause). waiting now ++ put_by y p) (piece_put res e) in
        let split : left_messages h reference n (nat_eq index 0) (r + 1 - index) rest ≡ x ∷ tail =
        ap (λ k. left_messages h reference n (nat_eq index 0) k rest) now_left ∙ front_message n rest piece behind es least_long h reference (nat_eq index 0) (r - index) l in
        let joint : waiting later ++ tail ≡ waiting before ++ piece_messages h reference n true r d =
        ap (λ (y : List (List ℕ)). y ++ tail) w ∙ append_assoc (waiting now) (x ∷ []) tail
        ∙ ap (λ (y : List (List ℕ)). waiting now ++ y) (sym split) ∙ s.messages in
        subst (λ (i : ℕ). PutSo later size1 i behind) (sym ei)
        (record {
          even = ez ∙ s.even;
          within = omega arith;
          room = omega arith;
          least = omega arith;
          most = omega arith;
          left = subst (λ k. Left n k behind) (sym then_left) (left_behind n rest piece behind es least_long (r - index) l);
          messages = ap (λ b. waiting later ++ left_messages h reference n b (r + 1 - (index + 1)) behind) later_first ∙ ap (λ k. waiting later ++ left_messages h reference n false k behind) then_left ∙ joint;
        })

  -- all pieces are put
  pub done : (now : L) (size index : ℕ) (rest : List ℕ) → PutSo now size index rest → length rest ≡ 0
      → Behind waiting places before now (piece_messages h reference n true r d)
  done now size index rest s none =
      let m : r + 1 - index ≡ 0 = none_left n (r + 1 - index) rest s.left none in
      let many : length (piece_messages h reference n true r d) ≡ r + 1 = count h reference n true r d in
      let within : index ≤ r + 1 = s.within in
      let least : places before ≤ places now + index = s.least in
      record {
        messages = sym (append-nil (waiting now)) ∙ sym (ap (λ k. waiting now ++ left_messages h reference n (nat_eq index 0) k rest) m) ∙ s.messages;
        least = omega arith;
        most = s.most;
      }
