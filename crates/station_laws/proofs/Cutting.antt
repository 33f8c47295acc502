-- What a call that answers "sent in pieces" has put on the line.
use Rattle.std.proofs.Common.{◌≡◌, ℕ, zero, suc, ◌+◌, ◌-◌, ◌*◌, ◌/◌, ◌%◌, ◌<◌, ◌≤◌, Bool, true, false, cond, ◌&&◌, leb, List, [], ◌∷◌, ◌++◌, length, take, drop, Some, refl, ap, subst, append_assoc, one-mul, arith, inl, inr}
use Rattle.std.proofs.lemmas.List.{take-append-drop, length-take-le, length-drop}
use Rattle.std.proofs.lemmas.Bool.{and_parts, or_left, leb-true, le-leb, lt-leb, cases_cond}
use Rattle.address.specs.Address.{address_ok, code_of}
use Rattle.address.proofs.Rewrites.{good_parts}
use Rattle.message.specs.declared.messages.Form.TheVariants.{Xudt}
use Rattle.message.specs.Options.{segmentation_found, span_on}
use Rattle.writing.specs.Write.{encode}
use Rattle.writing.specs.RoundTrip.{form_ok, IsMessage}
use Rattle.writing.proofs.Back.{written_reads_back}
use Rattle.pieces.specs.Pieces.{in_one, in_piece, piece_count, in_range, sendable, count_answer}
use Rattle.pieces.proofs.Cuts.{enough, short}
use Rattle.routing.specs.Meanings.{TablesView}
use Rattle.outgoing.specs.Returns.{calling_for}
use Rattle.outgoing.specs.Units.{Heading, selection, class_octet, segmentation_part, piece_message, piece_messages}
use Rattle.station_laws.specs.Station.{View, Reply, sent_pieces, Outcome, Request, heading_of, next, send}
use Rattle.station_laws.specs.Uses.{Use, after, outcome}
use Rattle.station_laws.specs.Laws.{SentPiece, Carried, begins, continues, UnitSent, SentInPieces}
use Rattle.station_laws.proofs.Addresses.{Good, good_target, good_calling}
use Rattle.station_laws.proofs.Calls.{Asked, messages_of, Sending, pieces, sending}

-- One piece reads back.

head_told : (first : Bool) (class r : ℕ) → class < 2 → r < 16
    → (leb 128 (cond first 128 0 + 64 * class + r) ≡ first) × ((cond first 128 0 + 64 * class + r) / 64 % 2 ≡ class) × ((cond first 128 0 + 64 * class + r) % 16 ≡ r)
head_told true class r h l = (le-leb 128 (128 + 64 * class + r) (omega arith), omega arith, omega arith)
head_told false class r h l = (lt-leb 128 (0 + 64 * class + r) (omega arith), omega arith, omega arith)

found : (first : Bool) (class r n : ℕ) → class < 2 → r < 16 → n < 16777216 → segmentation_found (segmentation_part first class r n) ≡ Some (record { first = first; class = class; remaining = r; reference = n })
unfolding segmentation_found
found first class r n h l k =
    let a = head_told first class r h l in
    let d : n % 256 + 256 * (n / 256 % 256) + 65536 * (n / 65536) ≡ n = omega arith in
    cc

-- what is known of a heading
record Proper (h : Heading) : Type 0 where
  pub code : h.code < 16384
  pub own : h.own < 16384
  pub called : address_ok h.called ≡ true
  pub calling : address_ok h.calling ≡ true
  pub class : h.class < 2

abbrev long : Heading → ℕ
long h = in_piece (length h.called) (length h.calling)

is_message : (h : Heading) (n : ℕ) (first : Bool) (r : ℕ) (d : List ℕ) → Proper h → 1 ≤ length d → IsMessage (piece_message h n first r d)
unfolding span_on
is_message h n first r d p some =
    record {
      label = (p.code, p.own, let q : h.sequence % 16 < 16 = omega arith in q);
      form = elim (h.returns && first) as (λ b. form_ok (Xudt (class_octet 1 b) 15) ≡ true) [ true ↦ refl | false ↦ refl ];
      called = p.called;
      calling = or_left (address_ok h.calling) _ p.calling;
      «data» = some;
      options = refl;
      none_in_short = refl;
    }

sent_piece : (h : Heading) (n : ℕ) (first : Bool) (r : ℕ) (d : List ℕ) → Proper h → n < 16777216 → r < 16 → 1 ≤ length d → length d ≤ long h
    → SentPiece h.own h.code (selection 1 h.sequence) h.called h.calling h.class n (encode (piece_message h n first r d)) first r d
sent_piece h n first r d p k l some few =
    let a = good_parts h.called p.called in
    let b = good_parts h.calling p.calling in
    record {
      message = piece_message h n first r d;
      class = class_octet 1 (h.returns && first);
      reads = written_reads_back (piece_message h n first r d) (is_message h n first r d p some) (omega arith);
      label = refl;
      form = refl;
      called_is = refl;
      calling_is = refl;
      segmented = found first h.class r n p.class l k;
      contents = refl;
      some = some;
      few = omega arith;
    }

-- All pieces.

abbrev Goes : Heading → ℕ → List ℕ → ℕ → List ℕ → ℕ → List (List ℕ) → Type 0
Goes h n d0 r0 d r xs = Carried h.own h.code (selection 1 h.sequence) h.called h.calling h.class n d0 r0 d r xs

carry : (h : Heading) (n : ℕ) (d0 : List ℕ) (r0 : ℕ) (d : List ℕ) (r : ℕ) (xs : List (List ℕ)) (load : List ℕ) → Proper h → n < 16777216 → r < 16 → 1 ≤ long h
    → r * long h < length load → length load ≤ (r + 1) * long h
    → Goes h n d0 r0 d (suc r) xs → Goes h n d0 r0 (d ++ load) 0 (xs ++ piece_messages h n (long h) false r load)
carry h n d0 r0 d zero xs load p k l one more most c =
    continues d load 0 xs (encode (piece_message h n false 0 load)) c
    (sent_piece h n false 0 load p k l (omega arith) (omega (arith, one-mul (long h))))
carry h n d0 r0 d (suc r) xs load p k l one more most c =
    let t : length (take (long h) load) ≡ long h = length-take-le (long h) load (omega arith) in
    let s : length (drop (long h) load) ≡ length load - long h = length-drop (long h) load in
    let x = encode (piece_message h n false (suc r) (take (long h) load)) in
    let rest = piece_messages h n (long h) false r (drop (long h) load) in
    let c1 : Goes h n d0 r0 (d ++ take (long h) load) (suc r) (xs ++ x ∷ []) = continues d (take (long h) load) (suc r) xs x c (sent_piece h n false (suc r) (take (long h) load) p k l (omega arith) (omega arith)) in
    let c2 = carry h n d0 r0 (d ++ take (long h) load) r (xs ++ x ∷ []) (drop (long h) load) p k (omega arith) one (omega arith) (omega arith) c1 in
    simp (append_assoc, take-append-drop) at c2

all_carried : (h : Heading) (n r : ℕ) (load : List ℕ) → Proper h → n < 16777216 → suc r < 16 → 1 ≤ long h → suc r * long h < length load → length load ≤ (suc r + 1) * long h
    → Goes h n (take (long h) load) (suc r) load 0 (piece_messages h n (long h) true (suc r) load)
all_carried h n r load p k l one more most =
    let t : length (take (long h) load) ≡ long h = length-take-le (long h) load (omega arith) in
    let s : length (drop (long h) load) ≡ length load - long h = length-drop (long h) load in
    let d0 = take (long h) load in
    let x = encode (piece_message h n true (suc r) d0) in
    let c : Goes h n d0 (suc r) d0 (suc r) (x ∷ []) = begins x (sent_piece h n true (suc r) d0 p k l (omega arith) (omega arith)) in
    let c2 = carry h n d0 (suc r) d0 r (x ∷ []) (drop (long h) load) p k (omega arith) one (omega arith) (omega arith) c in
    rw take-append-drop at c2

how_many : (h : Heading) (n p : ℕ) (first : Bool) (r : ℕ) (load : List ℕ) → length (piece_messages h n p first r load) ≡ suc r
how_many h n p first zero load = refl
how_many h n p first (suc r) load = ap suc (how_many h n p false r (drop p load))

-- The number of pieces.

pub count_if : (k : Bool) (m n : ℕ) → m ≡ cond k n 0 → 1 ≤ m → (m ≡ n) × (k ≡ true)
count_if true m n e h = (e, refl)
count_if false m n e h = absurd (omega arith)

-- a unit of n octets that goes in m pieces, two or more
pub record Number (a b n m : ℕ) : Type 0 where
  pub fewest : m ≡ piece_count a b n
  pub most : m ≤ 16
  pub above : (m - 1) * in_piece a b < n
  pub within : n ≤ m * in_piece a b
  pub small : n ≤ 3952

pub number : (a b n m : ℕ) → a ≤ 32 → b ≤ 32 → n ≤ 3952 → m ≡ count_answer a b n → 2 ≤ m → Number a b n m
number a b n m ha hb hn e two =
    let c = count_if (sendable a b n) m (piece_count a b n) e (omega arith) in
    let p = in_piece a b in
    let g0 : m ≡ (n + p - 1) / p = elim (cases_cond (leb n (in_one a b)) 1 ((n + p - 1) / p) m c.0) [ inl z ↦ absurd (omega arith) | inr z ↦ z ] in
    let u = enough n p (omega arith) in
    let z : m * p ≡ (n + p - 1) / p * p = ap (λ j. j * p) g0 in
    record {
      fewest = c.0;
      most = omega (arith, leb-true (piece_count a b n) 16 (and_parts (in_range a b n) (leb (piece_count a b n) 16) c.1).1);
      above = short n p (m - 1) (omega arith) (omega arith);
      within = omega arith;
      small = hn;
    }

-- From the call to what it sent.

-- what is said of a reply, and of what was put on the line with it
abbrev Says : ℕ → Request → List (List ℕ) → Reply → Type 0
Says own q xs (sent_pieces c n r l) = c < 16384 → UnitSent own c n r l q xs
Says own q xs _ = Unit {0}

unit_sent : (own code : ℕ) (called : List ℕ) (q : Request) (n r : ℕ) → own < 16384 → Asked q → address_ok called ≡ true → n < 16777216
    → suc (suc r) ≡ messages_of own code called q → code < 16384
    → UnitSent own code (suc (suc r)) n (selection 1 q.sequence) q (piece_messages (heading_of own code called q) n (long (heading_of own code called q)) true (suc r) q.contents)
unit_sent own code called q n r fits asked good k e l =
    let h = heading_of own code called q in
    let calling = calling_for own called q.calling in
    let ok = good_calling own called q.calling fits asked.calling in
    let proper : Proper h = record { code = l; own = fits; called = good; calling = ok; class = asked.class } in
    let a = good_parts called good in
    let b = good_parts calling ok in
    let num = number (length called) (length calling) (length q.contents) (suc (suc r)) a.1 b.1 asked.size e (omega arith) in
    let e1 : suc (suc r) - 1 ≡ suc r = omega arith in
    let above : suc r * long h < length q.contents = rw e1 at num.above in
    let within : length q.contents ≤ (suc r + 1) * long h = omega (arith, num.within) in
    let d0 = take (long h) q.contents in
    let t : length d0 ≡ long h = length-take-le (long h) q.contents (omega arith) in
    let c = all_carried h n r q.contents proper k (omega arith) (omega arith) above within in
    record {
      called = called;
      calling = calling;
      first = d0;
      good_called = good;
      good_calling = ok;
      carried = rw e1 c;
      many = how_many h n (long h) true (suc r) q.contents;
      fewest = num.fewest;
      least = omega arith;
      most = num.most;
      some = omega arith;
      limit = rw t num.within;
      size = num.small;
    }

said : (t : TablesView) (own places : ℕ) (v : View) (q : Request) (o : Outcome) → own < 16384 → Sending t own places v q o → Says own q o.sent o.reply
said t own places v q o l (pieces code called r i asked k e f) = λ c.
    unit_sent own code called q (next v.last) r l asked (subst Good k (good_target t own (code_of q.called) q.called)) (omega arith) e c
said t own places v q o l _ = tt

pub sent_in_pieces : (u : Use) → SentInPieces u
sent_in_pieces u h t places q code count reference sls a b e =
    let o = outcome u h (send t places q) in
    subst (Says u.code q o.sent) e (said t u.code places (after u h) q o a (sending t u.code places (after u h) q)) b
