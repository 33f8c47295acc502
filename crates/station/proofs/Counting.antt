-- How many messages a unit needs, and what follows from it.
use Rattle.std.proofs.Common.{◌≡◌, ℕ, ◌+◌, ◌-◌, ◌*◌, ◌≤◌, true, ◌&&◌, leb, List, length, sym, refl, ap, subst, arith}
use Rattle.std.proofs.lemmas.Bool.{and_parts, leb-true}
use Rattle.pieces.specs.Pieces.{in_piece, piece_count, in_range, sendable, count_answer}
use Rattle.outgoing.specs.Units.{Heading, Cut}
use Rattle.station_laws.proofs.Cutting.{number, count_if}

-- addresses and unit have lengths that can be sent
ranges : (a b n : ℕ) → in_range a b n ≡ true → (2 ≤ a) × (a ≤ 32) × (2 ≤ b) × (b ≤ 32) × (1 ≤ n) × (n ≤ 3952)
ranges a b n h =
    let r1 = and_parts (leb 2 a) (leb a 32 && (leb 2 b && (leb b 32 && (leb 1 n && leb n 3952)))) h in
    let r2 = and_parts (leb a 32) (leb 2 b && (leb b 32 && (leb 1 n && leb n 3952))) r1.1 in
    let r3 = and_parts (leb 2 b) (leb b 32 && (leb 1 n && leb n 3952)) r2.1 in
    let r4 = and_parts (leb b 32) (leb 1 n && leb n 3952) r3.1 in
    let r5 = and_parts (leb 1 n) (leb n 3952) r4.1 in
    (leb-true 2 a r1.0, leb-true a 32 r2.0, leb-true 2 b r3.0, leb-true b 32 r4.0, leb-true 1 n r5.0, leb-true n 3952 r5.1)

counted : (a b n m : ℕ) → m ≡ count_answer a b n → 1 ≤ m → (m ≡ piece_count a b n) × (in_range a b n ≡ true)
counted a b n m e h =
    let c = count_if (sendable a b n) m (piece_count a b n) e h in
    (c.0, (and_parts (in_range a b n) (leb (piece_count a b n) 16) c.1).0)

-- a unit that goes in pieces is cut so
cut_so : (h : Heading) (d : List ℕ) (m : ℕ) → 2 ≤ m → m ≡ count_answer (length h.called) (length h.calling) (length d)
    → Cut h (in_piece (length h.called) (length h.calling)) (m - 1) d
cut_so h d m two e =
    let a = length h.called in
    let b = length h.calling in
    let n = length d in
    let c = counted a b n m e (omega arith) in
    let r = ranges a b n c.1 in
    let k = number a b n m r.1 r.3 r.5 e two in
    let same : m - 1 + 1 ≡ m = omega arith in
    record {
      called = r.1;
      calling = r.3;
      each = refl;
      few = omega (arith, k.most);
      long = k.above;
      short = omega (arith, k.within, ap (λ j. j * in_piece a b) same);
    }

pub cut_by : (h : Heading) (d : List ℕ) (m n : ℕ) → 2 ≤ m → m ≡ count_answer (length h.called) (length h.calling) (length d)
    → n ≡ in_piece (length h.called) (length h.calling) → Cut h n (m - 1) d
cut_by h d m n two e each = subst (λ k. Cut h k (m - 1) d) (sym each) (cut_so h d m two e)
