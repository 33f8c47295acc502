-- Options behind other octets: going through them gives what it gives by themselves, moved on.
use Rattle.std.proofs.Common.{◌≡◌, ℕ, zero, suc, ◌+◌, Bool, true, false, cond, not, ◌&&◌, ◌||◌, eqb, ltb, leb, List, ◌++◌, length, Ok, Err, Result, refl, ap, ◌∙◌, arith, length-append}
use Rattle.std.proofs.lemmas.List.{get_or-append-add}
use Rattle.std.proofs.lemmas.Bool.Decides.{nat_tests}
use Rattle.message.specs.declared.faults.ReadFault.{ReadFault}
use Rattle.message.specs.declared.scanning.OptionSpan.{OptionSpan}
use Rattle.message.specs.Options.{octet, wrong, cut_at, bad_at, span_in, span_on, option_span}
use Rattle.message.proofs.Spans.{enough}

-- an answer k octets on
abbrev pub moved : ℕ → Result OptionSpan ReadFault → Result OptionSpan ReadFault
moved k (Ok s) = Ok (record { start = k + s.start; end = k + s.end; segmented = s.segmented })
moved k (Err e) = Err (record { fault = e.fault; offset = k + e.offset })

moved_through : (k n i j from : ℕ) (seen a z c d : Bool) (rest : Result OptionSpan ReadFault)
    → cond a (wrong (k + n)) (cond z (Ok (record { start = k + from; end = k + j; segmented = seen })) (cond c (wrong (k + i)) (cond d (wrong (k + i)) (moved k rest))))
    ≡ moved k (cond a (wrong n) (cond z (Ok (record { start = from; end = j; segmented = seen })) (cond c (wrong i) (cond d (wrong i) rest))))
moved_through k n i j from seen true z c d rest = refl
moved_through k n i j from seen false true c d rest = refl
moved_through k n i j from seen false false true d rest = refl
moved_through k n i j from seen false false false true rest = refl
moved_through k n i j from seen false false false false rest = refl

leb_moved : (k a b c d : ℕ) → a ≡ k + c → b ≡ k + d → leb a b ≡ leb c d
leb_moved k a b c d e f = grind (arith, nat_tests)

ltb_moved : (k a b c d : ℕ) → a ≡ k + c → b ≡ k + d → ltb a b ≡ ltb c d
ltb_moved k a b c d e f = grind (arith, nat_tests)

span_moved : (n : ℕ) (front o : List ℕ) (from : ℕ) (seen : Bool) (i : ℕ) → span_in n (length front + from) seen (front ++ o) (length front + i) ≡ moved (length front) (span_in n from seen o i)
span_moved zero front o from seen i = ap (wrong {A = OptionSpan}) (length-append front o)
span_moved (suc n) front o from seen i =
    let k = length front in
    let m = front ++ o in
    let lm : length (front ++ o) ≡ length front + length o = length-append front o in
    let name : octet (front ++ o) (length front + i) ≡ octet o i = get_or-append-add front o i 0 in
    let j : length front + i + 1 ≡ length front + (i + 1) = omega arith in
    let size : octet (front ++ o) (length front + i + 1) ≡ octet o (i + 1) = ap (octet m) j ∙ get_or-append-add front o (i + 1) 0 in
    let next : length front + i + 2 + octet (front ++ o) (length front + i + 1) ≡ length front + (i + 2 + octet o (i + 1)) = omega arith in
    let past : leb (length (front ++ o)) (length front + i) ≡ leb (length o) i = leb_moved k (length m) (k + i) (length o) i lm refl in
    let cut1 : leb (length (front ++ o)) (length front + i + 1) ≡ leb (length o) (i + 1) = leb_moved k (length m) (k + i + 1) (length o) (i + 1) lm j in
    let cut2 : ltb (length (front ++ o)) (length front + i + 2 + octet (front ++ o) (length front + i + 1)) ≡ ltb (length o) (i + 2 + octet o (i + 1)) = ltb_moved k (length m) (k + i + 2 + octet m (k + i + 1)) (length o) (i + 2 + octet o (i + 1)) lm next in
    let rest : span_in n (length front + from) (eqb (octet (front ++ o) (length front + i)) 16 || seen) (front ++ o) (length front + i + 2 + octet (front ++ o) (length front + i + 1)) ≡ moved (length front) (span_in n from (eqb (octet o i) 16 || seen) o (i + 2 + octet o (i + 1))) =
    (λ t. span_in n (k + from) (eqb (name t) 16 || seen) m (next t)) ∙ span_moved n front o from (eqb (octet o i) 16 || seen) (i + 2 + octet o (i + 1)) in
    (λ t. cond (past t) (wrong (lm t)) (cond (eqb (name t) 0) (Ok (record { start = k + from; end = j t; segmented = seen })) (cond (cut1 t || cut2 t) (wrong (k + i)) (cond (eqb (name t) 16 && (not (eqb (size t) 4) || seen)) (wrong (k + i)) (rest t)))))
    ∙ moved_through k (length o) i (i + 1) from seen (leb (length o) i) (eqb (octet o i) 0) (cut_at o i) (bad_at seen o i) (span_in n from (eqb (octet o i) 16 || seen) o (i + 2 + octet o (i + 1)))

pub options_moved : (front o : List ℕ) → option_span (front ++ o) (length front) ≡ moved (length front) (option_span o 0)
unfolding span_on
options_moved front o =
    let z : length front ≡ length front + 0 = omega arith in
    let l = length-append front o in
    enough (length (front ++ o)) (length o) (length front) false (front ++ o) (length front) (omega arith) (omega arith)
    ∙ (λ t. span_in (length o) (z t) false (front ++ o) (z t))
    ∙ span_moved (length o) front o 0 false 0
