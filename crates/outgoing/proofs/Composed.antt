-- What writing into a buffer of 272 octets gives.
use Rattle.std.proofs.Common.{◌≡◌, ℕ, ◌≤◌, Bool, true, false, ◌&&◌, leb, List, length, take, drop, is_some, IfSome, Ok, Err, Option, Result, sym, refl, ap, ◌∙◌, subst, arith}
use Rattle.std.specs.Result.{result_ok}
use Rattle.std.proofs.lemmas.List.{take_at}
use Rattle.std.proofs.lemmas.Bool.{and_from, and_parts, le-leb, leb-true}
use Rattle.message.specs.declared.messages.Form.{Form}
use Rattle.message.specs.declared.messages.Form.TheVariants.{Udt, Udts, Xudt, Xudts}
use Rattle.message.specs.Read.{Parsed}
use Rattle.writing.specs.declared.refusals.WriteRefusal.{WriteRefusal}
use Rattle.writing.specs.declared.refusals.WriteRefusal.TheVariants.{TooLong, PointerTooFar, ShortBuffer}
use Rattle.writing.specs.declared.layout.Lengths.{Lengths}
use Rattle.writing.specs.Write.{lengths_of, kept, encode, size, head_size, short_enough, near_enough, test, write_answer, buffer_after}
use Rattle.writing.proofs.Back.{answered, encode_length, held}
use Rattle.outgoing.specs.Puts.{fits_line}

short : (f : Form) → 5 ≤ head_size f
short (Udt c) = omega arith
short (Udts c) = omega arith
short (Xudt c h) = omega arith
short (Xudts c h) = omega arith

composed : (p : Parsed) (before after : List ℕ) (n : ℕ) → Ok n ≡ write_answer p (length before) → after ≡ buffer_after p before (Ok n)
    → (12 ≤ n) × (n ≤ 272) × (take n after ≡ encode p)
composed p before after n ea eb =
    let a = answered p (length before) n ea in
    let s = short p.form in
    let e : n ≡ size p = a.0 in
    let m : size p ≤ 272 = a.1 in
    (omega arith, omega arith, ap (take n) eb ∙ take_at (encode p) (drop n before) n (encode_length p ∙ sym a.0))

composed_fits : (p : Parsed) (room n : ℕ) → Ok n ≡ write_answer p room → fits_line p ≡ true
composed_fits p room n h =
    let f : Form = p.form in
    let k : Lengths = lengths_of (kept p) in
    let a = held (short_enough f k) TooLong (test (near_enough f k) PointerTooFar (test (leb (size p) room) ShortBuffer (Ok (size p)))) n h in
    let b = held (near_enough f k) PointerTooFar (test (leb (size p) room) ShortBuffer (Ok (size p))) n a.1 in
    and_from (short_enough f k) (near_enough f k) a.0 b.0

-- a short message has at most 272 octets
no_more : (p : Parsed) → short_enough p.form (lengths_of (kept p)) ≡ true → size p ≤ 272
no_more p h =
    let k : Lengths = lengths_of (kept p) in
    let s1 = and_parts (leb k.called 255) (leb k.calling 255 && (leb k.«data» 255 && leb (size p) 272)) h in
    let s2 = and_parts (leb k.calling 255) (leb k.«data» 255 && leb (size p) 272) s1.1 in
    let s3 = and_parts (leb k.«data» 255) (leb (size p) 272) s2.1 in
    leb-true (size p) 272 s3.1

third : (b : Bool) (e : WriteRefusal) (n : ℕ) → Err e ≡ test b ShortBuffer (Ok n) → b ≡ true → ⊥
third true e n h t = let z : ◌≡◌ {A = ℕ} 0 1 = cc in omega arith
third false e n h t = let z : ◌≡◌ {A = ℕ} 0 1 = cc in omega arith

refused : (s n b : Bool) (e : WriteRefusal) (k : ℕ) → (s ≡ true → b ≡ true) → Err e ≡ test s TooLong (test n PointerTooFar (test b ShortBuffer (Ok k))) → (s && n) ≡ false
refused false n b e k f h = refl
refused true false b e k f h = refl
refused true true b e k f h = absurd (third b e k h (f refl))

composed_not : (p : Parsed) (room : ℕ) (e : WriteRefusal) → room ≡ 272 → Err e ≡ write_answer p room → fits_line p ≡ false
composed_not p room e r h =
    let f : Form = p.form in
    let k : Lengths = lengths_of (kept p) in
    refused (short_enough f k) (near_enough f k) (leb (size p) room) e (size p) (λ s. le-leb (size p) room (let m = no_more p s in omega arith)) h

-- the length that was written, if any was
abbrev pub Composed : Parsed → List ℕ → Option ℕ → Type 0
Composed p after o = (is_some o ≡ fits_line p) × IfSome o (λ n. (12 ≤ n) × (n ≤ 272) × (take n after ≡ encode p))

by_answer : (p : Parsed) (before after : List ℕ) (r : Result ℕ WriteRefusal) → length before ≡ 272 → r ≡ write_answer p (length before)
    → after ≡ buffer_after p before r → Composed p after (result_ok r)
by_answer p before after (Ok n) room ea eb = (sym (composed_fits p (length before) n ea), composed p before after n ea eb)
by_answer p before after (Err e) room ea eb = (sym (composed_not p (length before) e room ea), tt)

pub length_answered : (p : Parsed) (before after : List ℕ) (r : Result ℕ WriteRefusal) (o : Option ℕ) → o ≡ result_ok r → length before ≡ 272
    → r ≡ write_answer p (length before) → after ≡ buffer_after p before r → Composed p after o
length_answered p before after r o e room ea eb = subst (Composed p after) (sym e) (by_answer p before after r room ea eb)
