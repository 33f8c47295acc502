-- The options from one to the next, however many may come.
use Rattle.std.proofs.Common.{◌≡◌, ℕ, zero, suc, ◌+◌, ◌≤◌, Bool, cond, ◌||◌, eqb, leb, List, length, get_or, drop, Ok, Result, sym, refl, ap, arith, le-leb}
use Rattle.std.proofs.lemmas.List.{get_or-drop}
use Rattle.message.specs.declared.faults.ReadFault.{ReadFault}
use Rattle.message.specs.declared.scanning.OptionSpan.{OptionSpan}
use Rattle.message.specs.Options.{octet, wrong, cut_at, bad_at, span_by, span_in, span_on}

past : (on : Bool → ℕ → Result OptionSpan ReadFault) (from : ℕ) (seen : Bool) (m : List ℕ) (i : ℕ) → length m ≤ i → span_by on from seen m i ≡ wrong (length m)
past on from seen m i h =
    ap (λ b. cond b (wrong (length m)) (cond (eqb (octet m i) 0) (Ok (record { start = from; end = i + 1; segmented = seen })) (cond (cut_at m i) (wrong i) (cond (bad_at seen m i) (wrong i) (on (eqb (octet m i) 16 || seen) (i + 2 + octet m (i + 1))))))) (le-leb (length m) i h)

pub enough : (f g from : ℕ) (seen : Bool) (m : List ℕ) (i : ℕ) → length m ≤ f + i → length m ≤ g + i → span_in f from seen m i ≡ span_in g from seen m i
enough zero zero from seen m i h k = refl
enough zero (suc g) from seen m i h k = sym (past (λ s j. span_in g from s m j) from seen m i (omega arith))
enough (suc f) zero from seen m i h k = past (λ s j. span_in f from s m j) from seen m i (omega arith)
enough (suc f) (suc g) from seen m i h k =
    ap (λ z. cond (leb (length m) i) (wrong (length m)) (cond (eqb (octet m i) 0) (Ok (record { start = from; end = i + 1; segmented = seen })) (cond (cut_at m i) (wrong i) (cond (bad_at seen m i) (wrong i) z))))
    (enough f g from (eqb (octet m i) 16 || seen) m (i + 2 + octet m (i + 1)) (omega arith) (omega arith))

pub span_next : (from : ℕ) (seen : Bool) (m : List ℕ) (i : ℕ) → span_on from seen m i ≡ span_by (λ s j. span_on from s m j) from seen m i
unfolding span_on
span_next from seen m i = enough (length m) (suc (length m)) from seen m i (omega arith) (omega arith)

-- the octets from a place on
pub front : (m : List ℕ) (i k : ℕ) → get_or (drop i m) k 0 ≡ octet m (i + k)
front m i k = get_or-drop i m k 0
