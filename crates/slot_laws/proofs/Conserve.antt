-- opened = handed up + broken + lapsed + still open, by induction over the history.
use Rattle.std.proofs.Common.{◌≡◌, ℕ, zero, suc, ◌+◌, ◌<◌, List, [], ◌∷◌, ◌++◌, map, length, get_or, set, replicate, refl, ap, arith}
use Rattle.slot_laws.specs.Machine.{Open, Slot, free, opened, whole, Event, fresh, grown, Step, older, age, one_open, open_count, runs_out, one_lapses, lapse_count}
use Rattle.slot_laws.specs.Uses.{Use, slots_after, counts_opened, counts_broken, counts_handed, counts_lapsed, Account}
use Rattle.slot_laws.proofs.Does.{no, only, full, lost, out, Does, leaves, opening, again, breaking, adding, handing, ticking, freeing, does}

-- a write to one slot
count_set : (ss : List Slot) (i : ℕ) (v s : Slot) → i < length ss → get_or ss i free ≡ s → open_count (set ss i v) + one_open s ≡ open_count ss + one_open v
count_set [] i v x h e = absurd (omega arith)
count_set (s ∷ ss) zero v x h e = omega (arith, ap one_open e)
count_set (s ∷ ss) (suc i) v x h e = omega (arith, count_set ss i v x (omega arith) e)

older_counts : (o : Open) (t : ℕ) → 1 ≡ runs_out t + one_open (older o t)
older_counts o zero = refl
older_counts o (suc zero) = refl
older_counts o (suc (suc t)) = refl

age_counts : (s : Slot) → one_open s ≡ one_lapses s + one_open (age s)
age_counts free = refl
age_counts (opened o) = older_counts o o.ticks
age_counts (whole d) = refl

ages_count : (ss : List Slot) → open_count ss ≡ lapse_count ss + open_count (map age ss)
ages_count [] = refl
ages_count (s ∷ ss) = omega (arith, age_counts s, ages_count ss)

-- one step's balance
balanced : {C T : ℕ} {ss : List Slot} {e : Event} {p : Step} → Does C T ss e p → counts_opened p.1 + open_count ss ≡ counts_handed p.1 + counts_broken p.1 + counts_lapsed p.1 + open_count p.0
balanced (leaves e a (no n)) = omega arith
balanced (leaves e a (only d)) = omega arith
balanced (leaves e a (full n)) = omega arith
balanced (leaves e a lost) = omega arith
balanced (leaves e a (out d)) = omega arith
balanced {T = T} {ss = ss} (opening m d r i h e a) = omega (arith, count_set ss i (opened (fresh T m r d)) free h e)
balanced {T = T} {ss = ss} (again m d r i o h e k) = omega (arith, count_set ss i (opened (fresh T m r d)) (opened o) h e)
balanced {ss = ss} (breaking m d r i o h e k) = omega (arith, count_set ss i free (opened o) h e)
balanced {ss = ss} (adding m d r i o h e k l) = omega (arith, count_set ss i (opened (grown o r d)) (opened o) h e)
balanced {ss = ss} (handing m d i o h e k l) = omega (arith, count_set ss i (whole (o.octets ++ d)) (opened o) h e)
balanced {ss = ss} ticking = omega (arith, ages_count ss)
balanced {ss = ss} (freeing q d h e) = omega (arith, count_set ss q.slot free (whole d) h e)

none_open : (N : ℕ) → open_count (replicate N free) ≡ 0
none_open zero = refl
none_open (suc N) = omega (arith, none_open N)

pub account : (u : Use) → Account u
account u [] = omega (arith, none_open u.slots)
account u (e ∷ h) = omega (arith, account u h, balanced (does u.code u.ticks (slots_after u h) e))
