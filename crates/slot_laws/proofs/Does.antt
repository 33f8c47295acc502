-- What a call does to the slots, by cases. The laws go by these cases.
use Rattle.std.proofs.Common.{◌≡◌, ℕ, zero, suc, ◌<◌, Bool, true, false, eqb, leb, ◌≢◌, ◌⊎◌, List, ◌++◌, map, length, get_or, set, Some, None, Option, sym, refl, ap, ◌∙◌, inl, inr}
use Rattle.std.proofs.lemmas.List.{get_or-set_same, get_or-set_other}
use Rattle.std.proofs.lemmas.Bool.{cases_eq, eqb-true, and_parts}
use Rattle.slot_laws.specs.Machine.{Open, Slot, free, opened, whole, Receipt, Event, piece, tick, release, copy, Answer, declined, alone, refused, opens, restarts, stray, breaks, holds, hands, lapses, released, copied, Found, missing, found, look, last_free, fresh, grown, Step, new_step, first_step, checked, follows_on, later_step, taken, proper, piece_step, age, lapse_count, named, receipt_for, release_step, copied_if, copy_answer, step}
use Rattle.slot_laws.proofs.Look.{AllOff, Looks, looks, Frees, frees, named_whole}

-- an answer to a call that leaves the slots as they are
pub data Quiet : Answer → Type 0 where
  no : (n : ℕ) → Quiet (declined n)
  only : (d : List ℕ) → Quiet (alone d)
  full : (n : ℕ) → Quiet (refused n)
  lost : Quiet stray
  out : (d : List ℕ) → Quiet (copied d)

pub data Does (C T : ℕ) (ss : List Slot) : Event → Step → Type 0 where
  leaves : (e : Event) (a : Answer) → Quiet a → Does C T ss e (ss, a)
  opening : (m d : List ℕ) (r i : ℕ) → i < length ss → get_or ss i free ≡ free → AllOff m ss → Does C T ss (piece m true r d) (set ss i (opened (fresh T m r d)), opens i)
  again : (m d : List ℕ) (r i : ℕ) (o : Open) → i < length ss → get_or ss i free ≡ opened o → o.mark ≡ m → Does C T ss (piece m true r d) (set ss i (opened (fresh T m r d)), restarts i)
  breaking : (m d : List ℕ) (r i : ℕ) (o : Open) → i < length ss → get_or ss i free ≡ opened o → o.mark ≡ m → Does C T ss (piece m false r d) (set ss i free, breaks i)
  adding : (m d : List ℕ) (r i : ℕ) (o : Open) → i < length ss → get_or ss i free ≡ opened o → o.mark ≡ m → o.remaining ≡ suc r → Does C T ss (piece m false r d) (set ss i (opened (grown o r d)), holds i)
  handing : (m d : List ℕ) (i : ℕ) (o : Open) → i < length ss → get_or ss i free ≡ opened o → o.mark ≡ m → o.remaining ≡ 1 → Does C T ss (piece m false 0 d) (set ss i (whole (o.octets ++ d)), hands (receipt_for C i (o.octets ++ d)))
  ticking : Does C T ss tick (map age ss, lapses (lapse_count ss))
  freeing : (q : Receipt) (d : List ℕ) → q.slot < length ss → get_or ss q.slot free ≡ whole d → Does C T ss (release q) (set ss q.slot free, released q.slot)

module _ (C T : ℕ) (ss : List Slot) where
  does_new : (m : List ℕ) (r : ℕ) (d : List ℕ) (f : Option ℕ) → Frees ss f → AllOff m ss → Does C T ss (piece m true r d) (new_step T ss m r d f)
  does_new m r d None l a = leaves _ _ (full _)
  does_new m r d (Some i) l a = opening m d r i l.0 l.1 a

  does_first : (m : List ℕ) (r : ℕ) (d : List ℕ) (f : Found) → Looks m ss f → Does C T ss (piece m true r d) (first_step T ss m r d f)
  does_first m r d missing l = does_new m r d (last_free ss) (frees ss) l
  does_first m r d (found i o) l = again m d r i o l.0 l.1 l.2

  does_checked : (m : List ℕ) (i : ℕ) (o : Open) (r : ℕ) (d : List ℕ) (b : Bool) → b ≡ follows_on o r d → i < length ss → get_or ss i free ≡ opened o → o.mark ≡ m → Does C T ss (piece m false r d) (checked C ss i o r d b)
  does_checked m i o r d false t h e k = breaking m d r i o h e k
  does_checked m i o zero d true t h e k = handing m d i o h e k (eqb-true o.remaining 1 (and_parts (eqb o.remaining 1) _ (sym t)).0)
  does_checked m i o (suc r) d true t h e k = adding m d (suc r) i o h e k (eqb-true o.remaining (suc (suc r)) (and_parts (eqb o.remaining (suc (suc r))) _ (sym t)).0)

  does_later : (m : List ℕ) (r : ℕ) (d : List ℕ) (f : Found) → Looks m ss f → Does C T ss (piece m false r d) (later_step C ss r d f)
  does_later m r d missing l = leaves _ _ lost
  does_later m r d (found i o) l = does_checked m i o r d (follows_on o r d) refl l.0 l.1 l.2

  does_taken : (m : List ℕ) (f : Bool) (r : ℕ) (d : List ℕ) → Does C T ss (piece m f r d) (taken C T ss m f r d)
  does_taken m true zero d = leaves _ _ (only d)
  does_taken m true (suc r) d = does_first m (suc r) d (look m ss) (looks m ss)
  does_taken m false r d = does_later m r d (look m ss) (looks m ss)

  does_piece : (m : List ℕ) (f : Bool) (r : ℕ) (d : List ℕ) (b : Bool) → Does C T ss (piece m f r d) (piece_step C T ss m f r d b)
  does_piece m f r d true = does_taken m f r d
  does_piece m f r d false = leaves _ _ (no 43)

  does_release : (q : Receipt) (s : Slot) → ((d : List ℕ) → s ≡ whole d → (q.slot < length ss) × (get_or ss q.slot free ≡ whole d)) → Does C T ss (release q) (release_step ss q.slot s)
  does_release q free w = leaves _ _ (no 51)
  does_release q (opened o) w = leaves _ _ (no 51)
  does_release q (whole d) w = freeing q d (w d refl).0 (w d refl).1

  does_copied : (e : Event) (d : List ℕ) (b : Bool) → Does C T ss e (ss, copied_if d b)
  does_copied e d true = leaves _ _ (out d)
  does_copied e d false = leaves _ _ (no 52)

  does_copy : (e : Event) (room : ℕ) (s : Slot) → Does C T ss e (ss, copy_answer room s)
  does_copy e room free = leaves _ _ (no 51)
  does_copy e room (opened o) = leaves _ _ (no 51)
  does_copy e room (whole d) = does_copied e d (leb (length d) room)

  pub does : (e : Event) → Does C T ss e (step C T ss e)
  does (piece m f r d) = does_piece m f r d (proper r d)
  does tick = ticking
  does (release q) = does_release q (named C ss q) (named_whole C ss q)
  does (copy q room) = does_copy (copy q room) room (named C ss q)

-- what a slot has after a write: what was written, or what it had before
pub written : (ss : List Slot) (j : ℕ) (v : Slot) (i : ℕ) (s : Slot) → j < length ss → get_or (set ss j v) i free ≡ s → ((i ≡ j) × (v ≡ s)) ⊎ ((i ≢ j) × (get_or ss i free ≡ s))
written ss j v i s h g =
    elim (cases_eq i j) [
      | inl q ↦ inl (q, sym (get_or-set_same ss j v free h) ∙ ap (λ n. get_or (set ss j v) n free) (sym q) ∙ g)
      | inr ne ↦ inr (ne, sym (get_or-set_other ss j i v free ne) ∙ g)
    ]

-- a slot keeps what it has where another is written
pub untouched : (ss : List Slot) (j : ℕ) (v : Slot) (i : ℕ) {s u : Slot} → get_or ss i free ≡ s → get_or ss j free ≡ u → (s ≡ u → ⊥) → get_or (set ss j v) i free ≡ s
untouched ss j v i e f n = get_or-set_other ss j i v free (λ q. n (sym e ∙ ap (λ k. get_or ss k free) q ∙ f)) ∙ e
