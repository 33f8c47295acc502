-- That the bounds on the loads are kept.
use Rattle.std.proofs.Common.{◌≡◌, ℕ, zero, suc, ◌*◌, ◌≤◌, true, ltb, List, [], ◌∷◌, map, length, get_or, take, set, Some, refl, ap, ◌∙◌, subst, arith}
use Rattle.std.proofs.lemmas.List.{length-set, length-map, length-take-le}
use Rattle.std.proofs.lemmas.Bool.{cond_both}
use Rattle.timed_table.specs.declared.entry.Entry.{Entry}
use Rattle.timed_table.specs.declared.entry.Entry.TheVariants.{Free, Timed, Held}
use Rattle.slot_parts.specs.declared.load.Load.{Load}
use Rattle.slot_parts.specs.Loads.{load_ok}
use Rattle.slots.specs.Loads.{entry_ok, all_ok}
use Rattle.slots.specs.Sound.{Sound}
use Rattle.timed_table.specs.Table.{reloaded, timed_load, ticked}
use Rattle.slots.specs.Pieces.{slots_of}

module _ {K : Type 0} where
  pub all_ok_set : (es : List (Entry K Load)) (i : ℕ) (e : Entry K Load) → all_ok es ≡ true → entry_ok e ≡ true → all_ok (set es i e) ≡ true
  all_ok_set [] i e h k = refl
  all_ok_set (x ∷ xs) zero e h k = grind (arith)
  all_ok_set (x ∷ xs) (suc i) e h k = grind (arith, all_ok_set xs i e)

  pub all_ok_at : (es : List (Entry K Load)) (i : ℕ) → all_ok es ≡ true → entry_ok (get_or es i Free) ≡ true
  all_ok_at [] i h = refl
  all_ok_at (x ∷ xs) zero h = grind (arith)
  all_ok_at (x ∷ xs) (suc i) h = grind (arith, all_ok_at xs i)

  pub reloaded_ok : (load : Load) (e : Entry K Load) → entry_ok e ≡ true → load_ok load ≡ true → entry_ok (reloaded load e) ≡ true
  reloaded_ok load Free h k = refl
  reloaded_ok load (Timed key ticks old) h k = k
  reloaded_ok load (Held old) h k = h

-- the bounds that a load has
pub load_bounds : (load : Load) → load_ok load ≡ true → (load.len ≤ load.limit) × (load.limit ≤ 3952)
load_bounds load h = (grind (arith), grind (arith))

-- the load of a slot that is timed
module _ {K : Type 0} (slot : ℕ) (load : Load) where
  timed_within : (e : Entry K Load) → entry_ok e ≡ true → timed_load e ≡ Some load → (load.len ≤ load.limit) × (load.limit ≤ 3952)
  timed_within Free h t = cc
  timed_within (Timed key ticks l) h t =
      let e : l ≡ load = cc in
      subst (λ (m : Load). (m.len ≤ m.limit) × (m.limit ≤ 3952)) e (load_bounds l h)
  timed_within (Held l) h t = cc

  pub found_within : (es : List (Entry K Load)) → all_ok es ≡ true → timed_load (get_or es slot Free) ≡ Some load → (load.len ≤ load.limit) × (load.limit ≤ 3952)
  found_within es h t = timed_within (get_or es slot Free) (all_ok_at es slot h) t

-- the bounds on the slots after an entry is put
pub put_keeps : {K : Type 0} (es es' : List (Entry K Load)) (os : List ℕ) (slot : ℕ) (e : Entry K Load) → es' ≡ set es slot e → Sound es os → entry_ok e ≡ true → Sound es' os
put_keeps es es' os slot e after s ok =
    let long : length es' ≡ length es = ap length after ∙ length-set es slot e in
    let few : length es ≤ 16 = s.0 in
    let fits : length es * 3952 ≤ length os = s.1 in
    (omega arith, omega arith, ap all_ok after ∙ all_ok_set es slot e s.2 ok)

module _ {K : Type 0} where
  ticked_ok : (e : Entry K Load) → entry_ok e ≡ true → entry_ok (ticked e) ≡ true
  ticked_ok Free h = refl
  ticked_ok (Timed key ticks load) h = cond_both (ltb 1 ticks) _ _ (λ x. entry_ok x ≡ true) (λ _. h) (λ _. refl)
  ticked_ok (Held load) h = h

  all_ok_ticked : (es : List (Entry K Load)) → all_ok es ≡ true → all_ok (map ticked es) ≡ true
  all_ok_ticked [] h = refl
  all_ok_ticked (e ∷ es) h = grind (arith, ticked_ok e, all_ok_ticked es)

  -- the bounds on the slots after a tick
  pub tick_keeps : (es es' : List (Entry K Load)) (os : List ℕ) → es' ≡ map ticked es → Sound es os → Sound es' os
  tick_keeps es es' os after s =
      let long : length es' ≡ length es = ap length after ∙ length-map es ticked in
      let few : length es ≤ 16 = s.0 in
      let fits : length es * 3952 ≤ length os = s.1 in
      (omega arith, omega arith, ap all_ok after ∙ all_ok_ticked es s.2)

  all_ok_free : (es : List (Entry K Load)) → all_ok {K = K} (map (λ _. Free) es) ≡ true
  all_ok_free [] = refl
  all_ok_free (e ∷ es) = all_ok_free es

  -- the bounds on the slots when all are free
  pub free_keeps : (xs es' : List (Entry K Load)) (os : List ℕ) → es' ≡ map (λ _. Free) (take (slots_of (length xs) (length os)) xs) → Sound es' os
  free_keeps xs es' os after =
      let n = slots_of (length xs) (length os) in
      let long : length es' ≡ n = ap length after ∙ length-map (take n xs) (λ _. Free) ∙ length-take-le n xs (omega arith) in
      (omega arith, omega arith, ap all_ok after ∙ all_ok_free (take n xs))
