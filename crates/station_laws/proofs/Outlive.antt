-- No opening outlives its ticks, from the same law of the slots.
use Rattle.std.proofs.Common.{◌≡◌, ℕ, ◌≤◌, List, [], ◌∷◌, ◌++◌, sym, refl, ap, ◌∙◌, subst, inl, inr, arith}
use Rattle.std.proofs.lemmas.List.{map-append}
use Rattle.slot_laws.specs.Machine as law
use Rattle.slot_laws.specs.Uses as laws
use Rattle.slot_laws.proofs.Time as time
use Rattle.station_laws.specs.Station.{Event, tick}
use Rattle.station_laws.specs.Uses.{Use, outcome}
use Rattle.station_laws.specs.Laws.{Ends, handed, broken, restarted, lapsed, Over, now_over, before, Opens, NoOpeningOutlives}
use Rattle.station_laws.proofs.Project.{slotly, project, replies_agree, says_hands, says_by, by_said, ticks_agree, felt_tick, slot_agrees}
use Rattle.station_laws.proofs.Calls.{felt}

-- what ends an opening of the slots ends it at the station
ends_felt : (u : Use) (h : List Event) (i : ℕ) (e : Event) (y : law.Event) → felt u.code e ≡ y
    → laws.Ends u.code u.ticks (laws.slots_after (slotly u) (project u h)) i y → Ends u h i e
ends_felt u h i e y w (laws.handed r k q) = let s = says_hands _ _ r (replies_agree u h e) (rw w k) in handed s.0 r s.1 q
ends_felt u h i e y w (laws.broken k) = broken (says_by _ _ (law.breaks i) (replies_agree u h e) (rw w k) tt (λ z. z))
ends_felt u h i e y w (laws.restarted k) = restarted (says_by _ _ (law.restarts i) (replies_agree u h e) (rw w k) tt (λ z. z))
ends_felt u h i e y w (laws.lapsed k) =
    subst (Ends u h i) (sym (felt_tick u.code e w)) (lapsed (slot_agrees u (tick ∷ h) i ∙ k))

over_felt : (u : Use) (h : List Event) (i : ℕ) (g : List Event) (y : List law.Event) → project u g ≡ y
    → laws.Over (slotly u) (project u h) i y → Over u h i g
over_felt u h i [] y w (laws.now_over {e = e} {g = g} k) = cc
over_felt u h i [] y w (laws.before {e = e} {g = g} k) = cc
over_felt u h i (x ∷ xs) y w (laws.now_over {e = e} {g = g} k) =
    let w1 : felt u.code x ≡ e = cc in
    let w2 : project u xs ≡ g = cc in
    let w3 : g ++ project u h ≡ project u (xs ++ h) = ap (λ (l : List law.Event). l ++ project u h) (sym w2) ∙ sym (map-append (felt u.code) xs h) in
    now_over (ends_felt u (xs ++ h) i x e w1 (subst (λ (l : List law.Event). laws.Ends u.code u.ticks (laws.slots_after (slotly u) l) i e) w3 k))
over_felt u h i (x ∷ xs) y w (laws.before {e = e} {g = g} k) =
    let w2 : project u xs ≡ g = cc in
    before (over_felt u h i xs g w2 k)

opens_felt : (u : Use) (h : List Event) (e : Event) (i : ℕ) → Opens i (outcome u h e).reply → laws.Opens i (laws.answer_to (slotly u) (project u h) (felt u.code e))
opens_felt u h e i (inl k) = inl (by_said _ _ (law.opens i) (replies_agree u h e) k)
opens_felt u h e i (inr k) = inr (by_said _ _ (law.restarts i) (replies_agree u h e) k)

pub no_opening_outlives : (u : Use) → 1 ≤ u.ticks → NoOpeningOutlives u
no_opening_outlives u k h g e i o t =
    let c : u.ticks ≤ laws.tick_count (project u g) = omega (arith, ticks_agree u g) in
    over_felt u (e ∷ h) i g (project u g) refl
    (time.no_opening_outlives (slotly u) k (project u h) (project u g) (felt u.code e) i (opens_felt u h e i o) c)
