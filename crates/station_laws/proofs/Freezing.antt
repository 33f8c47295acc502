-- Why two units that are sent in pieces within 30 ticks never share a reference: each still holds an entry, and there are at most 64.
use Rattle.std.proofs.Common.{◌≡◌, ℕ, suc, ◌+◌, ◌-◌, ◌*◌, ◌/◌, ◌<◌, ◌≤◌, Bool, true, false, cond, eqb, ltb, leb, ◌⊎◌, List, [], ◌∷◌, ◌++◌, map, length, set, Some, None, Option, sym, refl, ap, ◌∙◌, subst, inl, inr, arith, get_or}
use Rattle.std.proofs.lemmas.List.{length-set, length-map, length-replicate, append-nil}
use Rattle.std.proofs.lemmas.Bool.{le-leb, lt-leb, ltb-true, ltb-false, cond_both}
use Rattle.message.specs.Read.{Parsed}
use Rattle.slot_laws.specs.Machine as law
use Rattle.timed_table.specs.declared.entry.Entry.{Entry}
use Rattle.timed_table.specs.declared.entry.Entry.TheVariants.{Free, Timed}
use Rattle.timed_table.specs.declared.reference.Reference.{Reference}
use Rattle.timed_table.specs.Table.{last_from, is_free, ticked}
use Rattle.translation.specs.declared.causes.Cause.{Cause}
use Rattle.translation.specs.declared.causes.Cause.TheVariants.{Unqualified, NetworkCongestion, NoReassembly}
use Rattle.routing.specs.Meanings.{TablesView}
use Rattle.outgoing.specs.declared.returning.Givenback.{Givenback}
use Rattle.outgoing.specs.declared.returning.Givenback.TheVariants.{Returned}
use Rattle.station_laws.specs.Station.{View, with_slots, Reply, sent_pieces, Outcome, given_reply, piece_told, told_outcome, piece_of, Request, next, Event, send, receive, tick, station_step}
use Rattle.station_laws.specs.Uses.{Use, after, outcome, is_tick, tick_count}
use Rattle.station_laws.specs.Laws.{NeverShared}
use Rattle.station_laws.proofs.Calls.{Sending, pieces, sending, Taking, back, piece, taking}
use Rattle.std.proofs.lemmas.List.Sums.{count_by-le-length, sum_by-cons, sum_by-set}
use Rattle.std.specs.List.{count_by}

-- What a call does to the entries and the last reference.

abbrev Frozen : Type 0
Frozen = Entry Reference (Unit {0})

-- the reference that a reply tells
abbrev told : Reply → Option ℕ
told (sent_pieces c n r l) = Some r
told _ = None

abbrev Still : View → Outcome → Type 0
Still v o = (o.after.frozen ≡ v.frozen) × (o.after.last ≡ v.last) × (told o.reply ≡ None)

-- a call took n ticks: nothing changed; a reference was given and an entry taken for it; or each entry lost a tick
data Move (v : View) (n : ℕ) (o : Outcome) : Type 0 where
  still : n ≡ 0 → Still v o → Move v n o
  took : n ≡ 0 → (i : ℕ) → last_from is_free 0 None v.frozen ≡ Some i → o.after.frozen ≡ set v.frozen i (Timed (record { number = next v.last }) 30 tt)
      → o.after.last ≡ next v.last → told o.reply ≡ Some (next v.last) → Move v n o
  older : n ≡ 1 → o.after.frozen ≡ map ticked v.frozen → o.after.last ≡ v.last → told o.reply ≡ None → Move v n o

untold : (c : Cause) (p : Parsed) (d : Givenback) → told (given_reply c p d) ≡ None
untold c p (Returned code) = refl
untold c p _ = refl

still_piece : (t : TablesView) (own places : ℕ) (v : View) (ss : List law.Slot) (s : ℕ) (p : Parsed) (a : law.Answer) → Still v (told_outcome t own places (with_slots v ss) p (piece_told s p a))
still_piece t own places v ss s p (law.declined n) = (refl, refl, untold Unqualified p _)
still_piece t own places v ss s p (law.lapses n) = (refl, refl, untold Unqualified p _)
still_piece t own places v ss s p (law.released i) = (refl, refl, untold Unqualified p _)
still_piece t own places v ss s p (law.copied d) = (refl, refl, untold Unqualified p _)
still_piece t own places v ss s p (law.refused c) = (refl, refl, untold (cond (eqb c 10) NoReassembly NetworkCongestion) p _)
still_piece t own places v ss s p _ = (refl, refl, refl)

still_taken : (own : ℕ) (t : TablesView) (octets : List ℕ) (T places : ℕ) (v : View) (x : law.Event) (o : Outcome) → Taking own t octets T places v x o → Still v o
still_taken own t octets T places v x o (piece p s g k1 k2 k3 k4 k5) =
    let st = law.step own T v.slots (piece_of s p g) in still_piece t own places v st.0 s p st.1
still_taken own t octets T places v x o (back p c) = (refl, refl, untold c p _)
still_taken own t octets T places v x o _ = (refl, refl, refl)

move_sent : (t : TablesView) (own places : ℕ) (v : View) (q : Request) (o : Outcome) → Sending t own places v q o → Move v 0 o
move_sent t own places v q o (pieces code called r i a k m e) = took refl i e refl refl refl
move_sent t own places v q o _ = still refl (refl, refl, refl)

moves : (own T : ℕ) (v : View) (e : Event) → Move v (is_tick e) (station_step own T v e)
moves own T v (send t places q) = move_sent t own places v q _ (sending t own places v q)
moves own T v (receive t places octets) = still refl (still_taken own t octets T places v _ _ (taking own t octets T places v))
moves own T v tick = older refl refl refl refl
moves own T v _ = still refl (refl, refl, refl)

-- Entries with at least k ticks left.

abbrev alive : ℕ → Frozen → Bool
alive k (Timed key n load) = leb k n
alive k _ = false

abbrev live : ℕ → List Frozen → ℕ
live k ts = count_by (alive k) ts

abbrev one : Bool → ℕ
one b = cond b 1 0

alive_down : (k : ℕ) (t : Frozen) → 1 ≤ k → alive k (ticked t) ≡ alive (k + 1) t
alive_down k (Timed key n load) h =
    cond_both (ltb 1 n) _ _ (λ e. alive k e ≡ leb (k + 1) n)
    (λ e. let l = ltb-true 1 n e in grind (arith))
    (λ e. let l = ltb-false 1 n e in sym (lt-leb (k + 1) n (omega arith)))
alive_down k _ h = refl

live_down : (k : ℕ) (ts : List Frozen) → 1 ≤ k → live k (map ticked ts) ≡ live (k + 1) ts
live_down k [] h = refl
live_down k (t ∷ ts) h =
    omega (
      arith,
      sum_by-cons (λ e. one (alive k e)) (ticked t) (map ticked ts),
      sum_by-cons (λ e. one (alive (k + 1) e)) t ts,
      ap one (alive_down k t h),
      live_down k ts h,
    )

-- the entry that is taken is there, and was not live
abbrev Taken : ℕ → ℕ → Option ℕ → List Frozen → ℕ → Type 0
Taken k n found ts i = (found ≡ Some i) ⊎ ((j : ℕ) × (i ≡ n + j) × (j < length ts) × (alive k (get_or ts j Free) ≡ false))

taken_on : (k n i : ℕ) (t : Frozen) (ts : List Frozen) (found : Option ℕ) → Taken k (n + 1) (cond (is_free t) (Some n) found) ts i → Taken k n found (t ∷ ts) i
taken_on k n i Free ts found (inl e) = let z : n ≡ i = cc in inr (0, omega arith, omega arith, refl)
taken_on k n i t ts found (inl e) = inl e
taken_on k n i t ts found (inr (j, e, l, f)) = inr (suc j, omega arith, omega arith, f)

taken : (k n i : ℕ) (ts : List Frozen) (found : Option ℕ) → last_from is_free n found ts ≡ Some i → Taken k n found ts i
taken k n i [] found e = inl e
taken k n i (t ∷ ts) found e = taken_on k n i t ts found (taken k (n + 1) i ts (cond (is_free t) (Some n) found) e)

-- and is live now
live_take : (k i : ℕ) (x : Frozen) (ts : List Frozen) → alive k x ≡ true → last_from is_free 0 None ts ≡ Some i → live k (set ts i x) ≡ 1 + live k ts
live_take k i x ts a e = elim (taken k 0 i ts None e) [
  | inl z ↦ cc
  | inr (j, f, l, g) ↦
      let w : j ≡ i = omega arith in
      subst (λ (y : ℕ). live k (set ts y x) ≡ 1 + live k ts) w (omega (arith, ap one a, ap one g, sum_by-set (λ t. one (alive k t)) ts j x Free l))
]

-- how many references were given in the calls g after h
abbrev some_one : Option ℕ → ℕ
some_one None = 0
some_one (Some i) = 1

abbrev gave : Use → List Event → List Event → ℕ
gave u h [] = 0
gave u h (e ∷ g) = some_one (told (outcome u (g ++ h) e).reply) + gave u h g

held_by : (n a b : ℕ) (v : View) (o : Outcome) → Move v n o → a + n < 30 → b ≤ live (30 - a) v.frozen → some_one (told o.reply) + b ≤ live (30 - (n + a)) o.after.frozen
held_by n a b v o (still z (p, q, r)) l h =
    let y : 30 - (n + a) ≡ 30 - a = omega arith in
    let e : live (30 - (n + a)) o.after.frozen ≡ live (30 - a) v.frozen = ap (λ j. live j o.after.frozen) y ∙ ap (live (30 - a)) p in
    omega (arith, ap some_one r)
held_by n a b v o (took z i f p q r) l h =
    let x : Frozen = Timed (record { number = next v.last }) 30 tt in
    let y : 30 - (n + a) ≡ 30 - a = omega arith in
    let e : live (30 - (n + a)) o.after.frozen ≡ live (30 - a) (set v.frozen i x) = ap (λ j. live j o.after.frozen) y ∙ ap (live (30 - a)) p in
    omega (arith, ap some_one r, live_take (30 - a) i x v.frozen (le-leb (30 - a) 30 (omega arith)) f)
held_by n a b v o (older z p q r) l h =
    let e : live (30 - (n + a)) o.after.frozen ≡ live (30 - (1 + a)) (map ticked v.frozen) = ap (λ j. live (30 - (j + a)) o.after.frozen) z ∙ ap (live (30 - (1 + a))) p in
    let y : 30 - (1 + a) + 1 ≡ 30 - a = omega arith in
    omega (arith, live_down (30 - (1 + a)) v.frozen (omega arith), ap (λ j. live j v.frozen) y, ap some_one r)

-- each that was given within 30 ticks still holds an entry
still_held : (u : Use) (h g : List Event) (n : ℕ) → n ≤ live 30 (after u h).frozen → tick_count g < 30 → n + gave u h g ≤ live (30 - tick_count g) (after u (g ++ h)).frozen
still_held u h [] n a l = omega arith
still_held u h (e ∷ g) n a l =
    let v = after u (g ++ h) in
    let p = still_held u h g n a (omega arith) in
    let q = held_by (is_tick e) (tick_count g) (n + gave u h g) v (outcome u (g ++ h) e) (moves u.code u.ticks v e) (omega arith) p in
    omega arith

long_by : (n : ℕ) (v : View) (o : Outcome) → Move v n o → length o.after.frozen ≡ length v.frozen
long_by n v o (still z (p, q, r)) = ap length p
long_by n v o (took z i f p q r) = ap length p ∙ simp length-set
long_by n v o (older z p q r) = ap length p ∙ simp length-map

long : (u : Use) (h : List Event) → length (after u h).frozen ≡ u.entries
long u [] = length-replicate u.entries Free
long u (e ∷ h) = long_by (is_tick e) (after u h) (outcome u h e) (moves u.code u.ticks (after u h) e) ∙ long u h

-- references go up by ones
abbrev Counted : ℕ → ℕ → Type 0
Counted last sum = (q : ℕ) × (last + 16777216 * q ≡ sum) × (last < 16777216)

counted_by : (n s : ℕ) (v : View) (o : Outcome) → Move v n o → Counted v.last s → Counted o.after.last (some_one (told o.reply) + s)
counted_by n s v o (still z (p, q, r)) (c, d, e) = let w = ap some_one r in (c, omega arith, omega arith)
counted_by n s v o (took z i f p q r) (c, d, e) = let w = ap some_one r in (c + (v.last + 1) / 16777216, omega arith, omega arith)
counted_by n s v o (older z p q r) (c, d, e) = let w = ap some_one r in (c, omega arith, omega arith)

counted : (u : Use) (h g : List Event) → (after u h).last < 16777216 → Counted (after u (g ++ h)).last ((after u h).last + gave u h g)
counted u h [] l = (0, omega arith, l)
counted u h (e ∷ g) l =
    let v = after u (g ++ h) in
    let p = counted_by (is_tick e) ((after u h).last + gave u h g) v (outcome u (g ++ h) e) (moves u.code u.ticks v e) (counted u h g l) in
    (p.0, omega arith, p.2)

small : (u : Use) (h : List Event) → (after u h).last < 16777216
small u h = subst (λ (l : List Event). (after u l).last < 16777216) (append-nil h) (counted u [] h (omega arith)).2

-- a call that told a reference: it is the next, it is then the last, and an entry is taken for it
abbrev Gave : View → Outcome → ℕ → Type 0
Gave v o x = (x ≡ next v.last) × (o.after.last ≡ x) × (1 ≤ live 30 o.after.frozen)

gave_by : (n x : ℕ) (v : View) (o : Outcome) → Move v n o → told o.reply ≡ Some x → Gave v o x
gave_by n x v o (still z (p, q, r)) e = cc
gave_by n x v o (took z i f p q r) e =
    let y : next v.last ≡ x = cc in
    (sym y, q ∙ y, omega (arith, ap (live 30) p, live_take 30 i (Timed (record { number = next v.last }) 30 tt) v.frozen refl f))
gave_by n x v o (older z p q r) e = cc

pub never_shared : (u : Use) → NeverShared u
never_shared u h g e₁ e₂ code₁ count₁ reference₁ sls₁ code₂ count₂ reference₂ sls₂ few a b near same =
    let v = after u h in
    let w = after u (g ++ (e₁ ∷ h)) in
    let p = gave_by (is_tick e₁) reference₁ v (outcome u h e₁) (moves u.code u.ticks v e₁) (ap told a) in
    let q = gave_by (is_tick e₂) reference₂ w (outcome u (g ++ (e₁ ∷ h)) e₂) (moves u.code u.ticks w e₂) (ap told b) in
    let c = counted u (e₁ ∷ h) g (small u (e₁ ∷ h)) in
    let held = still_held u (e₁ ∷ h) g 1 p.2 near in
    let most = count_by-le-length (alive (30 - tick_count g)) w.frozen in
    let l = long u (g ++ (e₁ ∷ h)) in
    omega arith
