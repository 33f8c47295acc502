-- The timed table: entries, each free, timed under a key, or held.
use Rattle.std.specs.Prelude.{◌≡◌, ◌<◌, MatchOption, length, slice_index_or, ℕ, ◌+◌, ◌-◌, Bool, true, false, cond, List, [], ◌∷◌, Some, None, Option, nat_lt, slice_set}
use Rattle.timed_table.specs.Marks.{same_numbers}
use Rattle.timed_table.specs.declared.entry.Entry.{Entry}
use Rattle.timed_table.specs.declared.entry.Entry.TheVariants.{Free, Timed, Held}

-- the first index, counted from n, at which p holds
abbrev pub first_from : {X : Type 0} → (X → Bool) → ℕ → List X → Option ℕ
first_from p n [] = None
first_from p n (x ∷ xs) = cond (p x) (Some n) (first_from p (n + 1) xs)

-- the last index, counted from n, at which p holds; found where there is none
abbrev pub last_from : {X : Type 0} → (X → Bool) → ℕ → Option ℕ → List X → Option ℕ
last_from p n found [] = found
last_from p n found (x ∷ xs) = last_from p (n + 1) (cond (p x) (Some n) found) xs

-- the last place at which p holds, told by places; none where p holds at none
abbrev pub IsLast : {X : Type 0} → (X → Bool) → X → List X → Option ℕ → Type 0
IsLast p d xs found =
    MatchOption found
    ((k : ℕ) → k < length xs → p (slice_index_or xs k d) ≡ false)
    (λ i. (i < length xs) × (p (slice_index_or xs i d) ≡ true) × ((k : ℕ) → i < k → k < length xs → p (slice_index_or xs k d) ≡ false))

-- whether an entry is timed under a key that means the numbers ns
abbrev pub timed_as : {K V : Type 0} → (K → List ℕ) → List ℕ → Entry K V → Bool
timed_as numbers ns Free = false
timed_as numbers ns (Timed key ticks load) = same_numbers (numbers key) ns
timed_as numbers ns (Held load) = false

abbrev pub is_free : {K V : Type 0} → Entry K V → Bool
is_free Free = true
is_free (Timed key ticks load) = false
is_free (Held load) = false

abbrev pub is_timed : {K V : Type 0} → Entry K V → Bool
is_timed Free = false
is_timed (Timed key ticks load) = true
is_timed (Held load) = false

-- one tick: a timed entry loses one, and is free at 0
abbrev pub ticked : {K V : Type 0} → Entry K V → Entry K V
ticked Free = Free
ticked (Timed key ticks load) = cond (nat_lt 1 ticks) (Timed key (ticks - 1) load) Free
ticked (Held load) = Held load

-- whether a tick frees the entry
abbrev pub lapses : {K V : Type 0} → Entry K V → Bool
lapses Free = false
lapses (Timed key ticks load) = cond (nat_lt 1 ticks) false true
lapses (Held load) = false

-- the entries with x at the index that was taken, if one was
abbrev pub opened : {X : Type 0} → Option ℕ → X → List X → List X
opened None x xs = xs
opened (Some i) x xs = slice_set xs i x

-- a timed entry with another load
abbrev pub reloaded : {K V : Type 0} → V → Entry K V → Entry K V
reloaded load Free = Free
reloaded load (Timed key ticks old) = Timed key ticks load
reloaded load (Held old) = Held old

abbrev pub timed_load : {K V : Type 0} → Entry K V → Option V
timed_load Free = None
timed_load (Timed key ticks load) = Some load
timed_load (Held load) = None

abbrev pub held_load : {K V : Type 0} → Entry K V → Option V
held_load Free = None
held_load (Timed key ticks load) = None
held_load (Held load) = Some load
