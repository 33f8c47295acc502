-- The receipts of slots that are not spent yet: each of them can be spent.
use Rattle.std.specs.Prelude.{◌≡◌, ℕ, Bool, true, false, not, ◌&&◌, ◌==◌, List, [], ◌∷◌, map, slice_index_or}
use Rattle.slot_laws.specs.Machine.{Slot, free, opened, whole, Receipt}
use Rattle.slots.specs.declared.receipt.Receipt.{Receipt as Given}
use Rattle.slots.specs.Answers.{receipt_of}
use Rattle.slots.specs.View.{view}
use Rattle.slots.specs.declared.alone.Slots.{Slots}

abbrev pub is_whole : Slot → Bool
is_whole free = false
is_whole (opened o) = false
is_whole (whole d) = true

-- a receipt names a whole slot of the station of a code
abbrev pub names : ℕ → List Slot → Receipt → Bool
names C ss r = r.code == C && is_whole (slice_index_or ss r.slot free)

-- none of the receipts names the slot
abbrev pub apart : ℕ → List Receipt → Bool
apart i [] = true
apart i (q ∷ qs) = not (i == q.slot) && apart i qs

-- each receipt names a whole slot, and no two the same
abbrev pub spendable : ℕ → List Slot → List Receipt → Bool
spendable C ss [] = true
spendable C ss (r ∷ rs) = names C ss r && (apart r.slot rs && spendable C ss rs)

-- the receipts that slots gave; which slots are whole does not depend on what a mark means
unfoldable pub kept : {K : Type 0} → Slots K → List Given → Bool
kept s rs = spendable s.settings.code (view (λ _. []) s) (map receipt_of rs)

abbrev pub Kept : {K : Type 0} → Slots K → List Given → Type 0
Kept s rs = kept s rs ≡ true
