-- What a piece that is taken in leaves of the slots.
use Rattle.std.proofs.Common.{◌≡◌, ℕ, false, not, ◌||◌, ltb, List, [], ◌∷◌, ◌++◌, length, is_some, IfSome, Some, None, Ok, Option, sym, ap, ◌∙◌, subst}
use Rattle.std.specs.Option.{ok_or}
use Rattle.std.proofs.lemmas.Bool.{cond-false, not-true}
use Rattle.message.specs.declared.parts_of_options.Segmentation.{Segmentation}
use Rattle.message.specs.Read.{Parsed}
use Rattle.translation.specs.declared.causes.Cause.TheVariants.{Unqualified}
use Rattle.timed_table.specs.declared.station_mark.StationMark.{StationMark}
use Rattle.timed_table.specs.StationMarks.{station_numbers}
use Rattle.slots.specs.declared.alone.Slots as alone
use Rattle.slots.specs.Became.{Became}
use Rattle.slots.specs.Pieces.{piece_entries, piece_octets}
use Rattle.routing.specs.Deliveries.{as_piece}
use Rattle.station_laws.specs.Station.{mark, unmarked}
use Rattle.station.specs.Memory.{Incoming, Taken, Slots, delivered_to}

pub taken : (T : ℕ) (a b : alone.Slots StationMark) (p : Parsed) (s : ℕ) (g : Segmentation) (o : Option StationMark) (key : StationMark) (calling : List ℕ)
    → Ok key ≡ ok_or o Unqualified → calling ≡ p.calling → is_some o ≡ not (ltb (length calling) 2 || ltb 32 (length calling))
    → IfSome o (λ m. station_numbers m ≡ p.label.opc ∷ s ∷ (calling ++ (g.reference ∷ [])))
    → Became a b (piece_entries station_numbers key g.first g.remaining p.«data» a.table.entries.now T) (piece_octets station_numbers key g.first g.remaining p.«data» a.table.entries.now a.store.octets.now)
    → Slots T a b p (delivered_to s p (as_piece g))
taken T a b p s g None key calling e same some value after = cc
taken T a b p s g (Some m) key calling e same some value after =
    let is : key ≡ m = cc in
    let marked : unmarked p ≡ false = subst (λ (l : List ℕ). (ltb (length l) 2 || ltb 32 (length l)) ≡ false) same (not-true _ (sym some)) in
    let numbers : station_numbers key ≡ mark p.label.opc s p.calling g.reference =
    ap station_numbers is ∙ value ∙ ap (λ (l : List ℕ). p.label.opc ∷ s ∷ (l ++ (g.reference ∷ []))) same in
    let i : Incoming = record { subsystem = s; segmentation = g } in
    let t : Taken T a b p i = record { key = key; numbers = numbers; memory = after } in
    subst (λ (x : Option Incoming). Slots T a b p x) (sym (cond-false (unmarked p) None (Some i) marked)) t
