-- The answers, as the laws of slots speak of them.
use Rattle.std.specs.Prelude.{ℕ, List, [], ◌∷◌, ◌++◌, remove, slice_get, option_to_list, Some, None, Option, Ok, Err, Result}
use Rattle.slot_laws.specs.Machine as law
use Rattle.slot_parts.specs.declared.refusals.PieceRefusal.{PieceRefusal}
use Rattle.slot_parts.specs.declared.refusals.ReleaseRefusal.{ReleaseRefusal}
use Rattle.slot_parts.specs.Numbers.{piece_number, release_number}
use Rattle.slots.specs.declared.receipt.Receipt.{Receipt}
use Rattle.slots.specs.declared.answers.PieceAnswer.{PieceAnswer}
use Rattle.slots.specs.declared.answers.PieceAnswer.TheVariants as answer
use Rattle.slots.specs.Answers.{answered_as}
use Rattle.kept_receipts.specs.declared.answers.Whole.{Whole}

-- what is told of a unit names it as its receipt would, of the station of a code
abbrev pub whole_of : ℕ → Whole → law.Receipt
whole_of C w = record { code = C; slot = w.slot; size = w.length }

-- an answer of the station of a code
abbrev pub told_as : ℕ → PieceAnswer Whole → law.Answer
told_as C a = answered_as (whole_of C) a

abbrev pub piece_told : ℕ → Result (PieceAnswer Whole) PieceRefusal → law.Answer
piece_told C (Ok a) = told_as C a
piece_told C (Err e) = law.declined (piece_number e)

-- the code of the receipt in an answer of slots
abbrev pub code_in : PieceAnswer Receipt → ℕ
code_in (answer.HandedUp receipt) = receipt.code
code_in _ = 0

-- the receipts with that of an answer
abbrev pub added : List Receipt → PieceAnswer Receipt → List Receipt
added rs (answer.HandedUp receipt) = rs ++ receipt ∷ []
added rs _ = rs

-- the receipts with that of a piece that was handed up by the station of a code
abbrev pub with_receipt : ℕ → List Receipt → PieceAnswer Whole → List Receipt
with_receipt C rs (answer.HandedUp w) = rs ++ record { code = C; slot = w.slot; len = w.length } ∷ []
with_receipt C rs _ = rs

abbrev pub receipts_with : ℕ → List Receipt → Result (PieceAnswer Whole) PieceRefusal → List Receipt
receipts_with C rs (Ok a) = with_receipt C rs a
receipts_with C rs (Err e) = rs

-- what an offer of a receipt of the slot i is answered
abbrev pub offer_told : ℕ → Result (Unit {0}) ReleaseRefusal → law.Answer
offer_told i (Ok done) = law.released i
offer_told i (Err e) = law.declined (release_number e)

-- the receipts after an offer of that at a place: a declined one is the newest
abbrev pub offered : List Receipt → ℕ → Option (Result (Unit {0}) ReleaseRefusal) → List Receipt
offered rs k None = rs
offered rs k (Some (Ok done)) = remove rs k
offered rs k (Some (Err e)) = remove rs k ++ option_to_list (slice_get rs k)

-- the slot that a receipt names, where there is one
abbrev pub slot_named : Option Receipt → Option ℕ
slot_named None = None
slot_named (Some r) = Some r.slot
