-- The answers of the calls, as the laws speak of them.
use Rattle.std.specs.Prelude.{ℕ, List, take, Some, None, Ok, Err, Option, Result}
use Rattle.slot_laws.specs.Machine as law
use Rattle.slot_parts.specs.declared.refusals.PieceRefusal.{PieceRefusal}
use Rattle.slot_parts.specs.declared.refusals.CopyRefusal.{CopyRefusal}
use Rattle.slot_parts.specs.declared.refusals.ReleaseRefusal.{ReleaseRefusal}
use Rattle.slot_parts.specs.Numbers.{piece_number, copy_number, release_number}
use Rattle.slots.specs.declared.receipt.Receipt.{Receipt}
use Rattle.slots.specs.declared.answers.PieceAnswer.{PieceAnswer}
use Rattle.slots.specs.declared.answers.PieceAnswer.TheVariants as answer

-- what a receipt names
abbrev pub receipt_of : Receipt → law.Receipt
receipt_of r = record { code = r.code; slot = r.slot; size = r.len }

-- an answer, where what comes with a unit that is handed up from pieces names it so
abbrev pub answered_as : {R : Type 0} → (R → law.Receipt) → PieceAnswer R → law.Answer
answered_as named (answer.Alone unit) = law.alone unit.now
answered_as named answer.NoSlots = law.refused 10
answered_as named answer.NoneFree = law.refused 6
answered_as named (answer.Opened slot) = law.opens slot
answered_as named (answer.Restarted slot) = law.restarts slot
answered_as named answer.Stray = law.stray
answered_as named (answer.Broken slot) = law.breaks slot
answered_as named (answer.Held slot) = law.holds slot
answered_as named (answer.HandedUp receipt) = law.hands (named receipt)

abbrev pub answered : PieceAnswer Receipt → law.Answer
answered a = answered_as receipt_of a

abbrev pub piece_reply : Result (PieceAnswer Receipt) PieceRefusal → law.Answer
piece_reply (Ok a) = answered a
piece_reply (Err e) = law.declined (piece_number e)

-- the return cause that an answer has
abbrev pub cause_of : {R : Type 0} → PieceAnswer R → Option ℕ
cause_of (answer.Alone unit) = None
cause_of answer.NoSlots = Some 10
cause_of answer.NoneFree = Some 6
cause_of (answer.Opened slot) = None
cause_of (answer.Restarted slot) = None
cause_of answer.Stray = None
cause_of (answer.Broken slot) = None
cause_of (answer.Held slot) = None
cause_of (answer.HandedUp receipt) = None

-- a copy's answer, with what the buffer then holds
abbrev pub copy_reply : Result ℕ CopyRefusal → List ℕ → law.Answer
copy_reply (Ok n) buffer = law.copied (take n buffer)
copy_reply (Err e) buffer = law.declined (copy_number e)

-- a release's answer, to a receipt of the slot i
abbrev pub release_reply : ℕ → Result (Unit {0}) (ReleaseRefusal × Receipt) → law.Answer
release_reply i (Ok done) = law.released i
release_reply i (Err e) = law.declined (release_number e.0)
