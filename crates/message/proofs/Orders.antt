-- The first of the faults that hold, whatever holding means: by going up through the numbers.
use Rattle.std.proofs.Common.{◌≡◌, ℕ, ◌+◌, ◌<◌, ◌≤◌, Bool, true, false, cond, eqb, Ok, Err, Result, sym, refl, ap, ◌∙◌, subst, inl, inr, ⊎_elim, arith}
use Rattle.std.proofs.lemmas.Bool.{cases_order, cases_lt}
use Rattle.message.specs.declared.faults.Fault.{Fault}
use Rattle.message.specs.declared.faults.Fault.TheVariants.{Length, MessageType, PointersCutOff, ClassOrHop, Pointer, Address, Data, Options}
use Rattle.message.specs.declared.faults.ReadFault.{ReadFault}
use Rattle.message.specs.Faults.{fault_number}
use Rattle.message.specs.FirstFault.{First}
use Rattle.message.specs.Read.{check, after}

-- the fault of a number
numbered : ℕ → Fault
numbered n =
    cond (eqb n 11) Length (cond (eqb n 12) MessageType (cond (eqb n 13) PointersCutOff (cond (eqb n 14) ClassOrHop (cond (eqb n 15) Pointer (cond (eqb n 16) Address (cond (eqb n 17) Data Options))))))

numbered_back : (f : Fault) → numbered (fault_number f) ≡ f
unfolding numbered
numbered_back Length = refl
numbered_back MessageType = refl
numbered_back PointersCutOff = refl
numbered_back ClassOrHop = refl
numbered_back Pointer = refl
numbered_back Address = refl
numbered_back Data = refl
numbered_back Options = refl

same_fault : (f g : Fault) → fault_number f ≡ fault_number g → f ≡ g
same_fault f g e = sym (numbered_back f) ∙ ap numbered e ∙ numbered_back g

from_11 : (f : Fault) → 11 ≤ fault_number f
from_11 Length = omega arith
from_11 MessageType = omega arith
from_11 PointersCutOff = omega arith
from_11 ClassOrHop = omega arith
from_11 Pointer = omega arith
from_11 Address = omega arith
from_11 Data = omega arith
from_11 Options = omega arith

to_18 : (f : Fault) → fault_number f < 19
to_18 Length = omega arith
to_18 MessageType = omega arith
to_18 PointersCutOff = omega arith
to_18 ClassOrHop = omega arith
to_18 Pointer = omega arith
to_18 Address = omega arith
to_18 Data = omega arith
to_18 Options = omega arith

-- no fault of a number below k holds
abbrev pub Clear : (Fault → ℕ → Type 0) → ℕ → Type 0
Clear holds k = (f : Fault) (o : ℕ) → fault_number f < k → holds f o → ⊥

pub clear_none : (holds : Fault → ℕ → Type 0) → Clear holds 11
clear_none holds f o l h = let g = from_11 f in omega arith

pub clear_more : (holds : Fault → ℕ → Type 0) (f : Fault) → Clear holds (fault_number f) → ((o : ℕ) → holds f o → ⊥) → Clear holds (fault_number f + 1)
clear_more holds f clear here g o l h =
    ⊎_elim
    (λ (lt : fault_number g < fault_number f). clear g o lt h)
    (λ (ge : fault_number f ≤ fault_number g). here o (subst (λ k. holds k o) (same_fault g f (omega arith)) h))
    (cases_lt (fault_number g) (fault_number f))

-- no fault at all
pub clear_all : {A : Type 0} (holds : Fault → ℕ → Type 0) (x : A) → Clear holds 19 → First holds (Ok x)
clear_all holds x clear f o h = clear f o (to_18 f) h

-- the fault at hand is the first: none of a lower number holds, nor the same at a lower offset
pub stop : (A : Type 0) (holds : Fault → ℕ → Type 0) (f : Fault) (o : ℕ) → Clear holds (fault_number f) → holds f o → ((k : ℕ) → holds f k → o ≤ k) → First {A = A} holds (Err (record { fault = f; offset = o }))
stop A holds f o clear here least = (
  here,
  λ g k h.
      ⊎_elim
      (λ (e : fault_number f ≡ fault_number g). inr (e, least k (subst (λ j. holds j k) (sym (same_fault f g e)) h)))
      (⊎_elim (λ (lt : fault_number f < fault_number g). inl lt) (λ (gt : fault_number g < fault_number f). absurd (clear g k gt h)))
      (cases_order (fault_number f) (fault_number g)),
)

-- a property of an answer, through a test
pub checked : {A : Type 0} (Q : Result A ReadFault → Type 0) (b : Bool) (f : Fault) (o : ℕ) (k : Result A ReadFault) → (b ≡ false → Q (Err (record { fault = f; offset = o }))) → (b ≡ true → Q k) → Q (check b f o k)
checked Q true f o k fails goes = goes refl
checked Q false f o k fails goes = fails refl

-- and through a test whose answer is handed on
pub checked_on : {A B : Type 0} (Q : Result B ReadFault → Type 0) (b : Bool) (f : Fault) (o : ℕ) (k : Result A ReadFault) (on : A → Result B ReadFault) → (b ≡ false → Q (Err (record { fault = f; offset = o }))) → (b ≡ true → Q (after k on)) → Q (after (check b f o k) on)
checked_on Q true f o k on fails goes = goes refl
checked_on Q false f o k on fails goes = fails refl

-- and through a choice
pub chosen_on : {A B : Type 0} (Q : Result B ReadFault → Type 0) (b : Bool) (j k : Result A ReadFault) (on : A → Result B ReadFault) → (b ≡ true → Q (after j on)) → (b ≡ false → Q (after k on)) → Q (after (cond b j k) on)
chosen_on Q true j k on a c = a refl
chosen_on Q false j k on a c = c refl
