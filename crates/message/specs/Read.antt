-- Messages as they are read: each test in order, and the first that fails is the fault.
use Rattle.std.specs.Prelude.{ℕ, ◌+◌, ◌-◌, ◌%◌, ◌<◌, ◌≤◌, Bool, false, cond, not, ◌&&◌, ◌||◌, List, length, take, drop, Some, None, Ok, Err, Option, Result, ◌==◌, nat_le, nat_lt}
use Rattle.address.specs.declared.labels.Label.{Label}
use Rattle.address.specs.Label.{label_of}
use Rattle.address.specs.Address.{address_ok, address_empty}
use Rattle.message.specs.declared.faults.Fault.{Fault}
use Rattle.message.specs.declared.faults.Fault.TheVariants.{Length, MessageType, PointersCutOff, ClassOrHop, Pointer, Address, Data}
use Rattle.message.specs.declared.faults.ReadFault.{ReadFault}
use Rattle.message.specs.declared.messages.Form.{Form}
use Rattle.message.specs.declared.messages.Form.TheVariants.{Udt, Udts, Xudt, Xudts}
use Rattle.message.specs.declared.messages.Message.{Message}
use Rattle.message.specs.declared.messages.Parts.{Parts}
use Rattle.message.specs.declared.reading.Pointers.{Pointers}
use Rattle.message.specs.declared.reading.Places.{Places}
use Rattle.message.specs.declared.reading.Trio.{Trio}
use Rattle.message.specs.declared.scanning.OptionSpan.{OptionSpan}
use Rattle.message.specs.Options.{octet, option_span}

-- a message by what it says, its parts as lists
pub record Parsed : Type 0 where
  pub label : Label
  pub form : Form
  pub called : List ℕ
  pub calling : List ℕ
  pub «data» : List ℕ
  pub options : List ℕ

-- addresses and data
pub record Three : Type 0 where
  pub called : List ℕ
  pub calling : List ℕ
  pub «data» : List ℕ

abbrev pub seen : Parts → Parsed
seen p = record { label = p.label; form = p.form; called = p.called.octets.now; calling = p.calling.octets.now; «data» = p.«data».now; options = p.options.octets.now }

abbrev pub meaning : Result Message ReadFault → Result Parsed ReadFault
meaning (Ok m) = Ok (seen m.parts)
meaning (Err e) = Err e

abbrev pub trio_seen : Result Trio ReadFault → Result Three ReadFault
trio_seen (Ok t) = Ok (record { called = t.called.octets.now; calling = t.calling.octets.now; «data» = t.«data».now })
trio_seen (Err e) = Err e

-- go on where the test holds, else the fault
abbrev pub check : {A : Type 0} → Bool → Fault → ℕ → Result A ReadFault → Result A ReadFault
check b f i k = cond b k (Err (record { fault = f; offset = i }))

-- go on with the value, else the fault
abbrev pub after : {A B : Type 0} → Result A ReadFault → (A → Result B ReadFault) → Result B ReadFault
after (Ok x) k = k x
after (Err e) k = Err e

-- where the part ends whose length octet is at i
abbrev pub end_of : List ℕ → ℕ → ℕ
end_of m i = i + 1 + octet m i

-- the part whose length octet is at i
abbrev pub part : List ℕ → ℕ → List ℕ
part m i = take (octet m i) (drop (i + 1) m)

-- the offset i lies in the message, not before the end e of what stands before
abbrev pub within : List ℕ → ℕ → ℕ → Bool
within m e i = nat_le e i && nat_lt i (length m)

-- a pointer of value p at offset i names i + p: here the places of the three length octets
abbrev pub called_place : Pointers → ℕ
called_place p = p.at + p.called

abbrev pub calling_place : Pointers → ℕ
calling_place p = p.at + 1 + p.calling

abbrev pub data_place : Pointers → ℕ
data_place p = p.at + 2 + p.«data»

abbrev pub places_body : List ℕ → Pointers → Result Places ReadFault
places_body m p =
    check (within m p.start (called_place p)) Pointer p.at
    (check (within m (end_of m (called_place p)) (calling_place p)) Pointer (p.at + 1)
    (check (within m (end_of m (calling_place p)) (data_place p)) Pointer (p.at + 2)
    (Ok (record { called = called_place p; calling = calling_place p; «data» = data_place p }))))

-- where the options begin: none if the pointer is 0
abbrev pub options_place : List ℕ → Pointers → Result (Option ℕ) ReadFault
options_place m p =
    cond (p.options == 0) (Ok None)
    (check (within m (end_of m (data_place p)) (p.at + 3 + p.options)) Pointer (p.at + 3)
    (Ok (Some (p.at + 3 + p.options))))

abbrev pub no_span : OptionSpan
no_span = record { start = 0; end = 0; segmented = false }

abbrev pub span_at : List ℕ → Option ℕ → Result OptionSpan ReadFault
span_at m None = Ok no_span
span_at m (Some i) = option_span m i

-- options have segmentation only if all of them are right
abbrev pub has_segmentation : Result OptionSpan ReadFault → Bool
has_segmentation (Ok s) = s.segmented
has_segmentation (Err e) = false

-- a calling address may be empty in a message without segmentation
abbrev pub calling_ok : List ℕ → Bool → Bool
calling_ok a segmented = address_ok a || (address_empty a && not segmented)

-- data is not empty and not cut off
abbrev pub data_ok : List ℕ → ℕ → Bool
data_ok m i = nat_le 1 (octet m i) && nat_le (end_of m i) (length m)

abbrev pub parts_body : List ℕ → Places → Bool → Result Three ReadFault
parts_body m q segmented =
    check (address_ok (part m q.called)) Address q.called
    (check (calling_ok (part m q.calling) segmented) Address q.calling
    (check (data_ok m q.«data») Data q.«data»
    (Ok (record { called = part m q.called; calling = part m q.calling; «data» = part m q.«data» }))))

abbrev pub parsed : Label → Form → Three → List ℕ → Parsed
parsed l f t o = record { label = l; form = f; called = t.called; calling = t.calling; «data» = t.«data»; options = o }

-- what the pointers name
unfoldable pub body : Label → Form → List ℕ → Pointers → Result Parsed ReadFault
body l f m p =
    after (places_body m p) (λ q.
    after (options_place m p) (λ o.
    after (parts_body m q (has_segmentation (span_at m o))) (λ t.
    after (span_at m o) (λ s.
    Ok (parsed l f t (take (s.end - s.start) (drop s.start m)))))))

-- UDT and UDTS have three pointers from offset 2, XUDT and XUDTS four from offset 3
abbrev pub short_pointers : List ℕ → Pointers
short_pointers m = record { at = 2; start = 5; called = octet m 2; calling = octet m 3; «data» = octet m 4; options = 0 }

abbrev pub long_pointers : List ℕ → Pointers
long_pointers m = record { at = 3; start = 7; called = octet m 3; calling = octet m 4; «data» = octet m 5; options = octet m 6 }

-- bits 1 to 4 of the class octet are 0 or 1
abbrev pub class_ok : ℕ → Bool
class_ok c = nat_lt (c % 16) 2

abbrev pub hop_ok : ℕ → Bool
hop_ok h = nat_le 1 h && nat_le h 15

-- a message behind its label
abbrev pub message_body : Label → List ℕ → Result Parsed ReadFault
message_body l m =
    cond (octet m 0 == 0x09) (check (nat_le 5 (length m)) PointersCutOff 0 (check (class_ok (octet m 1)) ClassOrHop 1 (body l (Udt (octet m 1)) m (short_pointers m))))
    (cond (octet m 0 == 0x0A) (check (nat_le 5 (length m)) PointersCutOff 0 (body l (Udts (octet m 1)) m (short_pointers m)))
    (cond (octet m 0 == 0x11) (check (nat_le 7 (length m)) PointersCutOff 0 (check (class_ok (octet m 1)) ClassOrHop 1 (check (hop_ok (octet m 2)) ClassOrHop 2 (body l (Xudt (octet m 1) (octet m 2)) m (long_pointers m)))))
    (cond (octet m 0 == 0x12) (check (nat_le 7 (length m)) PointersCutOff 0 (check (hop_ok (octet m 2)) ClassOrHop 2 (body l (Xudts (octet m 1) (octet m 2)) m (long_pointers m))))
    (Err (record { fault = MessageType; offset = 0 })))))

-- any octets: four of label, and a message
unfoldable pub parse : List ℕ → Result Parsed ReadFault
parse x = check (nat_le 5 (length x) && nat_le (length x) 272) Length 0 (message_body (label_of x) (drop 4 x))

-- each place lies behind the part before it, and in the message
abbrev pub Placed : List ℕ → Places → Type 0
Placed m q = (end_of m q.called ≤ q.calling) × (end_of m q.calling ≤ q.«data») × (q.«data» < length m)

-- options begin in the message, if there are any
abbrev pub OptionInside : List ℕ → Option ℕ → Type 0
OptionInside m None = Unit {0}
OptionInside m (Some i) = i < length m
