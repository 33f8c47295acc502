-- Each fault by itself, as a condition on the octets, and what it means to be the first.
use Rattle.std.specs.Prelude.{◌≡◌, ℕ, zero, suc, ◌+◌, ◌<◌, ◌≤◌, Bool, true, false, cond, ◌&&◌, ◌||◌, ◌⊎◌, List, length, drop, Some, None, Option, Result, MatchResult, ◌==◌, nat_le}
use Rattle.message.specs.declared.faults.Fault.{Fault}
use Rattle.message.specs.declared.faults.Fault.TheVariants.{Length, MessageType, PointersCutOff, ClassOrHop, Pointer, Address, Data, Options}
use Rattle.message.specs.declared.faults.ReadFault.{ReadFault}
use Rattle.message.specs.declared.reading.Pointers.{Pointers}
use Rattle.message.specs.Faults.{fault_number}
use Rattle.message.specs.Options.{octet, cut_at, bad_at}
use Rattle.message.specs.Read.{end_of, part, within, called_place, calling_place, data_place, span_at, has_segmentation, calling_ok, data_ok, short_pointers, long_pointers, class_ok, hop_ok}
use Rattle.address.specs.Address.{address_ok}

-- UDT and XUDT have a class octet, XUDT and XUDTS a hop counter
abbrev pub has_class : ℕ → Bool
has_class t = t == 0x09 || t == 0x11

abbrev pub has_hop : ℕ → Bool
has_hop t = t == 0x11 || t == 0x12

abbrev pub known_type : ℕ → Bool
known_type t = t == 0x09 || (t == 0x0A || (t == 0x11 || t == 0x12))

abbrev pub pointers_of : List ℕ → Pointers
pointers_of m = cond (has_hop (octet m 0)) (long_pointers m) (short_pointers m)

-- a pointer names a place past the message, or before the end of what stands before
abbrev pub PointerWrong : List ℕ → Pointers → ℕ → Type 0
PointerWrong m p o =
    ((o ≡ p.at) × (within m p.start (called_place p) ≡ false))
    ⊎ (((o ≡ p.at + 1) × (within m (end_of m (called_place p)) (calling_place p) ≡ false))
    ⊎ (((o ≡ p.at + 2) × (within m (end_of m (calling_place p)) (data_place p) ≡ false))
    ⊎ ((o ≡ p.at + 3) × ((p.options == 0) ≡ false) × (within m (end_of m (data_place p)) (p.at + 3 + p.options) ≡ false))))

-- where the options begin, if there are any
abbrev pub options_start : Pointers → Option ℕ
options_start p = cond (p.options == 0) None (Some (p.at + 3 + p.options))

abbrev pub segmented : List ℕ → Pointers → Bool
segmented m p = has_segmentation (span_at m (options_start p))

abbrev pub AddressWrong : List ℕ → Pointers → ℕ → Type 0
AddressWrong m p o =
    ((o ≡ called_place p) × (address_ok (part m (called_place p)) ≡ false))
    ⊎ ((o ≡ calling_place p) × (calling_ok (part m (calling_place p)) (segmented m p) ≡ false))

abbrev pub DataWrong : List ℕ → Pointers → ℕ → Type 0
DataWrong m p o = (o ≡ data_place p) × (data_ok m (data_place p) ≡ false)

-- going from option to option from i on, the one at o is cut off or wrong, or the end mark is
-- lacking where the message ends; `seen` tells whether segmentation was passed. An option
-- that is not cut off can be passed, be it wrong or not.
abbrev pub WrongFrom : ℕ → Bool → List ℕ → ℕ → ℕ → Type 0
WrongFrom zero seen m i o = ⊥
WrongFrom (suc n) seen m i o =
    ((o ≡ length m) × (length m ≤ i))
    ⊎ ((i < length m) × ((octet m i == 0) ≡ false)
    × (((o ≡ i) × ((cut_at m i || bad_at seen m i) ≡ true))
    ⊎ ((cut_at m i ≡ false) × WrongFrom n (octet m i == 16 || seen) m (i + 2 + octet m (i + 1)) o)))

abbrev pub OptionWrong : List ℕ → Pointers → ℕ → Type 0
OptionWrong m p o = ((p.options == 0) ≡ false) × WrongFrom (suc (length m)) false m (p.at + 3 + p.options) o

-- the fault f holds at the offset o: x is the whole, m what stands behind the label
abbrev pub FaultIn : List ℕ → List ℕ → Pointers → Fault → ℕ → Type 0
FaultIn x m p Length o = (o ≡ 0) × ((nat_le 5 (length x) && nat_le (length x) 272) ≡ false)
FaultIn x m p MessageType o = (o ≡ 0) × (known_type (octet m 0) ≡ false)
FaultIn x m p PointersCutOff o = (o ≡ 0) × (nat_le p.start (length m) ≡ false)
FaultIn x m p ClassOrHop o =
    ((o ≡ 1) × (has_class (octet m 0) ≡ true) × (class_ok (octet m 1) ≡ false)) ⊎ ((o ≡ 2) × (has_hop (octet m 0) ≡ true) × (hop_ok (octet m 2) ≡ false))
FaultIn x m p Pointer o = PointerWrong m p o
FaultIn x m p Address o = AddressWrong m p o
FaultIn x m p Data o = DataWrong m p o
FaultIn x m p Options o = OptionWrong m p o

abbrev pub FaultAt : List ℕ → Fault → ℕ → Type 0
FaultAt x f o = FaultIn x (drop 4 x) (pointers_of (drop 4 x)) f o

-- a fault is not before another: a lower number, or the same and an offset that is not higher
abbrev pub NotAfter : ReadFault → Fault → ℕ → Type 0
NotAfter e f o = (fault_number e.fault < fault_number f) ⊎ ((fault_number e.fault ≡ fault_number f) × (e.offset ≤ o))

-- an answer that is a message: no fault holds. One that is a fault: it holds, and it is the
-- first of all that hold.
abbrev pub First : {A : Type 0} → (Fault → ℕ → Type 0) → Result A ReadFault → Type 0
First holds r =
    MatchResult r (λ _. (f : Fault) (o : ℕ) → holds f o → ⊥) (λ e. holds e.fault e.offset × ((f : Fault) (o : ℕ) → holds f o → NotAfter e f o))

-- first-fault: reading answers the first fault that holds of the octets, or there is none
abbrev pub FirstFault : {A : Type 0} → List ℕ → Result A ReadFault → Type 0
FirstFault x r = First (FaultAt x) r
