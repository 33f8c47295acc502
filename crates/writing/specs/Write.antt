-- Messages written: label, head, addresses, data and options one behind the other.
use Rattle.std.specs.Prelude.{ℕ, ◌+◌, ◌≤◌, Bool, cond, ◌&&◌, List, [], ◌∷◌, ◌++◌, length, drop, Ok, Err, Result, ◌==◌, nat_le}
use Rattle.address.specs.Label.{label_octets}
use Rattle.message.specs.declared.messages.Form.{Form}
use Rattle.message.specs.declared.messages.Form.TheVariants.{Udt, Udts, Xudt, Xudts}
use Rattle.message.specs.Read.{Parsed}
use Rattle.writing.specs.declared.refusals.WriteRefusal.{WriteRefusal}
use Rattle.writing.specs.declared.refusals.WriteRefusal.TheVariants.{TooLong, PointerTooFar, ShortBuffer}
use Rattle.writing.specs.declared.layout.Lengths.{Lengths}
use Rattle.writing.specs.declared.layout.Slices.{Slices}

-- a length octet and its octets
abbrev pub sized : List ℕ → List ℕ
sized xs = length xs ∷ xs

-- the options that are written: UDT and UDTS have none
abbrev pub options_in : Form → List ℕ → List ℕ
options_in (Udt c) o = []
options_in (Udts c) o = []
options_in (Xudt c h) o = o
options_in (Xudts c h) o = o

-- the message that is written
abbrev pub kept : Parsed → Parsed
kept p = record { label = p.label; form = p.form; called = p.called; calling = p.calling; «data» = p.«data»; options = options_in p.form p.options }

abbrev pub slices_seen : Slices → Parsed
slices_seen s = record { label = s.label; form = s.form; called = s.called.now; calling = s.calling.now; «data» = s.«data».now; options = s.options.now }

abbrev pub lengths_of : Parsed → Lengths
lengths_of p = record { called = length p.called; calling = length p.calling; «data» = length p.«data»; options = length p.options }

-- how many pointers there are: to called and calling address, data and, in XUDT and XUDTS,
-- options
abbrev pub pointer_count : Form → ℕ
pointer_count (Udt c) = 3
pointer_count (Udts c) = 3
pointer_count (Xudt c h) = 4
pointer_count (Xudts c h) = 4

-- A pointer tells how far behind itself its part begins. With k pointers the first is k, which
-- is where they end; each of the others stands one octet later, and its part one length octet
-- and the octets of the part before.
abbrev pub to_calling : ℕ → Lengths → ℕ
to_calling k n = k + n.called

abbrev pub to_data : ℕ → Lengths → ℕ
to_data k n = k + n.called + n.calling

-- 0 where there are no options
abbrev pub to_options : ℕ → Lengths → ℕ
to_options k n = cond (n.options == 0) 0 (k + n.called + n.calling + n.«data»)

-- message type, class or cause, hop counter, and pointers
abbrev pub head : Form → Lengths → List ℕ
head (Udt c) n = 0x09 ∷ c ∷ 3 ∷ to_calling 3 n ∷ to_data 3 n ∷ []
head (Udts c) n = 0x0A ∷ c ∷ 3 ∷ to_calling 3 n ∷ to_data 3 n ∷ []
head (Xudt c h) n = 0x11 ∷ c ∷ h ∷ 4 ∷ to_calling 4 n ∷ to_data 4 n ∷ to_options 4 n ∷ []
head (Xudts c h) n = 0x12 ∷ c ∷ h ∷ 4 ∷ to_calling 4 n ∷ to_data 4 n ∷ to_options 4 n ∷ []

abbrev pub head_size : Form → ℕ
head_size (Udt c) = 5
head_size (Udts c) = 5
head_size (Xudt c h) = 7
head_size (Xudts c h) = 7

-- a message behind its label
abbrev pub body_octets : Parsed → List ℕ
body_octets p =
    head p.form (lengths_of p) ++ (sized p.called ++ (sized p.calling ++ (sized p.«data» ++ p.options)))

-- a message and its label
unfoldable pub laid : Parsed → List ℕ
laid p = label_octets p.label ++ body_octets p

-- the octets of a message as it is written
abbrev pub encode : Parsed → List ℕ
encode p = laid (kept p)

-- how many they are
abbrev pub size_of : Form → Lengths → ℕ
size_of f n = 4 + head_size f + 3 + n.called + n.calling + n.«data» + n.options

abbrev pub size : Parsed → ℕ
size p = size_of p.form (lengths_of (kept p))

-- a message has at most 272 octets, and a part with a length octet at most 255
abbrev pub short_enough : Form → Lengths → Bool
short_enough f n = nat_le n.called 255 && (nat_le n.calling 255 && (nat_le n.«data» 255 && nat_le (size_of f n) 272))

-- a pointer is one octet: the pointers to data and to options are the greatest
abbrev pub near_enough : Form → Lengths → Bool
near_enough f n = nat_le (to_data (pointer_count f) n) 255 && nat_le (to_options (pointer_count f) n) 255

-- what is known of a message that can be written
abbrev pub Fitting : Form → Lengths → Type 0
Fitting f n =
    (size_of f n ≤ 272) × (n.called ≤ 255) × (n.calling ≤ 255) × (n.«data» ≤ 255) × (to_data (pointer_count f) n ≤ 255) × (to_options (pointer_count f) n ≤ 255)

-- go on where the test holds, else the refusal
abbrev pub test : Bool → WriteRefusal → Result ℕ WriteRefusal → Result ℕ WriteRefusal
test b e k = cond b k (Err e)

-- the size of a message that can be written
abbrev pub measured : Form → Lengths → Result ℕ WriteRefusal
measured f n = test (short_enough f n) TooLong (test (near_enough f n) PointerTooFar (Ok (size_of f n)))

-- what write answers for a buffer of so many octets
abbrev pub write_answer : Parsed → ℕ → Result ℕ WriteRefusal
write_answer p room =
    test (short_enough p.form (lengths_of (kept p))) TooLong (test (near_enough p.form (lengths_of (kept p))) PointerTooFar (test (nat_le (size p) room) ShortBuffer (Ok (size p))))

-- what the buffer holds after an answer
abbrev pub buffer_after : Parsed → List ℕ → Result ℕ WriteRefusal → List ℕ
buffer_after p buffer (Ok n) = encode p ++ drop n buffer
buffer_after p buffer (Err e) = buffer
