-- The messages in which a unit goes out: one XUDT, or pieces, each an XUDT with segmentation.
use Rattle.std.specs.Prelude.{◌≡◌, ℕ, zero, suc, ◌+◌, ◌*◌, ◌/◌, ◌%◌, ◌<◌, ◌≤◌, Bool, false, cond, ◌&&◌, List, [], ◌∷◌, length, take, drop, ◌==◌}
use Rattle.message.specs.declared.messages.Form.TheVariants.{Xudt}
use Rattle.message.specs.Read.{Parsed}
use Rattle.writing.specs.Write.{encode}
use Rattle.pieces.specs.Pieces.{in_piece}
use Rattle.outgoing.specs.declared.units.Outgoing.{Outgoing}
use Rattle.outgoing.specs.Classes.{class_number}
use Rattle.outgoing.specs.Puts.{message_of, label_to}

-- what a unit goes out with: destination and origin, addresses as written, the class that was asked for, whether it asks for return, the sequence number
pub record Heading : Type 0 where
  pub code : ℕ
  pub own : ℕ
  pub called : List ℕ
  pub calling : List ℕ
  pub class : ℕ
  pub returns : Bool
  pub sequence : ℕ

abbrev pub heading_seen : Outgoing → Heading
heading_seen o =
    record {
      code = o.dpc;
      own = o.opc;
      called = o.called.octets.now;
      calling = o.calling.octets.now;
      class = class_number o.class;
      returns = o.returns;
      sequence = o.sequence;
    }

-- the link selection: of class 1 the sequence number modulo 16, else 0
abbrev pub selection : ℕ → ℕ → ℕ
selection class sequence = cond (class == 1) (sequence % 16) 0

-- protocol class, and bit 8 that asks for return
abbrev pub class_octet : ℕ → Bool → ℕ
class_octet class returns = class + cond returns 128 0

abbrev pub hops : ℕ
hops = 15

-- a message of the unit: an XUDT of this class with these options
abbrev pub unit_message : Heading → ℕ → Bool → List ℕ → List ℕ → Parsed
unit_message h class returns d o =
    message_of (label_to h.code h.own (selection class h.sequence)) (Xudt (class_octet class returns) hops) h.called h.calling d o

-- the unit in one message
abbrev pub one_message : Heading → List ℕ → Parsed
one_message h d = unit_message h h.class h.returns d []

-- segmentation and the end mark: the first bit, the user's class, how many pieces remain, the reference
abbrev pub segmentation_part : Bool → ℕ → ℕ → ℕ → List ℕ
segmentation_part first class remaining reference =
    0x10 ∷ 4 ∷ (cond first 128 0 + 64 * class + remaining) ∷ reference % 256 ∷ reference / 256 % 256 ∷ reference / 65536 ∷ 0 ∷ []

-- a piece: of class 1, so the link selection is the sequence number's; the first alone asks for return
abbrev pub piece_message : Heading → ℕ → Bool → ℕ → List ℕ → Parsed
piece_message h reference first remaining d =
    unit_message h 1 (h.returns && first) d (segmentation_part first h.class remaining reference)

-- the pieces of a unit, each of n octets but the last, which has what is left; r follow the first
abbrev pub piece_messages : Heading → ℕ → ℕ → Bool → ℕ → List ℕ → List (List ℕ)
piece_messages h reference n first zero d = encode (piece_message h reference first 0 d) ∷ []
piece_messages h reference n first (suc r) d =
    encode (piece_message h reference first (suc r) (take n d)) ∷ piece_messages h reference n false r (drop n d)

-- what is known of a unit that goes out in pieces of n octets, r behind the first
pub record Cut (h : Heading) (n r : ℕ) (d : List ℕ) : Type 0 where
  pub called : length h.called ≤ 32
  pub calling : length h.calling ≤ 32
  pub each : n ≡ in_piece (length h.called) (length h.calling)
  pub few : r ≤ 15
  pub long : r * n < length d
  pub short : length d ≤ (r + 1) * n
