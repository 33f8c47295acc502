-- The options of a message: name, length and contents one after the other, up to a 00.
use Rattle.std.specs.Prelude.{ℕ, zero, suc, ◌+◌, ◌*◌, ◌/◌, ◌%◌, ◌≤◌, Bool, false, cond, not, ◌&&◌, ◌||◌, List, [], length, take, drop, Some, None, Ok, Err, Option, Result, ◌==◌, nat_le, nat_lt, slice_index}
use Rattle.message.specs.declared.faults.Fault.TheVariants.{Options}
use Rattle.message.specs.declared.faults.ReadFault.{ReadFault}
use Rattle.message.specs.declared.parts_of_options.OptionPart as part
use Rattle.message.specs.declared.parts_of_options.OptionPart.TheVariants as parts
use Rattle.message.specs.declared.parts_of_options.Segmentation.{Segmentation}
use Rattle.message.specs.declared.scanning.OptionSpan.{OptionSpan}

abbrev pub octet : List ℕ → ℕ → ℕ
octet m i = slice_index m i

-- one option, its contents as a list
pub data Optional : Type 0 where
  segment : Segmentation → Optional
  other : ℕ → List ℕ → Optional
  ended : Optional

abbrev pub part_seen : part.OptionPart → Optional
part_seen (parts.Segmented s) = segment s
part_seen (parts.Other n c) = other n c.now
part_seen parts.End = ended

-- the four octets of segmentation: bit 8 of the first tells the first piece, bit 7 the
-- user's class, bits 1 to 4 how many pieces remain; then a reference, low octet first
abbrev pub segmentation_of : List ℕ → Segmentation
segmentation_of x =
    record { first = nat_le 128 (octet x 0); class = octet x 0 / 64 % 2; remaining = octet x 0 % 16; reference = octet x 1 + 256 * octet x 2 + 65536 * octet x 3 }

-- name 16 with length 4 is segmentation
abbrev pub segments : List ℕ → Bool
segments x = nat_le 6 (length x) && (octet x 0 == 16 && octet x 1 == 4)

-- an option stands at the front: a name, a length and that many octets
abbrev pub stands : List ℕ → Bool
stands x = nat_le 2 (length x) && (not (octet x 0 == 0) && nat_le (octet x 1) (length (drop 2 x)))

-- the option at the front
abbrev pub first_option : List ℕ → Optional
first_option x =
    cond (segments x) (segment (segmentation_of (drop 2 x))) (cond (stands x) (other (octet x 0) (take (octet x 1) (drop 2 x))) ended)

-- what stands behind it
abbrev pub behind_option : List ℕ → List ℕ
behind_option x = cond (stands x) (drop (octet x 1) (drop 2 x)) []

-- the segmentation among so many options at most
abbrev pub segmentation_in : ℕ → List ℕ → Option Segmentation
segmentation_in zero x = None
segmentation_in (suc n) x =
    cond (segments x) (Some (segmentation_of (drop 2 x))) (cond (stands x) (segmentation_in n (behind_option x)) None)

-- the segmentation of a message's options, if they hold one
unfoldable pub segmentation_found : List ℕ → Option Segmentation
segmentation_found x = segmentation_in (length x) x

-- the option at i is cut off
abbrev pub cut_at : List ℕ → ℕ → Bool
cut_at m i = nat_le (length m) (i + 1) || nat_lt (length m) (i + 2 + octet m (i + 1))

-- the option at i is a segmentation of another length than 4, or a second one
abbrev pub bad_at : Bool → List ℕ → ℕ → Bool
bad_at seen m i = octet m i == 16 && (not (octet m (i + 1) == 4) || seen)

abbrev pub wrong : {A : Type 0} → ℕ → Result A ReadFault
wrong i = Err (record { fault = Options; offset = i })

-- the options that begin at `from`, of which those before i are passed: where they end, and
-- whether they hold segmentation; `on` tells it for what stands behind the one at i
abbrev pub span_by : (Bool → ℕ → Result OptionSpan ReadFault) → ℕ → Bool → List ℕ → ℕ → Result OptionSpan ReadFault
span_by on from seen m i =
    cond (nat_le (length m) i) (wrong (length m))
    (cond (octet m i == 0) (Ok (record { start = from; end = i + 1; segmented = seen }))
    (cond (cut_at m i) (wrong i)
    (cond (bad_at seen m i) (wrong i)
    (on (octet m i == 16 || seen) (i + 2 + octet m (i + 1))))))

-- the same for so many options at most
abbrev pub span_in : ℕ → ℕ → Bool → List ℕ → ℕ → Result OptionSpan ReadFault
span_in zero from seen m i = wrong (length m)
span_in (suc n) from seen m i = span_by (λ s j. span_in n from s m j) from seen m i

-- the options that begin at `from`
unfoldable pub span_on : ℕ → Bool → List ℕ → ℕ → Result OptionSpan ReadFault
span_on from seen m i = span_in (length m) from seen m i

abbrev pub option_span : List ℕ → ℕ → Result OptionSpan ReadFault
option_span m from = span_on from false m from

-- a span lies in the message
abbrev pub SpanInside : List ℕ → OptionSpan → Type 0
SpanInside m s = (s.start ≤ s.end) × (s.end ≤ length m)
