-- Writing and reading are each other's inverse.
use Rattle.std.specs.Prelude.{◌≡◌, ℕ, ◌+◌, ◌<◌, ◌≤◌, Bool, true, false, cond, ◌&&◌, List, length, take, drop, Ok, Err, Result, ◌==◌, nat_eq, slice_index}
use Rattle.address.specs.Label.{LabelFits}
use Rattle.address.specs.Address.{address_ok}
use Rattle.message.specs.declared.faults.ReadFault.{ReadFault}
use Rattle.message.specs.declared.messages.Form.{Form}
use Rattle.message.specs.declared.messages.Form.TheVariants.{Udt, Udts, Xudt, Xudts}
use Rattle.message.specs.declared.reading.Pointers.{Pointers}
use Rattle.message.specs.declared.scanning.OptionSpan.{OptionSpan}
use Rattle.message.specs.Options.{option_span}
use Rattle.message.specs.FirstFault.{pointers_of}
use Rattle.message.specs.Read.{Parsed, parse, end_of, called_place, calling_place, data_place, no_span, has_segmentation, calling_ok, class_ok, hop_ok}
use Rattle.writing.specs.declared.refusals.WriteRefusal.{WriteRefusal}
use Rattle.writing.specs.Write.{options_in, encode, size}

-- class and hop counter are in their ranges, where there are such
abbrev pub form_ok : Form → Bool
form_ok (Udt c) = class_ok c
form_ok (Udts c) = true
form_ok (Xudt c h) = class_ok c && hop_ok h
form_ok (Xudts c h) = hop_ok h

-- what going through the options by themselves gives; no octets are no options
abbrev pub scanned : List ℕ → Result OptionSpan ReadFault
scanned o = cond (length o == 0) (Ok no_span) (option_span o 0)

-- whether segmentation is among them
abbrev pub segmented_by : List ℕ → Bool
segmented_by o = has_segmentation (scanned o)

-- p is a message: label, class and hop counter in their ranges, a good called address, a good
-- calling address or an empty one where there is no segmentation, some data, options that are
-- none or right up to an end mark that is their last octet, and none in UDT and UDTS. Nothing
-- is asked of the numbers in addresses, data and options.
pub record IsMessage (p : Parsed) : Type 0 where
  pub label : LabelFits p.label
  pub form : form_ok p.form ≡ true
  pub called : address_ok p.called ≡ true
  pub calling : calling_ok p.calling (segmented_by p.options) ≡ true
  pub «data» : 1 ≤ length p.«data»
  pub options : scanned p.options ≡ Ok (record { start = 0; end = length p.options; segmented = segmented_by p.options })
  pub none_in_short : options_in p.form p.options ≡ p.options

-- written-reads-back: a message that is no longer than 272 octets reads back the same from
-- what is written
abbrev pub WrittenReadsBack : Type 0
WrittenReadsBack = (p : Parsed) → IsMessage p → size p ≤ 272 → parse (encode p) ≡ Ok p

-- so the octets that were written into a buffer read back, if they are of a message
abbrev pub ReadsBack : Parsed → List ℕ → Result ℕ WriteRefusal → Type 0
ReadsBack p buffer (Ok n) = IsMessage p → parse (take n buffer) ≡ Ok p
ReadsBack p buffer (Err e) = Unit {0}

-- all are octets
abbrev pub Octets : List ℕ → Type 0
Octets x = (i : ℕ) → slice_index x i < 256

-- no gaps and no tail: each part begins where what stands before it ends, and the last one,
-- data or the options o, ends the message
pub record Gapless (m : List ℕ) (p : Pointers) (o : List ℕ) : Type 0 where
  pub first : called_place p ≡ p.start
  pub second : calling_place p ≡ end_of m (called_place p)
  pub third : data_place p ≡ end_of m (calling_place p)
  pub fourth : nat_eq p.options 0 ≡ false → p.at + 3 + p.options ≡ end_of m (data_place p)
  pub last : end_of m (data_place p) + length o ≡ length m

-- read-writes-back: a message without gaps or tail is written as it was read
abbrev pub ReadWritesBack : Type 0
ReadWritesBack = (x : List ℕ) (p : Parsed) → Octets x → parse x ≡ Ok p → Gapless (drop 4 x) (pointers_of (drop 4 x)) p.options → encode p ≡ x

-- read-is-message: what was read is a message
abbrev pub ReadIsMessage : Type 0
ReadIsMessage = (x : List ℕ) (p : Parsed) → Octets x → parse x ≡ Ok p → IsMessage p

-- rewritten-reads-same: what was read, written anew, is no longer than it was, and reads the
-- same, whatever gaps or tail it had
abbrev pub RewrittenReadsSame : Type 0
RewrittenReadsSame = (x : List ℕ) (p : Parsed) → Octets x → parse x ≡ Ok p → (size p ≤ length x) × (parse (encode p) ≡ Ok p)
