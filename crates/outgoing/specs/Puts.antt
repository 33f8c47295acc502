-- A message put on a line.
use Rattle.std.specs.Prelude.{◌≡◌, ℕ, ◌+◌, ◌≤◌, Bool, cond, ◌&&◌, List, [], ◌∷◌, ◌++◌, length, Ok, Err, Result, ◌==◌}
use Rattle.address.specs.declared.labels.Label.{Label}
use Rattle.message.specs.declared.messages.Form.{Form}
use Rattle.message.specs.Read.{Parsed}
use Rattle.writing.specs.Write.{lengths_of, kept, encode, short_enough, near_enough}
use Rattle.translation.specs.declared.causes.Cause.{Cause}
use Rattle.translation.specs.declared.causes.Cause.TheVariants.{Unqualified, NetworkCongestion}

-- a message of its parts
abbrev pub message_of : Label → Form → List ℕ → List ℕ → List ℕ → List ℕ → Parsed
message_of l f called calling contents options =
    record { label = l; form = f; called = called; calling = calling; «data» = contents; options = options }

abbrev pub label_to : ℕ → ℕ → ℕ → Label
label_to dpc opc sls = record { dpc = dpc; opc = opc; sls = sls }

-- the message has at most 272 octets, and no pointer above 255
abbrev pub fits_line : Parsed → Bool
fits_line p = short_enough p.form (lengths_of (kept p)) && near_enough p.form (lengths_of (kept p))

-- putting a message on a line with so many places: cause 7 where it does not fit, then 6 where there is no place
abbrev pub put_outcome : ℕ → Parsed → Result (Unit {0}) Cause
put_outcome places p = cond (fits_line p) (cond (places == 0) (Err NetworkCongestion) (Ok tt)) (Err Unqualified)

-- what is then put
abbrev pub put_by : Result (Unit {0}) Cause → Parsed → List (List ℕ)
put_by (Ok _) p = encode p ∷ []
put_by (Err _) p = []

-- what a call leaves of a line: the messages put wait behind those that did, and places fall by one at most for each; they are free besides
pub record Behind {L : Type 0} (waiting : L → List (List ℕ)) (places : L → ℕ) (before after : L) (sent : List (List ℕ)) : Type 0 where
  pub messages : waiting after ≡ waiting before ++ sent
  pub least : places before ≤ places after + length sent
  pub most : places after ≤ places before
