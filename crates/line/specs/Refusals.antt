-- The number of each refusal, and its words.
use Rattle.std.specs.Prelude.{ℕ, List, codes}
use Rattle.line.specs.declared.refusal.LineRefusal.{LineRefusal}
use Rattle.line.specs.declared.refusal.LineRefusal.TheVariants.{AreaTooSmall, BadLength, NoPlace, NothingWaiting, ShortBuffer}

abbrev pub refusal_number : LineRefusal → ℕ
refusal_number AreaTooSmall = 60
refusal_number BadLength = 61
refusal_number NoPlace = 62
refusal_number NothingWaiting = 63
refusal_number ShortBuffer = 64

abbrev pub refusal_words : LineRefusal → List ℕ
refusal_words AreaTooSmall = codes "the area is too small for a line"
refusal_words BadLength = codes "a message has 5 to 272 octets"
refusal_words NoPlace = codes "the line has no place left"
refusal_words NothingWaiting = codes "nothing waits on the line"
refusal_words ShortBuffer = codes "the buffer is shorter than 272 octets"
