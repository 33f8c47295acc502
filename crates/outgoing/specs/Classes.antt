-- Protocol classes by their numbers.
use Rattle.std.specs.Prelude.{ℕ, cond, Some, None, Option, nat_lt}
use Rattle.outgoing.specs.declared.classes.Class.{Class}
use Rattle.outgoing.specs.declared.classes.Class.TheVariants.{Basic, InSequence}

abbrev pub class_number : Class → ℕ
class_number Basic = 0
class_number InSequence = 1

abbrev pub class_found : Option Class → Option ℕ
class_found None = None
class_found (Some c) = Some (class_number c)

-- there are classes 0 and 1
abbrev pub class_of_number : ℕ → Option ℕ
class_of_number n = cond (nat_lt n 2) (Some n) None
