-- Octets as hexadecimal text.
use Rattle.std.specs.Prelude.{◌≡◌, ℕ, ◌+◌, ◌-◌, ◌*◌, ◌/◌, ◌%◌, ◌<◌, cond, ◌&&◌, List, [], ◌∷◌, ◌++◌, Some, None, Ok, Err, vec_items, Option, Result, Vec, ◌==◌, nat_le, nat_lt}
use Rattle.std.specs.declared.alloc.Global.{Global}
use Rattle.hexadecimal.specs.declared.NoOctets.{NoOctets}
use Rattle.hexadecimal.specs.declared.NoOctets.TheVariants.{NotHexadecimal, NoMemory}

-- 0 to 9, A to F, a to f
abbrev pub digit_value : ℕ → Option ℕ
digit_value b =
    cond (nat_le 48 b && nat_le b 57) (Some (b - 48))
    (cond (nat_le 65 b && nat_le b 70) (Some (b - 65 + 10))
    (cond (nat_le 97 b && nat_le b 102) (Some (b - 97 + 10)) None))

abbrev pub digit_text : ℕ → ℕ
digit_text v = cond (nat_lt v 10) (v + 48) (v - 10 + 97)

-- the octet of two digits
abbrev pub joined : Option ℕ → Option ℕ → Option ℕ
joined None l = None
joined (Some h) None = None
joined (Some h) (Some l) = Some (16 * h + l)

abbrev pub pair_value : ℕ → ℕ → Option ℕ
pair_value h l = joined (digit_value h) (digit_value l)

abbrev pub with : Option ℕ → (ℕ → Option (List ℕ)) → Option (List ℕ)
with None on = None
with (Some x) on = on x

-- the octets so far, and those of the digits to come
abbrev pub octets_on : List ℕ → List ℕ → Option (List ℕ)
octets_on done [] = Some done
octets_on done (h ∷ []) = None
octets_on done (h ∷ l ∷ rest) = with (pair_value h l) (λ x. octets_on (done ++ x ∷ []) rest)

-- the octets of a word: 45 is the text of `-`
abbrev pub octets_in : List ℕ → Option (List ℕ)
octets_in [] = None
octets_in (h ∷ []) = cond (h == 45) (Some []) None
octets_in (h ∷ l ∷ rest) = octets_on [] (h ∷ l ∷ rest)

-- what reading answers: the octets, or that there are none, unless memory is wanting
abbrev pub Made : Option (List ℕ) → Result (Vec ℕ Global) NoOctets → Type 0
Made o (Ok v) = o ≡ Some (vec_items v)
Made o (Err NotHexadecimal) = o ≡ None
Made o (Err NoMemory) = Unit {0}

abbrev pub octet_text : ℕ → List ℕ
octet_text x = digit_text (x / 16) ∷ digit_text (x % 16) ∷ []

abbrev pub digits_of : List ℕ → List ℕ
digits_of [] = []
digits_of (x ∷ xs) = octet_text x ++ digits_of xs

abbrev pub text_of : List ℕ → List ℕ
text_of [] = 45 ∷ []
text_of (x ∷ xs) = digits_of (x ∷ xs)

-- all are octets
abbrev pub Octets : List ℕ → Type 0
Octets [] = Unit {0}
Octets (x ∷ xs) = (x < 256) × Octets xs

-- what is written reads back the same
abbrev pub ReadsBack : Type 0
ReadsBack = (xs : List ℕ) → Octets xs → octets_in (text_of xs) ≡ Some xs
