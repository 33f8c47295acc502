-- Global titles: what their octets say, and their digits.
use Rattle.std.specs.Prelude.{◌≡◌, ℕ, ◌-◌, ◌*◌, ◌/◌, ◌%◌, Bool, true, false, cond, ◌&&◌, ◌||◌, List, [], ◌∷◌, length, take, drop, Some, None, Option, ◌==◌, nat_le, slice_index}
use Rattle.address.specs.declared.titles.Title.{Title}
use Rattle.address.specs.declared.titles.Title.TheVariants as title
use Rattle.octets.specs.declared.short.ShortOctets.{ShortOctets}
use Rattle.octets.specs.Short.{short_octets, short_found}

-- a title by what it holds, its octets as a list
pub data GlobalTitle : Type 0 where
  kind2 : ℕ → List ℕ → GlobalTitle
  kind4 : ℕ → ℕ → ℕ → ℕ → List ℕ → GlobalTitle
  other : ℕ → List ℕ → GlobalTitle

abbrev pub title_seen : Title → GlobalTitle
title_seen (title.Kind2 t d) = kind2 t d.now
title_seen (title.Kind4 t p e n d) = kind4 t p e n d.now
title_seen (title.Other k o) = other k o.now

-- a title of a kind other than 0 by its octets: none where they are too few to hold a digit.
-- Kind 2 is translation type and digits; kind 4 translation type, numbering plan (high half)
-- with encoding (low half), nature (bits 1 to 7) and digits; others are carried.
abbrev pub title_of : ℕ → List ℕ → Option GlobalTitle
title_of k t =
    cond (k == 2) (cond (nat_le 2 (length t)) (Some (kind2 (slice_index t 0) (drop 1 t))) None)
    (cond (k == 4) (cond (nat_le 4 (length t)) (Some (kind4 (slice_index t 0) (slice_index t 1 / 16) (slice_index t 1 % 16) (slice_index t 2 % 128) (drop 3 t))) None)
    (cond (nat_le 1 (length t)) (Some (other k t)) None))

-- the halves of the octets, low half first
abbrev pub halves : List ℕ → List ℕ
halves [] = []
halves (x ∷ xs) = x % 16 ∷ x / 16 ∷ halves xs

-- the digits: an odd number of them leaves the last half unused
abbrev pub digits_of : Bool → List ℕ → List ℕ
digits_of odd xs = take (2 * length xs - cond odd 1 0) (halves xs)

-- encoding 1 is an odd number of digits, 2 an even one; kind 2 is read as even.
-- No title of a good address has more than 28 octets of digits.
abbrev pub title_digits : GlobalTitle → Option (List ℕ)
title_digits (kind2 t d) = cond (nat_le (length d) 28) (Some (digits_of false d)) None
title_digits (kind4 t p e n d) = cond (nat_le (length d) 28 && (e == 1 || e == 2)) (Some (digits_of (e == 1) d)) None
title_digits (other k o) = None

-- digits as stored
abbrev pub digits_held : ShortOctets 56 → List ℕ
digits_held d = short_octets d

abbrev pub digits_seen : Option (ShortOctets 56) → Option (List ℕ)
digits_seen d = short_found d

-- 21 43: odd 1 2 3, even 1 2 3 4
abbrev pub DigitFigure : Type 0
DigitFigure = (digits_of true (0x21 ∷ 0x43 ∷ []) ≡ 1 ∷ 2 ∷ 3 ∷ []) × (digits_of false (0x21 ∷ 0x43 ∷ []) ≡ 1 ∷ 2 ∷ 3 ∷ 4 ∷ [])
