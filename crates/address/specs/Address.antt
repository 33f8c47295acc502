-- Addresses: an indicator, then a point code, a subsystem and a global title where it says so.
use Rattle.std.specs.Prelude.{ℕ, ◌+◌, ◌-◌, ◌*◌, ◌/◌, ◌%◌, Bool, cond, not, ◌&&◌, List, length, drop, Some, None, Option, ◌==◌, nat_le, slice_index}
use Rattle.address.specs.declared.titles.Title.{Title}
use Rattle.address.specs.Title.{GlobalTitle, title_of, title_seen}

abbrev pub indicator : List ℕ → ℕ
indicator a = slice_index a 0

-- octets of the code: 2 if bit 1 tells one
abbrev pub code_size : ℕ → ℕ
code_size i = 2 * (i % 2)

-- octets of the subsystem: 1 if bit 2 tells one
abbrev pub subsystem_size : ℕ → ℕ
subsystem_size i = i / 2 % 2

-- bits 3 to 6: the kind of the title, 0 for none
abbrev pub title_kind : ℕ → ℕ
title_kind i = i / 4 % 16

-- where the title begins, behind indicator, code and subsystem
abbrev pub title_place : ℕ → ℕ
title_place i = 1 + code_size i + subsystem_size i

-- kind 2 has a translation type and one octet of digits at least, kind 4 three octets and one
-- of digits, others one octet
abbrev pub least_title : ℕ → ℕ
least_title k = cond (k == 2) 2 (cond (k == 4) 4 1)

abbrev pub title_length_ok : ℕ → ℕ → Bool
title_length_ok k t = cond (k == 0) (t == 0) (nat_le (least_title k) t && nat_le t 28)

-- 2 to 32 octets: what the indicator tells, and nothing else
unfoldable pub address_ok : List ℕ → Bool
address_ok a =
    nat_le 2 (length a) && (nat_le (length a) 32 && (nat_le (title_place (indicator a)) (length a) && title_length_ok (title_kind (indicator a)) (length a - title_place (indicator a))))

-- a lone octet with bits 1 to 7 zero
abbrev pub address_empty : List ℕ → Bool
address_empty a = length a == 1 && indicator a % 128 == 0

-- bit 7: routing on subsystem, else on title
abbrev pub on_subsystem_of : List ℕ → Bool
on_subsystem_of a = indicator a / 64 % 2 == 1

-- the code: two octets, low octet first, the top two bits ignored
abbrev pub code_of : List ℕ → Option ℕ
code_of a = cond (indicator a % 2 == 1 && nat_le 3 (length a)) (Some ((slice_index a 1 + 256 * slice_index a 2) % 16384)) None

abbrev pub subsystem_place : List ℕ → ℕ
subsystem_place a = 1 + code_size (indicator a)

abbrev pub subsystem_of : List ℕ → Option ℕ
subsystem_of a = cond (subsystem_size (indicator a) == 1 && nat_le (subsystem_place a + 1) (length a)) (Some (slice_index a (subsystem_place a))) None

-- whether the indicator tells a title
abbrev pub has_title : List ℕ → Bool
has_title a = not (title_kind (indicator a) == 0)

-- the title: none of kind 0
unfoldable pub title_in : List ℕ → Option GlobalTitle
title_in a = cond (title_kind (indicator a) == 0) None (title_of (title_kind (indicator a)) (drop (title_place (indicator a)) a))

abbrev pub title_found : Option Title → Option GlobalTitle
title_found None = None
title_found (Some t) = Some (title_seen t)
