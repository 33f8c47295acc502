-- An address written anew, with another way of routing, code or subsystem. Bit 8 of the
-- indicator and the title stay as they are.
use Rattle.std.specs.Prelude.{◌≡◌, ℕ, ◌+◌, ◌*◌, ◌/◌, ◌%◌, ◌≤◌, Bool, true, cond, ◌&&◌, List, [], ◌∷◌, ◌++◌, length, take, drop, is_some, Some, None, Option, ◌==◌, nat_le}
use Rattle.octets.specs.declared.short.ShortOctets.{ShortOctets}
use Rattle.octets.specs.Short.{short_octets, short_found}
use Rattle.address.specs.declared.rewriting.CodeChange.{CodeChange}
use Rattle.address.specs.declared.rewriting.CodeChange.TheVariants.{Keep, Remove, Put}
use Rattle.address.specs.Code.{code_number}
use Rattle.address.specs.Address.{indicator, code_size, title_kind, title_place, address_ok, on_subsystem_of, code_of, subsystem_of}

-- the octets of an address that has memory of its own
abbrev pub buffer_octets : ShortOctets 32 → List ℕ
buffer_octets b = short_octets b

abbrev pub buffer_found : Option (ShortOctets 32) → Option (List ℕ)
buffer_found b = short_found b

-- the octets of the code, bits without a use included; none if there is no code
abbrev pub code_part : List ℕ → List ℕ
code_part a = take (code_size (indicator a)) (drop 1 a)

-- the octets of the title
abbrev pub title_part : List ℕ → List ℕ
title_part a = drop (title_place (indicator a)) a

-- what is told stands in the octets, and the title is no longer than it may be
abbrev pub Bounded : List ℕ → Type 0
Bounded a = (1 ≤ length a) × (title_place (indicator a) ≤ length a) × (length a ≤ title_place (indicator a) + 28)

abbrev pub indicator_with : ℕ → Bool → Bool → Bool → ℕ
indicator_with i on code subsystem = i / 128 * 128 + cond on 64 0 + title_kind i * 4 + cond subsystem 2 0 + cond code 1 0

abbrev pub composed : ℕ → List ℕ → List ℕ → List ℕ → List ℕ
composed i code subsystem title = i ∷ (code ++ (subsystem ++ title))

abbrev pub code_as : CodeChange → List ℕ → List ℕ
code_as Keep a = code_part a
code_as Remove a = []
code_as (Put c) a = code_number c % 256 ∷ code_number c / 256 ∷ []

abbrev pub subsystem_as : Option ℕ → List ℕ
subsystem_as None = []
subsystem_as (Some s) = s ∷ []

abbrev pub rewrite_with : Bool → List ℕ → Option ℕ → List ℕ → List ℕ
rewrite_with on code subsystem a = composed (indicator_with (indicator a) on (length code == 2) (is_some subsystem)) code (subsystem_as subsystem) (title_part a)

-- the address anew
unfoldable pub rewrite : Bool → CodeChange → Option ℕ → List ℕ → List ℕ
rewrite on change subsystem a = rewrite_with on (code_as change a) subsystem a

-- none where the octets are no address, or nothing would be left of it but the indicator
abbrev pub rewritten : Bool → CodeChange → Option ℕ → List ℕ → Option (List ℕ)
rewritten on change subsystem a = cond (address_ok a && nat_le 2 (length (rewrite on change subsystem a))) (Some (rewrite on change subsystem a)) None

-- the code that an address then has
abbrev pub code_then : CodeChange → List ℕ → Option ℕ
code_then Keep a = code_of a
code_then Remove a = None
code_then (Put c) a = Some (code_number c)

-- rewriting: the new address is good, says what it was told to say, and else what it said
pub record Rewritten (on : Bool) (change : CodeChange) (subsystem : Option ℕ) (a b : List ℕ) : Type 0 where
  pub good : address_ok b ≡ true
  pub way : on_subsystem_of b ≡ on
  pub code : code_of b ≡ code_then change a
  pub kept_code : code_part b ≡ code_as change a
  pub told : subsystem_of b ≡ subsystem
  pub kind : title_kind (indicator b) ≡ title_kind (indicator a)
  pub title : title_part b ≡ title_part a
  pub spare : indicator b / 128 ≡ indicator a / 128

abbrev pub Rewriting : Type 0
Rewriting = (on : Bool) (change : CodeChange) (subsystem : Option ℕ) (a : List ℕ) → address_ok a ≡ true → 2 ≤ length (rewrite on change subsystem a) → Rewritten on change subsystem a (rewrite on change subsystem a)
