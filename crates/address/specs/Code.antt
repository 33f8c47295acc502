-- Point codes.
use Rattle.std.specs.Prelude.{◌≡◌, ℕ, ◌<◌, Some, None, Option}
use Rattle.address.specs.declared.codes.PointCode.{PointCode}

abbrev pub code_number : PointCode → ℕ
code_number c = c.value

-- a number below 16,384 is the number of a point code, any other of none
abbrev pub code_made : ℕ → Option PointCode → Type 0
code_made n None = n < 16384 → ⊥
code_made n (Some c) = code_number c ≡ n
