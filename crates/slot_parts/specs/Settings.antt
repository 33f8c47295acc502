-- Which settings there are.
use Rattle.std.specs.Prelude.{◌≡◌, ℕ, cond, ◌||◌, Ok, Err, Result, nat_lt}
use Rattle.slot_parts.specs.declared.settings.Settings.{Settings}
use Rattle.slot_parts.specs.declared.refusals.SettingsRefusal.{SettingsRefusal}
use Rattle.slot_parts.specs.Numbers.{settings_number}

-- the number of the first refusal that holds, 0 where none does
abbrev pub refusal_of : ℕ → ℕ → ℕ
refusal_of code ticks = cond (nat_lt 16383 code) 1 (cond (nat_lt ticks 10 || nat_lt 20 ticks) 2 0)

-- what making settings gives
abbrev pub Made : ℕ → ℕ → Result Settings SettingsRefusal → Type 0
Made code ticks (Ok s) = (refusal_of code ticks ≡ 0) × (s.code ≡ code) × (s.ticks ≡ ticks)
Made code ticks (Err e) = settings_number e ≡ refusal_of code ticks
