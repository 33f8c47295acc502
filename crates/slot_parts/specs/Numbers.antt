-- The number of each refusal.
use Rattle.std.specs.Prelude.{ℕ}
use Rattle.slot_parts.specs.declared.refusals.SettingsRefusal.{SettingsRefusal}
use Rattle.slot_parts.specs.declared.refusals.SettingsRefusal.TheVariants as settings
use Rattle.slot_parts.specs.declared.refusals.PieceRefusal.{PieceRefusal}
use Rattle.slot_parts.specs.declared.refusals.PieceRefusal.TheVariants as piece
use Rattle.slot_parts.specs.declared.refusals.CopyRefusal.{CopyRefusal}
use Rattle.slot_parts.specs.declared.refusals.CopyRefusal.TheVariants as copy
use Rattle.slot_parts.specs.declared.refusals.ReleaseRefusal.{ReleaseRefusal}
use Rattle.slot_parts.specs.declared.refusals.ReleaseRefusal.TheVariants as release

abbrev pub settings_number : SettingsRefusal → ℕ
settings_number settings.CodeTooLarge = 1
settings_number settings.TicksOutOfRange = 2

abbrev pub piece_number : PieceRefusal → ℕ
piece_number piece.OutOfRange = 43

abbrev pub copy_number : CopyRefusal → ℕ
copy_number copy.NotWhole = 51
copy_number copy.BufferShort = 52

abbrev pub release_number : ReleaseRefusal → ℕ
release_number release.NotWhole = 51
