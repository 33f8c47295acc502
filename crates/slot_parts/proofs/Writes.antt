-- What a copy into a part that is lent leaves.
use Rattle.std.proofs.Common.{◌≡◌, ℕ, List, length, sym, refl, ◌∙◌}
use Rattle.std.proofs.lemmas.Slice.{put_mid-paste}
use Rattle.std.proofs.lemmas.List.Edits.{paste_all}
use borrow.Rule.Slice.PartMut.{put_mid}
use Rattle.slot_parts.specs.Copies.{overwritten}

pub overwritten_is : {X : Type 0} (a k : ℕ) (xs ys zs : List X) → ys ≡ zs → k ≡ length zs → put_mid a k xs ys ≡ overwritten a zs xs
overwritten_is a k xs ys zs e n = put_mid-paste a k xs ys zs (length zs) e (sym n) refl ∙ paste_all xs a zs (length zs) refl
