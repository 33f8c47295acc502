-- Digits that begin with others.
use Rattle.std.proofs.Common.{◌≡◌, ℕ, true, List, ◌++◌, length, drop, refl}
use Rattle.std.proofs.lemmas.Slice.Eq.{starts_is}
use Rattle.std.proofs.lemmas.Bool.Decides.{Decides-eqb}
use Rattle.prefix_list.specs.Prefixes.{begins}

pub rest_of : (p s : List ℕ) → begins p s ≡ true → (rest : List ℕ) × (s ≡ p ++ rest)
rest_of p s h = (drop (length p) s, (starts_is Decides-eqb s p (begins p s) refl).0 h)

pub begins_from : (p s rest : List ℕ) → s ≡ p ++ rest → begins p s ≡ true
begins_from p s rest e = (starts_is Decides-eqb s p (begins p s) refl).1 rest e
