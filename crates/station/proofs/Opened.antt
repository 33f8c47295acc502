-- Entries that are all free.
use Rattle.std.proofs.Common.{◌≡◌, ℕ, ◌≤◌, List, [], ◌∷◌, map, length, take, replicate, refl, ap, ◌∙◌, arith}
use Rattle.std.proofs.lemmas.List.{length-take}
use Rattle.timed_table.specs.declared.entry.Entry.{Entry}
use Rattle.timed_table.specs.declared.entry.Entry.TheVariants.{Free}

all_free : {K V : Type 0} (es : List (Entry K V)) → map {B = Entry K V} (λ (e : Entry K V). Free) es ≡ replicate (length es) Free
all_free [] = refl
all_free {K} {V} (e ∷ es) = ap (λ (l : List (Entry K V)). Free ∷ l) (all_free es)

pub free_entries : {K V : Type 0} (n : ℕ) (es : List (Entry K V)) → n ≤ length es → map {B = Entry K V} (λ (e : Entry K V). Free) (take n es) ≡ replicate n Free
free_entries n es h =
    let k : length (take n es) ≡ n = length-take n es ∙ (omega arith) in
    all_free (take n es) ∙ ap (λ m. replicate m Free) k
