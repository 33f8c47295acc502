-- What `find_map` answers is what the first element that answers says.
use Rattle.std.proofs.Common.{◌≡◌, ℕ, ◌+◌, ◌<◌, zero, suc, List, [], ◌∷◌, length, get_or, Some, None, Option, MatchOption, IsTrue, IsSomeAnd, IfSome, Iter, refl, sym, ap, subst, ◌∙◌, arith}
use Rattle.std.specs.Fn.{Called}
use Rattle.std.specs.Option.{option_map, option_or}
use Rattle.std.specs.Iterator.Runs.{Run, SomeRun, YieldsRefsInOrder, ItemsMapTo, CallKeepsClosure, AllItemsGive, IsFirstToGive}
use Rattle.std.specs.Slice.Iter.{iter_rest, iter_steps}
use Rattle.availability.specs.States.{first_told}
use denote.Param.Members.{Mut}
use denote.Ref.{Bor}

module _ {E R : Type 0} (answer : E → Option R) where
  none_told : (es : List E) → ((k : ℕ) (d : E) → k < length es → answer (get_or es k d) ≡ None) → first_told answer es ≡ None
  none_told [] h = refl
  none_told (e ∷ es) h =
      ap (λ o. option_or o (first_told answer es)) (h 0 e (omega arith)) ∙ none_told es (λ k d l. h (suc k) d (omega arith))

  told_at : (es : List E) (i : ℕ) (y : R) → i < length es → ((k : ℕ) (d : E) → k < i → answer (get_or es k d) ≡ None) → ((d : E) → answer (get_or es i d) ≡ Some y) → first_told answer es ≡ Some y
  told_at [] i y l before here = absurd (omega arith)
  told_at (e ∷ es) zero y l before here = ap (λ o. option_or o (first_told answer es)) (here e)
  told_at (e ∷ es) (suc i) y l before here =
      ap (λ o. option_or o (first_told answer es)) (before 0 e (omega arith)) ∙ told_at es i y (omega arith) (λ k d m. before (suc k) d (omega arith)) here

module _ {E R F : Type 0} {g : Mut F (Bor E × Unit {0}) (Option R)} {f : F} (answer : E → Option R)
    (tells : (x : Bor E) (o : Option R) (q : F) → Called g f (x, tt) o q → (q ≡ f) × (o ≡ answer x.now)) where
  at_place : (o : Option (Bor E)) (e : E) (m : Option R) → option_map (λ y. y.now) o ≡ Some e → IsSomeAnd o (λ x. Called g f (x, tt) m f) → answer e ≡ m
  at_place None e m h a = absurd a
  at_place (Some x) e m h a = (let k : x.now ≡ e = cc in sym ((tells x m f a).1 ∙ ap answer k))

  at_item : (o : Option (Bor E)) (e : E) (m : Option R) → option_map (λ y. y.now) o ≡ Some e → IfSome o (λ x. Called g f (x, tt) m f) → answer e ≡ m
  at_item None e m h a = (let z : ◌≡◌ {A = ℕ} 0 1 = cc in absurd (omega arith))
  at_item (Some x) e m h a = at_place (Some x) e m h a

  keeps : CallKeepsClosure g f
  keeps a r q c = (tells a.0 r q c).0

  -- a run that stopped at the first answer, or went on to the end
  told : {S : Type 0} {steps : S → Option (Bor E) → S → Type 0} (p : Run steps) (es : List E) (r : Option R) → ItemsMapTo p (λ y. y.now) es
      → MatchOption r (IsTrue p.whole × AllItemsGive p g f None) (λ y. (i : ℕ) × (i < p.len) × (p.len ≡ i + 1) × IsFirstToGive p g f (Some y) None i)
      → r ≡ first_told answer es
  told p es None items h =
      sym (none_told answer es (λ k d l. at_item (p.at k) _ None (items.2 k d (omega arith)) (h.1 keeps k)))
  told p es (Some y) items h =
      sym (told_at answer es h.0 y (omega arith) (λ k d l. at_place (p.at k) _ None (items.2 k d (omega arith)) ((h.3 keeps).1 k l))
      (λ d. at_place (p.at h.0) _ (Some y) (items.2 h.0 d (omega arith)) (h.3 keeps).0))

  pub first_from_find_map : (i : Iter E) (es : List E) (r : Option R) → iter_rest i ≡ es → YieldsRefsInOrder {A = E} iter_steps iter_rest
      → SomeRun iter_steps i (λ p. MatchOption r (IsTrue p.whole × AllItemsGive p g f None) (λ y. (i : ℕ) × (i < p.len) × (p.len ≡ i + 1) × IsFirstToGive p g f (Some y) None i))
      → r ≡ first_told answer es
  first_from_find_map i es r rest yields h =
      told h.0 es r (subst (ItemsMapTo h.0 (λ y. y.now)) (ap iter_rest h.1 ∙ rest) (yields h.0 h.0.seen)) h.2
