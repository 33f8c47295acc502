-- What is routed has a title, and so a called address.
use Rattle.std.proofs.Common.{◌≡◌, ℕ, ◌≤◌, Bool, true, false, cond, ◌&&◌, eqb, leb, List, [], ◌∷◌, length, is_some, Some, None, Ok, Option, sym, refl, ap, ◌∙◌, arith, length-append}
use Rattle.std.proofs.lemmas.Bool.{false≢true, cond-true, and_from, le-leb}
use Rattle.address.specs.Address.{address_ok, indicator, title_kind, subsystem_of, title_in}
use Rattle.address.specs.Rewrite.{rewrite, rewritten, title_part, subsystem_as, buffer_found}
use Rattle.octets.specs.declared.short.ShortOctets.{ShortOctets}
use Rattle.address.specs.Title.{GlobalTitle, title_of}
use Rattle.address.specs.declared.rewriting.CodeChange.TheVariants.{Remove}
use Rattle.translation.specs.declared.rules.Selector.{Selector}
use Rattle.translation.specs.declared.states.CodeState.{CodeState}
use Rattle.translation.specs.declared.states.SubsystemState.{SubsystemState}
use Rattle.translation.specs.Rules.{RuleView}
use Rattle.translation.specs.Translating.{RouteView, rule_for, by_rule, is_on_subsystem, route_for}

-- what is routed has a title
titled : (known : Selector → Bool) (fit : Selector → List ℕ → Option RuleView) (codes : ℕ → CodeState) (subsystems : ℕ → ℕ → SubsystemState) (own : ℕ) (given : Option ℕ) (r : RouteView) (t : Option GlobalTitle) → Ok r ≡ by_rule codes subsystems own given (rule_for known fit t) → is_some t ≡ true
titled known fit codes subsystems own given r None h = let z : ◌≡◌ {A = ℕ} 0 1 = cc in absurd (omega arith)
titled known fit codes subsystems own given r (Some t) h = refl

some_behind : {A : Type 0} (b : Bool) (o : Option A) → is_some (cond b None o) ≡ true → is_some o ≡ true
some_behind true o h = absurd (false≢true h)
some_behind false o h = h

none_of : {A : Type 0} (x y : Bool) (o : Option A) → o ≡ None → is_some (cond x o (cond y o o)) ≡ false
none_of true y o e = ap is_some e
none_of false true o e = ap is_some e
none_of false false o e = ap is_some e

-- no title has no octets
title_there : (k : ℕ) (t : List ℕ) → is_some (title_of k t) ≡ true → 1 ≤ length t
title_there k [] h = absurd (false≢true (sym (none_of {A = GlobalTitle} (eqb k 2) (eqb k 4) None refl) ∙ h))
title_there k (x ∷ t) h = omega arith

title_in_there : (a : List ℕ) → is_some (title_in a) ≡ true → 1 ≤ length (title_part a)
unfolding title_in
title_in_there a h =
    let k = title_kind (indicator a) in
    title_there k (title_part a) (some_behind (eqb k 0) (title_of k (title_part a)) h)

-- so its new called address is one
rewrite_long : (on : Bool) (s : Option ℕ) (a : List ℕ) → 1 ≤ length (title_part a) → 2 ≤ length (rewrite on Remove s a)
unfolding rewrite
rewrite_long on s a h = let l = length-append (subsystem_as s) (title_part a) in omega arith

pub rewritten_there : (on : Bool) (s : Option ℕ) (a : List ℕ) → address_ok a ≡ true → is_some (title_in a) ≡ true → rewritten on Remove s a ≡ Some (rewrite on Remove s a)
rewritten_there on s a ok h =
    let x = rewrite on Remove s a in
    cond-true (address_ok a && leb 2 (length x)) (Some x) None (and_from (address_ok a) (leb 2 (length x)) ok (le-leb 2 (length x) (rewrite_long on s a (title_in_there a h))))

there : (b : Option (ShortOctets 32)) (x : Option (List ℕ)) → buffer_found b ≡ x → is_some x ≡ true → is_some b ≡ true
there None x e h = ap is_some e ∙ h
there (Some b) x e h = refl

-- so what is routed has a called address
pub called_there : (known : Selector → Bool) (fit : Selector → List ℕ → Option RuleView) (codes : ℕ → CodeState) (subsystems : ℕ → ℕ → SubsystemState) (own : ℕ) (a : List ℕ) (r : RouteView) (b : Option (ShortOctets 32)) → address_ok a ≡ true → Ok r ≡ route_for known fit codes subsystems own a → buffer_found b ≡ rewritten (is_on_subsystem r.routing) Remove r.subsystem a → is_some b ≡ true
called_there known fit codes subsystems own a r b ok h e =
    there b _ e (ap is_some (rewritten_there (is_on_subsystem r.routing) r.subsystem a ok (titled known fit codes subsystems own (subsystem_of a) r (title_in a) h)))
