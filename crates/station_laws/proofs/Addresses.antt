-- The addresses with which a unit goes out are good.
use Rattle.std.proofs.Common.{◌≡◌, ℕ, ◌<◌, Bool, true, false, ◌&&◌, eqb, leb, List, length, is_some, Some, None, Ok, Err, Option, Result, refl, subst, arith}
use Rattle.std.proofs.lemmas.Bool.{and_parts, leb-true, cond_both}
use Rattle.std.proofs.lemmas.Option.{cond_some}
use Rattle.address.specs.declared.codes.PointCode.{PointCode}
use Rattle.address.specs.declared.rewriting.CodeChange.{CodeChange}
use Rattle.address.specs.declared.rewriting.CodeChange.TheVariants.{Keep, Remove, Put}
use Rattle.address.specs.Address.{address_ok, has_title, on_subsystem_of, subsystem_of, title_in}
use Rattle.address.specs.Title.{GlobalTitle}
use Rattle.address.specs.Rewrite.{rewrite, rewritten}
use Rattle.address.proofs.Rewrites.{rewriting}
use Rattle.translation.specs.declared.causes.Cause.{Cause}
use Rattle.translation.specs.declared.rules.Routing.TheVariants.{OnSubsystem}
use Rattle.translation.specs.declared.states.CodeState.{CodeState}
use Rattle.translation.specs.declared.states.SubsystemState.{SubsystemState}
use Rattle.translation.specs.Trials.{code_trial, trial_of}
use Rattle.translation.specs.Translating.{RouteView, rule_for, by_rule, is_on_subsystem, TranslationView, with_called, route_for}
use Rattle.translation.proofs.Routed.{rewritten_there}
use Rattle.routing.specs.Meanings.{TablesView, translated_by}
use Rattle.routing.specs.Targets.{TargetView, away, nonzero, home, away_to, goes_to, home_unless, at_subsystem, translated_target, at_title, untitled_target, titled_target, target_for}
use Rattle.outgoing.specs.Addressed.{lacks_code, with_code, completed}
use Rattle.outgoing.specs.Returns.{calling_for}

-- an address written anew
good_rewritten : (on : Bool) (change : CodeChange) (s : Option ℕ) (a b : List ℕ) → rewritten on change s a ≡ Some b → address_ok b ≡ true
good_rewritten on change s a b e =
    let x = rewrite on change s a in
    let q = cond_some (address_ok a && leb 2 (length x)) x b e in
    let p = and_parts (address_ok a) (leb 2 (length x)) q.0 in
    subst (λ (y : List ℕ). address_ok y ≡ true) q.1 (rewriting on change s a p.0 (leb-true 2 (length x) p.1)).good

-- a translation's called address
abbrev Translated : Result TranslationView Cause → Type 0
Translated (Ok t) = address_ok t.called ≡ true
Translated (Err c) = Unit {0}

-- what is routed by its title has one
titled : (t : TablesView) (own : ℕ) (given : Option ℕ) (r : RouteView) (x : Option GlobalTitle)
    → Ok r ≡ by_rule t.codes t.subsystems own given (rule_for t.known t.fit x) → is_some x ≡ true
titled t own given r None h = cc
titled t own given r (Some x) h = refl

good_called : (t : TablesView) (own : ℕ) (a : List ℕ) → address_ok a ≡ true → (r : Result RouteView Cause) → r ≡ route_for t.known t.fit t.codes t.subsystems own a → Translated (with_called a r)
good_called t own a ok (Ok r) e =
    let on = is_on_subsystem r.routing in
    good_rewritten on Remove r.subsystem a (rewrite on Remove r.subsystem a)
    (rewritten_there on r.subsystem a ok (titled t own (subsystem_of a) r (title_in a) e))
good_called t own a ok (Err c) e = tt

good_translation : (t : TablesView) (own : ℕ) (a : List ℕ) → Translated (translated_by t own a)
good_translation t own a =
    let r = route_for t.known t.fit t.codes t.subsystems own a in
    cond_both (address_ok a) _ _ Translated (λ ok. good_called t own a ok r refl) (λ ok. tt)

-- where a target is another code, the address for it is good
abbrev pub Good : TargetView → Type 0
Good (away c a) = address_ok a ≡ true
Good _ = Unit {0}

good_home : (s : Option ℕ) → Good (home s)
good_home None = tt
good_home (Some s) = tt

good_to : (c : ℕ) (o : Option (List ℕ)) → ((b : List ℕ) → o ≡ Some b → address_ok b ≡ true) → Good (away_to c o)
good_to c None h = tt
good_to c (Some b) h = h b refl

good_goes : (e : Option Cause) (on : Bool) (c : ℕ) (a : List ℕ) → Good (goes_to e on c a)
good_goes (Some e) on c a = tt
good_goes None on c a = good_to c (rewritten on Keep (subsystem_of a) a) (good_rewritten on Keep (subsystem_of a) a)

good_unless : (e : Option Cause) (a : List ℕ) → Good (home_unless e a)
good_unless (Some e) a = tt
good_unless None a = good_home (subsystem_of a)

good_at_subsystem : (codes : ℕ → CodeState) (subsystems : ℕ → ℕ → SubsystemState) (own c : ℕ) (a : List ℕ) → Good (at_subsystem codes subsystems own c a)
good_at_subsystem codes subsystems own c a =
    let e = trial_of codes subsystems own OnSubsystem c (subsystem_of a) in
    cond_both (eqb c own) _ _ Good (λ b. good_unless e a) (λ b. good_goes e true c a)

good_translated : (own : ℕ) (r : Result TranslationView Cause) → Translated r → Good (translated_target own r)
good_translated own (Ok t) h = cond_both (eqb t.route.code own) _ _ Good (λ b. good_home t.route.subsystem) (λ b. h)
good_translated own (Err c) h = tt

good_at_title : (t : TablesView) (own c : ℕ) (a : List ℕ) → Good (at_title t own c a)
good_at_title t own c a =
    let e = code_trial t.codes own c in
    let r = translated_by t own a in
    cond_both (eqb c own) _ _ Good (λ b. good_translated own r (good_translation t own a)) (λ b. good_goes e false c a)

good_untitled : (codes : ℕ → CodeState) (subsystems : ℕ → ℕ → SubsystemState) (own : ℕ) (code : Option ℕ) (a : List ℕ) → Good (untitled_target codes subsystems own code a)
good_untitled codes subsystems own None a = tt
good_untitled codes subsystems own (Some c) a =
    cond_both (nonzero (subsystem_of a)) _ _ Good (λ b. good_at_subsystem codes subsystems own c a) (λ b. tt)

good_titled : (t : TablesView) (own : ℕ) (code : Option ℕ) (a : List ℕ) → Good (titled_target t own code a)
good_titled t own None a = good_translated own (translated_by t own a) (good_translation t own a)
good_titled t own (Some c) a =
    cond_both (on_subsystem_of a && nonzero (subsystem_of a)) _ _ Good (λ b. good_at_subsystem t.codes t.subsystems own c a) (λ b. good_at_title t own c a)

pub good_target : (t : TablesView) (own : ℕ) (code : Option ℕ) (a : List ℕ) → Good (target_for t own code a)
unfolding target_for
good_target t own code a =
    cond_both (has_title a) _ _ Good (λ b. good_titled t own code a) (λ b. good_untitled t.codes t.subsystems own code a)

-- the calling address, with the own code put into it or not
with_code_ok : (n : ℕ) (a : List ℕ) → n < 16384 → address_ok a ≡ true → address_ok (with_code n a) ≡ true
unfolding rewrite
with_code_ok n a l ok =
    let c : PointCode = record { value = n; fits = l } in
    (rewriting (on_subsystem_of a) (Put c) (subsystem_of a) a ok (omega arith)).good

good_completed : (n : ℕ) (a : List ℕ) → n < 16384 → address_ok a ≡ true → address_ok (completed n a) ≡ true
unfolding completed
good_completed n a l ok = cond_both (lacks_code a) _ _ (λ x. address_ok x ≡ true) (λ b. with_code_ok n a l ok) (λ b. ok)

pub good_calling : (own : ℕ) (called calling : List ℕ) → own < 16384 → address_ok calling ≡ true → address_ok (calling_for own called calling) ≡ true
good_calling own called calling l ok = cond_both (on_subsystem_of called) _ _ (λ x. address_ok x ≡ true) (λ b. ok) (λ b. good_completed own calling l ok)
