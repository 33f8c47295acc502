-- The longest prefix decides.
use Rattle.std.proofs.Common.{◌≡◌, ℕ, ◌<◌, ◌≤◌, Bool, true, false, cond, ltb, List, [], ◌∷◌, ◌++◌, Some, None, fold, Option, sym, refl, ap, ◌∙◌, subst, arith}
use Rattle.std.specs.List.{AllByRecursion}
use Rattle.std.proofs.ByRecursion.{All-push, All-weaker, All-append}
use Rattle.std.proofs.lemmas.List.{append-nil, append_assoc}
use Rattle.std.proofs.lemmas.Bool.{false≢true}
use Rattle.std.proofs.lemmas.Bool.Decides.{nat_tests}
use Rattle.translation.specs.declared.rules.Selector.{Selector}
use Rattle.translation.specs.Rules.{RuleView}
use Rattle.prefix_list.specs.declared.entries.PrefixEntry.{PrefixEntry}
use Rattle.prefix_list.specs.Prefixes.{entry_fits, better, longer_of, longest, rule_of}
use Rattle.prefix_list.specs.Longest.{Fits, NoneFits, rule_given_by, Decided, LongestDecides}
use Rattle.prefix_list.proofs.Ranges.{rule_in, fits_out, fits_in}

-- the entry decides among those that were gone through
record Best (s : Selector) (ds : List ℕ) (done : List PrefixEntry) (e : PrefixEntry) : Type 0 where
  before : List PrefixEntry
  behind : List PrefixEntry
  whole : done ≡ before ++ (e ∷ behind)
  fits : entry_fits s ds e ≡ true
  shorter : AllByRecursion (λ x. entry_fits s ds x ≡ true → x.count < e.count) before
  not_longer : AllByRecursion (λ x. entry_fits s ds x ≡ true → x.count ≤ e.count) behind

abbrev Chosen : Selector → List ℕ → List PrefixEntry → Option PrefixEntry → Type 0
Chosen s ds done None = AllByRecursion (λ x. entry_fits s ds x ≡ false) done
Chosen s ds done (Some e) = Best s ds done e

-- an entry that does not take the place of the best
kept : (s : Selector) (ds : List ℕ) (done : List PrefixEntry) (e x : PrefixEntry) → Best s ds done e → (entry_fits s ds x ≡ true → x.count ≤ e.count) → Best s ds (done ++ (x ∷ [])) e
kept s ds done e x h l =
    record {
      before = h.before;
      behind = h.behind ++ (x ∷ []);
      whole = ap (λ z. z ++ (x ∷ [])) h.whole ∙ append_assoc h.before (e ∷ h.behind) (x ∷ []);
      fits = h.fits;
      shorter = h.shorter;
      not_longer = All-push (λ y. entry_fits s ds y ≡ true → y.count ≤ e.count) h.behind x h.not_longer l;
    }

-- all that were gone through are shorter than one that is longer than the best
all_shorter : (s : Selector) (ds : List ℕ) (done : List PrefixEntry) (e x : PrefixEntry) → Best s ds done e → e.count < x.count → AllByRecursion (λ y. entry_fits s ds y ≡ true → y.count < x.count) done
all_shorter s ds done e x h l =
    let P : PrefixEntry → Type 0 = λ y. entry_fits s ds y ≡ true → y.count < x.count in
    subst (AllByRecursion P) (sym h.whole)
    (All-append P h.before (e ∷ h.behind)
    (All-weaker (λ y. entry_fits s ds y ≡ true → y.count < e.count) P (λ y f t. omega (arith, f t)) h.before h.shorter)
    (λ _. l, All-weaker (λ y. entry_fits s ds y ≡ true → y.count ≤ e.count) P (λ y f t. omega (arith, f t)) h.behind h.not_longer))

longer_by : (s : Selector) (ds : List ℕ) (done : List PrefixEntry) (e x : PrefixEntry) → entry_fits s ds x ≡ true → Best s ds done e → (b : Bool) → ltb e.count x.count ≡ b → Chosen s ds (done ++ (x ∷ [])) (cond b (Some x) (Some e))
longer_by s ds done e x f h true t =
    record { before = done; behind = []; whole = refl; fits = f; shorter = all_shorter s ds done e x h (grind (arith, nat_tests)); not_longer = tt }
longer_by s ds done e x f h false t = kept s ds done e x h (λ _. grind (arith, nat_tests))

step_by : (s : Selector) (ds : List ℕ) (done : List PrefixEntry) (best : Option PrefixEntry) (x : PrefixEntry) → Chosen s ds done best → (b : Bool) → entry_fits s ds x ≡ b → Chosen s ds (done ++ (x ∷ [])) (cond b (longer_of best x) best)
step_by s ds done None x h true t =
    record { before = done; behind = []; whole = refl; fits = t; shorter = All-weaker (λ y. entry_fits s ds y ≡ false) (λ y. entry_fits s ds y ≡ true → y.count < x.count) (λ y n p. absurd (false≢true (sym n ∙ p))) done h; not_longer = tt }
step_by s ds done None x h false t = All-push (λ y. entry_fits s ds y ≡ false) done x h t
step_by s ds done (Some e) x h true t = longer_by s ds done e x t h (ltb e.count x.count) refl
step_by s ds done (Some e) x h false t = kept s ds done e x h (λ p. absurd (false≢true (sym t ∙ p)))

gone_through : (s : Selector) (ds : List ℕ) (done es : List PrefixEntry) (best : Option PrefixEntry) → Chosen s ds done best → Chosen s ds (done ++ es) (fold (better s ds) best es)
gone_through s ds done [] best h = subst (λ (z : List PrefixEntry). Chosen s ds z best) (sym (append-nil done)) h
gone_through s ds done (x ∷ es) best h =
    subst (λ (z : List PrefixEntry). Chosen s ds z (fold (better s ds) (better s ds best x) es)) (append_assoc done (x ∷ []) es)
    (gone_through s ds (done ++ (x ∷ [])) es (better s ds best x) (step_by s ds done best x h (entry_fits s ds x) refl))

chosen : (s : Selector) (ds : List ℕ) (es : List PrefixEntry) → Chosen s ds es (longest s ds es)
unfolding longest
chosen s ds es = gone_through s ds [] es None tt

decided_by : (s : Selector) (ds : List ℕ) (es : List PrefixEntry) (e : PrefixEntry) → Best s ds es e → Decided s ds es (rule_given_by e)
decided_by s ds es e h =
    record {
      before = h.before;
      decider = e;
      behind = h.behind;
      whole = h.whole;
      fits = fits_out s ds e h.fits;
      rule = refl;
      shorter = All-weaker (λ x. entry_fits s ds x ≡ true → x.count < e.count) (λ x. Fits s ds x → x.count < e.count) (λ x k f. k (fits_in s ds x f)) h.before h.shorter;
      not_longer = All-weaker (λ x. entry_fits s ds x ≡ true → x.count ≤ e.count) (λ x. Fits s ds x → x.count ≤ e.count) (λ x k f. k (fits_in s ds x f)) h.behind h.not_longer;
    }

-- an entry that fits is not among entries of which none fits
not_among : (s : Selector) (ds : List ℕ) (before behind : List PrefixEntry) (e : PrefixEntry) → Fits s ds e → NoneFits s ds (before ++ (e ∷ behind)) → ⊥
not_among s ds [] behind e f n = n.0 f
not_among s ds (x ∷ before) behind e f n = not_among s ds before behind e f n.1

decides : (s : Selector) (ds : List ℕ) (es : List PrefixEntry) (best : Option PrefixEntry) → Chosen s ds es best → LongestDecides s ds es (rule_of best)
decides s ds es None h =
    record {
      some = λ r e. (cc);
      none = λ _. All-weaker (λ x. entry_fits s ds x ≡ false) (λ x. Fits s ds x → ⊥) (λ x n f. false≢true (sym n ∙ fits_in s ds x f)) es h;
      only = λ _. refl;
    }
decides s ds es (Some b) h =
    let f = fits_out s ds b h.fits in
    let is = rule_in b f.ranged in
    record {
      some = λ r e. (let k : rule_given_by b ≡ r = cc in subst (Decided s ds es) k (decided_by s ds es b h));
      none = λ e. (cc);
      only = λ n. absurd (not_among s ds h.before h.behind b f (subst (NoneFits s ds) h.whole n));
    }

pub longest_decides : (s : Selector) (ds : List ℕ) (es : List PrefixEntry) (answer : Option RuleView) → answer ≡ rule_of (longest s ds es) → LongestDecides s ds es answer
longest_decides s ds es answer e = subst (LongestDecides s ds es) (sym e) (decides s ds es (longest s ds es) (chosen s ds es))
