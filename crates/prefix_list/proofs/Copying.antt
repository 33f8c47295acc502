-- The entry that decides, looked for by references among the entries that fit.
use Rattle.std.proofs.Common.{◌≡◌, ℕ, Bool, true, false, cond, List, [], ◌∷◌, filter, fold, None, Option, Bor, sym, refl, ap, ◌∙◌}
use Rattle.std.specs.List.{FoldsTo}
use Rattle.std.specs.Fn.{Called}
use Rattle.std.specs.Iterator.{Drains}
use Rattle.std.proofs.lemmas.Iterator.{YieldsList}
use Rattle.std.specs.Option.{option_copied}
use Rattle.std.proofs.lemmas.Fn.{fold_over}
use Rattle.std.proofs.lemmas.List.Sums.{fold_push}
use Rattle.translation.specs.declared.rules.Selector.{Selector}
use Rattle.prefix_list.specs.declared.entries.PrefixEntry.{PrefixEntry}
use Rattle.prefix_list.specs.Prefixes.{entry_fits, longer_of, better, longest}
use denote.Param.Members.{Mut}

-- one more entry, which fits or not
turn : (s : Selector) (ds : List ℕ) (b : Bool) (best : Option PrefixEntry) (e : PrefixEntry) (fitting es : List PrefixEntry) → ((x : Option PrefixEntry) → fold longer_of x fitting ≡ fold (better s ds) x es) → fold longer_of best (cond b (e ∷ fitting) fitting) ≡ fold (better s ds) (cond b (longer_of best e) best) es
turn s ds true best e fitting es h = h (longer_of best e)
turn s ds false best e fitting es h = h best

those_that_fit : (s : Selector) (ds : List ℕ) (es : List PrefixEntry) (best : Option PrefixEntry) → fold longer_of best (filter (entry_fits s ds) es) ≡ fold (better s ds) best es
those_that_fit s ds [] best = refl
those_that_fit s ds (e ∷ es) best = turn s ds (entry_fits s ds e) best e (filter (entry_fits s ds) es) es (those_that_fit s ds es)

longest_fits : (s : Selector) (ds : List ℕ) (es : List PrefixEntry) → fold longer_of None (filter (entry_fits s ds) es) ≡ longest s ds es
unfolding longest
longest_fits s ds es = those_that_fit s ds es None

pub longest_copied : {S F : Type 0} (s : Selector) (ds : List ℕ) (es : List PrefixEntry) (steps : S → Option (Bor PrefixEntry) → S → Type 0) (g : Mut F (Option (Bor PrefixEntry) × (Bor PrefixEntry × Unit {0})) (Option (Bor PrefixEntry))) {f : F} (it : S) (r : Option (Bor PrefixEntry)) → (xs : List (Bor PrefixEntry)) × (f' : F) × Drains steps it xs × FoldsTo {P = F × Option (Bor PrefixEntry)} (λ p x q. Called g p.0 (p.1, (x, tt)) q.1 q.0) (f, None) xs (f', r) → YieldsList steps (λ y. y.now) it (filter (entry_fits s ds) es) → ((a : Option (Bor PrefixEntry)) (x : Bor PrefixEntry) (b : Option (Bor PrefixEntry)) (f' : F) → Called g f (a, (x, tt)) b f' → (option_copied b ≡ longer_of (option_copied a) x.now) × (f' ≡ f)) → option_copied r ≡ longest s ds es
longest_copied s ds es steps g {f} it r ran fitting step =
    fold_over steps (λ y. y.now) g (λ ys a. option_copied a ≡ fold longer_of None ys) f
    (λ ys a x b f' j k. (let h = step a x b f' k in (h.0 ∙ ap (λ z. longer_of z x.now) j ∙ sym (fold_push longer_of None ys x.now), h.1)))
    it (filter (entry_fits s ds) es) None r fitting.runs refl ran
    ∙ longest_fits s ds es
