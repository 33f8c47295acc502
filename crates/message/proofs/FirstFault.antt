-- Reading answers the first fault that holds, or a message whose parts stand in order.
use Rattle.std.proofs.Common.{◌≡◌, ℕ, ◌≤◌, Bool, true, false, cond, ◌&&◌, ◌||◌, eqb, leb, List, length, drop, Err, Result, sym, refl, ap, ◌∙◌, subst, inl, inr, ⊎_elim, arith}
use Rattle.std.proofs.lemmas.Bool.{both_ways, leb-true, eqb-true, and_parts, cond_both, true≢false, or_from}
use Rattle.address.specs.declared.labels.Label.{Label}
use Rattle.address.specs.Label.{label_of}
use Rattle.message.specs.declared.faults.Fault.{Fault}
use Rattle.message.specs.declared.faults.Fault.TheVariants.{Length, MessageType, PointersCutOff, ClassOrHop}
use Rattle.message.specs.declared.faults.ReadFault.{ReadFault}
use Rattle.message.specs.declared.messages.Form.{Form}
use Rattle.message.specs.declared.messages.Form.TheVariants.{Udt, Udts, Xudt, Xudts}
use Rattle.message.specs.declared.reading.Pointers.{Pointers}
use Rattle.message.specs.Options.{octet}
use Rattle.message.specs.Read.{Parsed, check, body, class_ok, hop_ok, short_pointers, long_pointers, message_body, parse}
use Rattle.message.specs.Faults.{FaultPlace}
use Rattle.message.specs.FirstFault.{FaultIn, First, FirstFault, has_class, has_hop, known_type, pointers_of}
use Rattle.message.specs.Inside.{PartsInside}
use Rattle.message.proofs.Orders.{Clear, clear_none, clear_more, stop, checked}
use Rattle.message.proofs.Bodies.{body_right}

module _ (x : List ℕ) (low : 4 ≤ length x) (high : length x ≤ 272) where
  abbrev m : List ℕ
  m = drop 4 x

  abbrev Right : Pointers → Result Parsed ReadFault → Type 0
  Right p r = First (FaultIn x m p) r × PartsInside x r × FaultPlace r

  -- a message of a known type: C tells that its class is good or it has none, H the same of the hop counter
  typed : (p : Pointers) (l : Label) (f : Form) (C H : Bool) → 5 ≤ p.start → p.at ≤ 3
      → (C ≡ false → (has_class (octet m 0) ≡ true) × (class_ok (octet m 1) ≡ false)) → (C ≡ true → has_class (octet m 0) ≡ true → class_ok (octet m 1) ≡ false → ⊥)
      → (H ≡ false → (has_hop (octet m 0) ≡ true) × (hop_ok (octet m 2) ≡ false)) → (H ≡ true → has_hop (octet m 0) ≡ true → hop_ok (octet m 2) ≡ false → ⊥)
      → Clear (FaultIn x m p) 13
      → Right p (check (leb p.start (length m)) PointersCutOff 0 (check C ClassOrHop 1 (check H ClassOrHop 2 (body l f m p))))
  typed p l f C H five early cf cg hf hg clear =
      let Holds : Fault → ℕ → Type 0 = FaultIn x m p in
      let whole = body l f m p in
      let k2 = check H ClassOrHop 2 whole in
      let k1 = check C ClassOrHop 1 k2 in
      checked (Right p) (leb p.start (length m)) PointersCutOff 0 k1
      (λ e. (stop Parsed Holds PointersCutOff 0 clear (refl, e) (λ k h. omega arith), tt, omega arith))
      (λ e.
      let clear14 = clear_more Holds PointersCutOff clear (λ k h. both_ways (leb p.start (length m)) h.1 e) in
      checked (Right p) C ClassOrHop 1 k2
      (λ c. (stop Parsed Holds ClassOrHop 1 clear14 (inl (refl, (cf c).0, (cf c).1)) (λ k h. ⊎_elim (λ (a : (k ≡ 1) × (has_class (octet m 0) ≡ true) × (class_ok (octet m 1) ≡ false)). omega arith) (λ b. omega arith) h), tt, omega arith))
      (λ c.
      checked (Right p) H ClassOrHop 2 whole
      (λ w. (stop Parsed Holds ClassOrHop 2 clear14 (inr (refl, (hf w).0, (hf w).1)) (λ k h. ⊎_elim (λ (a : (k ≡ 1) × (has_class (octet m 0) ≡ true) × (class_ok (octet m 1) ≡ false)). absurd (cg c a.1 a.2)) (λ b. omega arith) h), tt, omega arith))
      (λ w. body_right x p low high five early l f (clear_more Holds ClassOrHop clear14 (λ k h. ⊎_elim (λ (a : (k ≡ 1) × (has_class (octet m 0) ≡ true) × (class_ok (octet m 1) ≡ false)). cg c a.1 a.2) (λ b. hg w b.1 b.2) h)))))

  abbrev t : ℕ
  t = octet m 0

  -- whatever the type
  message_right : (l : Label) → Clear (FaultIn x m (pointers_of m)) 12 → Right (pointers_of m) (message_body l m)
  message_right l clear =
      let P : Result Parsed ReadFault → Type 0 = Right (pointers_of m) in
      let udt = check (leb 5 (length m)) PointersCutOff 0 (check (class_ok (octet m 1)) ClassOrHop 1 (body l (Udt (octet m 1)) m (short_pointers m))) in
      let udts = check (leb 5 (length m)) PointersCutOff 0 (body l (Udts (octet m 1)) m (short_pointers m)) in
      let xudt = check (leb 7 (length m)) PointersCutOff 0 (check (class_ok (octet m 1)) ClassOrHop 1 (check (hop_ok (octet m 2)) ClassOrHop 2 (body l (Xudt (octet m 1) (octet m 2)) m (long_pointers m)))) in
      let xudts = check (leb 7 (length m)) PointersCutOff 0 (check (hop_ok (octet m 2)) ClassOrHop 2 (body l (Xudts (octet m 1) (octet m 2)) m (long_pointers m))) in
      let unknown : Result Parsed ReadFault = Err (record { fault = MessageType; offset = 0 }) in
      let clear13 : known_type t ≡ true → Clear (FaultIn x m (pointers_of m)) 13 = λ k. clear_more (FaultIn x m (pointers_of m)) MessageType clear (λ o h. both_ways (known_type t) h.1 k) in
      let pointers : (n : ℕ) → t ≡ n → pointers_of m ≡ cond (has_hop n) (long_pointers m) (short_pointers m) = λ n e. ap (λ k. cond (has_hop k) (long_pointers m) (short_pointers m)) e in
      let settle : (n : ℕ) (p : Pointers) (r : Result Parsed ReadFault) → pointers_of m ≡ p → known_type t ≡ true → (Clear (FaultIn x m p) 13 → Right p r) → P r = λ n p r e k go. subst (λ s. Right s r) (sym e) (go (subst (λ s. Clear (FaultIn x m s) 13) e (clear13 k))) in
      cond_both (eqb t 0x09) udt (cond (eqb t 0x0A) udts (cond (eqb t 0x11) xudt (cond (eqb t 0x12) xudts unknown))) P
      (λ e. let n = eqb-true t 0x09 e in
      settle 0x09 (short_pointers m) udt (pointers 0x09 n) (ap known_type n)
      (typed (short_pointers m) l (Udt (octet m 1)) (class_ok (octet m 1)) true (omega arith) (omega arith)
      (λ c. (ap has_class n, c)) (λ c _ w. both_ways (class_ok (octet m 1)) w c) (λ w. absurd (true≢false w)) (λ _ h _. true≢false (sym h ∙ ap has_hop n))))
      (λ n1.
      cond_both (eqb t 0x0A) udts (cond (eqb t 0x11) xudt (cond (eqb t 0x12) xudts unknown)) P
      (λ e. let n = eqb-true t 0x0A e in
      settle 0x0A (short_pointers m) udts (pointers 0x0A n) (ap known_type n)
      (typed (short_pointers m) l (Udts (octet m 1)) true true (omega arith) (omega arith)
      (λ c. absurd (true≢false c)) (λ _ h _. true≢false (sym h ∙ ap has_class n)) (λ w. absurd (true≢false w)) (λ _ h _. true≢false (sym h ∙ ap has_hop n))))
      (λ n2.
      cond_both (eqb t 0x11) xudt (cond (eqb t 0x12) xudts unknown) P
      (λ e. let n = eqb-true t 0x11 e in
      settle 0x11 (long_pointers m) xudt (pointers 0x11 n) (ap known_type n)
      (typed (long_pointers m) l (Xudt (octet m 1) (octet m 2)) (class_ok (octet m 1)) (hop_ok (octet m 2)) (omega arith) (omega arith)
      (λ c. (ap has_class n, c)) (λ c _ w. both_ways (class_ok (octet m 1)) w c) (λ w. (ap has_hop n, w)) (λ w _ v. both_ways (hop_ok (octet m 2)) v w)))
      (λ n3.
      cond_both (eqb t 0x12) xudts unknown P
      (λ e. let n = eqb-true t 0x12 e in
      settle 0x12 (long_pointers m) xudts (pointers 0x12 n) (ap known_type n)
      (typed (long_pointers m) l (Xudts (octet m 1) (octet m 2)) true (hop_ok (octet m 2)) (omega arith) (omega arith)
      (λ c. absurd (true≢false c)) (λ _ h _. true≢false (sym h ∙ ap has_class n)) (λ w. (ap has_hop n, w)) (λ w _ v. both_ways (hop_ok (octet m 2)) v w)))
      (λ n4. (
        stop Parsed (FaultIn x m (pointers_of m)) MessageType 0 clear
            (refl, or_from (eqb t 0x09) (eqb t 0x0A || (eqb t 0x11 || eqb t 0x12)) n1 (or_from (eqb t 0x0A) (eqb t 0x11 || eqb t 0x12) n2 (or_from (eqb t 0x11) (eqb t 0x12) n3 n4)))
            (λ k h. omega arith),
        tt,
        omega arith,
      )))))

pub parse_right : (x : List ℕ) → FirstFault x (parse x) × PartsInside x (parse x) × FaultPlace (parse x)
unfolding parse
parse_right x =
    let Holds : Fault → ℕ → Type 0 = FaultIn x (drop 4 x) (pointers_of (drop 4 x)) in
    let Q : Result Parsed ReadFault → Type 0 = λ r. First Holds r × PartsInside x r × FaultPlace r in
    let fits = leb 5 (length x) && leb (length x) 272 in
    checked Q fits Length 0 (message_body (label_of x) (drop 4 x))
    (λ e. (stop Parsed Holds Length 0 (clear_none Holds) (refl, e) (λ k h. omega arith), tt, omega arith))
    (λ e.
    let both = and_parts (leb 5 (length x)) (leb (length x) 272) e in
    let low = leb-true 5 (length x) both.0 in
    let high = leb-true (length x) 272 both.1 in
    message_right x (omega arith) high (label_of x) (clear_more Holds Length (clear_none Holds) (λ o h. both_ways fits h.1 e)))
