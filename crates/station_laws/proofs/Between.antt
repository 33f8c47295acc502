-- From station to station: what is sent in pieces, taken in, comes in order.
use Rattle.std.proofs.Common.{◌≡◌, ℕ, suc, ◌+◌, ◌-◌, ◌*◌, ◌≤◌, Bool, true, false, List, [], ◌∷◌, ◌++◌, length, sym, refl, ap, subst, arith}
use Rattle.std.proofs.lemmas.List.{length_push, same_from_push}
use Rattle.address.specs.Address.{address_ok}
use Rattle.address.proofs.Rewrites.{good_parts}
use Rattle.routing.specs.Meanings.{TablesView}
use Rattle.station_laws.specs.Station.{Event, send, receive}
use Rattle.station_laws.specs.Uses as uses
use Rattle.station_laws.specs.Uses.{Use, outcome, Piece, Coming}
use Rattle.station_laws.specs.Laws as laws
use Rattle.station_laws.specs.Laws.{ArrivesEntire, SentPiece, Carried, SentInPieces, RoutedTo, TakenIn, sender_of, FromStationToStation}

module _ (a b sls : ℕ) (called calling : List ℕ) (class reference : ℕ) (s : ℕ) (d0 : List ℕ) (r0 : ℕ) (good : address_ok calling ≡ true) where
  -- what was sent as a piece is one where it is routed here
  piece_of : (t : TablesView) (x : List ℕ) (first : Bool) (r : ℕ) (d : List ℕ) → SentPiece a b sls called calling class reference x first r d → RoutedTo b t x s → Piece b t x (sender_of a s calling reference) first r d
  piece_of t x first r d p w =
      let g = good_parts calling good in
      record {
        message = p.message;
        class = p.class;
        hop = 15;
        user_class = class;
        reads = p.reads;
        to_us = ap (λ l. l.dpc) p.label;
        xudt = p.form;
        segmented = p.segmented;
        routed_here = w p.message p.reads;
        origin = ap (λ l. l.opc) p.label;
        calling = p.calling_is;
        contents = p.contents;
        long = g.0;
        short = g.1;
      }

  abbrev Goes : List ℕ → ℕ → List (List ℕ) → Type 0
  Goes d r xs = Carried a b sls called calling class reference d0 r0 d r xs

  abbrev Comes : List ℕ → ℕ → List Event → Type 0
  Comes d r g = Coming b (sender_of a s calling reference) d0 r0 d r g

  abbrev Takes : List (List ℕ) → List Event → Type 0
  Takes xs g = TakenIn b (sender_of a s calling reference) xs g

  some_sent : (d : List ℕ) (r : ℕ) (xs : List (List ℕ)) → Goes d r xs → 1 ≤ length xs
  some_sent d r xs (laws.begins x p) = omega arith
  some_sent d r xs (laws.continues d' c r' xs' x k p) = simp length_push (omega arith)

  first_few : (d : List ℕ) (r : ℕ) (xs : List (List ℕ)) → Goes d r xs → length d0 ≤ 255
  first_few d r xs (laws.begins x p) = p.few
  first_few d r xs (laws.continues d' c r' xs' x k p) = first_few d' (suc r') xs' k

  some_taken : (xs : List (List ℕ)) (g : List Event) → Takes xs g → 1 ≤ length xs
  some_taken xs g (laws.begins t places x w) = omega arith
  some_taken xs g (laws.between xs' g' e k p) = some_taken xs' g' k
  some_taken xs g (laws.continues xs' g' t places x k w) = simp length_push (omega arith)

  -- what is carried and taken in comes
  comes_first : (d : List ℕ) (r : ℕ) (ys : List (List ℕ)) (t : TablesView) (places : ℕ) (x : List ℕ) → Goes d r ys → RoutedTo b t x s → ys ≡ x ∷ [] → Comes d r (receive t places x ∷ [])
  comes_first d r ys t places x (laws.begins y p) w e =
      let f : y ≡ x = cc in
      uses.begins t places x (piece_of t x true r0 d0 (subst (λ (z : List ℕ). SentPiece a b sls called calling class reference z true r0 d0) f p) w)
  comes_first d r ys t places x (laws.continues d' c r' xs' y k p) w e =
      absurd (omega (arith, some_sent d' (suc r') xs' k, ap length (same_from_push xs' [] y x e).0))

  comes_on : (d : List ℕ) (r : ℕ) (ys xs : List (List ℕ)) (g : List Event) (t : TablesView) (places : ℕ) (x : List ℕ) → Goes d r ys → 1 ≤ length xs → ((d' : List ℕ) (r' : ℕ) (zs : List (List ℕ)) → Goes d' r' zs → zs ≡ xs → Comes d' r' g) → RoutedTo b t x s → ys ≡ xs ++ x ∷ [] → Comes d r (receive t places x ∷ g)
  comes_on d r ys xs g t places x (laws.begins y p) l on w e =
      absurd (omega (arith, ap length (same_from_push [] xs y x e).0))
  comes_on d r ys xs g t places x (laws.continues d' c r' xs' y k p) l on w e =
      let f = same_from_push xs' xs y x e in
      uses.continues d' c r' g t places x (on d' (suc r') xs' k f.0) (piece_of t x false r' c (subst (λ (z : List ℕ). SentPiece a b sls called calling class reference z false r' c) f.1 p) w) p.some p.few

  comes : (d : List ℕ) (r : ℕ) (ys xs : List (List ℕ)) (g : List Event) → Goes d r ys → Takes xs g → ys ≡ xs → Comes d r g
  comes d r ys xs g k (laws.begins t places x w) e = comes_first d r ys t places x k w e
  comes d r ys xs g k (laws.between xs' g' e' p q) e = uses.between d r g' e' (comes d r ys xs' g' k p e) q
  comes d r ys xs g k (laws.continues xs' g' t places x p w) e =
      comes_on d r ys xs' g' t places x k (some_taken xs' g' p) (λ d' r' zs k' e'. comes d' r' zs xs' g' k' p e') w e

  -- the last of what is carried
  pub record Last (d : List ℕ) (xs : List (List ℕ)) (x : List ℕ) : Type 0 where
    pub before : List ℕ
    pub piece : List ℕ
    pub joined : d ≡ before ++ piece
    pub carried : Goes before 1 xs
    pub is : SentPiece a b sls called calling class reference x false 0 piece

  last_of : (d : List ℕ) (r : ℕ) (ys xs : List (List ℕ)) (x : List ℕ) → Goes d r ys → r ≡ 0 → 1 ≤ r0 → ys ≡ xs ++ x ∷ [] → Last d xs x
  last_of d r ys xs x (laws.begins y p) z l e = absurd (omega arith)
  last_of d r ys xs x (laws.continues d' c r' xs' y k p) z l e =
      let f = same_from_push xs' xs y x e in
      record {
        before = d';
        piece = c;
        joined = refl;
        carried = subst (λ (w : List (List ℕ)). Goes d' 1 w) f.0 (subst (λ (n : ℕ). Goes d' (suc n) xs') z k);
        is = subst (λ (w : List ℕ). SentPiece a b sls called calling class reference w false 0 c) f.1 (subst (λ (n : ℕ). SentPiece a b sls called calling class reference y false n c) z p);
      }

-- a station takes in what another sent, given that what comes in order arrives, and that what is sent in pieces is so carried
pub between : ((u : Use) → ArrivesEntire u) → ((u : Use) → SentInPieces u) → (a b : Use) → FromStationToStation a b
between arrives cut a b h t places q count reference sls la lb e =
    let s = cut a h t places q b.code count reference sls la lb e in (
      s.calling,
      λ k g n i u room xs x same slot free taken way time.
          let l = last_of a.code b.code sls s.called s.calling q.class reference n s.first (count - 1) s.good_calling q.contents 0 (outcome a h (send t places q)).sent xs x s.carried refl (omega arith) same in
          let d = l.before in
          let c = l.piece in
          let w = sender_of a.code n s.calling reference in
          let z : count - 1 + 1 ≡ count = omega arith in
          let z1 : (count - 1 + 1) * length s.first ≡ count * length s.first = ap (λ y. y * length s.first) z in
          let z2 : length q.contents ≡ length (d ++ c) = ap length l.joined in
          let coming = comes a.code b.code sls s.called s.calling q.class reference n s.first (count - 1) s.good_calling d 1 xs xs g l.carried taken refl in
          let last = piece_of a.code b.code sls s.called s.calling q.class reference n s.first (count - 1) s.good_calling u x false 0 c l.is way in
          let few = first_few a.code b.code sls s.called s.calling q.class reference n s.first (count - 1) s.good_calling d 1 xs l.carried in
          let r = arrives b k g w s.first d c (count - 1) i u room x (omega arith) (omega arith) s.some few slot free coming last l.is.some l.is.few (omega arith) (omega arith) time in
          (r.0, r.1, subst (λ (y : List ℕ). laws.CopiesGive b (g ++ k) (receive u room x) r.0 y) (sym l.joined) r.2),
    )
