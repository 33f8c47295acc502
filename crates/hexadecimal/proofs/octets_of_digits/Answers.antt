use Rattle.std.proofs.Common.{◌≡◌, ◌-◌, [], ◌∷◌, ◌++◌, length, get_or, take, drop, Some, vec_items, sym, ap, ◌∙◌, rules}
use Rattle.hexadecimal.specs.Hexadecimal.{with, pair_value, octets_on}
use Rattle.hexadecimal.proofs.Turns.{turn}
use Rattle.hexadecimal.proofs.octets_of_digits.Goals as goal

pub loop-rest-preserved : goal.loop-rest-preserved
loop-rest-preserved c =
    let r = c.loop-rest.rest.now in
    let d = vec_items c.loop-rest.out in
    let x = c.in_ok-ok_or.field-0 in
    let behind = take (length r - 2) (drop 2 r) in
    let e : vec_items c.push.new.self ≡ d ++ x ∷ [] = search rules in
    let p : pair_value (get_or r 0 0) (get_or r 1 0) ≡ Some x = search rules in
    ap (λ z. octets_on z behind) e
    ∙ sym (turn d r c.in-len2-up.len_at_least ∙ ap (λ o. with o (λ v. octets_on (d ++ v ∷ []) behind)) p)
    ∙ c.loop-rest.invariant
