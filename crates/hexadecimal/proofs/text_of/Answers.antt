use Rattle.std.proofs.Common.{◌≡◌, [], ◌∷◌, ◌++◌, length, get_or, take, string_bytes, sym, ap, ◌∙◌, rules}
use Rattle.std.proofs.lemmas.List.{take_more, take_all}
use Rattle.hexadecimal.specs.Hexadecimal.{digits_of, octet_text}
use Rattle.hexadecimal.proofs.Turns.{digits_push, text_some, text_none}
use Rattle.hexadecimal.proofs.text_of.Goals as goal

pub returns-then-is_empty : goal.returns-then-is_empty
returns-then-is_empty c =
    let e : length c.args.octets.now ≡ 0 = search rules in
    let b : string_bytes c.push.new.self ≡ 45 ∷ [] = search rules in
    b ∙ text_none c.args.octets.now e

pub loop-x-preserved : goal.loop-x-preserved
loop-x-preserved c =
    let xs = c.args.octets.now in
    let i = c.loop-x.x-index in
    c.in_ok-push_octet.ensures
    ∙ ap (λ b. b ++ octet_text (get_or xs i 0)) c.loop-x.invariant
    ∙ sym (digits_push (take i xs) (get_or xs i 0))
    ∙ ap digits_of (sym (take_more xs i 0 c.loop-x-test.true))

pub returns : goal.returns
returns c =
    let xs = c.args.octets.now in
    let a : length xs ≡ 0 → ⊥ = search rules in
    c.loop-x.invariant ∙ ap digits_of (take_all c.loop-x.x-index xs c.loop-x-test.false) ∙ text_some xs a
