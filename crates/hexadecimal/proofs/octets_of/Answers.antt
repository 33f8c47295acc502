use Rattle.std.proofs.Common.{◌≡◌, [], length, get_or, Some, sym, ap, ◌∙◌, subst, rules}
use Rattle.hexadecimal.specs.Hexadecimal.{octets_in, octets_on, Made}
use Rattle.hexadecimal.proofs.Turns.{reads_back, in_empty, in_dash, in_rest}
use Rattle.hexadecimal.proofs.octets_of.Goals as goal

pub returns-in-empty : goal.returns-in-empty
returns-in-empty c =
    let e : length c.args.word.now ≡ 0 = search rules in
    record { value = in_empty c.args.word.now e; reads_back = reads_back }

pub returns-in-45 : goal.returns-in-45
returns-in-45 c =
    let w = c.args.word.now in
    let l : length w ≡ 1 = search rules in
    let d : get_or w 0 0 ≡ 45 = search rules in
    record { value = in_dash w l d ∙ ap Some (sym c.new.ensures.items); reads_back = reads_back }

pub returns-in_default : goal.returns-in_default
returns-in_default c =
    let w = c.args.word.now in
    let a : length w ≡ 0 → ⊥ = search rules in
    let b : length w ≡ 1 → get_or w 0 0 ≡ 45 → ⊥ = search rules in
    let e : octets_on [] c.as_bytes.result.now ≡ octets_in w = ap (octets_on []) c.as_bytes.ensures.value ∙ sym (in_rest w a b) in
    record { value = subst (λ o. Made o c.octets_of_digits.result) e c.octets_of_digits.ensures; reads_back = reads_back }
