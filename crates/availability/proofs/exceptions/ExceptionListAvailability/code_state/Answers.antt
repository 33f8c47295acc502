use Rattle.std.proofs.Common.{rules, ap, ◌∙◌}
use Rattle.std.specs.Option.{unwrap_or}
use Rattle.translation.specs.declared.states.CodeState.TheVariants.{Up}
use Rattle.availability.specs.States.{code_answer}
use Rattle.availability.proofs.Firsts.{first_from_find_map}
use Rattle.availability.proofs.exceptions.ExceptionListAvailability.code_state.Goals as goal

pub returns : goal.returns
returns c =
    let first = first_from_find_map (code_answer c.args.code.value) (λ x o q k. search rules) _ _ _ c.iter.ensures.rest c.iter.ensures.runs c.find_map.ensures.runs in
    c.unwrap_or.ensures ∙ ap (λ o. unwrap_or o Up) first
