use Rattle.std.proofs.Common.{rules, ap, ◌∙◌}
use Rattle.std.specs.Option.{unwrap_or}
use Rattle.translation.specs.declared.states.SubsystemState.TheVariants.{Working}
use Rattle.availability.specs.States.{subsystem_answer}
use Rattle.availability.proofs.Firsts.{first_from_find_map}
use Rattle.availability.proofs.exceptions.ExceptionListAvailability.subsystem_state.Goals as goal

pub returns : goal.returns
returns c =
    let first = first_from_find_map (subsystem_answer c.args.code.value c.args.subsystem) (λ x o q k. search rules) _ _ _ c.iter.ensures.rest c.iter.ensures.runs c.find_map.ensures.runs in
    c.unwrap_or.ensures ∙ ap (λ o. unwrap_or o Working) first
