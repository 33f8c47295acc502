use Rattle.std.proofs.Common.{sym, ◌∙◌}
use Rattle.std.proofs.lemmas.Bool.{false≢true}
use Rattle.address.specs.Code.{code_number}
use Rattle.translation.specs.Translating.{route_seen}
use Rattle.translation.proofs.Routed.{called_there}
use Rattle.translation.proofs.translating.translate.Goals as goal

pub returns-in_err-called-clause-value : goal.returns-in_err-called-clause-value
returns-in_err-called-clause-value g c =
    let known = g.X.Translator.known c.args.translator.now in
    let fit = g.X.Translator.fit c.args.translator.now in
    let codes = g.V.Availability.codes c.args.availability.now in
    let subsystems = g.V.Availability.subsystems c.args.availability.now in
    let ok = sym c.is_good.ensures ∙ c.if-not-is_good.false in
    let has = called_there known fit codes subsystems (code_number c.args.own) c.args.address.octets.now (route_seen c.in_ok-route.route) _ ok c.in_ok-route.ensures.value c.called.ensures in
    absurd (false≢true (c.in_err-called.ensures.variant ∙ has))
