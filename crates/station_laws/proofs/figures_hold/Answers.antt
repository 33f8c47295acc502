use Rattle.station_laws.proofs.Hops.{hop_on_title, hop_on_subsystem}
use Rattle.station_laws.proofs.figures_hold.Goals as goal

pub returns : goal.returns
returns c = record { title = hop_on_title; subsystem = hop_on_subsystem }
