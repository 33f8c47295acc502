use Rattle.station_laws.proofs.Entire.{arrives_entire}
use Rattle.station_laws.proofs.Cutting.{sent_in_pieces}
use Rattle.station_laws.proofs.Freezing.{never_shared}
use Rattle.station_laws.proofs.Between.{between}
use Rattle.station_laws.proofs.sending_laws.Goals as goal

pub returns : goal.returns
returns c = record { cut = sent_in_pieces; unshared = never_shared; between = between arrives_entire sent_in_pieces }
