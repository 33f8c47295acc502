use Rattle.station_laws.proofs.Project.{account, declined_alters_nothing}
use Rattle.station_laws.proofs.Entire.{arrives_entire}
use Rattle.station_laws.proofs.Sender.{one_sender, kept}
use Rattle.station_laws.proofs.Outlive.{no_opening_outlives}
use Rattle.station_laws.proofs.receiving_laws.Goals as goal

pub returns : goal.returns
returns c = record {
  sender = one_sender;
  kept = kept;
  entire = arrives_entire;
  account = account;
  timely = no_opening_outlives;
  idle = declined_alters_nothing;
}
