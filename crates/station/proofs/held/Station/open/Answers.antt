use Rattle.std.proofs.Common.{◌≤◌, min, length, ◌∙◌, arith}
use Rattle.station_laws.proofs.Project.{account, declined_alters_nothing}
use Rattle.station_laws.proofs.Outlive.{no_opening_outlives}
use Rattle.station_laws.proofs.Sender.{one_sender, kept}
use Rattle.station_laws.proofs.Entire.{arrives_entire}
use Rattle.station_laws.proofs.Cutting.{sent_in_pieces}
use Rattle.station_laws.proofs.Freezing.{never_shared}
use Rattle.station_laws.proofs.Between.{between}
use Rattle.station_laws.proofs.Hops.{hop_on_title, hop_on_subsystem}
use Rattle.station.specs.Views.{use_of}
use Rattle.station.proofs.Opened.{free_entries}
use Rattle.station.proofs.held.Station.open.Goals as goal

pub returns : goal.returns
returns c =
    let u = use_of c.args.settings c.args.records.now c.args.references.now c.args.store.now in
    let o = c.open.ensures in
    let f = c.over.ensures in
    let t : 10 ≤ c.args.settings.ticks = c.args.settings.long in
    let n = min (length c.args.references.now) 64 in
    let frozen = f.table ∙ free_entries n c.args.references.now (omega arith) in
    record {
      settings = o.settings;
      records = o.records;
      beyond = o.beyond;
      store = o.store;
      references = f.table;
      references_beyond = f.beyond;
      seen = λ i. record { slots = o.seen i; frozen = frozen i; last = c.zero.ensures i };
      one_sender = one_sender u;
      kept = kept u;
      arrives_entire = arrives_entire u;
      account = account u;
      no_opening_outlives = no_opening_outlives u (omega arith);
      declined_alters_nothing = declined_alters_nothing u;
      sent_in_pieces = sent_in_pieces u;
      never_shared = never_shared u;
      from_station_to_station = λ other. between arrives_entire sent_in_pieces u other;
      hop_on_title = hop_on_title;
      hop_on_subsystem = hop_on_subsystem;
    }
