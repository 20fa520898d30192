-- The laws of runs, the facts on which they stand, and the headline, each together.
use Rattle.gb_machine.specs.Headline.{HeadlineHolds}
use Rattle.gb_machine.specs.Laws.{FactsOfRuns, LawsOfRuns}
use Rattle.gb_laws.proofs.credits.CreditsRuns.{credits-add_up}
use Rattle.gb_laws.proofs.ends.DrainedEnds.{drained-come_to_an_end}
use Rattle.gb_laws.proofs.together.EveryRun.{absent-after, answered-by_its_responder, awaited-last}
use Rattle.gb_laws.proofs.together.EveryRun.{endpoints-differ, ends-are-told, ends-at-most-once}
use Rattle.gb_laws.proofs.together.EveryRun.{every-end_has_its_cause, labels-differ, names-name}
use Rattle.gb_laws.proofs.together.EveryRun.{no-foreign}
use Rattle.gb_laws.proofs.together.EveryRun.{nothing-left, nothing-wired, one-item, open-live}
use Rattle.gb_laws.proofs.together.EveryRun.{opening-told}
use Rattle.gb_laws.proofs.together.EveryRun.{quiet-removal, replies-are_awaited, stale-unrouted}
use Rattle.gb_laws.proofs.together.EveryRun.{then-restarts, wired-at_most_once, wired-routed}
use Rattle.gb_laws.proofs.firmware.Fetched.{fetched-is_the_image}
use Rattle.gb_laws.proofs.firmware.KeptRuns.{kept-is_the_image}
use Rattle.gb_laws.proofs.runs.Settling.{settles-are_deliveries}
use Rattle.gb_laws.proofs.identifiers.Single.{counts-add-up}

pub laws-together : LawsOfRuns
laws-together = record {
  settles = settles-are_deliveries;
  once = ends-at-most-once;
  told = ends-are-told;
  answered = answered-by_its_responder;
  caused = every-end_has_its_cause;
  drained = drained-come_to_an_end;
  left = nothing-left;
  own = no-foreign;
  wired = wired-at_most_once;
  credits = credits-add_up;
  kept = kept-is_the_image;
  fetched = fetched-is_the_image;
  counts = counts-add-up;
}

pub facts-together : FactsOfRuns
facts-together = record {
  names = names-name;
  labels = labels-differ;
  items = one-item;
  replies = replies-are_awaited;
  ends = endpoints-differ;
  routed = wired-routed;
  removal = nothing-wired;
  restarts = then-restarts;
  quiet = quiet-removal;
  awaited = awaited-last;
  stale = stale-unrouted;
}

-- the headline, of every run
pub headline-holds : HeadlineHolds
headline-holds es valid = record {
  moments = settles-are_deliveries es valid;
  answered = answered-by_its_responder es valid;
  once = ends-at-most-once es valid;
  caused = every-end_has_its_cause es valid;
  drained = drained-come_to_an_end es valid;
  removed = record {
    absent = absent-after.1 es valid;
    unconnected = absent-after.0 es valid;
    opened = opening-told es valid;
    closed = nothing-left.closed es valid;
    live = open-live es valid;
  };
  own = record {
    items = no-foreign.0 es valid;
    takes = no-foreign.1 es valid;
    wires = record {
      once = wired-at_most_once.once es valid;
      own = wired-at_most_once.own es valid;
      kept = wired-at_most_once.kept es valid;
      one = wired-at_most_once.one es valid;
      made = wired-at_most_once.live es valid;
    };
  };
}
