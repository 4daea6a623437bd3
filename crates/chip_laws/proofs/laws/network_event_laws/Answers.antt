use Rattle.chip_laws.proofs.NetworkEvents.{NetworkLaws, network_opened, network_kept}
use Rattle.chip_laws.proofs.laws.network_event_laws.Goals as goal

laws : (c : goal.After-message_laws) → NetworkLaws
laws c =
    let requests = c.network_laws.ensures in
    let replies = c.message_laws.ensures in
    record {
      opened = requests.opened;
      made = requests.made;
      posted = requests.posted;
      ticked = requests.ticked;
      taken = requests.taken;
      hopped = requests.hopped;
      delivered = requests.delivered;
      no_message = replies.opened;
      sent = replies.sent;
      moved = replies.hopped;
      came = replies.came;
    }

pub returns-clause-opened : goal.returns-clause-opened
returns-clause-opened c = network_opened (laws c)

pub returns-clause-kept : goal.returns-clause-kept
returns-clause-kept c = λ b d s new event holds queues is. network_kept (laws c) b d s new holds queues event is
