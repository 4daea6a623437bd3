use Rattle.chip_model.specs.Chip.{chip_of}
use Rattle.chip_laws.proofs.laws.chip_network_laws.Goals as goal

pub returns : goal.returns
returns c =
    let net = c.network_laws.ensures in
    let sums = c.weight_laws.ensures in
    let replies = c.message_laws.ensures in
    record {
      requests = λ d fits. record {
        doc = fits;
        inside = λ net_now place q. net.inside (chip_of d) net_now place q fits.chip.tiles;
        next = net.next (chip_of d);
        ticked = net.ticked (chip_of d);
      };
      messages = record { none = sums.none; adds = sums.adds; keeps = sums.keeps; takes = sums.takes; here = replies.here; came = replies.came };
    }
