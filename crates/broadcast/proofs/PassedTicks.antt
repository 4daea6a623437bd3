-- The ticks of a window in which some tile posted: the last one closes it.
use Rattle.std.proofs.Common.{◌≡◌, ℕ, zero, suc, ◌+◌, ◌<◌, List, [], ◌∷◌, ◌++◌, Some, refl, ◌∙◌, ap, arith}
use Rattle.std.specs.Prelude.{map}
use Rattle.std.proofs.lemmas.Bool.{eq-eqb, ne_eqb}
use Rattle.order_tracker.specs.Order.{upwards}
use Rattle.report_text.specs.declared.event.Event.TheVariants.{Tick}
use Rattle.chip_model.specs.Chip.{Chip}
use Rattle.chip_model.specs.Windows.{Windows, window_closed}
use Rattle.chip_model.specs.OrderedNetwork.{OrderedNetwork, ordered_by_window, after_network_tick}
use Rattle.chip_model.specs.Delivery.{network_step, network_tried, network_swept}
use Rattle.window_core.proofs.Steps.{after_tick-merge, after_tick-close}
use Rattle.net_iface.proofs.Steps.{after_network_tick-last, after_network_tick-other}
use Rattle.broadcast.proofs.BroadcastStages.{NetworkLaws, HaveTicked, AreMoving, tried_some}

module _ (laws : NetworkLaws) (chip : Chip) (closed : List ℕ) (w : ℕ) (some : 0 < w) where
  -- a tick that is not the last
  one_ticks : (k : ℕ) (net : OrderedNetwork) → k + 1 < chip.window → HaveTicked chip closed w k net → HaveTicked chip closed w (k + 1) (network_tried chip net Tick)
  unfolding network_step
  one_ticks k net more before = tried_some (HaveTicked chip closed w (k + 1)) chip net new Tick ticks (record {
    holds = laws.ticked chip net new before.holds ticks;
    phase = ap (λ (n : ℕ). n + 1) before.phase;
    posts = before.posts;
    closed_is = before.closed_is;
    left = before.left;
  })
    where
      windows : Windows
      windows = record net.windows { phase = net.windows.phase + 1 }

      new : OrderedNetwork
      new = record net { windows = windows }

      ticks : after_network_tick chip net ≡ Some new
      ticks =
          after_network_tick-other chip net windows (after_tick-merge chip.window net.windows (omega (arith, some, before.posts)) (omega (arith, more, before.phase)))
          (ne_eqb (net.windows.phase + 1) chip.window (λ same. absurd (omega (arith, same, more, before.phase))))

  -- the last one
  last_ticks : (k : ℕ) (net : OrderedNetwork) → k + 1 ≡ chip.window → HaveTicked chip closed w k net → AreMoving chip (closed ++ w ∷ []) (network_tried chip net Tick)
  unfolding network_step
  last_ticks k net last before = tried_some (AreMoving chip (closed ++ w ∷ [])) chip net new Tick ticks (record {
    rests = record {
      holds = laws.ticked chip net new before.holds ticks;
      phase = refl;
      closed_is = ap (λ (vectors : List ℕ). vectors ++ net.windows.posts ∷ []) before.closed_is ∙ ap (λ (vector : ℕ). closed ++ vector ∷ []) before.posts;
    };
    posts = refl;
    left = before.left;
  })
    where
      end : net.windows.phase + 1 ≡ chip.window
      end = omega (arith, last, before.phase)

      new : OrderedNetwork
      new = record net { windows = window_closed net.windows; ordered = net.ordered ++ ordered_by_window chip net }

      ticks : after_network_tick chip net ≡ Some new
      ticks =
          after_network_tick-last chip net (window_closed net.windows) (after_tick-close chip.window net.windows (omega (arith, some, before.posts)) end)
          (eq-eqb (net.windows.phase + 1) chip.window end)

  -- all that are left
  pub all_tick : (count first k : ℕ) (net : OrderedNetwork) → k + suc count ≡ chip.window → HaveTicked chip closed w k net
      → AreMoving chip (closed ++ w ∷ []) (network_swept chip net (map (λ n. Tick) (upwards first (suc count))))
  all_tick zero first k net end before = last_ticks k net (omega (arith, end)) before
  all_tick (suc count) first k net end before = all_tick count (first + 1) (k + 1) (network_tried chip net Tick) (omega (arith, end)) (one_ticks k net (omega (arith, end)) before)
