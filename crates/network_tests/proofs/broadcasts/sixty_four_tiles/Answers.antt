use Rattle.std.proofs.Common.{[], ◌∷◌}
use Rattle.network_tests.proofs.FirstTiles.{one_window_posts}
use Rattle.network_tests.proofs.broadcasts.sixty_four_tiles.Goals as goal

pub invariant_of-result-clause-posts_limit : goal.invariant_of-result-clause-posts_limit
invariant_of-result-clause-posts_limit c =
    let size = c.in_ok-of_size.ensures in ∣ rw (size.cols_is, size.rows_is, c.in_ok-one_window.ensures) (one_window_posts 63) ∣₁
