use Rattle.std.proofs.Common.{◌≡◌, ℕ, List, Option, false, ◌∙◌, ap, inl, inr}
use Rattle.std.specs.Prelude.{option_map}
use Rattle.chip_model.specs.declared.line_state.State.{State}
use Rattle.chip_model.specs.Cache.{is_shared}
use Rattle.line_cache.specs.Sets.{copy_of}
use Rattle.snoop_core.specs.Holdings.{told}
use Rattle.snoop_core.proofs.TableRows.{holds_owned, holds_shared, holds_none}
use Rattle.snoop_core.proofs.snooper.Snooper.holding.Goals as goal

pub returns-in-M : goal.returns-in-M
returns-in-M c =
    let owned : is_shared c.in-Some.copy.0 ≡ false = elim c.in-M.is [ inl m ↦ ap is_shared m | inr o ↦ ap is_shared o ] in
    holds_owned c.args.self.now.chip c.args.self.now.side c.args.line c.in-Some.copy
    (c.lookup.ensures.copy ∙ ap (λ (o : Option (State × List ℕ)). option_map (copy_of c.args.line) o) c.in-Some.is) owned

pub returns-in-S : goal.returns-in-S
returns-in-S c =
    c.unowned.ensures c.args.self.now.side.misses c.back.ensures c.demand.ensures
    ∙ ap told (holds_shared c.args.self.now.chip c.args.self.now.side c.args.line c.in-Some.copy
    (c.lookup.ensures.copy ∙ ap (λ (o : Option (State × List ℕ)). option_map (copy_of c.args.line) o) c.in-Some.is) (ap is_shared c.in-S.is))

pub returns-in-None : goal.returns-in-None
returns-in-None c =
    c.unowned-in-None.ensures c.args.self.now.side.misses c.back-in-None.ensures c.demand-in-None.ensures
    ∙ ap told (holds_none c.args.self.now.chip c.args.self.now.side c.args.line
    (c.lookup.ensures.copy ∙ ap (λ (o : Option (State × List ℕ)). option_map (copy_of c.args.line) o) c.in-None.is))
