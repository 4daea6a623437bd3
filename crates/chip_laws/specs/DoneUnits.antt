-- A unit that has nothing left to do.
use Rattle.std.specs.Prelude.{◌≡◌, true, List, [], None, length}
use Rattle.mesh_gen.specs.declared.request.Request.{Request}
use Rattle.chip_model.specs.Units.{UnitState}

-- its core has halted, it waits for nothing and sends nothing, and every request of the order was delivered to it
pub record IsDone (ordered : List Request) (unit : UnitState) : Type 0 where
  pub halted : unit.halted ≡ true
  pub demand : unit.node.side.misses.demand ≡ None
  pub back : unit.node.side.misses.back ≡ None
  pub out : unit.node.out ≡ []
  pub delivered : unit.node.delivered ≡ length ordered
