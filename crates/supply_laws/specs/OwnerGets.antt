-- Where ownership of a line comes from: a tile owns it from its GetM, the memory from the last request that wrote it back.
use Rattle.std.specs.Prelude.{◌≡◌, ℕ, ◌+◌, ◌<◌, ◌≤◌, true, false, List, Some, slice_get}
use Rattle.mesh_gen.specs.declared.kind.Kind.TheVariants.{GetM}
use Rattle.mesh_gen.specs.declared.request.Request.{Request}
use Rattle.chip_model.specs.Suppliers.{writes_back}

-- from one place of the order on and below another no GetM asks for a line, and none writes it back
pub record NoneFrom (line start below : ℕ) (ordered : List Request) : Type 0 where
  pub gets : (k : ℕ) (q : Request) → start ≤ k → k < below → slice_get ordered k ≡ Some q → q.kind ≡ GetM → q.line ≡ line → ⊥
  pub backs : (k : ℕ) → start ≤ k → k < below → writes_back line ordered k ≡ false

-- the GetM from which a tile owns a line below a place
pub record OwnerGet (line v below : ℕ) (ordered : List Request) : Type 0 where
  pub place : ℕ
  pub get : Request
  pub at : slice_get ordered place ≡ Some get
  pub before : place < below
  pub kind : get.kind ≡ GetM
  pub source : get.source ≡ v
  pub same : get.line ≡ line
  pub last : NoneFrom line (place + 1) below ordered

-- the write-back from which the memory owns a line below a place
pub record LastBack (line below : ℕ) (ordered : List Request) : Type 0 where
  pub place : ℕ
  pub before : place < below
  pub back : writes_back line ordered place ≡ true
  pub last : NoneFrom line (place + 1) below ordered
