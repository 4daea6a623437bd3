-- What tiles are owed, counted and in words.
use Rattle.std.proofs.Common.{◌≡◌, ◌≢◌, ℕ, zero, suc, ◌+◌, ◌<◌, ◌↔◌, Bool, true, false, refl, sym, ◌∙◌, ap, subst, arith, ⊎_elim, Some}
use Rattle.std.specs.Prelude.{◌&&◌}
use Rattle.std.proofs.lemmas.Bool.{cases_Bool, false_from_ne_true, and_from, eq-eqb}
use Rattle.mesh_gen.specs.declared.request.Request.{Request}
use Rattle.mesh_gen.specs.declared.port.Port.{Port}
use Rattle.mesh_gen.specs.declared.port.Port.TheVariants.{L, E, W, N, S}
use Rattle.mesh_gen.specs.Grid.{Grid, tiles}
use Rattle.mesh_gen.specs.Ports.{has, count_if}
use Rattle.mesh_gen.specs.PortSets.{bits_of}
use Rattle.mesh_gen.specs.Routes.{HasTiles}
use Rattle.mesh_gen.specs.Tree.{leaves_by, covers, Leads, here, there}
use Rattle.mesh_gen.proofs.Coordinates.{has_tiles}
use Rattle.mesh_gen.proofs.Led.{covers_from_leads, leads_from_covers, edge_from}
use Rattle.vc_bank.specs.Places.{Network, at}
use Rattle.vc_bank.proofs.PlaceLaws.{one_or_apart, weigh_at, weigh_two, found}
use Rattle.chip_model.specs.declared.net_copy.NetCopy.{NetCopy}
use Rattle.chip_model.specs.Copies.{Name, is_named, name_of}
use Rattle.chip_model.specs.CopiesOwed.{Owes, owing, CopiesFit, NoneAhead}
use Rattle.router_xy.specs.RequestNetwork.{IsOneOutput}
use Rattle.router_xy.proofs.CopyOutputs.{outputs_by, for_name, for_name-yes, for_name-no, name_is, some_is, owed_by}

-- ---- the ways of one copy
counts : (owed serves : Bool) → owed ≡ true → serves ≡ true → count_if (owed && serves) ≡ 1
counts owed serves is_owed is_served = rw (is_owed, is_served)

output_counts : (g : Grid) (s r tile ports : ℕ) (out : Port) → has ports out ≡ true → covers g s r tile out ≡ true → 0 < outputs_by g s r tile ports
output_counts g s r tile ports L owed serves = omega (arith, counts _ _ owed serves)
output_counts g s r tile ports E owed serves = omega (arith, counts _ _ owed serves)
output_counts g s r tile ports W owed serves = omega (arith, counts _ _ owed serves)
output_counts g s r tile ports N owed serves = omega (arith, counts _ _ owed serves)
output_counts g s r tile ports S owed serves = omega (arith, counts _ _ owed serves)

counted : (owed serves : Bool) → 0 < count_if (owed && serves) → (owed ≡ true) × (serves ≡ true)
counted true true some = (refl, refl)
counted true false some = absurd (omega arith)
counted false serves some = absurd (omega arith)

some_way : (g : Grid) (s r tile ports : ℕ) → 0 < outputs_by g s r tile ports → (out : Port) × (has ports out ≡ true) × (covers g s r tile out ≡ true)
some_way g s r tile ports some = pick _ _ _ _ _ (by L) (by E) (by W) (by N) (by S) some
  where
    by : (out : Port) → 0 < count_if (has ports out && covers g s r tile out) → (has ports out ≡ true) × (covers g s r tile out ≡ true)
    by out = counted (has ports out) (covers g s r tile out)

    pick : (l e w n d : ℕ) → (0 < l → (has ports L ≡ true) × (covers g s r tile L ≡ true)) → (0 < e → (has ports E ≡ true) × (covers g s r tile E ≡ true)) → (0 < w → (has ports W ≡ true) × (covers g s r tile W ≡ true))
        → (0 < n → (has ports N ≡ true) × (covers g s r tile N ≡ true)) → (0 < d → (has ports S ≡ true) × (covers g s r tile S ≡ true)) → 0 < l + e + w + n + d → (out : Port) × (has ports out ≡ true) × (covers g s r tile out ≡ true)
    pick (suc l) e w n d at_l at_e at_w at_n at_d some = let way = at_l (omega arith) in (L, way.0, way.1)
    pick zero (suc e) w n d at_l at_e at_w at_n at_d some = let way = at_e (omega arith) in (E, way.0, way.1)
    pick zero zero (suc w) n d at_l at_e at_w at_n at_d some = let way = at_w (omega arith) in (W, way.0, way.1)
    pick zero zero zero (suc n) d at_l at_e at_w at_n at_d some = let way = at_n (omega arith) in (N, way.0, way.1)
    pick zero zero zero zero (suc d) at_l at_e at_w at_n at_d some = let way = at_d (omega arith) in (S, way.0, way.1)
    pick zero zero zero zero zero at_l at_e at_w at_n at_d some = absurd (omega arith)

-- what counts for a name is of that name
is_for_name : (name : Name) (q : Request) (count : ℕ) → 0 < for_name name q count → is_named name q ≡ true
is_for_name name q count some = ⊎_elim (λ named. named) (λ other. absurd (let none = for_name-no name q count other in omega arith)) (cases_Bool (is_named name q))

-- ---- owed in words, and counted
owes_covers : (g : Grid) (net : Network NetCopy) (name : Name) (tile : ℕ) → HasTiles g → (a : Owes g net name tile) → covers g a.copy.request.source a.router tile a.out ≡ true
owes_covers g net name tile some a = covers_from_leads g a.copy.request.source a.router tile a.out some a.leads

owes_weighs : (g : Grid) (net : Network NetCopy) (name : Name) (tile : ℕ) → HasTiles g → (a : Owes g net name tile) → 0 < owed_by g name tile a.router a.port a.slot a.copy
owes_weighs g net name tile some a =
    let here = for_name-yes name a.copy.request (outputs_by g a.copy.request.source a.router tile (bits_of a.copy.owed)) a.is_named in
    let way = output_counts g a.copy.request.source a.router tile (bits_of a.copy.owed) a.out a.owed (owes_covers g net name tile some a) in
    omega arith

owing-Owes : (g : Grid) (net : Network NetCopy) (name : Name) (tile : ℕ) → HasTiles g → Owes g net name tile → 0 < owing g net name tile
unfolding owing
owing-Owes g net name tile some a =
    let weighs = owes_weighs g net name tile some a in
    let whole = weigh_at (owed_by g name tile) net a.router a.port a.slot a.copy a.stands in
    omega arith

Owes-owing : (g : Grid) (net : Network NetCopy) (name : Name) (tile : ℕ) → CopiesFit g net → tile < tiles g → 0 < owing g net name tile → Owes g net name tile
unfolding owing
Owes-owing g net name tile fit reached some =
    let one = found (owed_by g name tile) net some in
    let named = is_for_name name one.packet.request (outputs_by g one.packet.request.source one.router tile (bits_of one.packet.owed)) one.weighs in
    let same = for_name-yes name one.packet.request (outputs_by g one.packet.request.source one.router tile (bits_of one.packet.owed)) named in
    let weighs : 0 < outputs_by g one.packet.request.source one.router tile (bits_of one.packet.owed) = let whole = one.weighs in omega arith in
    let way = some_way g one.packet.request.source one.router tile (bits_of one.packet.owed) weighs in
    let inside = (fit.stand one.router one.port one.slot one.packet one.stands).inside in
    record {
      router = one.router;
      port = one.port;
      slot = one.slot;
      copy = one.packet;
      out = way.0;
      stands = one.stands;
      is_named = named;
      owed = way.1;
      leads = leads_from_covers g one.packet.request.source one.router tile way.0 (has_tiles g tile reached) inside reached way.2;
    }

-- a tile is owed a request exactly where it is owed it once
pub owed_once : (g : Grid) (net : Network NetCopy) (name : Name) (tile : ℕ) → CopiesFit g net → tile < tiles g → Owes g net name tile ↔ (owing g net name tile ≡ 1)
owed_once g net name tile fit reached = (
  λ a. let some = owing-Owes g net name tile (has_tiles g tile reached) a in let few = fit.once name tile in omega arith,
  λ one. Owes-owing g net name tile fit reached (omega arith),
)

-- ---- two ways in which a tile is owed a request are one
one_channel : (g : Grid) (net : Network NetCopy) (name : Name) (tile : ℕ) → CopiesFit g net → (a b : Owes g net name tile) → (b.router ≡ a.router) × (b.port ≡ a.port) × (b.slot ≡ a.slot)
unfolding owing
one_channel g net name tile fit a b =
    let some = has_tiles g a.router (fit.stand a.router a.port a.slot a.copy a.stands).inside in
    ⊎_elim (λ same. same)
    (λ apart. absurd (let first = owes_weighs g net name tile some a in
    let second = owes_weighs g net name tile some b in
    let two = weigh_two (owed_by g name tile) net a.router a.port a.slot b.router b.port b.slot a.copy b.copy a.stands b.stands apart in
    let few = fit.once name tile in
    omega arith))
    (one_or_apart a.router a.port a.slot b.router b.port b.slot)

abbrev pub ServesApart : Type 0
ServesApart = (g : Grid) (s r v : ℕ) (p q : Port) → covers g s r v p ≡ true → covers g s r v q ≡ true → p ≡ q

pub one_output : ServesApart → (g : Grid) (net : Network NetCopy) (name : Name) (tile : ℕ) → CopiesFit g net → (a b : Owes g net name tile) → IsOneOutput g net name tile a b
one_output apart g net name tile fit a b =
    let some = has_tiles g a.router (fit.stand a.router a.port a.slot a.copy a.stands).inside in
    let same = one_channel g net name tile fit a b in
    let copies = one_copy net a.router a.port a.slot b.router b.port b.slot a.copy b.copy same.0 same.1 same.2 a.stands b.stands in
    let behind : covers g a.copy.request.source a.router tile b.out ≡ true = subst (λ (r : ℕ). covers g a.copy.request.source r tile b.out ≡ true) same.0
    (subst (λ (c : NetCopy). covers g c.request.source b.router tile b.out ≡ true) copies (owes_covers g net name tile some b)) in
    (sym same.0, sym same.1, sym same.2, apart g a.copy.request.source a.router tile a.out b.out (owes_covers g net name tile some a) behind)
  where
    one_copy : (net : Network NetCopy) (r p i n q j : ℕ) (first second : NetCopy) → n ≡ r → q ≡ p → j ≡ i → at net r p i ≡ Some first → at net n q j ≡ Some second → second ≡ first
    one_copy net r p i n q j first second router port slot stands stands_too = some_is second first (sym stands_too ∙ rw (router, port, slot) stands)

-- ---- no copy stands ahead of one that owes the way there

-- a port of the tree leads to some tile
leads_somewhere : (g : Grid) (s r : ℕ) (out : Port) → leaves_by g s r out ≡ true → (tile : ℕ) × Leads g s r out tile
leads_somewhere g s r L leaves = (r, here)
leads_somewhere g s r E leaves = let edge = edge_from g s r E (λ same. cc) leaves in (edge.0, there edge.1 here)
leads_somewhere g s r W leaves = let edge = edge_from g s r W (λ same. cc) leaves in (edge.0, there edge.1 here)
leads_somewhere g s r N leaves = let edge = edge_from g s r N (λ same. cc) leaves in (edge.0, there edge.1 here)
leads_somewhere g s r S leaves = let edge = edge_from g s r S (λ same. cc) leaves in (edge.0, there edge.1 here)

-- what leads to a router leads on to where the tree goes from there
leads_on : (g : Grid) (s r n v : ℕ) (out next : Port) → Leads g s r out n → Leads g s n next v → (first : Port) × Leads g s r first v
leads_on g s r n v out next here behind = (next, behind)
leads_on g s r n v out next (there {n = m} {next = port} edge leads) behind = (out, there edge (leads_on g s m n v port next leads behind).1)

leads_through : (g : Grid) (s r n v : ℕ) (out next : Port) → Leads g s r out n → n ≢ r → Leads g s n next v → Leads g s r out v
leads_through g s r n v out next here away behind = absurd (away refl)
leads_through g s r n v out next (there {n = m} {next = port} edge leads) away behind = there edge (leads_on g s m n v port next leads behind).1

own_name : (q : Request) → is_named (name_of q) q ≡ true
own_name q = and_from _ _ (eq-eqb q.source q.source refl) (eq-eqb q.number q.number refl)

pub none_ahead : (g : Grid) (net : Network NetCopy) → CopiesFit g net → NoneAhead g net
none_ahead g net fit router port slot copy out next p i other stands owed leads stands_too away = false_from_ne_true _ (λ named.
    let ahead = fit.stand next p i other stands_too in
    let way = leads_somewhere g other.request.source next ahead.some.0 (ahead.outs ahead.some.0 ahead.some.1) in
    let source : other.request.source ≡ copy.request.source = ap (λ (name : Name). name.0) (name_is (name_of copy.request) other.request named) in
    let behind = leads_through g copy.request.source router next way.0 out ahead.some.0 leads away (subst (λ (s : ℕ). Leads g s next ahead.some.0 way.0) source way.1) in
    let far : Owes g net (name_of copy.request) way.0 = record { router = router; port = port; slot = slot; copy = copy; out = out; stands = stands; is_named = own_name copy.request; owed = owed; leads = behind } in
    let near : Owes g net (name_of copy.request) way.0 = record { router = next; port = p; slot = i; copy = other; out = ahead.some.0; stands = stands_too; is_named = named; owed = ahead.some.1; leads = way.1 } in
    away (one_channel g net (name_of copy.request) way.0 fit far near).0)
