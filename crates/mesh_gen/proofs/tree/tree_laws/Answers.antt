use Rattle.std.proofs.Common.{refl}
use Rattle.mesh_gen.specs.Grid.{distance}
use Rattle.mesh_gen.proofs.TreeEdges.{entered, source_free, parents_lead}
use Rattle.mesh_gen.proofs.Serves.{outputs_to-source, outputs_to-edge, covers_leaves}
use Rattle.mesh_gen.proofs.Led.{covers_from_leads, leads_from_covers}
use Rattle.mesh_gen.proofs.Ancestors.{ancestor_from_leads, leads_from_ancestor}
use Rattle.mesh_gen.proofs.tree.tree_laws.Goals as goal

pub returns-clause-entered : goal.returns-clause-entered
returns-clause-entered c = entered

pub returns-clause-source_free : goal.returns-clause-source_free
returns-clause-source_free c = source_free

pub returns-clause-parents : goal.returns-clause-parents
returns-clause-parents c = λ g s n some source inside. parents_lead g s (distance g s n) n some source inside refl

pub returns-clause-path : goal.returns-clause-path
returns-clause-path c = λ g s r v some source inside. (λ leads. ancestor_from_leads g s r v leads.0 some leads.1, λ up. leads_from_ancestor g s up.0 v r some source inside up.1)

pub returns-clause-covers : goal.returns-clause-covers
returns-clause-covers c = λ g s r v p some inside reached. (leads_from_covers g s r v p some inside reached, covers_from_leads g s r v p some)

pub returns-clause-whole : goal.returns-clause-whole
returns-clause-whole c = outputs_to-source

pub returns-clause-carried : goal.returns-clause-carried
returns-clause-carried c = outputs_to-edge

pub returns-clause-leaves : goal.returns-clause-leaves
returns-clause-leaves c = covers_leaves
