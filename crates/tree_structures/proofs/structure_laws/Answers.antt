use Rattle.tree_structures.proofs.Forming.{formed}
use Rattle.tree_structures.proofs.Sound.{sound}
use Rattle.tree_structures.proofs.Making.{full_made}
use Rattle.tree_structures.proofs.OneGraph.{graphs_one}
use Rattle.tree_structures.proofs.structure_laws.Goals as goal

pub returns-clause-formed : goal.returns-clause-formed
returns-clause-formed c = formed

pub returns-clause-made : goal.returns-clause-made
returns-clause-made c = full_made

pub returns-clause-sound : goal.returns-clause-sound
returns-clause-sound c = sound

pub returns-clause-one : goal.returns-clause-one
returns-clause-one c = graphs_one
