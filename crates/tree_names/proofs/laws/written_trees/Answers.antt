use Rattle.tree_names.proofs.Written.{formed, numbered, named}
use Rattle.tree_names.proofs.laws.written_trees.Goals as goal

pub returns-clause-formed : goal.returns-clause-formed
returns-clause-formed c = formed

pub returns-clause-numbered : goal.returns-clause-numbered
returns-clause-numbered c = λ g names b t e r h. numbered g names b e r t h

pub returns-clause-named : goal.returns-clause-named
returns-clause-named c = λ g names t e h. named g names e t h
