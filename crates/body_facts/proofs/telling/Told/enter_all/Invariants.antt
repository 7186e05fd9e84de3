use Rattle.std.proofs.Common.{◌≡◌, ◌++◌, map, take}
use Rattle.type_hierarchy.specs.Decls.{texts, number_of}
use Rattle.fs_graph.specs.Facts.{path_of}
use Rattle.body_facts.specs.Running.{running_of, moved}
use Rattle.body_facts.proofs.telling.Told.enter_all.Given as goal

abbrev pub invariant-loop-feature : goal.invariant-loop-feature
invariant-loop-feature l =
    running_of l.self ≡ moved (path_of l.initial.self.path.items ++ map (number_of (texts l.words.feats.now)) (texts (take l.feature-index l.path))) (running_of l.initial.self)
