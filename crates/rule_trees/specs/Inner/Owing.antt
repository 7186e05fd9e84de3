-- What a daughter owes; only private clauses cite it.
use Rattle.fs_graph.specs.GraphMap.{GraphMap, reader_of}
use Rattle.fs_unify.specs.Rules.{system_of}
use Rattle.fs_unify.specs.Owing.{IsWellFormedBut}
use Rattle.fs_trim.specs.Cutting.{owed_of}
use Rattle.tree_model.specs.Mothers.{daughters_cut}
use Rattle.tree_model.specs.Signs.{rule_system}
use Rattle.book_signs.specs.Trees.{SignTree, signs_of}

-- a graph is well-formed but for facts that speak of daughters
abbrev pub OwesDaughters : SignTree → GraphMap → Type 0
OwesDaughters t graph = IsWellFormedBut (system_of t.book.system) (reader_of graph) (owed_of (daughters_cut (rule_system (signs_of t))))
