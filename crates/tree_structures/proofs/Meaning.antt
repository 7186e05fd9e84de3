-- The closure of what a graph tells is the closure of what its structure says.
use Rattle.std.proofs.Common.{List, [], ◌∷◌, arith}
use Rattle.fs_model.specs.Claims.{Claim, System, Has, here, there}
use Rattle.fs_model.specs.Closure.{Closure, given_claim, AreConsistent, IsConsistent}
use Rattle.fs_model.specs.Sources.{Reader, Told, IsGraphOf}
use Rattle.fs_graph.specs.GraphMap.{GraphMap, reader_of}
use Rattle.fs_unify.specs.Owing.{OwedFacts, OwedRules, ListsOwed, owes_rules}
use Rattle.fs_unify.specs.Placing.{PlacedGraph, IsPlacedIn, source_of}
use Rattle.tree_model.specs.Structures.{Says}
use Rattle.tree_model.specs.Mothers.{Meant}
use Rattle.tree_model.proofs.Closures.{grows, falls}
use Rattle.tree_model.proofs.ViewLemmas.{says_tells, tells_says, alone_to, alone_back}
use Rattle.tree_model.specs.Signs.{rule_system}
use Rattle.book_signs.specs.Trees.{SignTree, signs_of}
use Rattle.rule_trees.specs.Mothers.{graph_view, IsShortIn}
use Rattle.rule_trees.proofs.MakingLemmas.{Owes, inside, cut_part}

-- one graph at the root, which owes the facts of some rules
abbrev pub alone_at : OwedRules → GraphMap → List PlacedGraph
alone_at owed graph = record { place = []; graph = graph; owes = owes_rules owed } ∷ []

module _ (t : SignTree) (owed : OwedRules) (graph : GraphMap) (short : IsShortIn t graph) where
  abbrev pub s : System
  s = (signs_of t).system

  to_said : {c : Claim} → Closure s (Told (source_of (alone_at owed graph))) c → Closure s (Says (signs_of t).paths (graph_view t graph)) c
  to_said a = grows s (λ e x. tells_says s (signs_of t).paths (reader_of graph) (inside t graph short) e (alone_to (reader_of graph) e x)) a

  from_said : {c : Claim} → Closure s (Says (signs_of t).paths (graph_view t graph)) c → Closure s (Told (source_of (alone_at owed graph))) c
  from_said a = grows s (λ e x. given_claim e (alone_back (reader_of graph) e (says_tells s (signs_of t).paths (reader_of graph) e x))) a

  pub alone_consistent : AreConsistent s (Meant (rule_system (signs_of t)) (graph_view t graph)) → IsConsistent s (Told (source_of (alone_at owed graph)))
  alone_consistent ok = falls s (λ c a. to_said a) ok

  pub alone_meant : (r : Reader) → IsGraphOf s (Told (source_of (alone_at owed graph))) r → IsGraphOf s (Says (signs_of t).paths (graph_view t graph)) r
  alone_meant r is = record {
    paths = λ p. (λ x. (is.paths p).0 (from_said x), λ x. to_said ((is.paths p).1 x));
    equalities = λ p q. (λ x. (is.equalities p q).0 (from_said x), λ x. to_said ((is.equalities p q).1 x));
    types_there = λ p n at. to_said (is.types_there p n at);
    types_above = λ p n u at x. is.types_above p n u at (from_said x);
  }

  pub alone_in : (facts : OwedFacts) → ListsOwed t.book.system facts owed → Owes t.book.system facts graph → (p : PlacedGraph) → Has p (alone_at owed graph) → IsPlacedIn t.book.system p
  alone_in facts lists owes _ here = cut_part t.book.system facts owed lists [] graph (λ i d l. absurd (omega (arith, l))) short owes
  alone_in facts lists owes p (there h) = elim h [ ]
