-- The book's structure of a rule is the graph of the closure of the rule's own facts.
use Rattle.std.proofs.Common.{ℕ, ◌≡◌, ◌<◌, List, [], Option, Some, None, subst, sym}
use Rattle.std.specs.Prelude.{IfSome, length, option_map, slice_get}
use Rattle.fs_model.specs.Claims.{System}
use Rattle.fs_model.specs.Closure.{Closure, given_claim}
use Rattle.fs_model.specs.Sources.{Source, Told}
use Rattle.fs_graph.specs.GraphMap.{GraphMap, reader_of, IsGraph}
use Rattle.fs_unify.specs.Rules.{system_of}
use Rattle.fs_trim.specs.Cutting.{IsShort}
use Rattle.type_hierarchy.specs.Table.{TypeTable, count_of}
use Rattle.tree_model.specs.Mothers.{Rule}
use Rattle.tree_model.specs.Views.{Shows, IsInside, source_alone}
use Rattle.tree_model.proofs.Closures.{grows}
use Rattle.tree_model.proofs.PathLemmas.{has_path_below}
use Rattle.tree_model.proofs.SaidLemmas.{alone_said, said_alone}
use Rattle.tree_model.proofs.ViewLemmas.{graph_shows, shows_same, alone_to, alone_back}
use Rattle.tree_model.specs.Signs.{Instance, Signs}
use Rattle.book_signs.specs.Conditions.{IsClosed}
use Rattle.book_signs.specs.Signed.{facts_of}
use Rattle.book_signs.specs.Trees.{SignTree, signs_of, facts_at}
use Rattle.mrs_places.specs.Paths.{Feature, Paths}
use Rattle.mrs_places.specs.Asked.{IsTyped}
use Rattle.generate_model.specs.Bags.{Word}
use Rattle.generate_model.specs.Contributing.{Predicates}
use Rattle.generate_model.specs.Contributions.{Input, IsGraphOf, SaysAt, GivesOf}
use Rattle.generated_leaves.specs.Given.{input_of, IsGivenAt}

module _ (t : SignTree) (x : GraphMap) (is : IsClosed t.book.system x) (short : IsShort t.book.system x) where
  abbrev s : System
  s = system_of t.book.system

  inside : IsInside (signs_of t).paths (reader_of x)
  inside p n e = has_path_below (length t.book.system.introducers) t.book.system.path_limit p (short.short p n e) (short.feats_in p n e)

  -- the graph shows what it tells, closed, and so what its structure says, closed
  alone_shows : Shows s (Closure s (Told (source_alone (reader_of x)))) (reader_of x)
  alone_shows =
      shows_same s (reader_of x) (λ c a. grows s (λ d y. given_claim d (alone_back (reader_of x) d y)) a) (λ c a. grows s (λ d y. given_claim d (alone_to (reader_of x) d y)) a)
      (graph_shows s (reader_of x) is.answer.well_formed)

  own_shows : Shows s (Closure s (Told (facts_of t.book.system x))) (reader_of x)
  own_shows = shows_same s (reader_of x) (λ c a. alone_said s (signs_of t).paths (reader_of x) [] [] inside a) (λ c a. said_alone s (signs_of t).paths (reader_of x) [] [] a) alone_shows

  pub own_graph : IsGraph x → IsGraphOf s (Closure s (Told (facts_of t.book.system x))) x
  own_graph shape = record { graph_is = shape; shows = own_shows }

  pub own_typed : (paths : Paths) → IfSome paths.cons (λ u. u < count_of t.book.system.types) → IfSome paths.null (λ u. u < count_of t.book.system.types) → IsTyped t.book.system.types paths x
  own_typed paths cons null = record { types_in = short.graph_in.types_in; cons_in = cons; null_in = null }

gives_by : (g : Signs) (input : Input) (o : Option Instance) (facts : Source) (ws : List Word) → option_map (λ (r : Rule). r.facts) (option_map (λ (i : Instance). i.rule) o) ≡ Some facts →
    SaysAt g.system input (Closure g.system (Told facts)) input.c_cont_path ws → GivesOf g input o ws
gives_by g input None facts ws e says = absurd (cc)
gives_by g input (Some i) facts ws e says =
    let z : i.rule.facts ≡ facts = cc in subst (λ src. SaysAt g.system input (Closure g.system (Told src)) input.c_cont_path ws) (sym z) says

-- what stands in the book's structure of a rule is what the rule contributes
pub is_given : (t : SignTree) (types : TypeTable) (paths : Paths) (c_cont : List Feature) (place : ℕ) (x : GraphMap) (ws : List Word) → facts_at (signs_of t) place ≡ Some (facts_of t.book.system x) → IsClosed t.book.system x →
    IsShort t.book.system x → IsGraph x → Predicates x types paths c_cont ws → IsGivenAt (signs_of t) types paths c_cont place ws
is_given t types paths c_cont place x ws facts is short shape says meaning =
    gives_by (signs_of t) (input_of types paths c_cont meaning) (slice_get (signs_of t).instances place) (facts_of t.book.system x) ws facts (record { graph = x; is = own_graph t x is short shape; says = says })
