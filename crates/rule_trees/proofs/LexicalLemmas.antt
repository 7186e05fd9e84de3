-- The full structures of entries, and of what lexical rules make.
use Rattle.std.proofs.Common.{ℕ, ◌≡◌, [], ◌∷◌, Some, sym, ◌∙◌, ap, subst}
use Rattle.std.specs.Prelude.{option_map, slice_get}
use Rattle.fs_model.specs.Claims.{Has, System}
use Rattle.fs_model.specs.Closure.{Closure, given_claim, IsConsistent}
use Rattle.fs_model.specs.Sources.{Source, Told}
use Rattle.fs_graph.specs.GraphMap.{GraphMap, reader_of}
use Rattle.fs_unify.specs.Rules.{system_of}
use Rattle.tree_model.specs.Structures.{Structure, IsStructureOf}
use Rattle.tree_model.specs.Mothers.{Rule, IsFullAt}
use Rattle.tree_model.specs.Views.{Shows, source_alone}
use Rattle.tree_model.proofs.Closures.{grows}
use Rattle.tree_model.proofs.SaidLemmas.{alone_said, said_alone, said_is_consistent}
use Rattle.tree_model.proofs.ViewLemmas.{graph_shows, shows_same, viewed, alone_to, alone_back}
use Rattle.tree_model.specs.Signs.{Instance, Signs, rule_system}
use Rattle.tree_model.specs.Lexical.{IsEntry, IsUnderRule}
use Rattle.book_signs.specs.Conditions.{IsClosed}
use Rattle.book_signs.specs.Signed.{facts_of}
use Rattle.book_signs.specs.Trees.{SignTree, signs_of, facts_at, entries_of, lexical_rules_of, HaveArities}
use Rattle.rule_trees.specs.Mothers.{graph_view, IsShortIn, IsMother}
use Rattle.rule_trees.proofs.MakingLemmas.{inside}
use Rattle.rule_trees.proofs.PlaceLemmas.{entry_at, lexical_at}

-- what an instance's structure says is closed, so its graph shows the closure of that
module _ (t : SignTree) (x : GraphMap) (is : IsClosed t.book.system x) (short : IsShortIn t x) where
  abbrev s : System
  s = system_of t.book.system

  abbrev said : Source
  said = facts_of t.book.system x

  alone_shows : Shows s (Closure s (Told (source_alone (reader_of x)))) (reader_of x)
  alone_shows =
      shows_same s (reader_of x) (λ c a. grows s (λ d y. given_claim d (alone_back (reader_of x) d y)) a) (λ c a. grows s (λ d y. given_claim d (alone_to (reader_of x) d y)) a)
      (graph_shows s (reader_of x) is.answer.well_formed)

  said_shows : Shows s (Closure s (Told said)) (reader_of x)
  said_shows =
      shows_same s (reader_of x) (λ c a. alone_said s (signs_of t).paths (reader_of x) [] [] (inside t x short) a) (λ c a. said_alone s (signs_of t).paths (reader_of x) [] [] a) alone_shows

  pub said_structure : IsStructureOf s (signs_of t).paths (Closure s (Told said)) (graph_view t x)
  said_structure = viewed s (signs_of t).paths (reader_of x) said_shows (inside t x short)

  pub said_consistent : IsConsistent s (Told said)
  said_consistent = (said_is_consistent s (signs_of t).paths (reader_of x) [] [] (inside t x short)).0 is.consistent

facts_here : (g : Signs) (place : ℕ) (i : Instance) (facts : Source) → slice_get g.instances place ≡ Some i → facts_at g place ≡ Some facts → i.rule.facts ≡ facts
facts_here g place i facts at h =
    let z : Some i.rule.facts ≡ Some facts = sym (ap (λ o. option_map (λ (r : Rule). r.facts) (option_map (λ (i : Instance). i.rule) o)) at) ∙ h in cc

-- the full structure of an entry is that of its structure
pub entry_full : (t : SignTree) (place : ℕ) (x : GraphMap) (f : Structure) → Has place (entries_of (signs_of t)) → facts_at (signs_of t) place ≡ Some (facts_of t.book.system x) → IsClosed t.book.system x → IsShortIn t x
    → graph_view t x ≡ f → IsEntry (signs_of t) place f
entry_full t place x f has facts is short same =
    let g = signs_of t in
    let e = entry_at g place has in
    let h = facts_here g place e.instance (facts_of t.book.system x) e.at facts in
    subst (IsEntry g place) same
    (record {
      instance = e.instance;
      at = e.at;
      kind = e.kind;
      consistent = subst (λ src. IsConsistent g.system (Told src)) (sym h) (said_consistent t x is short);
      structure = subst (λ src. IsStructureOf g.system g.paths (Closure g.system (Told src)) (graph_view t x)) (sym h) (said_structure t x is short);
    })

-- what a lexical rule makes of a full structure
pub under_full : (t : SignTree) (place : ℕ) (d f : Structure) → HaveArities (signs_of t) → Has place (lexical_rules_of (signs_of t)) → IsMother (signs_of t) place (d ∷ []) f → IsUnderRule (signs_of t) place d f
under_full t place d f arities has is =
    let g = signs_of t in
    let r = lexical_at g place arities has in
    record { instance = r.instance; at = r.at; kind = r.kind; single = r.single; full = subst (λ o. IsFullAt (rule_system g) o (d ∷ []) f) (ap (option_map (λ (i : Instance). i.rule)) r.at) is }

pub under_back : (t : SignTree) (place : ℕ) (d f : Structure) → IsUnderRule (signs_of t) place d f → IsMother (signs_of t) place (d ∷ []) f
under_back t place d f u = subst (λ o. IsFullAt (rule_system (signs_of t)) o (d ∷ []) f) (sym (ap (option_map (λ (i : Instance). i.rule)) u.at)) u.full
