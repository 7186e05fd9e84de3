-- The bounds of a full structure are those of its grammar; the structures of daughters in a row.
use Rattle.std.proofs.Common.{ℕ, ◌≡◌, List, Option, None, Some, map, length, ap, subst, ◌∙◌}
use Rattle.std.specs.Vec.{vec_len}
use Rattle.std.proofs.lemmas.Simd.{map-map}
use Rattle.constraint_expand.specs.declared.books.Book.{Book}
use Rattle.type_hierarchy.specs.Table.{count_of}
use Rattle.fs_graph.specs.GraphMap.{GraphMap}
use Rattle.tree_model.specs.Structures.{Structure}
use Rattle.book_signs.specs.Trees.{SignTree, signs_of, rule_at}
use Rattle.tree_model.specs.Mothers.{Rule, IsFullAt, AppliesAt}
use Rattle.tree_model.specs.Signs.{Signs, rule_system}
use Rattle.rule_trees.specs.Mothers.{IsShortIn, IsMother, IsMotherOf, AppliesTo, graph_view}
use Rattle.rule_trees.specs.Bounded.{IsWithin}

pub within_of : (t : SignTree) (types feats limit : ℕ) (x : GraphMap) → types ≡ count_of t.book.system.types → feats ≡ length t.book.system.introducers → limit ≡ t.book.system.path_limit → IsShortIn t x → IsWithin types feats limit x
within_of t types feats limit x a b c s = record {
  graph_in = rw (a, b) s.graph_in;
  short = λ p n h. rw c (s.short p n h);
  feats_in = λ p n h. rw b (s.feats_in p n h);
}

pub short_of : (t : SignTree) (types feats limit : ℕ) (x : GraphMap) → types ≡ count_of t.book.system.types → feats ≡ length t.book.system.introducers → limit ≡ t.book.system.path_limit → IsWithin types feats limit x → IsShortIn t x
short_of t types feats limit x a b c w = record {
  graph_in = rw (a, b) at w.graph_in;
  short = λ p n h. rw c at (w.short p n h);
  feats_in = λ p n h. rw b at (w.feats_in p n h);
}

-- what is said of a mother that is found, and where none is
pub mother_told : (t : SignTree) (place : ℕ) (ds : List GraphMap) (o : Option GraphMap) (x : GraphMap) → o ≡ Some x → IsMotherOf t place ds o → IsMother (signs_of t) place (map (graph_view t) ds) (graph_view t x)
mother_told t place ds o x e m = (subst (IsMotherOf t place ds) e m).0

pub never_applies : (t : SignTree) (place : ℕ) (ds : List GraphMap) (o : Option GraphMap) → o ≡ None → IsMotherOf t place ds o → AppliesTo (signs_of t) place (map (graph_view t) ds) → ⊥
never_applies t place ds o e m = subst (IsMotherOf t place ds) e m

full_applies : (g : Signs) (o : Option Rule) (fs : List Structure) (f : Structure) → IsFullAt (rule_system g) o fs f → AppliesAt (rule_system g) o fs
full_applies g None fs f h = h
full_applies g (Some rule) fs f h = h.0

pub no_mother : (t : SignTree) (place : ℕ) (ds : List GraphMap) (o : Option GraphMap) → o ≡ None → IsMotherOf t place ds o → (f : Structure) → IsMother (signs_of t) place (map (graph_view t) ds) f → ⊥
no_mother t place ds o e m f h = never_applies t place ds o e m (full_applies (signs_of t) (rule_at (signs_of t) place) (map (graph_view t) ds) f h)

-- the views of daughters, by their graphs
pub views_of : {T : Type 0} (t : SignTree) (graph : T → GraphMap) (ds : List GraphMap) (fulls : List T) → ds ≡ map graph fulls → map (graph_view t) ds ≡ map (λ f. graph_view t (graph f)) fulls
views_of t graph ds fulls is = ap (map (graph_view t)) is ∙ map-map (graph_view t) graph fulls

pub feats_long : (b : Book) (n : ℕ) → n ≡ vec_len b.feats → n ≡ length b.feats.items
feats_long b n h = h ∙ b.feats.ok.0
