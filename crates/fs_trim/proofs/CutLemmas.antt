-- What is left of a unification is what a cut keeps.
use Rattle.std.specs.Prelude.{ℕ, ◌≡◌, ◌&&◌, ◌||◌, not, if◌then◌else◌, Bool, true, false, Option, Some, None, List, [], ◌∷◌, length, option_map}
use Rattle.std.specs.List.{list_all, list_any}
use Rattle.std.proofs.Common.{refl, sym, ◌∙◌, ap, subst}
use Rattle.type_hierarchy.specs.Table.{count_of}
use Rattle.fs_model.specs.Claims.{Path}
use Rattle.fs_model.specs.Sources.{Reader, Source, Told, IsSameStructure}
use Rattle.fs_graph.specs.GraphMap.{GraphMap, IsGraph, reader_of}
use Rattle.fs_closing.specs.Rules.{Grammar, system_of}
use Rattle.fs_drawing.specs.Cutting.{without as left_of, IsLeftOf, IsUnifiedWithout}
use Rattle.fs_unify.specs.Entering.{IsGraphIn}
use Rattle.fs_unify.specs.Owing.{is_one_of, is_cut_off}
use Rattle.fs_unify.proofs.GivenLemmas.{well_formed}
use Rattle.tree_model.specs.Cuts.{Cut, has_feature, is_kept}
use Rattle.tree_model.specs.Views.{without, IsKeptOf}
use Rattle.fs_trim.specs.Inner.Keeping.{KeepsUnified}
use Rattle.fs_trim.proofs.OweLemmas.{kept_owes}

not_any : (test : ℕ → Bool) (xs : List ℕ) → list_all (λ x. not (test x)) xs ≡ not (list_any test xs)
not_any test [] = refl
not_any test (x ∷ xs) = ap (λ b. not (test x) && b) (not_any test xs) ∙ neither (test x) (list_any test xs)
  where
    neither : (a b : Bool) → (not a && not b) ≡ not (a || b)
    neither true b = refl
    neither false b = refl

kept_is : (cut : Cut) (p : Path) → is_kept cut p ≡ not (is_cut_off cut.at_root cut.anywhere p)
kept_is cut [] = refl
kept_is cut (f ∷ p) =
    ap (λ b. not (has_feature cut.at_root f) && b) (not_any (has_feature cut.anywhere) (f ∷ p))
    ∙ neither (is_one_of cut.at_root f) (list_any (is_one_of cut.anywhere) (f ∷ p))
  where
    neither : (a b : Bool) → (not a && not b) ≡ not (a || b)
    neither true b = refl
    neither false b = refl

same_at : (cut : Cut) (r : Reader) (p : Path) → (without cut r).node_at p ≡ (left_of cut.at_root cut.anywhere r).node_at p
same_at cut r p = ap (λ b. if b then r.node_at p else None) (kept_is cut p) ∙ turned (is_cut_off cut.at_root cut.anywhere p) (r.node_at p)
  where
    turned : (b : Bool) (o : Option ℕ) → (if not b then o else None) ≡ (if b then None else o)
    turned true o = refl
    turned false o = refl

pub kept_of_left : (cut : Cut) (r k : Reader) → IsLeftOf cut.at_root cut.anywhere r k → IsKeptOf cut r k
kept_of_left cut r k l = record {
  there = λ p n e. l.there p n (sym (same_at cut r p) ∙ e);
  there_back = λ p n e. let m = l.there_back p n e in (m.0, same_at cut r p ∙ m.1);
  equal = λ p q n m a b c. l.equal p q n m (sym (same_at cut r p) ∙ a) (sym (same_at cut r q) ∙ b) c;
  equal_back = λ p q n m a b c. same_at cut r q ∙ l.equal_back p q n m a b (sym (same_at cut r p) ∙ c);
  types = λ p n m a b. l.types p n m (sym (same_at cut r p) ∙ a) b;
}

pub keeps_left : (g : Grammar) (source : Source) (cut : Cut) (k : GraphMap) → IsUnifiedWithout (system_of g) source cut.at_root cut.anywhere (Some (reader_of k)) →
    IsGraph k → IsGraphIn (count_of g.types) (length g.introducers) k → KeepsUnified g source cut (Some k)
keeps_left g source cut k u graph inside =
    let keeps = kept_of_left cut u.whole (reader_of k) u.is_left in
    record {
      whole = u.whole;
      unified = u.unified;
      keeps = keeps;
      graph = graph;
      graph_in = inside;
      owes = kept_owes (system_of g) cut u.whole (reader_of k) keeps (well_formed (system_of g) (Told source) u.whole u.unified.1);
    }
