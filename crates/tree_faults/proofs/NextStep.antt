-- What comes next in an open phrase.
use Rattle.std.specs.Prelude.{ℕ, ◌≡◌, ◌<◌, ◌≤◌, All, Option, Some, String, get_or, option_map, List, [], length, map, replicate, Vec}
use Rattle.std.specs.Global.{Global}
use Rattle.std.specs.Arc.{arc_value}
use Rattle.std.specs.declared.sync.Arc.{Arc}
use Rattle.std.specs.String.{string_bytes}
use Rattle.std.proofs.Common.{sym, ap, subst, ◌∙◌, arith}
use Rattle.std.proofs.lemmas.Option.{slice_get-map, slice_get-get_or}
use Rattle.fs_model.specs.Claims.{IsOrder}
use Rattle.derivation.specs.Trees.{lexical}
use Rattle.derivation.specs.declared.Tree.{Tree}
use Rattle.derivation.specs.declared.Tree.TheVariants.{Lexical}
use Rattle.derivation.specs.Views.{derivation_of, in_order}
use Rattle.derivation.proofs.Rows.{derivation_of-Lexical}
use Rattle.tree_model.specs.Signs.{Signs}
use Rattle.tree_model.specs.Lexical.{Word}
use Rattle.forest_unpack.specs.Parts.{parts_of}
use Rattle.book_signs.specs.Trees.{SignTree, signs_of}
use Rattle.rule_trees.specs.Fulls.{FullTree}
use Rattle.rule_trees.specs.Mothers.{view_in, IsMade}
use Rattle.tree_structures.specs.Formed.{IsFormed}
use Rattle.tree_structures.specs.Known.{view_of}
use Rattle.tree_structures.proofs.Making.{fulls_made, made_of}
use Rattle.tree_structures.proofs.Rows.{phrase_full}
use Rattle.forced_types.specs.Views.{verdict_of}
use Rattle.tree_faults.specs.declared.building.Building.{Building}
use Rattle.tree_faults.specs.declared.building.Next.TheVariants.{Below, Here}
use Rattle.tree_faults.specs.declared.making.Outcome.{Outcome}
use Rattle.tree_faults.specs.declared.making.Outcome.TheVariants as outcomes
use Rattle.tree_faults.specs.Explained.{IsFirstWithout}
use Rattle.tree_faults.specs.Inner.Structures.{views_of, IsMadeAt, HasOrLacks}
use Rattle.tree_faults.specs.Inner.Building.{daughters_in, open_tree, IsNext, IsBegun, Follows}
use Rattle.tree_faults.proofs.Lacking.{phrase_lacks}
use Rattle.tree_faults.proofs.BuildingWalk.{begun_all}

-- the daughter at hand
pub item_next : (o : Building) (item : Tree) → o.known.count < length o.daughters.now → item ≡ get_or o.daughters.now o.known.count item → IsNext o (derivation_of item)
item_next o item low at = slice_get-map derivation_of o.daughters.now o.known.count ∙ ap (option_map derivation_of) (slice_get-get_or o.daughters.now o.known.count item low ∙ ap Some (sym at))

module _ (t : SignTree) (o : Building) (begun : IsBegun t o) where
  abbrev g : Signs
  g = signs_of t

  pub all_known : length o.daughters.now ≤ o.known.count → o.known.count ≡ length o.daughters.now
  all_known all = let within = begun.within in omega (arith, within, all)

  pub known_made : All (λ (f : FullTree). IsMade g (view_in t f.graph)) (parts_of o.known)
  known_made = made_of g (λ (f : FullTree). view_in t f.graph) (parts_of o.known) (fulls_made g _ (views_of t o.known) begun.full)

  -- all daughters have structures
  pub here_follows : IsOrder g.system → IsFormed g (open_tree o) → length o.daughters.now ≤ o.known.count → (outcome : Outcome) → IsMadeAt t o.rule (views_of t o.known) outcome → Follows t o (Here outcome)
  here_follows order formed all (outcomes.Full full) m = phrase_full g o.rule (in_order (daughters_in o)) (views_of t o.known) (view_of t full) formed.0 (begun_all t o begun all) m
  here_follows order formed all (outcomes.Lacking lack) m =
      let v = verdict_of lack.verdict in
      let first = phrase_lacks t order o.rule (in_order (daughters_in o)) (views_of t o.known) formed.0 (begun_all t o begun all) m.2 in
      let named = subst (λ n. IsFirstWithout g (open_tree o) [] n v) (sym m.1) first in
      record { first = subst (λ k. IsFirstWithout g (open_tree o) (replicate k 1) lack.instance v) (sym m.0) named; refusal = m.2.refusal }

  -- a daughter that is a lexical tree
  pub leaf_follows : (entry : ℕ) (rules : Arc (Vec ℕ Global) Global) (words : Arc (Vec (String Global) Global) Global) (nodes : Option (ℕ × ℕ)) (item : Tree) (read : List ℕ) → IsNext o (derivation_of item) → item ≡ Lexical entry rules words nodes → read ≡ (arc_value rules).items →
      (outcome : Outcome) → ((said : List Word) (ns : Option (ℕ × ℕ)) → HasOrLacks t (lexical entry read said ns) outcome) → Follows t o (Below outcome)
  leaf_follows entry rules words nodes item read next is same outcome h =
      let tree : lexical entry read (map string_bytes (arc_value words).items) nodes ≡ derivation_of item =
      ap (λ rs. lexical entry rs (map string_bytes (arc_value words).items) nodes) same ∙ sym (ap derivation_of is ∙ derivation_of-Lexical entry rules words nodes) in
      (derivation_of item, next, subst (λ d. HasOrLacks t d outcome) tree (h (map string_bytes (arc_value words).items) nodes))
