-- Daughters whose full structures stand for the same, one by one, stand for the same list.
use Rattle.std.specs.Prelude.{◌≡◌, Option, None, Some, List, [], map, option_map}
use Rattle.std.proofs.Common.{refl}
use Rattle.std.specs.Global.{Global}
use Rattle.std.specs.Arc.{arc_value}
use Rattle.std.specs.declared.sync.Arc.{Arc}
use Rattle.chart_model.specs.Tuples.{on_list}
use Rattle.tree_model.specs.Structures.{Structure}
use Rattle.forest_unpack.specs.declared.fulls.FullParts.{FullParts}
use Rattle.book_signs.specs.Trees.{SignTree}
use Rattle.rule_trees.specs.Fulls.{FullTree}
use Rattle.rule_trees.specs.Mothers.{view_in}
use Rattle.grammar_rules.specs.Told.{seen_in, all_seen}

module _ (t : SignTree) where
  abbrev told : List (Arc FullTree Global) → List Structure
  told fulls = map (λ (full : FullTree). view_in t full.graph) (map arc_value fulls)

  in_front : (a b : Option (Arc FullTree Global)) (xs ys : List (Arc FullTree Global)) → option_map (seen_in t) a ≡ option_map (seen_in t) b → told xs ≡ told ys → told (on_list a xs) ≡ told (on_list b ys)
  in_front None None xs ys e h = h
  in_front None (Some b) xs ys e h = absurd (cc)
  in_front (Some a) None xs ys e h = absurd (cc)
  in_front (Some a) (Some b) xs ys e h = let z : seen_in t a ≡ seen_in t b = cc in rw (z, h) refl

  pub same_seen : (p q : FullParts FullTree) → option_map (seen_in t) p.a ≡ option_map (seen_in t) q.a → option_map (seen_in t) p.b ≡ option_map (seen_in t) q.b →
      option_map (seen_in t) p.c ≡ option_map (seen_in t) q.c → option_map (seen_in t) p.d ≡ option_map (seen_in t) q.d → all_seen t p ≡ all_seen t q
  same_seen p q a b c d =
      in_front p.a q.a (on_list p.b (on_list p.c (on_list p.d []))) (on_list q.b (on_list q.c (on_list q.d []))) a
      (in_front p.b q.b (on_list p.c (on_list p.d [])) (on_list q.c (on_list q.d [])) b
      (in_front p.c q.c (on_list p.d []) (on_list q.d []) c
      (in_front p.d q.d [] [] d refl)))
