-- The same leaves over other shapes, and as the leaves of a line.
use Rattle.std.specs.Prelude.{ℕ, ◌≡◌, ◌<◌, List, [], ◌∷◌, All, map}
use Rattle.std.proofs.Common.{◌∙◌, refl, ap, sym, subst}
use Rattle.std.proofs.lemmas.List.{get_or-map, length-map}
use Rattle.std.proofs.lemmas.List.Elements.{All-map}
use Rattle.chart_model.specs.Calculus.{Calculus, along_none, along_more}
use Rattle.chart_model.specs.Chart as model
use Rattle.chart_core.specs.declared.Leaf.{Leaf}
use Rattle.chart_core.specs.Leaves.{leaf_seen, LeafBelongs}
use Rattle.chart_model.specs.declared.span.Span.{Span}
use Rattle.chart_model.specs.At.{At}
use Rattle.chart_model.specs.Limits.{LimitAnswer, IsLimitAnswer}
use Rattle.derivation.specs.Trees.{Derivation}
use Rattle.derivation.specs.Views.{derivation_of}
use Rattle.tree_model.specs.Structures.{Structure}
use Rattle.tree_model.specs.Mothers.{RuleSystem}
use Rattle.tree_model.specs.Signs.{Signs, rule_system}
use Rattle.tree_model.specs.Items.{LeafTree, leaves_from}
use Rattle.book_signs.specs.Trees.{SignTree, signs_of}
use Rattle.grammar_shapes.specs.declared.shapes.GrammarShapes.{GrammarShapes}
use Rattle.grammar_shapes.specs.Shaped.{Shape}
use Rattle.grammar_shapes.specs.Spanned.{span_calculus}
use Rattle.grammar_shapes.specs.Systems.{rules_of, meaning_of, Belongs}
use Rattle.lexical_items.specs.declared.lexeme.LexTree.{LexTree}
use Rattle.lexical_items.specs.Listed.{Lexeme}
use Rattle.lexical_items.specs.Views.{lexeme_seen}
use Rattle.grammar_rules.specs.Leafed.{leaf_trees, AreShapes}
use Rattle.grammar_rules.specs.Lined.{AreLined, shapes_in}
use Rattle.grammar_rules.specs.Lines.{AreShapesOf}
use Rattle.line_charts.specs.Inner.Stages.{AreApart}
use Rattle.line_charts.specs.Inner.Hosts.{trees_in, IsPackedChart}
use Rattle.line_charts.specs.declared.packing.Packed.{Packed}
use Rattle.line_charts.proofs.Lists.{at_map, map_at}

pub same_map : {A : Type 0} (xs : List A) → map (λ y. y) xs ≡ xs
same_map [] = refl
same_map (x ∷ xs) = ap (λ ys. x ∷ ys) (same_map xs)

unmapped : {A B : Type 0} (P : B → Type 0) (f : A → B) (xs : List A) → All P (map f xs) → All (λ x. P (f x)) xs
unmapped P f xs h = λ k d lt. subst P (get_or-map f xs k d (f d) lt) (h k (f d) (subst (λ n. k < n) (sym (length-map xs f)) lt))

-- a leaf whose shape is read as what it stands for
abbrev read : {T C M : Type 0} → (T → M) → model.Leaf T C → model.Leaf M C
read meaning leaf = record { cover = leaf.cover; shape = meaning leaf.shape; name = leaf.name }

reads : {X T C W B M : Type 0} (meaning : T → M) (xs : List (Leaf X T C W B)) → map (leaf_seen meaning) xs ≡ map (read meaning) (map (leaf_seen (λ s. s)) xs)
reads meaning [] = refl
reads meaning (x ∷ xs) = ap (λ ys. leaf_seen meaning x ∷ ys) (reads meaning xs)

-- leaves that are the same by their covers, shapes and names
module _ {X Y T C W V B D : Type 0} (xs : List (Leaf X T C W B)) (ys : List (Leaf Y T C V D)) (e : map (leaf_seen (λ s. s)) xs ≡ map (leaf_seen (λ s. s)) ys) where
  pub same_seen : {M : Type 0} (meaning : T → M) → map (leaf_seen meaning) xs ≡ map (leaf_seen meaning) ys
  same_seen meaning = reads meaning xs ∙ ap (map (read meaning)) e ∙ sym (reads meaning ys)

  pub same_belong : {M : Type 0} (k : Calculus M C) (belongs : T → Type 0) → All (LeafBelongs k belongs) ys → All (LeafBelongs k belongs) xs
  same_belong k belongs h =
      let P : model.Leaf T C → Type 0 = λ l. belongs l.shape × k.proper l.cover in
      unmapped P (leaf_seen (λ s. s)) xs (subst (All P) (sym e) (All-map P (leaf_seen (λ s. s)) ys h))

-- the trees of leaves are those of the lexical trees
mapped_trees : {T : Type 0} (value : T → Structure) (trees : List (LexTree T)) → trees_in trees ≡ map (λ (x : Lexeme). x.tree) (map (lexeme_seen value) trees)
mapped_trees value [] = refl
mapped_trees value (x ∷ xs) = ap (λ ts. derivation_of x.tree ∷ ts) (mapped_trees value xs)

leaf_trees_are : (g : Signs) (xs : List Lexeme) (ms : List Structure) → AreShapes g xs ms → map (λ (l : LeafTree Span). l.tree) (leaf_trees xs ms) ≡ map (λ (x : Lexeme). x.tree) xs
leaf_trees_are g _ _ along_none = refl
leaf_trees_are g _ _ (along_more {x = x} r rs) = ap (λ ts. x.tree ∷ ts) (leaf_trees_are g _ _ rs)

pub line_trees : {T : Type 0} (g : Signs) (value : T → Structure) (trees : List (LexTree T)) (ms : List Structure) → AreShapes g (map (lexeme_seen value) trees) ms → trees_in trees ≡ map (λ (l : LeafTree Span). l.tree) (leaf_trees (map (lexeme_seen value) trees) ms)
line_trees g value trees ms h = mapped_trees value trees ∙ sym (leaf_trees_are g (map (lexeme_seen value) trees) ms h)

-- lexical trees are told apart by their trees
pub trees_apart : {T : Type 0} (value : T → Structure) (trees : List (LexTree T)) → ((n m : ℕ) (x y : Lexeme) → At (map (lexeme_seen value) trees) n x → At (map (lexeme_seen value) trees) m y → x.tree ≡ y.tree → n ≡ m) → AreApart (λ (t : Derivation). t) (trees_in trees)
trees_apart value trees once i j t u a b e =
    let x = map_at (λ (x : LexTree _). derivation_of x.tree) trees i t a in
    let y = map_at (λ (x : LexTree _). derivation_of x.tree) trees j u b in
    once i j (lexeme_seen value x.0) (lexeme_seen value y.0) (at_map (lexeme_seen value) x.1) (at_map (lexeme_seen value) y.1) (x.2 ∙ e ∙ sym y.2)

-- the leaves over other shapes are those of the lexical trees
module _ {X Y W V B D : Type 0} (t : SignTree) (s : GrammarShapes) (over : List (Leaf X Shape Span W B)) (leaves : List (Leaf Y Shape Span V D)) (e : map (leaf_seen (λ s. s)) over ≡ map (leaf_seen (λ s. s)) leaves) (xs : List Lexeme)
    (lined : AreLined (signs_of t) (meaning_of s) xs leaves) (limits : model.Limits) where
  abbrev line_leaves : List (LeafTree Span)
  line_leaves = leaf_trees xs (shapes_in (signs_of t) (meaning_of s) leaves)

  over_leaves : map (leaf_seen (meaning_of s)) over ≡ leaves_from 0 line_leaves
  over_leaves = same_seen over leaves e (meaning_of s) ∙ lined.seen

  pub over_packed : {X W B : Type 0} (p : Packed X Shape Span W B) → IsPackedChart (span_calculus (rules_of s)) (meaning_of s) (Belongs s) limits (map (leaf_seen (meaning_of s)) over) p →
      IsPackedChart (span_calculus (rules_of s)) (meaning_of s) (Belongs s) limits (leaves_from 0 line_leaves) p
  over_packed p h = subst (λ ls. IsPackedChart (span_calculus (rules_of s)) (meaning_of s) (Belongs s) limits ls p) over_leaves h

  pub over_answer : AreShapesOf t s → (a : LimitAnswer) → IsLimitAnswer (span_calculus (rules_of s)) limits (map (leaf_seen (meaning_of s)) over) a → IsLimitAnswer (span_calculus (rule_system (signs_of t))) limits (leaves_from 0 line_leaves) a
  over_answer are a h =
      subst (λ (r : RuleSystem). IsLimitAnswer (span_calculus r) limits (leaves_from 0 line_leaves) a) are.rules (subst (λ ls. IsLimitAnswer (span_calculus (rules_of s)) limits ls a) over_leaves h)
