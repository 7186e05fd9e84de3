-- Leaves of a chart, one lexical tree after another, and what is found over them.
use Rattle.std.specs.Prelude.{ℕ, ◌≡◌, ◌<◌, ◌+◌, List, [], ◌∷◌, ◌++◌, length, map}
use Rattle.std.proofs.Common.{refl, sym, ◌∙◌, ap, subst, suc, arith}
use Rattle.fs_model.specs.Claims.{IsOrder}
use Rattle.chart_model.specs.Calculus.{Along, along_none, along_more}
use Rattle.chart_model.specs.declared.span.Span.{Span}
use Rattle.chart_model.specs.Chart as chart
use Rattle.chart_core.specs.declared.Leaf.{Leaf}
use Rattle.chart_core.specs.declared.Limits.{Limits}
use Rattle.chart_core.specs.Leaves.{leaf_seen}
use Rattle.tree_model.specs.Structures.{Structure}
use Rattle.tree_model.specs.Mothers.{Agrees}
use Rattle.tree_model.specs.Laws.{rules_full}
use Rattle.tree_model.specs.Signs.{Signs, rule_system}
use Rattle.tree_model.specs.Lexical.{Words}
use Rattle.tree_model.specs.Items.{LeafTree, leaves_from}
use Rattle.tree_model.specs.Lattices.{Lattice}
use Rattle.tree_model.specs.Answers.{IsParseAnswer}
use Rattle.packed_items.specs.Packed.{Fit, IsFound}
use Rattle.packed_items.specs.Answers.{limits_in, answer_of}
use Rattle.packed_items.specs.declared.Found.{Found}
use Rattle.lexical_items.specs.Listed.{Lexeme, Trees, IsLexicalAnswer}
use Rattle.rule_trees.specs.Wholes.{wholes_of, IsRuled}
use Rattle.grammar_rules.specs.Leafed.{leaf_of, leaf_trees, IsShapeOf, AreShapes}
use Rattle.grammar_rules.specs.Laws.{span_rules}
use Rattle.grammar_rules.specs.Lined.{shapes_in, AreLined}
use Rattle.grammar_rules.proofs.Leafed.{lexemes_are_leaves}
use Rattle.grammar_rules.proofs.Found.{fulls_fit, lines_answered}
use Rattle.grammar_rules.proofs.Wholes.{wholes_same}

map_snoc : {A B : Type 0} (f : A → B) (xs : List A) (x : A) → map f (xs ++ x ∷ []) ≡ map f xs ++ f x ∷ []
map_snoc f [] x = refl
map_snoc f (y ∷ xs) x = ap (λ ys. f y ∷ ys) (map_snoc f xs x)

along_snoc : {A B : Type 0} {R : A → B → Type 0} {xs : List A} {ys : List B} {x : A} {y : B} → Along R xs ys → R x y → Along R (xs ++ x ∷ []) (ys ++ y ∷ [])
along_snoc along_none r = along_more r along_none
along_snoc (along_more s more) r = along_more s (along_snoc more r)

pub map_length : {A B : Type 0} (f : A → B) (xs : List A) → length (map f xs) ≡ length xs
map_length f [] = refl
map_length f (x ∷ xs) = ap suc (map_length f xs)

module _ (g : Signs) where
  trees_snoc : {xs : List Lexeme} {ms : List Structure} (x : Lexeme) (m : Structure) → AreShapes g xs ms → leaf_trees (xs ++ x ∷ []) (ms ++ m ∷ []) ≡ leaf_trees xs ms ++ leaf_of x m ∷ []
  trees_snoc x m along_none = refl
  trees_snoc x m (along_more {x = y} {y = n} s more) = ap (λ ls. leaf_of y n ∷ ls) (trees_snoc x m more)

  pub trees_length : {xs : List Lexeme} {ms : List Structure} → AreShapes g xs ms → length (leaf_trees xs ms) ≡ length xs
  trees_length along_none = refl
  trees_length (along_more s more) = ap suc (trees_length more)

leaves_snoc : {C : Type 0} (k : ℕ) (ls : List (LeafTree C)) (l : LeafTree C) → leaves_from k (ls ++ l ∷ []) ≡ leaves_from k ls ++ record { cover = l.cover; shape = l.shape; name = k + length ls } ∷ []
leaves_snoc {C} k [] l = ap (λ n. let z : chart.Leaf Structure C = record { cover = l.cover; shape = l.shape; name = n } in z ∷ []) (let e : k ≡ k + 0 = omega arith in e)
leaves_snoc {C} k (x ∷ ls) l =
    ap (λ zs. let z : chart.Leaf Structure C = record { cover = x.cover; shape = x.shape; name = k } in z ∷ zs)
    (leaves_snoc (k + 1) ls l ∙ ap (λ n. let z : chart.Leaf Structure C = record { cover = l.cover; shape = l.shape; name = n } in leaves_from (k + 1) ls ++ z ∷ []) (let e : k + 1 + length ls ≡ k + suc (length ls) = omega arith in e))

module _ {X T W B : Type 0} (g : Signs) (meaning : T → Structure) where
  pub lined_none : AreLined {X = X} {W = W} {B = B} g meaning [] []
  lined_none = record { shaped = along_none; seen = refl }

  -- one lexical tree more, named by its number
  pub lined_more : (xs : List Lexeme) (leaves : List (Leaf X T Span W B)) (x : Lexeme) (shape : T) → AreLined g meaning xs leaves → IsShapeOf g x (meaning shape) →
      AreLined g meaning (xs ++ x ∷ []) (leaves ++ record { cover = record { from = x.from; to = x.to }; shape = shape; name = length leaves } ∷ [])
  lined_more xs leaves x shape h is =
      let leaf : Leaf X T Span W B = record { cover = record { from = x.from; to = x.to }; shape = shape; name = length leaves } in
      let ms = shapes_in g meaning leaves in
      let more : shapes_in g meaning (leaves ++ leaf ∷ []) ≡ ms ++ meaning shape ∷ [] = map_snoc (λ (l : Leaf X T Span W B). meaning l.shape) leaves leaf in
      let size : length (leaf_trees xs ms) ≡ length leaves = trees_length g h.shaped ∙ along_length h.shaped ∙ map_length (λ (l : Leaf X T Span W B). meaning l.shape) leaves in
      record {
        shaped = subst (AreShapes g (xs ++ x ∷ [])) (sym more) (along_snoc h.shaped is);
        seen =
            map_snoc (leaf_seen meaning) leaves leaf
            ∙ ap (λ zs. zs ++ leaf_seen meaning leaf ∷ []) h.seen
            ∙ ap (λ n. let z : chart.Leaf Structure Span = record { cover = record { from = x.from; to = x.to }; shape = meaning shape; name = n } in leaves_from 0 (leaf_trees xs ms) ++ z ∷ []) (let e : length leaves ≡ 0 + length (leaf_trees xs ms) = omega (arith, size) in e)
            ∙ sym (ap (λ ns. leaves_from 0 (leaf_trees (xs ++ x ∷ []) ns)) more ∙ ap (leaves_from 0) (trees_snoc g x (meaning shape) h.shaped) ∙ leaves_snoc 0 (leaf_trees xs ms) (leaf_of x (meaning shape)));
      }
    where
      along_length : {A C : Type 0} {R : A → C → Type 0} {ys : List A} {zs : List C} → Along R ys zs → length ys ≡ length zs
      along_length along_none = refl
      along_length (along_more r more) = ap suc (along_length more)

  module _ (words : Words) (lattice : Lattice) (limits : Limits) (o : IsOrder g.system) (xs : List Lexeme) (leaves : List (Leaf X T Span W B)) (known : IsLexicalAnswer g words lattice limits.lexical (Trees xs)) (lined : AreLined g meaning xs leaves) where
    -- the full structures over a line's lexical trees fit its leaves
    pub line_fit : Fit (span_rules g) (rules_full (rule_system g)) (Agrees (rule_system g)) (wholes_of g xs lattice.end) (λ n. n < length xs) (IsRuled g) (map (leaf_seen meaning) leaves)
    line_fit =
        let ms = shapes_in g meaning leaves in
        let f = fulls_fit g words lattice limits.lexical limits (leaf_trees xs ms) o (lexemes_are_leaves g words lattice limits.lexical xs ms known.1 lined.shaped) in
        let h = subst (λ w. Fit (span_rules g) (rules_full (rule_system g)) (Agrees (rule_system g)) w (λ n. n < length (leaf_trees xs ms)) (IsRuled g) (leaves_from 0 (leaf_trees xs ms))) (wholes_same g words lattice limits.lexical (limits_in limits) lined.shaped) f in
        subst (Fit (span_rules g) (rules_full (rule_system g)) (Agrees (rule_system g)) (wholes_of g xs lattice.end) (λ n. n < length xs) (IsRuled g)) (sym lined.seen)
        (record { agree = h.agree; apart = h.apart; names = λ l leaf a. subst (λ k. leaf.name < k) (trees_length g lined.shaped) (h.names l leaf a); rules = h.rules })

    -- and what is found over them is the answer to the line
    pub line_answer : (found : Found) → IsFound (span_rules g) (rules_full (rule_system g)) (Agrees (rule_system g)) (wholes_of g xs lattice.end) limits (map (leaf_seen meaning) leaves) found →
        IsParseAnswer g words lattice limits.lexical (limits_in limits) (answer_of found)
    line_answer found f =
        let ms = shapes_in g meaning leaves in
        let h = subst (λ ls. IsFound (span_rules g) (rules_full (rule_system g)) (Agrees (rule_system g)) (wholes_of g xs lattice.end) limits ls found) lined.seen f in
        let k = subst (λ w. IsFound (span_rules g) (rules_full (rule_system g)) (Agrees (rule_system g)) w limits (leaves_from 0 (leaf_trees xs ms)) found) (sym (wholes_same g words lattice limits.lexical (limits_in limits) lined.shaped)) h in
        lines_answered g words lattice limits (Trees xs) ms found (answer_of found) o known (lined.shaped, k, refl)
