-- What the calls that parse a line rest on.
use Rattle.std.specs.Prelude.{ℕ, ◌≡◌, ◌<◌, ◌≤◌, ◌+◌, All, Some, List, [], ◌∷◌, ◌++◌, length, map}
use Rattle.std.proofs.Common.{take, get_or, sym, ◌∙◌, ap, subst, zero, suc, arith}
use Rattle.fs_model.specs.Claims.{IsOrder}
use Rattle.fs_model.specs.Closure.{AreConsistent, IsConsistent}
use Rattle.fs_model.specs.Sources.{Told}
use Rattle.fs_graph.specs.GraphMap.{GraphMap, reader_of}
use Rattle.fs_unify.specs.Rules.{Grammar, system_of}
use Rattle.chart_model.specs.declared.span.Span.{Span}
use Rattle.chart_model.specs.At.{At, here, there, at_found, to_get}
use Rattle.chart_core.specs.declared.Leaf.{Leaf}
use Rattle.chart_core.specs.declared.Limits.{Limits}
use Rattle.chart_core.specs.Leaves.{leaf_seen, LeafBelongs}
use Rattle.chart_core.proofs.Grows.{all_snoc}
use Rattle.derivation.specs.Trees.{Derivation, lexical}
use Rattle.tree_model.specs.Structures.{Structure}
use Rattle.tree_model.specs.Mothers.{RuleSystem, Meant, IsAbstract, Agrees}
use Rattle.tree_model.specs.Laws.{rules_full}
use Rattle.tree_model.specs.Views.{view, source_alone}
use Rattle.tree_model.specs.Signs.{Signs, rule_system}
use Rattle.tree_model.specs.Lexical.{Words}
use Rattle.tree_model.specs.Trees.{Full, full_lexical, full_phrase}
use Rattle.tree_model.specs.Items.{Answer}
use Rattle.tree_model.specs.Lattices.{Lattice}
use Rattle.tree_model.specs.Answers.{IsParseAnswer}
use Rattle.packed_items.specs.Packed.{Fit, IsFound}
use Rattle.packed_items.specs.Answers.{limits_in, answer_of}
use Rattle.packed_items.specs.declared.Found.{Found}
use Rattle.morph_analysis.proofs.Lists.{map_take_next, all_taken}
use Rattle.book_signs.specs.Trees.{SignTree, signs_of}
use Rattle.grammar_shapes.specs.declared.shapes.GrammarShapes.{GrammarShapes}
use Rattle.grammar_shapes.specs.Shaped.{Shape}
use Rattle.grammar_shapes.specs.Systems.{grammar_of, rules_of, meaning_of, Belongs, OwesBy}
use Rattle.grammar_shapes.specs.Ruled.{paths_in}
use Rattle.grammar_shapes.specs.Spanned.{span_calculus}
use Rattle.rule_trees.specs.Wholes.{wholes_of, IsLexicalAt, IsRuled}
use Rattle.rule_trees.specs.declared.bounded.BoundedGraph.{BoundedGraph}
use Rattle.rule_trees.specs.Mothers.{graph_view, view_in, IsShortIn, IsMade}
use Rattle.rule_trees.proofs.MakingLemmas.{inside}
use Rattle.rule_trees.proofs.OweLemmas.{full_owes}
use Rattle.lexical_items.specs.Fulls.{IsLexicalFull}
use Rattle.lexical_items.specs.Listed.{Lexeme, IsLexeme, AreLexemes, Trees, IsLexicalAnswer}
use Rattle.grammar_rules.specs.Leafed.{IsShapeOf}
use Rattle.grammar_rules.specs.Lined.{AreLined}
use Rattle.grammar_rules.specs.Lines.{AreShapesOf}
use Rattle.grammar_rules.proofs.Consistent.{alone_sound}
use Rattle.grammar_rules.proofs.Lined.{lined_more, line_fit, line_answer}

pub shape_sound : (t : SignTree) (s : GrammarShapes) (graph : GraphMap) → AreShapesOf t s → IsShortIn t graph → AreConsistent (signs_of t).system (Meant (rule_system (signs_of t)) (graph_view t graph)) → IsConsistent (system_of (grammar_of s)) (Told (source_alone (reader_of graph)))
shape_sound t s graph are short h = subst (λ (g : Grammar). IsConsistent (system_of g) (Told (source_alone (reader_of graph)))) (sym are.grammar) (alone_sound (signs_of t) (reader_of graph) (inside t graph short) h)

pub shape_owes : (t : SignTree) (s : GrammarShapes) (full : BoundedGraph) → AreShapesOf t s → IsMade (signs_of t) (view_in t full) →
    OwesBy (grammar_of s) (rules_of s) full.plain
shape_owes t s full are made =
    subst (λ (k : RuleSystem). OwesBy (grammar_of s) k full.plain) (sym are.rules)
    (subst (λ (g : Grammar). OwesBy g (rule_system (signs_of t)) full.plain) (sym are.grammar) (full_owes t full made))

pub shape_is : (t : SignTree) (s : GrammarShapes) (graph : GraphMap) (m : Structure) → AreShapesOf t s → IsAbstract (rules_of s) (Meant (rules_of s) (view (paths_in (grammar_of s)) (reader_of graph))) m → IsAbstract (rule_system (signs_of t)) (Meant (rule_system (signs_of t)) (graph_view t graph)) m
shape_is t s graph m are h =
    subst (λ (k : RuleSystem). IsAbstract k (Meant k (graph_view t graph)) m) are.rules
    (subst (λ (g : Grammar). IsAbstract (rules_of s) (Meant (rules_of s) (view (paths_in g) (reader_of graph))) m) are.grammar h)

-- one leaf more
pub leaf_lined : {X T W B : Type 0} (g : Signs) (meaning : T → Structure) (xs : List Lexeme) (old new : List (Leaf X T Span W B)) (x : Lexeme) (cover : Span) (shape : T) (name : ℕ) → new ≡ old ++ record { cover = cover; shape = shape; name = name } ∷ [] →
    cover ≡ record { from = x.from; to = x.to } → name ≡ length old → IsShapeOf g x (meaning shape) → AreLined g meaning xs old → AreLined g meaning (xs ++ x ∷ []) new
leaf_lined {X} {T} {W} {B} g meaning xs old new x cover shape name e c n is h =
    let leaf : Leaf X T Span W B = record { cover = cover; shape = shape; name = name } in
    let other : Leaf X T Span W B = record { cover = record { from = x.from; to = x.to }; shape = shape; name = length old } in
    let same : leaf ≡ other = (λ i. record { cover = c i; shape = shape; name = n i }) in
    subst (AreLined g meaning (xs ++ x ∷ [])) (sym (e ∙ ap (λ l. old ++ l ∷ []) same)) (lined_more g meaning xs old x shape h is)

pub all_more : {A : Type 0} (P : A → Type 0) (old new : List A) (x : A) → new ≡ old ++ x ∷ [] → P x → All P old → All P new
all_more P old new x e p h = subst (All P) (sym e) (all_snoc P old x h p)

pub all_at : {A : Type 0} (P : A → Type 0) (xs : List A) (i : ℕ) (x : A) → All P xs → i < length xs → x ≡ get_or xs i x → P x
all_at P xs i x all h e = subst P (sym e) (all i x h)

pub next_seen : {A : Type 0} (f : A → Lexeme) (P : List Lexeme → Type 0) (xs : List A) (i : ℕ) (x : A) → i < length xs → x ≡ get_or xs i x → P (map f (take i xs) ++ f x ∷ []) → P (map f (take (i + 1) xs))
next_seen f P xs i x h e p = subst P (sym (map_take_next f xs i x h e)) p

pub all_seen : {A : Type 0} (f : A → Lexeme) (P : List Lexeme → Type 0) (xs : List A) (i : ℕ) → length xs ≤ i → P (map f (take i xs)) → P (map f xs)
all_seen f P xs i h p = subst (λ ys. P (map f ys)) (all_taken xs i h) p

-- a line's leaves have full structures of lexical trees
full_lexeme : (g : Signs) {t : Derivation} {f : Structure} {entry : ℕ} {rules : List ℕ} {ws : List (List ℕ)} {n : ℕ × ℕ} → Full g t f → t ≡ lexical entry rules ws (Some n) → IsLexicalFull g f
full_lexeme g (full_lexical {entry = entry} {rules = rules} h) e = record { entry = entry; rules = rules; full = h }
full_lexeme g (full_phrase fs hs h) e = absurd (cc)

pub lexeme_lexical : (g : Signs) (words : Words) (lattice : Lattice) (most : ℕ) (x : Lexeme) → IsLexeme g words lattice most x → IsLexicalFull g x.full
lexeme_lexical g words lattice most x h = full_lexeme g h.full h.leaf.0.is

at_map : {A : Type 0} (f : A → Lexeme) (xs : List A) (i : ℕ) (d : A) → i < length xs → At (map f xs) i (f (get_or xs i d))
at_map f [] i d h = absurd (omega arith)
at_map f (x ∷ xs) zero d h = here
at_map f (x ∷ xs) (suc i) d h = there (at_map f xs i d (omega arith))

pub all_lexemes : {A : Type 0} (f : A → Lexeme) (g : Signs) (words : Words) (lattice : Lattice) (most : ℕ) (P : Lexeme → Type 0) (xs : List A) → ((x : Lexeme) → IsLexeme g words lattice most x → P x) → AreLexemes g words lattice most (map f xs) → All (λ a. P (f a)) xs
all_lexemes f g words lattice most P xs k are i d h = k (f (get_or xs i d)) (are.each i (f (get_or xs i d)) (at_map f xs i d h))

lexical_at : (g : Signs) (words : Words) (lattice : Lattice) (most : ℕ) (xs : List Lexeme) (n : ℕ) → AreLexemes g words lattice most xs → n < length xs → IsLexicalAt g xs n
lexical_at g words lattice most xs n are low =
    let x = at_found xs n low in
    let h = are.each n x.0 x.1 in
    record { lexeme = x.0; at = to_get x.1; full = lexeme_lexical g words lattice most x.0 h }

-- what is asked of a line's full structures, and what is found over its leaves, by the rules that the shapes are of
module _ {X T W B A : Type 0} (t : SignTree) (s : GrammarShapes) (are : AreShapesOf t s) (meaning : T → Structure) (words : Words) (lattice : Lattice) (limits : Limits) (o : IsOrder (signs_of t).system) (f : A → Lexeme) (trees : List A) (leaves : List (Leaf X T Span W B)) (known : IsLexicalAnswer (signs_of t) words lattice limits.lexical (Trees (map f trees))) (lined : AreLined (signs_of t) meaning (map f trees) leaves) (end : ℕ) (end_is : end ≡ lattice.end) where
  pub call_fit : Fit (span_calculus (rules_of s)) (rules_full (rules_of s)) (Agrees (rules_of s)) (wholes_of (signs_of t) (map f trees) end) (IsLexicalAt (signs_of t) (map f trees)) (IsRuled (signs_of t)) (map (leaf_seen meaning) leaves)
  call_fit =
      let h = line_fit (signs_of t) meaning words lattice limits o (map f trees) leaves known lined in
      subst (λ (k : RuleSystem). Fit (span_calculus k) (rules_full k) (Agrees k) (wholes_of (signs_of t) (map f trees) end) (IsLexicalAt (signs_of t) (map f trees)) (IsRuled (signs_of t)) (map (leaf_seen meaning) leaves)) (sym are.rules)
      (subst (λ e. Fit (span_calculus (rule_system (signs_of t))) (rules_full (rule_system (signs_of t))) (Agrees (rule_system (signs_of t))) (wholes_of (signs_of t) (map f trees) e) (IsLexicalAt (signs_of t) (map f trees)) (IsRuled (signs_of t)) (map (leaf_seen meaning) leaves)) (sym end_is)
      (record { agree = h.agree; apart = h.apart; names = λ l leaf a. lexical_at (signs_of t) words lattice limits.lexical (map f trees) leaf.name known.1 (h.names l leaf a); rules = h.rules }))

  pub call_answer : (found : Found) (a : Answer) → IsFound (span_calculus (rules_of s)) (rules_full (rules_of s)) (Agrees (rules_of s)) (wholes_of (signs_of t) (map f trees) end) limits (map (leaf_seen meaning) leaves) found → a ≡ answer_of found →
      IsParseAnswer (signs_of t) words lattice limits.lexical (limits_in limits) a
  call_answer found a h e =
      subst (IsParseAnswer (signs_of t) words lattice limits.lexical (limits_in limits)) (sym e)
      (line_answer (signs_of t) meaning words lattice limits o (map f trees) leaves known lined found
      (subst (λ k. IsFound (span_calculus (rule_system (signs_of t))) (rules_full (rule_system (signs_of t))) (Agrees (rule_system (signs_of t))) (wholes_of (signs_of t) (map f trees) k) limits (map (leaf_seen meaning) leaves) found) end_is
      (subst (λ (k : RuleSystem). IsFound (span_calculus k) (rules_full k) (Agrees k) (wholes_of (signs_of t) (map f trees) end) limits (map (leaf_seen meaning) leaves) found) are.rules h)))

-- The leaves over shapes are leaves over shapes that are these in contracts, of which more is remembered.
module _ (s r : GrammarShapes) (e : r ≡ s) where
  pub same_lined : {X W B : Type 0} (g : Signs) (xs : List Lexeme) (leaves : List (Leaf X Shape Span W B)) → AreLined g (meaning_of s) xs leaves → AreLined g (meaning_of r) xs leaves
  same_lined g xs leaves h = subst (λ k. AreLined g (meaning_of k) xs leaves) (sym e) h

  pub same_belong : {X W B : Type 0} (leaves : List (Leaf X Shape Span W B)) → All (LeafBelongs (span_calculus (rules_of s)) (Belongs s)) leaves → All (LeafBelongs (span_calculus (rules_of r)) (Belongs r)) leaves
  same_belong leaves h = subst (λ k. All (LeafBelongs (span_calculus (rules_of k)) (Belongs k)) leaves) (sym e) h
