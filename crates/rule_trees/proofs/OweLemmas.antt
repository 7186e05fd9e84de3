-- Full structures that are made owe only facts that speak of daughters.
use Rattle.std.proofs.Common.{ℕ, zero, suc, ◌≡◌, ◌<◌, List, [], ◌∷◌, length, map, Option, Some, None, sym, subst, arith}
use Rattle.std.specs.Prelude.{All, slice_get}
use Rattle.std.proofs.lemmas.List.Elements.{All-head, All-tail, All-nil, All-cons}
use Rattle.fs_graph.specs.GraphMap.{GraphMap, reader_of}
use Rattle.fs_trim.proofs.OweLemmas.{fulls_owe, closures_owe}
use Rattle.tree_model.specs.Structures.{Structure}
use Rattle.tree_model.specs.Mothers.{Rule, IsFullAt}
use Rattle.fs_trim.specs.Cutting.{owed_of}
use Rattle.tree_model.specs.Signs.{Signs, rule_system}
use Rattle.tree_model.specs.Lexical.{FullUnder, under_none, under_next}
use Rattle.lexical_items.specs.Fulls.{IsLexicalFull}
use Rattle.lexical_items.specs.Listed.{Lexeme}
use Rattle.forest_unpack.specs.Reached.{IsReached, reached_leaf, reached_phrase}
use Rattle.book_signs.specs.Trees.{SignTree, signs_of}
use Rattle.rule_trees.specs.declared.bounded.BoundedGraph.{BoundedGraph}
use Rattle.rule_trees.specs.Mothers.{graph_view, view_in, IsShortIn, IsMade, made_entry, made_mother}
use Rattle.rule_trees.specs.Wholes.{wholes_of, full_named, IsLexicalAt}
use Rattle.rule_trees.specs.Inner.Owing.{OwesDaughters}
use Rattle.rule_trees.proofs.MakingLemmas.{inside}
use Rattle.rule_trees.proofs.BoundLemmas.{made_short, made_seen}

-- a graph of such a structure
pub made_owes : (t : SignTree) (graph : GraphMap) → IsShortIn t graph → IsMade (signs_of t) (graph_view t graph) → OwesDaughters t graph
made_owes t graph short (made_entry entry is) =
    let g = rule_system (signs_of t) in
    closures_owe g is.instance.rule.facts (reader_of graph) (owed_of g.daughters) (inside t graph short) is.structure
made_owes t graph short (made_mother rule fs is) = fulls_owe (rule_system (signs_of t)) rule fs (reader_of graph) (inside t graph short) is

pub full_owes : (t : SignTree) (x : BoundedGraph) → IsMade (signs_of t) (view_in t x) → OwesDaughters t x.plain
full_owes t x is = made_owes t x.plain (made_short t x is) (subst (IsMade (signs_of t)) (made_seen t x is) is)

-- all of some structures
pub all_owe : {T : Type 0} (t : SignTree) (graph : T → BoundedGraph) (fulls : List T) → All (λ f. IsMade (signs_of t) (view_in t (graph f))) fulls → All (OwesDaughters t) (map (λ f. (graph f).plain) fulls)
all_owe t graph [] made = All-nil (OwesDaughters t)
all_owe t graph (f ∷ fs) made =
    All-cons (OwesDaughters t) (graph f).plain (map (λ f. (graph f).plain) fs)
    (full_owes t (graph f) (All-head (λ f. IsMade (signs_of t) (view_in t (graph f))) f fs made))
    (all_owe t graph fs (All-tail (λ f. IsMade (signs_of t) (view_in t (graph f))) f fs made))

pub one_owes : (t : SignTree) (graph : GraphMap) → OwesDaughters t graph → All (OwesDaughters t) (graph ∷ [])
one_owes t graph is = All-cons (OwesDaughters t) graph [] is (All-nil (OwesDaughters t))

module _ (g : Signs) where
  under_made : {d f : Structure} {rules : List ℕ} → FullUnder g d rules f → IsMade g d → IsMade g f
  under_made under_none is = is
  under_made (under_next one more) is = under_made more (made_mother one.instance.rule _ one.full)

  -- the full structure of a lexical tree is made
  pub lexical_made : (f : Structure) → IsLexicalFull g f → IsMade g f
  lexical_made f is = under_made is.full.2 (made_entry is.entry is.full.1)

  phrase_made : (o : Option Rule) (fs : List Structure) (f : Structure) → IsFullAt (rule_system g) o fs f → IsMade g f
  phrase_made None fs f is = absurd is
  phrase_made (Some rule) fs f is = made_mother rule fs is

  -- and so is each that is reached over a line's lexical trees
  pub reached_made : (leaves : List Lexeme) (end : ℕ) (f : Structure) → IsReached (wholes_of g leaves end) (IsLexicalAt g leaves) f → IsMade g f
  reached_made leaves end _ (reached_leaf name is) = subst (λ o. IsMade g (full_named o)) (sym is.at) (lexical_made is.lexeme.full is.full)
  reached_made leaves end _ (reached_phrase rule fs f is) = phrase_made (slice_get (rule_system g).rules rule) fs f is

-- the same of all parts
pub parts_made : {T : Type 0} (g : Signs) (leaves : List Lexeme) (end : ℕ) (value : T → Structure) (parts : List T) → All (IsReached (wholes_of g leaves end) (IsLexicalAt g leaves)) (map value parts) → All (λ f. IsMade g (value f)) parts
parts_made g leaves end value [] all = All-nil (λ f. IsMade g (value f))
parts_made g leaves end value (x ∷ xs) all =
    let R = IsReached (wholes_of g leaves end) (IsLexicalAt g leaves) in
    All-cons (λ f. IsMade g (value f)) x xs (reached_made g leaves end (value x) (All-head R (value x) (map value xs) all)) (parts_made g leaves end value xs (All-tail R (value x) (map value xs) all))

-- a leaf's name is its place
pub named_below : {A : Type 0} (g : Signs) (f : A → Lexeme) (xs : List A) (name : ℕ) → IsLexicalAt g (map f xs) name → name < length xs
named_below {A} g f xs name is = below xs name is.lexeme is.at
  where
    below : (xs : List A) (n : ℕ) (x : Lexeme) → slice_get (map f xs) n ≡ Some x → n < length xs
    below [] n x e = absurd (cc)
    below (y ∷ xs) zero x e = omega arith
    below (y ∷ xs) (suc n) x e = let low = below xs n x e in omega (arith, low)
