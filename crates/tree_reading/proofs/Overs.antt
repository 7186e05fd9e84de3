-- Trees over a grammar, and their shapes.
use Rattle.std.proofs.Common.{◌≡◌, ℕ, suc, true, List, [], ◌∷◌, ◌++◌, Option, Some, refl, sym, ap, subst, ◌∙◌, append-nil, ◌<◌, inl, inr}
use Rattle.std.specs.List.{slice_get, All}
use Rattle.std.proofs.lemmas.List.Elements.{All-head, All-tail, All-push, All-nil}
use Rattle.derivation.specs.Trees.{Derivation, Daughters, lexical, phrase, no_more, first}
use Rattle.derivation.specs.Text.{name_of, text_of, daughters_text, under, node_text}
use Rattle.tree_reading.specs.declared.Part.TheVariants.{LexicalRule, PhraseRule}
use Rattle.tree_reading.specs.Grammars.{TreeGrammar, IsOver, AreOver, count_daughters}
use Rattle.tree_reading.specs.Inner.Shapes.{Shape, Shapes, leaf, node, none, more, count, text, texts, shape, shapes, wrapped, IsShape, AreShapes, IsLexical}
use Rattle.tree_reading.proofs.Framing.{lexical_shape}

wrapped_text : (names : List (List ℕ)) (rules : List ℕ) (s : Shape) → text (wrapped names rules s) ≡ under names rules (text s)
wrapped_text names [] s = refl
wrapped_text names (r ∷ rs) s =
    wrapped_text names rs (node (name_of names r) (more s none)) ∙ ap (λ t. under names rs (node_text names r t)) (append-nil (32 ∷ text s))

mutual
  pub text_is : (names : List (List ℕ)) (t : Derivation) → text (shape names t) ≡ text_of names true t
  text_is names (lexical e rules ws ns) = wrapped_text names rules (leaf (name_of names e) ws ns)
  text_is names (phrase r ds) = ap (node_text names r) (texts_are names ds)

  pub texts_are : (names : List (List ℕ)) (ds : Daughters) → texts (shapes names ds) ≡ daughters_text names true ds
  texts_are names no_more = refl
  texts_are names (first d ds) = ap (λ t. (32 ∷ t) ++ texts (shapes names ds)) (text_is names d) ∙ ap (λ t. (32 ∷ text_of names true d) ++ t) (texts_are names ds)

pub wrapped_lexical : (g : TreeGrammar) (rules : List ℕ) (s : Shape) → All (λ r. slice_get g.parts r ≡ Some LexicalRule) rules → IsLexical g s → IsLexical g (wrapped g.names rules s)
wrapped_lexical g [] s h is = is
wrapped_lexical g (r ∷ rs) s h is =
    wrapped_lexical g rs (node (name_of g.names r) (more s none)) (All-tail (λ r. slice_get g.parts r ≡ Some LexicalRule) r rs h)
    ((r, All-head (λ r. slice_get g.parts r ≡ Some LexicalRule) r rs h, refl), is)

pub lexical_over : (g : TreeGrammar) (e : ℕ) (rules : List ℕ) (ws : List (List ℕ)) (ns : Option (ℕ × ℕ)) → IsOver g (lexical e rules ws ns) → IsLexical g (shape g.names (lexical e rules ws ns))
lexical_over g e rules ws ns h = wrapped_lexical g rules (leaf (name_of g.names e) ws ns) h.1 ((e, h.0, refl), h.2, h.3)

pub count_shapes : (names : List (List ℕ)) (ds : Daughters) → count (shapes names ds) ≡ count_daughters ds
count_shapes names no_more = refl
count_shapes names (first d ds) = ap suc (count_shapes names ds)

mutual
  pub over_shape : (g : TreeGrammar) (t : Derivation) → IsOver g t → IsShape g (shape g.names t)
  over_shape g (lexical e rules ws ns) h = lexical_shape g (shape g.names (lexical e rules ws ns)) (lexical_over g e rules ws ns h)
  over_shape g (phrase r ds) h =
      inr ((r, h.0 ∙ ap (λ n. Some (PhraseRule n)) (sym (count_shapes g.names ds)), refl), subst (λ n. 0 < n) (sym (count_shapes g.names ds)) h.1, over_shapes g ds h.2)

  pub over_shapes : (g : TreeGrammar) (ds : Daughters) → AreOver g ds → AreShapes g (shapes g.names ds)
  over_shapes g no_more h = tt
  over_shapes g (first d ds) h = (over_shape g d h.0, over_shapes g ds h.1)

pub wrapped_last : (names : List (List ℕ)) (rules : List ℕ) (r : ℕ) (s : Shape) → wrapped names (rules ++ r ∷ []) s ≡ node (name_of names r) (more (wrapped names rules s) none)
wrapped_last names [] r s = refl
wrapped_last names (q ∷ qs) r s = wrapped_last names qs r (node (name_of names q) (more s none))

-- a lexical tree of a shape
record LexicalOf (g : TreeGrammar) (s : Shape) : Type 0 where
  entry : ℕ
  rules : List ℕ
  words : List (List ℕ)
  nodes : Option (ℕ × ℕ)
  over : IsOver g (lexical entry rules words nodes)
  is : shape g.names (lexical entry rules words nodes) ≡ s

lexical_of : (g : TreeGrammar) (s : Shape) → IsLexical g s → LexicalOf g s
lexical_of g (leaf n ws ns) h =
    record { entry = h.0.0; rules = []; words = ws; nodes = ns; over = (h.0.1, All-nil (λ r. slice_get g.parts r ≡ Some LexicalRule), h.1, h.2); is = ap (λ m. leaf m ws ns) h.0.2 }
lexical_of g (node n none) h = absurd h
lexical_of g (node n (more s none)) h =
    let k = lexical_of g s h.1 in
    record {
      entry = k.entry;
      rules = k.rules ++ h.0.0 ∷ [];
      words = k.words;
      nodes = k.nodes;
      over = (k.over.0, All-push (λ r. slice_get g.parts r ≡ Some LexicalRule) k.rules h.0.0 k.over.1 h.0.1, k.over.2, k.over.3);
      is = wrapped_last g.names k.rules h.0.0 (leaf (name_of g.names k.entry) k.words k.nodes) ∙ ap (λ t. node (name_of g.names h.0.0) (more t none)) k.is ∙ ap (λ m. node m (more s none)) h.0.2;
    }
lexical_of g (node n (more s (more t ss))) h = absurd h

pub record TreeOf (g : TreeGrammar) (s : Shape) : Type 0 where
  pub tree : Derivation
  pub over : IsOver g tree
  pub is : shape g.names tree ≡ s

record TreesOf (g : TreeGrammar) (ss : Shapes) : Type 0 where
  trees : Daughters
  over : AreOver g trees
  is : shapes g.names trees ≡ ss

as_tree : (g : TreeGrammar) (s : Shape) → LexicalOf g s → TreeOf g s
as_tree g s k = record { tree = lexical k.entry k.rules k.words k.nodes; over = k.over; is = k.is }

mutual
  pub tree_of_shape : (g : TreeGrammar) (s : Shape) → IsShape g s → TreeOf g s
  tree_of_shape g (leaf n ws ns) h = as_tree g (leaf n ws ns) (lexical_of g (leaf n ws ns) h)
  tree_of_shape g (node n ss) (inl h) = as_tree g (node n ss) (lexical_of g (node n ss) h)
  tree_of_shape g (node n ss) (inr h) =
      let k = trees_of_shapes g ss h.2 in
      let size : count ss ≡ count_daughters k.trees = ap count (sym k.is) ∙ count_shapes g.names k.trees in
      record {
        tree = phrase h.0.0 k.trees;
        over = (h.0.1 ∙ ap (λ n. Some (PhraseRule n)) size, subst (λ n. 0 < n) size h.1, k.over);
        is = ap (λ m. node m (shapes g.names k.trees)) h.0.2 ∙ ap (λ ts. node n ts) k.is;
      }

  trees_of_shapes : (g : TreeGrammar) (ss : Shapes) → AreShapes g ss → TreesOf g ss
  trees_of_shapes g none h = record { trees = no_more; over = tt; is = refl }
  trees_of_shapes g (more s ss) h =
      let a = tree_of_shape g s h.0 in
      let b = trees_of_shapes g ss h.1 in
      record { trees = first a.tree b.trees; over = (a.over, b.over); is = ap (λ t. more t (shapes g.names b.trees)) a.is ∙ ap (λ ts. more s ts) b.is }
