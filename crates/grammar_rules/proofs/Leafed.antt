-- Lexical trees as leaves.
use Rattle.std.specs.Prelude.{ℕ, ◌≡◌, List}
use Rattle.std.proofs.Common.{refl, sym, ◌∙◌, ap, subst}
use Rattle.chart_model.specs.Calculus.{along_none, along_more}
use Rattle.chart_model.specs.declared.span.Span.{Span}
use Rattle.chart_model.specs.At.{At, here, there}
use Rattle.tree_model.specs.Structures.{Structure}
use Rattle.tree_model.specs.Signs.{Signs}
use Rattle.tree_model.specs.Items.{LeafTree, IsLeafTree}
use Rattle.tree_model.specs.Licensed.{parse_item}
use Rattle.lexical_items.specs.Listed.{Lexeme}
use Rattle.grammar_rules.specs.Leafed.{leaf_of, leaf_trees, IsShapeOf, AreShapes}
use Rattle.grammar_rules.specs.Laws.{LexemesAreLeaves}

module _ (g : Signs) where
  -- a leaf comes from a lexical tree
  record Comes (xs : List Lexeme) (n : ℕ) (l : LeafTree Span) : Type 0 where
    lexeme : Lexeme
    shape : Structure
    at : At xs n lexeme
    shaped : IsShapeOf g lexeme shape
    is : leaf_of lexeme shape ≡ l

  comes : {xs : List Lexeme} {ms : List Structure} {n : ℕ} {l : LeafTree Span} → AreShapes g xs ms → At (leaf_trees xs ms) n l → Comes xs n l
  comes along_none a = elim a [ ]
  comes (along_more {x = x} {y = m} s more) here = record { lexeme = x; shape = m; at = here; shaped = s; is = refl }
  comes (along_more s more) (there a) = let r = comes more a in record { lexeme = r.lexeme; shape = r.shape; at = there r.at; shaped = r.shaped; is = r.is }

  -- and each lexical tree is one
  leaf_at : {xs : List Lexeme} {ms : List Structure} {n : ℕ} {x : Lexeme} → AreShapes g xs ms → At xs n x → (l : LeafTree Span) × At (leaf_trees xs ms) n l × (l.tree ≡ x.tree)
  leaf_at along_none a = elim a [ ]
  leaf_at (along_more {x = x} {y = m} s more) here = (leaf_of x m, here, refl)
  leaf_at (along_more s more) (there a) = let r = leaf_at more a in (r.0, there r.1, r.2)

pub lexemes_are_leaves : LexemesAreLeaves
lexemes_are_leaves g words lattice most xs ms are shaped = record {
  each = λ n l a.
      let r = comes g shaped a in
      let x = are.each n r.lexeme r.at in
      subst (IsLeafTree g (parse_item g words lattice most)) r.is (record { leaf = x.leaf; covered = x.lies; full = x.full; abstract = r.shaped });
  all = λ t leaf.
      let r = are.all t leaf in
      let l = leaf_at g shaped r.2 in
      (r.0, l.0, l.1, l.2 ∙ r.3);
  once = λ n m l k a b e.
      let x = comes g shaped a in
      let y = comes g shaped b in
      are.once n m x.lexeme y.lexeme x.at y.at (ap (λ (z : LeafTree Span). z.tree) x.is ∙ e ∙ ap (λ (z : LeafTree Span). z.tree) (sym y.is));
}
