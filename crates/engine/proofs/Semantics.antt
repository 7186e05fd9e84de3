-- Where MRSs stand by a grammar's settings, in structures of its signs.
use Rattle.std.proofs.Common.{◌≡◌, ◌∙◌, List, length, sym, subst}
use Rattle.std.specs.Prelude.{String}
use Rattle.std.specs.Global.{Global}
use Rattle.type_hierarchy.specs.Decls.{texts}
use Rattle.type_hierarchy.specs.Table.{TypeTable}
use Rattle.constraint_expand.specs.declared.books.Book.{Book}
use Rattle.book_signs.specs.Trees.{SignTree}
use Rattle.grammar_load.specs.Loaded.{GrammarTree}
use Rattle.mrs_lines.specs.Fitting.{mrs_paths_of, IsWellNamed}
use Rattle.mrs_places.specs.Paths.{Paths}
use Rattle.mrs_places.specs.Settled.{paths_said}
use Rattle.mrs_extract.specs.Asked.{ArePaths}
use Rattle.mrs_lines.specs.Lines.{Semantics}
use Rattle.engine.specs.Semantic.{ArePathsOf}

-- by the types and features that the grammar has
pub said-here : (g : GrammarTree) (types : TypeTable) (feats : List (String Global)) (p : Paths) → p ≡ paths_said types (texts feats) g.settings → types ≡ g.book.system.types → feats ≡ g.book.feats.items → p ≡ mrs_paths_of g
said-here g types feats p e t f = e ∙ (λ i. paths_said (t i) (texts (f i)) g.settings)

module _ (t : SignTree) (g : GrammarTree) (p : Paths) (book : t.book ≡ g.book) (said : p ≡ mrs_paths_of g) where
  pub paths-fit : IsWellNamed g → ArePathsOf t p
  paths-fit h = record {
    are = subst (λ (b : Book). ArePaths b.system.types p) (sym book) (subst (ArePaths g.book.system.types) (sym said) h.are);
    feats = subst (λ (b : Book). length p.feats ≡ length b.system.introducers) (sym book) (subst (λ (q : Paths). length q.feats ≡ length g.book.system.introducers) (sym said) h.feats);
  }

  pub semantics-are : ◌≡◌ {A = Semantics} (record { types = t.book.system.types; paths = p }) (record { types = g.book.system.types; paths = mrs_paths_of g })
  semantics-are = λ k. record { types = (book k).system.types; paths = said k }
