-- What is told of trees by an engine that is ready, in the names of its grammar; and its lines.
use Rattle.std.proofs.Common.{ℕ, ◌≡◌, ◌∷◌, [], ◌&&◌, List, Bool, true, false, length, refl, sym, subst}
use Rattle.std.specs.Prelude.{not}
use Rattle.constraint_expand.specs.declared.books.Book.{Book}
use Rattle.derivation.specs.Trees.{Derivation}
use Rattle.tree_model.specs.Structures.{Structure}
use Rattle.tree_model.specs.Trees.{Full}
use Rattle.book_signs.specs.Trees.{signs_of}
use Rattle.tree_faults.specs.Explained.{Explained, Licensed, Clashes, GoesTooFar, Misspelled, Unrooted}
use Rattle.tree_faults.specs.Views.{IsExplainedNamed}
use Rattle.std.specs.Str.{IsUtf8}
use Rattle.tree_faults.specs.Texts.{is_refused, no_tree_line}
use Rattle.tree_faults.specs.Lines.{NoTree, Tree, IsNoTree, no_tree, a_tree}
use Rattle.tree_reading.specs.Texts.{IsTreeOf}
use Rattle.mrs_lines.specs.Lines.{IsMrsLine}
use Rattle.engine.specs.Ready.{IsReady}
use Rattle.engine.specs.Speeches.{Speech}
use Rattle.engine.specs.Views.{speech_of}
use Rattle.line_commands.specs.Explaining.{IsFollowedBy}
use Rattle.line_commands.specs.Inner.Explainers.{IsReadyToExplain, IsToldOf, HasNames, IsReportOn, IsLineOf}
use Rattle.line_commands.specs.declared.explainer.Explainer.{Explainer}

-- types, features and instances have names
pub names-here : (x : Explainer) → IsReady x.engine → length x.engine.grammar.now.names.items ≡ length (signs_of x.engine.signs.now).instances
    → length x.engine.grammar.now.book.feats.items ≡ length x.engine.signs.now.book.system.introducers → (e : Explained)
    → IsExplainedNamed x.engine.signs.now.book.system.types (length x.engine.signs.now.book.system.introducers) (length (signs_of x.engine.signs.now).instances) e → HasNames x e
names-here x ready count feats e h =
    let t = x.engine.signs.now.book.system.types in
    subst (λ (b : Book). IsExplainedNamed b.system.types (length x.engine.grammar.now.book.feats.items) (length x.engine.grammar.now.names.items) e) ready.book
    (subst (λ n. IsExplainedNamed t n (length x.engine.grammar.now.names.items) e) (sym feats)
    (subst (λ n. IsExplainedNamed t (length x.engine.signs.now.book.system.introducers) n e) (sym count) h))

-- only a licensed tree's MRS is asked for
pub nothing-follows : (s : Speech) (mrs : Bool) (t : Derivation) (e : Explained) → (mrs && not (is_refused e)) ≡ false → IsFollowedBy mrs s (Tree t e) []
nothing-follows s false t e h = refl
nothing-follows s true t Licensed h = cc
nothing-follows s true t (Clashes place instance path a b) h = refl
nothing-follows s true t (GoesTooFar place instance path) h = refl
nothing-follows s true t (Misspelled place instance) h = refl
nothing-follows s true t Unrooted h = refl

pub asked-licensed : (mrs : Bool) (e : Explained) → (mrs && not (is_refused e)) ≡ true → e ≡ Licensed
asked-licensed false e h = cc
asked-licensed true Licensed h = refl
asked-licensed true (Clashes place instance path a b) h = cc
asked-licensed true (GoesTooFar place instance path) h = cc
asked-licensed true (Misspelled place instance) h = cc
asked-licensed true Unrooted h = cc

-- a licensed tree has a structure
pub has-structure : (x : Explainer) (t : Derivation) (e : Explained) → IsToldOf x t e → e ≡ Licensed → (f : Structure) × Full (speech_of x.engine).signs t f
has-structure x t e told is = let l = subst (IsToldOf x t) is told in (l.0, l.1)

pub mrs-follows : (s : Speech) (mrs : Bool) (t : Derivation) (e : Explained) → (mrs && not (is_refused e)) ≡ true → (line : List ℕ) → IsMrsLine s.signs s.semantics t line → IsFollowedBy mrs s (Tree t e) (line ∷ [])
mrs-follows s false t e h line is = cc
mrs-follows s true t Licensed h line is = (line, is, refl)
mrs-follows s true t (Clashes place instance path a b) h line is = cc
mrs-follows s true t (GoesTooFar place instance path) h line is = cc
mrs-follows s true t (Misspelled place instance) h line is = cc
mrs-follows s true t Unrooted h line is = cc

-- the answer to a line that writes a tree, and to one that writes none
module _ (x : Explainer) (ready : IsReadyToExplain x) (number : ℕ) (line : List ℕ) where
  pub tree-answered : (t : Derivation) → IsUtf8 line → IsTreeOf x.names line t → (lines : List (List ℕ)) (refused : Bool) → IsReportOn x number t lines refused → IsLineOf x number line lines refused
  tree-answered t u is lines refused r = record {
    explained = Tree t r.explained;
    is = a_tree t r.explained u (subst (λ g. IsTreeOf g line t) ready.names is) r.told;
    rest = r.lines_are.rest;
    followed = r.lines_are.followed;
    lines_are = r.lines_are.are;
    refused_is = r.refused_is;
  }

  pub none-answered : (at : ℕ) → IsNoTree x.names line at → (lines : List (List ℕ)) (refused : Bool) → lines ≡ no_tree_line number at ∷ [] → refused ≡ true → IsLineOf x number line lines refused
  none-answered at f lines refused e r = record {
    explained = NoTree at;
    is = no_tree at (subst (λ g. IsNoTree g line at) ready.names f);
    rest = [];
    followed = unfollowed x.mrs;
    lines_are = e;
    refused_is = r;
  }
    where
      unfollowed : (mrs : Bool) → IsFollowedBy mrs (speech_of x.engine) (NoTree at) []
      unfollowed true = refl
      unfollowed false = refl
