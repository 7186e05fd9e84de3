-- What holds of `explain`.
use Rattle.std.proofs.Common.{ℕ, List, Bool, Option, Ok, ap, subst, sym}
use Rattle.endings.specs.Meanings.{Files, Lawful}
use Rattle.endings.specs.Reports.{AreAnswers}
use Rattle.type_hierarchy.specs.Decls.{texts}
use Rattle.type_hierarchy.specs.Table.{TypeTable}
use Rattle.fs_unify.specs.Rules.{Grammar}
use Rattle.tree_model.specs.Said.{SameViews}
use Rattle.grammar_files.specs.Reads.{ReadTree}
use Rattle.grammar_load.specs.Loaded.{GrammarTree, IsGrammarOf}
use Rattle.grammar_load.specs.Loads.{Makes, makes, loads}
use Rattle.grammar_load.specs.Conditions.{IsLoaded}
use Rattle.grammar_load.proofs.LoadedLemmas.{loaded}
use Rattle.grammar_load.proofs.ReadBound.{rules_bound}
use Rattle.mrs_lines.specs.Fitting.{IsWellNamed}
use Rattle.tree_reading.specs.Grammars.{IsNamedWell, IsNamedApart}
use Rattle.tree_faults.specs.Laws.{ExplainedAreOne}
use Rattle.tree_names.specs.TreeGrammars.{tree_grammar}
use Rattle.tree_names.proofs.Apart.{named_well, named_apart}
use Rattle.mrs_lines.specs.Laws.{MrsLinesAreOne}
use Rattle.command_files.specs.Grammars.{never, HasGrammar}
use Rattle.engine.specs.Speeches.{Speech, IsSpeechOf}
use Rattle.engine.proofs.Speeches.{OneSigns, speech-ordered}
use Rattle.engine.proofs.GrammarLaws.{OneGrammar, OneFault, NotBoth, Calm}
use Rattle.line_commands.specs.Lines.{LineAnswers}
use Rattle.line_commands.specs.Explaining.{IsExplainLine, explain_meaning}
use Rattle.line_commands.proofs.OneExplained.{OneTree, TreeOrFault, OneTreeFault, one-explained}
use Rattle.line_commands.proofs.LineLaws.{Carries, line-laws-of}

-- a grammar that files load to is well named
abbrev pub LoadedAreNamed : Type 0
LoadedAreNamed = (files : Files) (name : List ℕ) (settings : Option (List ℕ)) (g : GrammarTree) → HasGrammar files name settings g → IsWellNamed g

made : (r : ReadTree) (g : GrammarTree) → Makes r (Ok g) → IsGrammarOf r g
made r _ (makes g is) = is

is-loaded : (files : Files) (name : List ℕ) (settings : Option (List ℕ)) (g : GrammarTree) → HasGrammar files name settings g → IsLoaded g
is-loaded files name settings g (loads r _ read m) = loaded r g (rules_bound files never name settings r read) (made r g m)

-- its trees are written over names that are told apart
names-of : (g : GrammarTree) (s : Speech) → IsLoaded g → IsWellNamed g → IsSpeechOf g s → IsNamedWell (tree_grammar s.signs s.names) × IsNamedApart (tree_grammar s.signs s.names)
names-of g s load named is = (
  subst (λ names. IsNamedWell (tree_grammar s.signs names)) (sym is.names) (named_well g s.signs load named is.signs),
  subst (λ names. IsNamedApart (tree_grammar s.signs names)) (sym is.names) (named_apart g s.signs load named is.signs),
)

module _ (mrs : Bool) where
  abbrev answers_of : GrammarTree → Speech → LineAnswers
  answers_of g s = IsExplainLine g.book.system.types (texts g.book.feats.items) s mrs

  -- grammars that are the same have the same types and the same names of features
  carried : Carries answers_of
  carried g h same s lines pieces refused a =
      let types = ap (λ (r : Grammar). r.types) same.book.system in
      subst (λ (fs : List (List ℕ)). AreAnswers (IsExplainLine h.book.system.types fs s mrs) 1 lines pieces refused) same.book.features
      (subst (λ (t : TypeTable). AreAnswers (IsExplainLine t (texts g.book.feats.items) s mrs) 1 lines pieces refused) types a)

  pub explain-laws : OneGrammar → OneFault → NotBoth → Calm → SameViews → OneSigns → LoadedAreNamed → OneTree → TreeOrFault → OneTreeFault → ExplainedAreOne → MrsLinesAreOne
      → (name : List ℕ) (settings : Option (List ℕ)) (verbose : Bool) → Lawful (explain_meaning name settings verbose mrs)
  explain-laws one fault both calm views signs named trees apart faults explanations mrss name settings verbose =
      line-laws-of one fault both calm views signs answers_of carried name settings verbose (λ files g s has is n.
      let are = names-of g s (is-loaded files name settings g has) (named files name settings g has) is in
      one-explained mrss s (speech-ordered files name settings g s has is) trees apart faults explanations are.0 are.1 g.book.system.types (texts g.book.feats.items) mrs n)
