-- A grammar as its lines see it.
use Rattle.std.proofs.Common.{ℕ, ◌≡◌, List, Option, Ok, sym, ◌∙◌, subst}
use Rattle.fs_model.specs.Claims.{IsOrder}
use Rattle.fs_unify.specs.Rules.{system_of}
use Rattle.fs_unify.proofs.GivenLemmas.{order_of_laws}
use Rattle.type_hierarchy.specs.Laws.{HasTypeLaws}
use Rattle.type_hierarchy.specs.Table.{TypeTable}
use Rattle.grammar_files.specs.Placings.{PlacedTree}
use Rattle.constraint_expand.specs.declared.books.Book.{Book}
use Rattle.constraint_expand.specs.Systems.{Settled}
use Rattle.constraint_expand.specs.Books.{IsBookOf}
use Rattle.lexicon.specs.Words.{Each}
use Rattle.lexicon.specs.Entries.{EntryTree}
use Rattle.spelling_rules.specs.Trees.{SpellingTree}
use Rattle.tree_model.specs.Said.{SameViews}
use Rattle.tree_model.specs.Signs.{Signs}
use Rattle.lexical_items.specs.Said.{words_said}
use Rattle.book_shapes.specs.Shapes.{instances_of, HasItsDaughters}
use Rattle.book_signs.specs.Signed.{IsSignsOf, IsOnly}
use Rattle.book_signs.specs.Conditions.{IsWhole}
use Rattle.book_signs.specs.Trees.{entries_of, lexical_rules_of}
use Rattle.grammar_load.specs.Expanding.{names_by}
use Rattle.grammar_files.specs.Reads.{ReadTree}
use Rattle.grammar_load.specs.Loaded.{GrammarTree, IsGrammarOf}
use Rattle.grammar_load.specs.Loads.{Makes, makes, loads}
use Rattle.grammar_load.specs.Outcomes.{IsSameGrammar}
use Rattle.grammar_load.proofs.OneSystem.{tree-laws}
use Rattle.command_files.specs.Grammars.{HasGrammar}
use Rattle.endings.specs.Meanings.{Files}
use Rattle.mrs_places.specs.Settled.{paths_said}
use Rattle.mrs_lines.specs.Lines.{Semantics}
use Rattle.mrs_lines.specs.Fitting.{mrs_paths_of}
use Rattle.engine.specs.Speeches.{Speech, IsSpeechOf}
use Rattle.engine.proofs.SameBooks.{signs_on}

abbrev pub OneSigns : Type 0
OneSigns = (b : Book) → Each (HasItsDaughters b) (instances_of b) → IsOnly (IsSignsOf b)

abbrev pub WholeBook : Type 0
WholeBook = (types : TypeTable) (s : Settled) (ps : List PlacedTree) (b : Book) → IsBookOf types s ps b → Each (HasItsDaughters b) (instances_of b) → IsWhole b

-- what was read made this grammar
made : (r : ReadTree) (g : GrammarTree) → Makes r (Ok g) → IsGrammarOf r g
made r _ (makes g is) = is

grammar-read : (files : Files) (name : List ℕ) (settings : Option (List ℕ)) (g : GrammarTree) → HasGrammar files name settings g → (r : ReadTree) × IsGrammarOf r g
grammar-read files name settings g (loads r _ read m) = (r, made r g m)

-- the book of a loaded grammar is whole
pub book-whole : WholeBook → (files : Files) (name : List ℕ) (settings : Option (List ℕ)) (g : GrammarTree) → HasGrammar files name settings g → IsWhole g.book
book-whole whole files name settings g h =
    let r = grammar-read files name settings g h in
    whole r.1.book.types (names_by r.0.walked.settings) r.0.walked.statements g.book r.1.book.expanded r.1.daughters

-- its types are in order
pub types-ordered : (files : Files) (name : List ℕ) (settings : Option (List ℕ)) (g : GrammarTree) → HasGrammar files name settings g → IsOrder (system_of g.book.system)
types-ordered files name settings g h =
    let r = grammar-read files name settings g h in
    let laws = tree-laws r.0.walked r.1.book.types r.1.book.settled in
    order_of_laws g.book.system (subst HasTypeLaws (sym r.1.book.expanded.system.types_are) laws)

pub speech-ordered : (files : Files) (name : List ℕ) (settings : Option (List ℕ)) (g : GrammarTree) (s : Speech) → HasGrammar files name settings g → IsSpeechOf g s → IsOrder s.signs.system
speech-ordered files name settings g s h is = subst IsOrder (sym is.signs.system) (types-ordered files name settings g h)

words-same : (a b : Signs) (l m : List EntryTree) (p q : SpellingTree) → a ≡ b → l ≡ m → p ≡ q → words_said (entries_of a) (lexical_rules_of a) l p ≡ words_said (entries_of b) (lexical_rules_of b) m q
words-same a b l m p q e f k = λ i. words_said (entries_of (e i)) (lexical_rules_of (e i)) (f i) (k i)

abbrev semantics_of : GrammarTree → Semantics
semantics_of g = record { types = g.book.system.types; paths = mrs_paths_of g }

semantics-same : (g h : GrammarTree) → IsSameGrammar g h → semantics_of g ≡ semantics_of h
semantics-same g h same = λ k.
    record { types = (same.book.system k).types; paths = paths_said (same.book.system k).types (same.book.features k) (same.settings k) }

-- grammars that are the same say the same
pub one-speech : SameViews → OneSigns → (files : Files) (name : List ℕ) (settings : Option (List ℕ)) (g h : GrammarTree) → HasGrammar files name settings h → IsSameGrammar g h
    → (s t : Speech) → IsSpeechOf g s → IsSpeechOf h t → s ≡ t
one-speech views one files name settings g h has same s t a b =
    let r = grammar-read files name settings h has in
    let only = one h.book r.1.daughters in
    let signs : s.signs ≡ t.signs = only.one s.signs t.signs (signs_on views g.book h.book same.book s.signs a.signs) b.signs in
    let words : s.words ≡ t.words = a.words ∙ words-same s.signs t.signs g.lexicon h.lexicon g.spelling h.spelling signs same.lexicon same.spelling ∙ sym b.words in
    let names : s.names ≡ t.names = a.names ∙ same.names ∙ sym b.names in
    let semantics : s.semantics ≡ t.semantics = a.semantics ∙ semantics-same g h same ∙ sym b.semantics in
    λ k. record { signs = signs k; words = words k; names = names k; semantics = semantics k }
