-- Grammars and faults, as they are found.
use Rattle.std.proofs.Common.{ℕ, ◌≡◌, ◌<◌, ◌≤◌, List, length, map, Result, Ok, Err, IfOk, sym, ◌∙◌, ap, subst, arith, string_bytes}
use Rattle.std.proofs.lemmas.List.{length-map}
use Rattle.std.proofs.lemmas.Slice.Zip.{AllZip-long}
use Rattle.type_hierarchy.specs.Decls.{texts}
use Rattle.grammar_files.specs.Placings.{PlacedTree}
use Rattle.grammar_files.specs.Statements.{instances_in, name_of}
use Rattle.constraint_expand.specs.declared.books.Book.{Book}
use Rattle.constraint_expand.specs.Books.{instance_of, IsInstanceOf}
use Rattle.lexicon.specs.Words.{Word, Each}
use Rattle.spelling_rules.specs.Trees.{RuleTree, LineTree, SpellingTree}
use Rattle.grammar_load.specs.Spellings.{lexical_rules, spellings_of}
use Rattle.grammar_load.specs.IrregularLines.{lines_said}
use Rattle.grammar_files.specs.declared.fault.LoadFault.{LoadFault}
use Rattle.grammar_files.specs.declared.fault.LoadFault.TheVariants.{NoMemory, Found}
use Rattle.grammar_files.specs.declared.fault.Why.TheVariants.{Arity, Orthography}
use Rattle.grammar_files.specs.Faults.{FoundFault, IsFaultBy}
use Rattle.grammar_files.specs.Walks.{WalkedTree}
use Rattle.grammar_types.specs.Typings.{fault_of, statement_at}
use Rattle.grammar_load.specs.Expanding.{names_by, IsBook}
use Rattle.book_shapes.specs.Shapes.{instances_of, HasItsDaughters, HasItsWords, IsFirstPlace}
use Rattle.grammar_load.specs.Loaded.{orth_path, spelling_said}
use Rattle.grammar_load.specs.Loads.{IsShapeFault, of_arity, of_words}
use Rattle.grammar_load.proofs.ListLemmas.{each_placed}

pub ok_to : {A E : Type 0} (P Q : A → Type 0) (r : Result A E) → ((x : A) → P x → Q x) → IfOk r P → IfOk r Q
ok_to P Q (Ok x) to h = to x h
ok_to P Q (Err e) to h = tt

pub fault_to : (P Q : FoundFault → Type 0) (e : LoadFault) → ((f : FoundFault) → P f → Q f) → IsFaultBy P e → IsFaultBy Q e
fault_to P Q NoMemory to h = tt
fault_to P Q (Found file at why) to h = to (record { file = string_bytes file; at = at; why = why }) h

-- an instance stands beside its definition
pub defined_at : (w : WalkedTree) (b : Book) → IsBook w b → (k : ℕ) → k < length (instances_of b) → k < length (instances_in w.statements)
defined_at w b h k l = omega (arith, l, AllZip-long (IsInstanceOf b.system (names_by w.settings) (texts b.feats.items)) (instances_in w.statements) (instances_of b) h.expanded.instances)

pub instance_in : (b : Book) (k n : ℕ) → k < n → n ≡ length b.instances.items → k < length (instances_of b)
instance_in b k n l e = omega (arith, l, e, length-map b.instances.items instance_of)

pub all_past : (b : Book) (k n : ℕ) → n ≤ k → n ≡ length b.instances.items → IsFirstPlace (HasItsDaughters b) (instances_of b) k → Each (HasItsDaughters b) (instances_of b)
all_past b k n l e f = each_placed (HasItsDaughters b) (instances_of b) (λ j x h at. f.before j x (omega (arith, h, l, e, length-map b.instances.items instance_of)) at)

pub arity_fault : (w : WalkedTree) (b : Book) (k : ℕ) (e : LoadFault) → k < length (instances_of b) → IsFirstPlace (HasItsDaughters b) (instances_of b) k
    → IsFaultBy (λ f. f ≡ fault_of w (statement_at (instances_in w.statements) k) Arity) e → IsFaultBy (IsShapeFault w b) e
arity_fault w b k e l a h = fault_to _ (IsShapeFault w b) e (λ f same. subst (IsShapeFault w b) (sym same) (of_arity k l a)) h

pub words_fault : (w : WalkedTree) (b : Book) (k : ℕ) (e : LoadFault) → Each (HasItsDaughters b) (instances_of b) → (k < length (instances_of b)) × IsFirstPlace (HasItsWords b (orth_path b w.settings)) (instances_of b) k
    → IsFaultBy (λ f. f ≡ fault_of w (statement_at (instances_in w.statements) k) Orthography) e → IsFaultBy (IsShapeFault w b) e
words_fault w b k e all a h = fault_to _ (IsShapeFault w b) e (λ f same. subst (IsShapeFault w b) (sym same) (of_words k all a.0 a.1)) h

abbrev spelled : List RuleTree → List LineTree → SpellingTree
spelled rules lines = record { rules = rules; lines = lines }

pub spelling_is : (ps : List PlacedTree) (text : List ℕ) (rules : List RuleTree) (lines : List LineTree) (names : List Word) (s : SpellingTree) → s ≡ record { rules = rules; lines = lines } → rules ≡ spellings_of (lexical_rules ps)
    → lines ≡ lines_said names text → names ≡ map name_of (lexical_rules ps) → s ≡ spelling_said ps text
spelling_is ps text rules lines names s e a b c =
    e ∙ ap (λ r. spelled r lines) a ∙ ap (spelled (spellings_of (lexical_rules ps))) b ∙ ap (λ n. spelled (spellings_of (lexical_rules ps)) (lines_said n text)) c
