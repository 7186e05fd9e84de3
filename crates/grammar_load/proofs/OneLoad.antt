-- What the files of a grammar load to is one grammar, or one first fault.
use Rattle.std.proofs.Common.{ℕ, ◌≡◌, false, List, map, Option, Some, Result, Ok, Err, refl, sym, ◌∙◌, ap, subst}
use Rattle.type_hierarchy.specs.declared.decl.TypeFault.{TypeFault}
use Rattle.type_hierarchy.specs.declared.decl.TypeFault.TheVariants.{Duplicate, Unknown, Cycle, Reserved, TooMany, NoMemory as TypeNoMemory}
use Rattle.type_hierarchy.specs.Decls.{Name as Feature}
use Rattle.type_hierarchy.specs.Table.{TypeTable}
use Rattle.fs_model.specs.Laws.{AnswerIsOne}
use Rattle.grammar_files.specs.Placings.{PlacedTree}
use Rattle.grammar_files.specs.Statements.{instances_in}
use Rattle.grammar_files.specs.declared.expand_fault.ExpandFault.{ExpandFault}
use Rattle.grammar_files.specs.declared.expand_fault.ExpandFault.TheVariants.{UnknownName, NoIntro, Intro, NoStructure, NoMemory}
use Rattle.constraint_expand.specs.declared.books.Book.{Book}
use Rattle.constraint_expand.specs.Books.{IsBookOf, feature_named}
use Rattle.constraint_expand.specs.Faults.{IsFaultOf}
use Rattle.grammar_settings.specs.Forms.{Name}
use Rattle.grammar_files.specs.declared.fault.Why.{Why}
use Rattle.grammar_files.specs.declared.fault.Why.TheVariants.{Settings, Shelf, TooLong, IncludeLoop, TooManyFiles, Lex, Read, Environment, Typing, TooManyTypes, Expand, Arity, Orthography}
use Rattle.grammar_files.specs.Faults.{FoundFault}
use Rattle.grammar_files.specs.Walks.{WalkedTree}
use Rattle.grammar_types.specs.Typings.{AreTypesOf, IsTypesFault, IsSameTypeFault, IsSameWhy, IsSameFault, statement_at, file_name, fault_of}
use Rattle.grammar_load.specs.Expanding.{names_by, IsBook, stands_at, place_within, expand_fault, IsExpandFault}
use Rattle.grammar_files.specs.Reads.{ReadTree, ReadsTo}
use Rattle.lexicon.specs.Words.{Each}
use Rattle.lexicon.specs.Entries.{EntryTree}
use Rattle.book_shapes.specs.Shapes.{instances_of, AreEntriesOf, IsFirstPlace, HasItsDaughters, HasItsWords}
use Rattle.grammar_load.specs.Loaded.{GrammarTree, orth_path, IsGrammarOf}
use Rattle.grammar_load.specs.Loads.{IsShapeFault, of_arity, of_words, Makes, untyped, unexpanded, misshapen, makes, Loads, unread, loads}
use Rattle.grammar_load.specs.Outcomes.{IsSameBook, IsSameExpandFault, IsSameCause, IsSameOutcome}
use Rattle.grammar_load.proofs.OneBook.{one_book}
use Rattle.grammar_load.proofs.OneFault.{one-fault, book-or-fault}
use Rattle.grammar_load.proofs.OneSystem.{tree-laws}
use Rattle.grammar_load.proofs.SameShapes.{arity_one, words_first_one, arity_never, words_never, lexicon_is, given_one, book_back}

-- what is known of the types of what was walked
pub record OneSettling : Type 0 where
  pub one_table : (tree : WalkedTree) (t u : TypeTable) → AreTypesOf tree t → AreTypesOf tree u → t ≡ u
  pub one_fault : (tree : WalkedTree) (f g : FoundFault) → IsTypesFault tree f → IsTypesFault tree g → IsSameFault f g
  pub not_both : (tree : WalkedTree) (t : TypeTable) (f : FoundFault) → AreTypesOf tree t → IsTypesFault tree f → ⊥

-- a fault is the same as itself
type_itself : (a : TypeFault) → IsSameTypeFault a a
type_itself (Duplicate a) = refl
type_itself (Unknown a p) = (refl, refl)
type_itself (Cycle a) = refl
type_itself (Reserved a) = refl
type_itself (TooMany n) = refl
type_itself TypeNoMemory = tt

expand_itself : (a : ExpandFault) → IsSameExpandFault a a
expand_itself (UnknownName a at k) = (refl, refl, refl)
expand_itself (NoIntro f at k) = (refl, refl, refl)
expand_itself (Intro f a b k) = (refl, refl, refl, refl)
expand_itself (NoStructure a k) = (refl, refl)
expand_itself NoMemory = tt

cause_itself : (w : Why) → IsSameCause w w
cause_itself (Typing a) = type_itself a
cause_itself (Expand a) = expand_itself a
cause_itself Settings = refl
cause_itself Shelf = refl
cause_itself TooLong = refl
cause_itself IncludeLoop = refl
cause_itself TooManyFiles = refl
cause_itself (Lex e) = refl
cause_itself (Read e) = refl
cause_itself Environment = refl
cause_itself TooManyTypes = refl
cause_itself Arity = refl
cause_itself Orthography = refl

same_expansion : (a b : ExpandFault) → Expand a ≡ Expand b → IsSameExpandFault a b
same_expansion a b e = let one : a ≡ b = cc in subst (IsSameExpandFault a) one (expand_itself a)

same_cause : (a b : Why) → IsSameWhy a b → IsSameCause a b
same_cause (Expand a) (Expand b) h = same_expansion a b h
same_cause a b h = h

one_same : (f g : FoundFault) → f ≡ g → IsSameOutcome (Err f) (Err g)
one_same f g e = subst (λ k. IsSameOutcome (Err f) (Err k)) e (refl, refl, cause_itself f.why)

-- faults of expansion that are the same stand at one place
stands_one : (e f : ExpandFault) → IsSameExpandFault e f → stands_at e ≡ stands_at f
stands_one (UnknownName a at k) (UnknownName b on j) h = h.2
stands_one (NoIntro a at k) (NoIntro b on j) h = h.2
stands_one (Intro f a b k) (Intro g c d j) h = h.3
stands_one (NoStructure a k) (NoStructure b j) h = h.1
stands_one NoMemory NoMemory h = refl
stands_one a b h = absurd h

place_one : (p : PlacedTree) (e f : ExpandFault) → IsSameExpandFault e f → place_within p e ≡ place_within p f
place_one p (UnknownName a at k) (UnknownName b on j) h = h.1
place_one p (NoIntro a at k) (NoIntro b on j) h = h.1
place_one p (Intro f a b k) (Intro g c d j) h = refl
place_one p (NoStructure a k) (NoStructure b j) h = refl
place_one p NoMemory NoMemory h = refl
place_one p a b h = absurd h

expand_alike : (w : WalkedTree) (e f : ExpandFault) → IsSameExpandFault e f → IsSameOutcome (Err (expand_fault w e)) (Err (expand_fault w f))
expand_alike w e f h =
    let stands = stands_one e f h in (
      ap (λ k. file_name w (statement_at w.statements k).file) stands,
      ap (λ k. place_within (statement_at w.statements k) e) stands ∙ place_one (statement_at w.statements (stands_at f)) e f h,
      h,
    )

-- by one book of what was walked
module _ (answer : AnswerIsOne) (settling : OneSettling) (w : WalkedTree) where
  book_same : (b c : Book) → IsBook w b → IsBook w c → IsSameBook b c
  book_same b c x y =
      let s = names_by w.settings in
      let first = subst (λ (t : TypeTable). IsBookOf t s w.statements b) (settling.one_table w x.types y.types x.settled y.settled) x.expanded in
      one_book answer y.types s w.statements (tree-laws w y.types y.settled) b c first y.expanded

  book_never : (b : Book) (f : FoundFault) → IsBook w b → IsExpandFault w f → ⊥
  book_never b f x y =
      let first = subst (λ (t : TypeTable). IsFaultOf t (names_by w.settings) w.statements y.fault) (settling.one_table w y.types x.types y.settled x.settled) y.first in
      book-or-fault x.types (names_by w.settings) w.statements (tree-laws w x.types x.settled) b y.fault y.own x.expanded first

  expand_one : (f g : FoundFault) → IsExpandFault w f → IsExpandFault w g → IsSameOutcome (Err f) (Err g)
  expand_one f g x y =
      let first = subst (λ (t : TypeTable). IsFaultOf t (names_by w.settings) w.statements x.fault) (settling.one_table w x.types y.types x.settled y.settled) x.first in
      let alike = one-fault y.types (names_by w.settings) w.statements (tree-laws w y.types y.settled) x.fault y.fault x.own y.own first y.first in
      subst (λ k. IsSameOutcome (Err k) (Err g)) (sym x.found) (subst (λ k. IsSameOutcome (Err (expand_fault w x.fault)) (Err k)) (sym y.found) (expand_alike w x.fault y.fault alike))

  orth_same : (b c : Book) → IsSameBook b c → orth_path b w.settings ≡ orth_path c w.settings
  orth_same b c s = ap (λ (f : List Feature). map (feature_named f) w.settings.orth_path) s.features

  words_same : (b c : Book) (k : ℕ) → IsSameBook b c → IsFirstPlace (HasItsWords b (orth_path b w.settings)) (instances_of b) k → IsFirstPlace (HasItsWords b (orth_path c w.settings)) (instances_of b) k
  words_same b c k s h = subst (λ o. IsFirstPlace (HasItsWords b o) (instances_of b) k) (orth_same b c s) h

  -- the first fault of shape
  shape_one : (b c : Book) (f g : FoundFault) → IsSameBook b c → IsShapeFault w b f → IsShapeFault w c g → IsSameOutcome (Err f) (Err g)
  shape_one b c f g s (of_arity k h a) (of_arity j i d) =
      one_same f g (ap (λ p. fault_of w (statement_at (instances_in w.statements) p) Arity) (arity_one b c s k j h i a d))
  shape_one b c f g s (of_arity k h a) (of_words j e i d) = absurd (arity_never b c s k h a e)
  shape_one b c f g s (of_words k e h a) (of_arity j i d) = absurd (arity_never c b (book_back b c s) j i d e)
  shape_one b c f g s (of_words k e h a) (of_words j e' i d) =
      one_same f g (ap (λ p. fault_of w (statement_at (instances_in w.statements) p) Orthography) (words_first_one b c (orth_path c w.settings) s k j h i (words_same b c k s a) d))

  shape_never : (b c : Book) (f : FoundFault) (given : List EntryTree) → IsSameBook b c → IsShapeFault w b f → Each (HasItsDaughters c) (instances_of c) → AreEntriesOf c (orth_path c w.settings) (instances_of c) given → ⊥
  shape_never b c f given s (of_arity k h a) e x = arity_never b c s k h a e
  shape_never b c f given s (of_words k e' h a) e x = words_never b c (orth_path c w.settings) s k given h (words_same b c k s a) x

-- what was read makes one grammar, or one fault
module _ (answer : AnswerIsOne) (settling : OneSettling) (r : ReadTree) where
  grammar_one : (g h : GrammarTree) → IsGrammarOf r g → IsGrammarOf r h → IsSameOutcome (Ok g) (Ok h)
  grammar_one g h x y =
      let w = r.walked in
      let same = book_same answer settling w g.book h.book x.book y.book in
      let orth = orth_path h.book w.settings in
      let given = subst (λ o. AreEntriesOf g.book o (instances_of g.book) x.given) (orth_same answer settling w g.book h.book same) x.entries in
      record {
        book = same;
        lexicon = lexicon_is g.book orth x.given g.lexicon given x.lexicon ∙ given_one g.book h.book orth same x.given y.given given y.entries ∙ sym (lexicon_is h.book orth y.given h.lexicon y.entries y.lexicon);
        spelling = x.spelling ∙ sym y.spelling;
        settings = x.settings ∙ sym y.settings;
        names = x.names ∙ sym y.names;
      }

  shape_or : (b : Book) (f : FoundFault) (g : GrammarTree) → IsBook r.walked b → IsShapeFault r.walked b f → IsGrammarOf r g → ⊥
  shape_or b f g x s y = shape_never answer settling r.walked b g.book f y.given (book_same answer settling r.walked b g.book x y.book) s y.daughters y.entries

  pub makes_one : (a b : Result GrammarTree FoundFault) → Makes r a → Makes r b → IsSameOutcome a b
  makes_one a b (untyped f x) (untyped g y) = let s = settling.one_fault r.walked f g x y in (s.0, s.1, same_cause f.why g.why s.2)
  makes_one a b (untyped f x) (unexpanded g y) = absurd (settling.not_both r.walked y.types f y.settled x)
  makes_one a b (untyped f x) (misshapen c g y s) = absurd (settling.not_both r.walked y.types f y.settled x)
  makes_one a b (untyped f x) (makes g y) = absurd (settling.not_both r.walked y.book.types f y.book.settled x)
  makes_one a b (unexpanded f x) (untyped g y) = absurd (settling.not_both r.walked x.types g x.settled y)
  makes_one a b (unexpanded f x) (unexpanded g y) = expand_one answer settling r.walked f g x y
  makes_one a b (unexpanded f x) (misshapen c g y s) = absurd (book_never answer settling r.walked c f y x)
  makes_one a b (unexpanded f x) (makes g y) = absurd (book_never answer settling r.walked g.book f y.book x)
  makes_one a b (misshapen c f x s) (untyped g y) = absurd (settling.not_both r.walked x.types g x.settled y)
  makes_one a b (misshapen c f x s) (unexpanded g y) = absurd (book_never answer settling r.walked c g x y)
  makes_one a b (misshapen c f x s) (misshapen d g y t) = shape_one answer settling r.walked c d f g (book_same answer settling r.walked c d x y) s t
  makes_one a b (misshapen c f x s) (makes g y) = absurd (shape_or c f g x s y)
  makes_one a b (makes f x) (untyped g y) = absurd (settling.not_both r.walked x.book.types g x.book.settled y)
  makes_one a b (makes f x) (unexpanded g y) = absurd (book_never answer settling r.walked f.book g x.book y)
  makes_one a b (makes f x) (misshapen d g y t) = absurd (shape_or d g f y t x)
  makes_one a b (makes f x) (makes g y) = grammar_one f g x y

abbrev pub OneRead : Type 0
OneRead = (files : Name → Option (List ℕ)) (top : Name) (settings : Option Name) (r q : Result ReadTree FoundFault) → ReadsTo (Some files) (λ _. false) top settings r → ReadsTo (Some files) (λ _. false) top settings q → r ≡ q

fault_or : {B : Type 0} (r : ReadTree) (f : FoundFault) → Err f ≡ Ok r → B
fault_or r f e = cc

fault_same : (f g : FoundFault) (x y : Result ReadTree FoundFault) → x ≡ Err f → y ≡ Err g → x ≡ y → f ≡ g
fault_same f g x y p q e = let z : Err f ≡ y = sym p ∙ e in let k : Err f ≡ Err g = z ∙ q in cc

read_same : (r q : ReadTree) (x y : Result ReadTree FoundFault) → x ≡ Ok r → y ≡ Ok q → x ≡ y → r ≡ q
read_same r q x y p k e = let z : Ok r ≡ y = sym p ∙ e in let j : Ok r ≡ Ok q = z ∙ k in cc

pub load_one : AnswerIsOne → OneSettling → OneRead → (files : Name → Option (List ℕ)) (top : Name) (settings : Option Name) (a b : Result GrammarTree FoundFault)
    → Loads (Some files) (λ _. false) top settings a → Loads (Some files) (λ _. false) top settings b → IsSameOutcome a b
load_one answer settling one files top settings a b (unread f x) (unread g y) = one_same f g (fault_same f g (Err f) (Err g) refl refl (one files top settings (Err f) (Err g) x y))
load_one answer settling one files top settings a b (unread f x) (loads r end y m) = absurd (fault_or r f (one files top settings (Err f) (Ok r) x y))
load_one answer settling one files top settings a b (loads r end x m) (unread g y) = absurd (fault_or r g (one files top settings (Err g) (Ok r) y x))
load_one answer settling one files top settings a b (loads r end x m) (loads q other y n) =
    let same : r ≡ q = read_same r q (Ok r) (Ok q) refl refl (one files top settings (Ok r) (Ok q) x y) in
    makes_one answer settling q a b (subst (λ (t : ReadTree). Makes t a) same m) n
