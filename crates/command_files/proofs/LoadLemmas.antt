-- What files load to doesn't hang on where the shelf fails.
use Rattle.std.proofs.Common.{◌≡◌, ℕ, List, Bool, true, Option, Some, None, Ok, Err, refl, ap, sym, ◌∙◌}
use Rattle.grammar_files.specs.declared.fault.Why.TheVariants.{Shelf, Expand, Arity, Orthography}
use Rattle.grammar_files.specs.Faults.{FoundFault}
use Rattle.grammar_files.specs.Walks.{Files, WalkedTree, WalksTo}
use Rattle.grammar_types.specs.Typings.{IsTypesFault, repeats, unsettled, too_many}
use Rattle.grammar_load.specs.Expanding.{IsExpandFault}
use Rattle.grammar_files.specs.Reads.{AreIrregular, no_file, fails_there, too_long, text, ReadTree, ReadsTo, unwalked, without_forms, reads}
use Rattle.constraint_expand.specs.declared.books.Book.{Book}
use Rattle.grammar_load.specs.Loaded.{GrammarTree}
use Rattle.grammar_load.specs.Loads.{IsShapeFault, of_arity, of_words, Makes, untyped, unexpanded, misshapen, Loads, unread, loads}

abbrev pub Walked : Type 0
Walked = (files : Files) (fails other : List ℕ → Bool) (top : List ℕ) (settings : Option (List ℕ)) (tree : WalkedTree) → WalksTo files fails top settings (Ok tree) → WalksTo files other top settings (Ok tree)

abbrev pub Calm : Type 0
Calm = (files : Files) (fails other : List ℕ → Bool) (top : List ℕ) (settings : Option (List ℕ)) (f : FoundFault) → (f.why ≡ Shelf → ⊥) → WalksTo files fails top settings (Err f) → WalksTo files other top settings (Err f)

abbrev pub AtShelf : Type 0
AtShelf = (files : Files) (fails : List ℕ → Bool) (top : List ℕ) (settings : Option (List ℕ)) (f : FoundFault) → WalksTo files fails top settings (Err f) → f.why ≡ Shelf → fails f.file ≡ true

-- the text of the irregular forms
text_still : (files : Files) (fails other : List ℕ → Bool) (name : Option (List ℕ)) (bytes : List ℕ) → AreIrregular files fails name (Ok bytes) → AreIrregular files other name (Ok bytes)
text_still files fails other None _ no_file = no_file
text_still files fails other (Some name) bytes (text _ _ is) = text name bytes is

fault_still : (files : Files) (fails other : List ℕ → Bool) (name : Option (List ℕ)) (f : FoundFault) → (f.why ≡ Shelf → ⊥) → AreIrregular files fails name (Err f) → AreIrregular files other name (Err f)
fault_still files fails other (Some name) _ calm (fails_there _ e) = absurd (calm refl)
fault_still files fails other (Some name) _ calm (too_long _ l) = too_long name l
fault_still files fails other None f calm h = elim h [ ]

fault_there : (files : Files) (fails : List ℕ → Bool) (name : Option (List ℕ)) (f : FoundFault) → AreIrregular files fails name (Err f) → f.why ≡ Shelf → fails f.file ≡ true
fault_there files fails (Some name) _ (fails_there _ e) h = e
fault_there files fails (Some name) _ (too_long _ l) h = cc
fault_there files fails None f x h = elim x [ ]

-- no other fault is one of the shelf
pub types_no_shelf : (w : WalkedTree) (f : FoundFault) → IsTypesFault w f → f.why ≡ Shelf → ⊥
types_no_shelf w _ (repeats k name first same) e = cc
types_no_shelf w _ (unsettled fault p none is at) e = cc
types_no_shelf w _ (too_many h written many) e = cc

expand_no_shelf : (w : WalkedTree) (f : FoundFault) → IsExpandFault w f → f.why ≡ Shelf → ⊥
expand_no_shelf w f a e = let same : Expand a.fault ≡ Shelf = sym (ap (λ (g : FoundFault). g.why) a.found) ∙ e in cc

shape_no_shelf : (w : WalkedTree) (b : Book) (f : FoundFault) → IsShapeFault w b f → f.why ≡ Shelf → ⊥
shape_no_shelf w b _ (of_arity place within first) e = let same : Arity ≡ Shelf = e in cc
shape_no_shelf w b _ (of_words place have within first) e = let same : Orthography ≡ Shelf = e in cc

made_no_shelf : (r : ReadTree) (f : FoundFault) → Makes r (Err f) → f.why ≡ Shelf → ⊥
made_no_shelf r f (untyped _ a) e = types_no_shelf r.walked f a e
made_no_shelf r f (unexpanded _ a) e = expand_no_shelf r.walked f a e
made_no_shelf r f (misshapen b _ book a) e = shape_no_shelf r.walked b f a e

module _ (walked : Walked) (calm : Calm) (shelf : AtShelf) where
  read_still : (files : Files) (fails other : List ℕ → Bool) (top : List ℕ) (settings : Option (List ℕ)) (r : ReadTree) → ReadsTo files fails top settings (Ok r) → ReadsTo files other top settings (Ok r)
  read_still files fails other top settings _ (reads w bytes a b) = reads w bytes (walked files fails other top settings w a) (text_still files fails other w.settings.irregular_file bytes b)

  unread_still : (files : Files) (fails other : List ℕ → Bool) (top : List ℕ) (settings : Option (List ℕ)) (f : FoundFault) → (f.why ≡ Shelf → ⊥) → ReadsTo files fails top settings (Err f) → ReadsTo files other top settings (Err f)
  unread_still files fails other top settings f none (unwalked _ a) = unwalked f (calm files fails other top settings f none a)
  unread_still files fails other top settings f none (without_forms w _ a b) = without_forms w f (walked files fails other top settings w a) (fault_still files fails other w.settings.irregular_file f none b)

  unread_there : (files : Files) (fails : List ℕ → Bool) (top : List ℕ) (settings : Option (List ℕ)) (f : FoundFault) → ReadsTo files fails top settings (Err f) → f.why ≡ Shelf → fails f.file ≡ true
  unread_there files fails top settings f (unwalked _ a) e = shelf files fails top settings f a e
  unread_there files fails top settings f (without_forms w _ a b) e = fault_there files fails w.settings.irregular_file f b e

  pub grammar_still : (files : Files) (fails other : List ℕ → Bool) (top : List ℕ) (settings : Option (List ℕ)) (g : GrammarTree) → Loads files fails top settings (Ok g) → Loads files other top settings (Ok g)
  grammar_still files fails other top settings g (loads r _ a b) = loads r (Ok g) (read_still files fails other top settings r a) b

  pub load_still : (files : Files) (fails other : List ℕ → Bool) (top : List ℕ) (settings : Option (List ℕ)) (f : FoundFault) → (f.why ≡ Shelf → ⊥) → Loads files fails top settings (Err f) → Loads files other top settings (Err f)
  load_still files fails other top settings f none (unread _ a) = unread f (unread_still files fails other top settings f none a)
  load_still files fails other top settings f none (loads r _ a b) = loads r (Err f) (read_still files fails other top settings r a) b

  pub load_there : (files : Files) (fails : List ℕ → Bool) (top : List ℕ) (settings : Option (List ℕ)) (f : FoundFault) → Loads files fails top settings (Err f) → f.why ≡ Shelf → fails f.file ≡ true
  load_there files fails top settings f (unread _ a) e = unread_there files fails top settings f a e
  load_there files fails top settings f (loads r _ a b) e = absurd (made_no_shelf r f b e)
