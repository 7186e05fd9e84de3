-- What was read and expands makes a grammar, or has a first fault.
use Rattle.std.proofs.Common.{ℕ, zero, suc, ◌≡◌, ◌<◌, ◌+◌, inl, inr, Bool, true, false, cond, List, [], ◌∷◌, length, map, Option, Some, Result, Ok, Err, refl, sym, ◌∙◌, ap, subst, arith}
use Rattle.std.specs.Prelude.{slice_get}
use Rattle.std.specs.List.{AllZip, range_with_len}
use Rattle.std.proofs.lemmas.List.Sorted.{IsPermutation-refl}
use Rattle.grammar_files.specs.Statements.{instances_in, name_of}
use Rattle.constraint_expand.specs.declared.books.Book.{Book}
use Rattle.constraint_expand.specs.Books.{numbered_of, InstanceMap}
use Rattle.lexicon.specs.Words.{Word, Each}
use Rattle.lexicon.specs.Entries.{EntryTree}
use Rattle.closed_lists.specs.Names.{IsReadable}
use Rattle.grammar_settings.specs.Forms.{Name}
use Rattle.grammar_files.specs.declared.fault.Why.TheVariants.{Arity, Orthography}
use Rattle.grammar_files.specs.Faults.{FoundFault}
use Rattle.grammar_types.specs.Typings.{fault_of, statement_at}
use Rattle.grammar_load.specs.Expanding.{names_by, IsBook}
use Rattle.grammar_files.specs.Reads.{ReadTree, ReadsTo}
use Rattle.book_shapes.specs.Shapes.{lists_of, is_entry, instances_of, entries_in, AreReadable, HasItsDaughters, HasWordsAt, HasItsWords, of_entry, no_entry, IsFirstPlace}
use Rattle.book_shapes.proofs.ReadableLemmas.{readable}
use Rattle.grammar_load.specs.Loaded.{GrammarTree, orth_path, spelling_said}
use Rattle.grammar_load.specs.Loads.{of_arity, of_words, Makes, untyped, unexpanded, misshapen, makes, Loads, unread, loads}
use Rattle.grammar_load.specs.Outcomes.{HasExpansion, has_book, lacks_types, lacks_book}
use Rattle.grammar_load.proofs.EachList.{Or, daughters_or, words_or}
use Rattle.grammar_load.proofs.NumberLemmas.{rises_by}

-- each meets P, or there is a first that doesn't
pub data EachOr {A : Type 0} (P : A → Type 0) (xs : List A) : Type 0 where
  all_do : Each P xs → EachOr P xs
  first_not : (k : ℕ) → k < length xs → IsFirstPlace P xs k → EachOr P xs

head_not : {A : Type 0} (P : A → Type 0) (x : A) (xs : List A) → (P x → ⊥) → IsFirstPlace P (x ∷ xs) 0
head_not P x xs n = record { within = omega arith; before = λ j y h e. absurd (omega (arith, h)); fails = λ y e p. n (let z : Some x ≡ Some y = e in let s : y ≡ x = cc in subst P s p) }

later_not : {A : Type 0} (P : A → Type 0) (x : A) (xs : List A) (k : ℕ) → P x → IsFirstPlace P xs k → IsFirstPlace P (x ∷ xs) (suc k)
later_not {A} P x xs k p f = record { within = omega (arith, f.within); before = before; fails = λ y e q. f.fails y e q }
  where
    before : (j : ℕ) (y : A) → j < suc k → slice_get (x ∷ xs) j ≡ Some y → P y
    before zero y h e = let z : Some x ≡ Some y = e in let s : x ≡ y = cc in subst P s p
    before (suc j) y h e = f.before j y (omega (arith, h)) e

each_or : {A : Type 0} (P : A → Type 0) (xs : List A) → Each (λ x. Or (P x)) xs → EachOr P xs
each_or P [] e = all_do tt
each_or {A} P (x ∷ xs) e = go e.0 (each_or P xs e.1)
  where
    go : Or (P x) → EachOr P xs → EachOr P (x ∷ xs)
    go (inr n) rest = first_not 0 (omega arith) (head_not P x xs n)
    go (inl p) (all_do all) = all_do (p, all)
    go (inl p) (first_not k h f) = first_not (suc k) (omega (arith, h)) (later_not P x xs k p f)

each_to : {A : Type 0} (P Q : A → Type 0) → ((x : A) → P x → Q x) → (xs : List A) → Each P xs → Each Q xs
each_to P Q to [] e = tt
each_to P Q to (x ∷ xs) e = (to x e.0, each_to P Q to xs e.1)

its_words_or : (b : Book) (orth : List (Option ℕ)) (i : InstanceMap) → Or ((ws : List Word) × HasWordsAt b orth i ws) → Or (HasItsWords b orth i)
its_words_or b orth i (inl w) = inl (of_entry w.0 w.1)
its_words_or b orth i (inr n) = go (is_entry i.status) refl
  where
    lacks : is_entry i.status ≡ true → HasItsWords b orth i → ⊥
    lacks t (of_entry ws h) = n (ws, h)
    lacks t (no_entry e) = let z : true ≡ false = sym t ∙ e in cc

    go : (t : Bool) → is_entry i.status ≡ t → Or (HasItsWords b orth i)
    go false e = inl (no_entry e)
    go true e = inr (lacks e)

-- the entries of instances of which each has its words, numbered from a number on
pub record EntriesFrom (b : Book) (orth : List (Option ℕ)) (is : List InstanceMap) (a : ℕ) : Type 0 where
  pub given : List EntryTree
  pub numbered : map (λ e. e.number) given ≡ range_with_len a (length given)
  pub words : AllZip (λ i e. HasWordsAt b orth i e.words) (entries_in is) given

entries_from : (b : Book) (orth : List (Option ℕ)) (is : List InstanceMap) (a : ℕ) → Each (HasItsWords b orth) is → EntriesFrom b orth is a
entries_from b orth [] a e = record { given = []; numbered = refl; words = tt }
entries_from b orth (i ∷ is) a e = go (is_entry i.status) refl e.0 (entries_from b orth is a e.1) (entries_from b orth is (a + 1) e.1)
  where
    go : (t : Bool) → is_entry i.status ≡ t → HasItsWords b orth i → EntriesFrom b orth is a → EntriesFrom b orth is (a + 1) → EntriesFrom b orth (i ∷ is) a
    go true s (of_entry ws h) same next =
        record {
          given = record { number = a; words = ws } ∷ next.given;
          numbered = ap (λ l. a ∷ l) next.numbered;
          words = subst (λ t. AllZip (λ j (x : EntryTree). HasWordsAt b orth j x.words) (cond t (i ∷ entries_in is) (entries_in is)) (record { number = a; words = ws } ∷ next.given)) (sym s) (h, next.words);
        }
    go true s (no_entry f) same next = absurd (let z : true ≡ false = sym s ∙ f in cc)
    go false s h same next =
        record {
          given = same.given;
          numbered = same.numbered;
          words = subst (λ t. AllZip (λ j (x : EntryTree). HasWordsAt b orth j x.words) (cond t (i ∷ entries_in is) (entries_in is)) same.given) (sym s) same.words;
        }

-- what a book's instances are
module _ (r : ReadTree) (b : Book) (x : IsBook r.walked b) where
  lists_read : AreReadable b
  lists_read = readable x.types (names_by r.walked.settings) r.walked.statements b x.expanded

  -- the grammar of a book, where each instance is as it is to be
  grammar_there : Each (HasItsDaughters b) (instances_of b) → Each (HasItsWords b (orth_path b r.walked.settings)) (instances_of b) → (end : Result GrammarTree FoundFault) × Makes r end
  grammar_there ds ws =
      let e = entries_from b (orth_path b r.walked.settings) (instances_of b) 0 ws in
      let g : GrammarTree = record { book = b; lexicon = e.given; spelling = spelling_said r.walked.statements r.irregular; settings = r.walked.settings; names = map name_of (instances_in r.walked.statements) } in (
        Ok g,
        makes g
            (record {
              book = x;
              daughters = ds;
              given = e.given;
              entries = record { numbered = e.numbered; words = e.words };
              lexicon = record { same = IsPermutation-refl e.given; rising = rises_by (λ (y : EntryTree). y.number) (length e.given) e.given e.numbered };
              spelling = refl;
              settings = refl;
              names = refl;
            }),
      )

  by_words : Each (HasItsDaughters b) (instances_of b) → EachOr (HasItsWords b (orth_path b r.walked.settings)) (instances_of b) → (end : Result GrammarTree FoundFault) × Makes r end
  by_words ds (all_do ws) = grammar_there ds ws
  by_words ds (first_not k h f) =
      let e : FoundFault = fault_of r.walked (statement_at (instances_in r.walked.statements) k) Orthography in
      (Err e, misshapen b e x (of_words k ds h f))

  by_daughters : EachOr (HasItsDaughters b) (instances_of b) → EachOr (HasItsWords b (orth_path b r.walked.settings)) (instances_of b) → (end : Result GrammarTree FoundFault) × Makes r end
  by_daughters (all_do ds) w = by_words ds w
  by_daughters (first_not k h f) w =
      let e : FoundFault = fault_of r.walked (statement_at (instances_in r.walked.statements) k) Arity in
      (Err e, misshapen b e x (of_arity k h f))

  shaped : (end : Result GrammarTree FoundFault) × Makes r end
  shaped =
      let n = numbered_of b.names in
      let limit = b.system.path_limit in
      let R = λ (i : InstanceMap). IsReadable b.system.types (lists_of n) limit i.structure in
      by_daughters
      (each_or (HasItsDaughters b) (instances_of b) (each_to R (λ i. Or (HasItsDaughters b i)) (λ i h. daughters_or b.system.types (lists_of n) limit i.structure h n.args_path i.status) (instances_of b) lists_read))
      (each_or (HasItsWords b (orth_path b r.walked.settings)) (instances_of b)
      (each_to R (λ i. Or (HasItsWords b (orth_path b r.walked.settings) i)) (λ i h. its_words_or b (orth_path b r.walked.settings) i (words_or b.system.types (lists_of n) limit i.structure h (orth_path b r.walked.settings))) (instances_of b)
      lists_read))

expanded_makes : (r : ReadTree) → HasExpansion r.walked → (end : Result GrammarTree FoundFault) × Makes r end
expanded_makes r (has_book b x) = shaped r b x
expanded_makes r (lacks_types f x) = (Err f, untyped f x)
expanded_makes r (lacks_book f x) = (Err f, unexpanded f x)

abbrev EachRead : (Name → Option (List ℕ)) → (Name → Bool) → Name → Option Name → Type 0
EachRead files fails top settings = (r : Result ReadTree FoundFault) × ReadsTo (Some files) fails top settings r

pub load_each : (files : Name → Option (List ℕ)) (fails : Name → Bool) (top : Name) (settings : Option Name) → EachRead files fails top settings → ((r : ReadTree) → ReadsTo (Some files) fails top settings (Ok r) → HasExpansion r.walked)
    → (end : Result GrammarTree FoundFault) × Loads (Some files) fails top settings end
load_each files fails top settings read expands = go read.0 read.1
  where
    go : (x : Result ReadTree FoundFault) → ReadsTo (Some files) fails top settings x → (end : Result GrammarTree FoundFault) × Loads (Some files) fails top settings end
    go (Err f) h = (Err f, unread f h)
    go (Ok r) h = let m = expanded_makes r (expands r h) in (m.0, loads r m.0 h m.1)
