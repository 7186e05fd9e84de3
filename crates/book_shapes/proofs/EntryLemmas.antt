-- The entries of a book so far.
use Rattle.std.proofs.Common.{ℕ, ◌≡◌, ◌<◌, ◌≤◌, ◌+◌, Bool, true, false, cond, List, [], ◌∷◌, ◌++◌, length, map, take, Option, Some, refl, sym, ◌∙◌, ap, subst, length-append}
use Rattle.std.specs.Prelude.{slice_get}
use Rattle.std.specs.List.{AllZip, range_with_len}
use Rattle.std.proofs.lemmas.List.{append-nil, map-append, take_all}
use Rattle.std.proofs.lemmas.List.Elements.{filter_more}
use Rattle.std.proofs.lemmas.Option.{slice_get_within, get_or_from_slice_get}
use Rattle.type_hierarchy.specs.Table.{TypeTable}
use Rattle.constraint_expand.specs.declared.books.Book.{Book}
use Rattle.constraint_expand.specs.Books.{numbered_of, InstanceMap}
use Rattle.type_facts.proofs.RuleLemmas.{range_push}
use Rattle.constraint_expand.proofs.SplitLemmas.{zip_push}
use Rattle.lexicon.specs.Words.{Word}
use Rattle.lexicon.specs.Entries.{EntryTree}
use Rattle.closed_lists.specs.Names.{ListTree}
use Rattle.closed_lists.specs.Strings.{AreWordsAt}
use Rattle.book_shapes.specs.Shapes.{lists_of, is_entry, instances_of, entries_in, HasWordsAt, HasItsWords, of_entry, no_entry, AreEntriesOf, IsFirstPlace}
use Rattle.book_shapes.proofs.PlaceLemmas.{clash, Before, before_none, before_next, first_here}

-- the entries before a place, each with its words
pub record EntriesSoFar (b : Book) (orth : List (Option ℕ)) (i : ℕ) (given : List EntryTree) : Type 0 where
  pub entries : AreEntriesOf b orth (take i (instances_of b)) given
  pub before : Before (HasItsWords b orth) (instances_of b) i

take_none : {A : Type 0} (xs : List A) → take 0 xs ≡ []
take_none [] = refl
take_none (x ∷ xs) = refl

entries_none : (b : Book) (orth : List (Option ℕ)) → AreEntriesOf b orth [] []
entries_none b orth = record { numbered = refl; words = tt }

pub so_far_none : (b : Book) (orth : List (Option ℕ)) (given : List EntryTree) → given ≡ [] → EntriesSoFar b orth 0 given
so_far_none b orth given e =
    record {
      entries = subst (AreEntriesOf b orth (take 0 (instances_of b))) (sym e) (subst (λ is. AreEntriesOf b orth is []) (sym (take_none (instances_of b))) (entries_none b orth));
      before = before_none (HasItsWords b orth) (instances_of b);
    }

-- the entries among the instances up to a place
entries_up_to : (xs : List InstanceMap) (i : ℕ) (y : InstanceMap) → slice_get xs i ≡ Some y → entries_in (take (i + 1) xs) ≡ entries_in (take i xs) ++ cond (is_entry y.status) (y ∷ []) []
entries_up_to xs i y e =
    filter_more (λ (x : InstanceMap). is_entry x.status) xs i y (slice_get_within xs i y e)
    ∙ ap (λ (z : InstanceMap). entries_in (take i xs) ++ cond (is_entry z.status) (z ∷ []) []) (get_or_from_slice_get xs i y y e)

entries_with : (xs : List InstanceMap) (i : ℕ) (y : InstanceMap) (b : Bool) → slice_get xs i ≡ Some y → is_entry y.status ≡ b → entries_in (take (i + 1) xs) ≡ entries_in (take i xs) ++ cond b (y ∷ []) []
entries_with xs i y b e s = entries_up_to xs i y e ∙ ap (λ k. entries_in (take i xs) ++ cond k (y ∷ []) []) s

pub so_far_other : (b : Book) (orth : List (Option ℕ)) (i : ℕ) (y : InstanceMap) (given : List EntryTree) → slice_get (instances_of b) i ≡ Some y → is_entry y.status ≡ false → EntriesSoFar b orth i given → EntriesSoFar b orth (i + 1) given
so_far_other b orth i y given at other h =
    let is = instances_of b in
    record {
      entries = record {
        numbered = h.entries.numbered;
        words = subst (λ l. AllZip (λ x (e : EntryTree). HasWordsAt b orth x e.words) l given) (sym (entries_with is i y false at other ∙ append-nil (entries_in (take i is)))) h.entries.words;
      };
      before = before_next (HasItsWords b orth) is i y at (no_entry other) h.before;
    }

-- an entry with the next number
abbrev pub numbered : ℕ → List Word → EntryTree
numbered n ws = record { number = n; words = ws }

numbers_next : (given : List EntryTree) (ws : List Word) → map (λ (e : EntryTree). e.number) given ≡ range_with_len 0 (length given)
    → map (λ (e : EntryTree). e.number) (given ++ numbered (length given) ws ∷ []) ≡ range_with_len 0 (length (given ++ numbered (length given) ws ∷ []))
numbers_next given ws h =
    let more : length (given ++ numbered (length given) ws ∷ []) ≡ length given + 1 = length-append given (numbered (length given) ws ∷ []) in
    map-append (λ (e : EntryTree). e.number) given (numbered (length given) ws ∷ []) ∙ ap (λ l. l ++ length given ∷ []) h ∙ sym (range_push (length given)) ∙ ap (range_with_len 0) (sym more)

pub so_far_entry : (b : Book) (orth : List (Option ℕ)) (i : ℕ) (y : InstanceMap) (given new : List EntryTree) (n : ℕ) (ws : List Word) → slice_get (instances_of b) i ≡ Some y → is_entry y.status ≡ true → HasWordsAt b orth y ws
    → n ≡ length given → new ≡ given ++ numbered n ws ∷ [] → EntriesSoFar b orth i given → EntriesSoFar b orth (i + 1) new
so_far_entry b orth i y given new n ws at is_one has count grown h =
    let is = instances_of b in
    let R = λ (x : InstanceMap) (e : EntryTree). HasWordsAt b orth x e.words in
    let e = numbered (length given) ws in
    let all : AreEntriesOf b orth (take (i + 1) is) (given ++ e ∷ []) =
    record {
      numbered = numbers_next given ws h.entries.numbered;
      words = subst (λ l. AllZip R l (given ++ e ∷ [])) (sym (entries_with is i y true at is_one)) (zip_push R (entries_in (take i is)) given y e h.entries.words has);
    } in
    record {
      entries = subst (AreEntriesOf b orth (take (i + 1) is)) (sym (grown ∙ ap (λ k. given ++ numbered k ws ∷ []) count)) all;
      before = before_next (HasItsWords b orth) is i y at (of_entry ws has) h.before;
    }

pub so_far_all : (b : Book) (orth : List (Option ℕ)) (i : ℕ) (given : List EntryTree) → length (instances_of b) ≤ i → EntriesSoFar b orth i given → AreEntriesOf b orth (instances_of b) given
so_far_all b orth i given past h = subst (λ l. AreEntriesOf b orth l given) (take_all i (instances_of b) past) h.entries

-- an entry without words
lacks : (b : Book) (orth : List (Option ℕ)) (y : InstanceMap) → is_entry y.status ≡ true → ((ws : List Word) → HasWordsAt b orth y ws → ⊥) → HasItsWords b orth y → ⊥
lacks b orth y one none (of_entry ws has) = none ws has
lacks b orth y one none (no_entry other) = clash (is_entry y.status) one other

pub without_words : (b : Book) (orth : List (Option ℕ)) (i : ℕ) (y : InstanceMap) (given : List EntryTree) → slice_get (instances_of b) i ≡ Some y → is_entry y.status ≡ true → ((ws : List Word) → HasWordsAt b orth y ws → ⊥)
    → EntriesSoFar b orth i given → (i < length (instances_of b)) × IsFirstPlace (HasItsWords b orth) (instances_of b) i
without_words b orth i y given at one none h =
    let is = instances_of b in
    (slice_get_within is i y at, first_here (HasItsWords b orth) is i y at (lacks b orth y one none) h.before)

-- the words that are read of an instance
pub words_moved : (b : Book) (orth : List (Option ℕ)) (y : InstanceMap) (types : TypeTable) (names : ListTree) (o : Option (List Word)) → types ≡ b.system.types → names ≡ lists_of (numbered_of b.names)
    → AreWordsAt types names y.structure orth o → AreWordsAt b.system.types (lists_of (numbered_of b.names)) y.structure orth o
words_moved b orth y types names o t n h = subst (λ k. AreWordsAt b.system.types k y.structure orth o) n (subst (λ k. AreWordsAt k names y.structure orth o) t h)
