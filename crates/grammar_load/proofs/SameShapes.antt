-- Books that are one have the same first fault of shape, and the same entries.
use Rattle.std.proofs.Common.{ℕ, zero, suc, ◌≡◌, ◌<◌, ◌≤◌, ◌⊎◌, inl, inr, Bool, true, false, cond, List, [], ◌∷◌, length, map, Option, None, Some, refl, sym, ◌∙◌, ap, subst, arith}
use Rattle.std.specs.Prelude.{slice_get}
use Rattle.std.specs.List.{AllZip, range_with_len}
use Rattle.std.proofs.lemmas.Bool.{cases_lt}
use Rattle.std.proofs.lemmas.List.{length-map}
use Rattle.tdl_reader.specs.declared.Status.{Status}
use Rattle.type_hierarchy.specs.Table.{TypeTable}
use Rattle.fs_unify.specs.Rules.{Grammar}
use Rattle.constraint_expand.specs.declared.books.Book.{Book}
use Rattle.constraint_expand.specs.Books.{Numbered, numbered_of, InstanceMap}
use Rattle.lexicon.specs.Words.{Word, Each}
use Rattle.lexicon.specs.Entries.{EntryTree, IsLexiconOf}
use Rattle.closed_lists.specs.Strings.{HasWords}
use Rattle.book_shapes.specs.Daughters.{HasDaughters}
use Rattle.book_shapes.specs.Shapes.{lists_of, is_entry, instances_of, entries_in, HasItsDaughters, HasWordsAt, HasItsWords, of_entry, no_entry, IsFirstPlace, AreEntriesOf}
use Rattle.book_shapes.proofs.PlaceLemmas.{each_at}
use Rattle.fs_graph.specs.GraphMap.{reader_of}
use Rattle.grammar_load.specs.Outcomes.{IsSameInstance, IsSameBook}
use Rattle.grammar_load.proofs.NumberLemmas.{numbers_are, given_is}
use Rattle.grammar_load.proofs.SameLists.{same_back, words_move, daughters_move, words_one}

zip_back : {A B : Type 0} (R : A → B → Type 0) (Q : B → A → Type 0) → ((x : A) (y : B) → R x y → Q y x) → (xs : List A) (ys : List B) → AllZip R xs ys → AllZip Q ys xs
zip_back R Q to [] [] z = tt
zip_back R Q to [] (y ∷ ys) z = absurd z
zip_back R Q to (x ∷ xs) [] z = absurd z
zip_back R Q to (x ∷ xs) (y ∷ ys) z = (to x y z.0, zip_back R Q to xs ys z.1)

instance_back : (i j : InstanceMap) → IsSameInstance i j → IsSameInstance j i
instance_back i j s = record { status = sym s.status; structure = same_back (reader_of i.structure) (reader_of j.structure) s.structure }

pub book_back : (b c : Book) → IsSameBook b c → IsSameBook c b
book_back b c s =
    record {
      system = sym s.system;
      features = sym s.features;
      constraints = zip_back _ _ (λ g h k. same_back (reader_of g) (reader_of h) k) b.constraints.items c.constraints.items s.constraints;
      instances = zip_back IsSameInstance IsSameInstance instance_back (instances_of b) (instances_of c) s.instances;
      numbered = sym s.numbered;
    }

-- along two lists
each_along : {A B : Type 0} (S : A → B → Type 0) (P : A → Type 0) (Q : B → Type 0) → ((x : A) (y : B) → S x y → P x → Q y) → (xs : List A) (ys : List B) → AllZip S xs ys → Each P xs → Each Q ys
each_along S P Q to [] [] z e = tt
each_along S P Q to [] (y ∷ ys) z e = absurd z
each_along S P Q to (x ∷ xs) [] z e = absurd z
each_along S P Q to (x ∷ xs) (y ∷ ys) z e = (to x y z.0 e.0, each_along S P Q to xs ys z.1 e.1)

some_at : {A : Type 0} (xs : List A) (k : ℕ) → k < length xs → (x : A) × (slice_get xs k ≡ Some x)
some_at [] k h = absurd (omega (arith, h))
some_at (x ∷ xs) zero h = (x, refl)
some_at (x ∷ xs) (suc k) h = some_at xs k (omega (arith, h))

beside_at : {A B : Type 0} (S : A → B → Type 0) (xs : List A) (ys : List B) (k : ℕ) (x : A) → AllZip S xs ys → slice_get xs k ≡ Some x → (y : B) × (slice_get ys k ≡ Some y) × S x y
beside_at S [] ys k x z e = absurd (let q : None ≡ Some x = e in cc)
beside_at S (w ∷ xs) [] k x z e = absurd z
beside_at S (w ∷ xs) (y ∷ ys) zero x z e = let q : Some w ≡ Some x = e in let same : w ≡ x = cc in (y, refl, subst (λ v. S v y) same z.0)
beside_at S (w ∷ xs) (y ∷ ys) (suc k) x z e = beside_at S xs ys k x z.1 e

-- where one of the two fails first, the other doesn't hold before
not_later : {A B : Type 0} (S : A → B → Type 0) (P : A → Type 0) (Q : B → Type 0) → ((x : A) (y : B) → S x y → Q y → P x) → (xs : List A) (ys : List B) → AllZip S xs ys → (k j : ℕ) → k < length xs → IsFirstPlace P xs k → IsFirstPlace Q ys j → k < j → ⊥
not_later S P Q back xs ys z k j h a b l =
    let x = some_at xs k h in
    let y = beside_at S xs ys k x.0 z x.1 in
    a.fails x.0 x.1 (back x.0 y.0 y.2 (b.before k y.0 l y.1))

first_one : {A B : Type 0} (S : A → B → Type 0) (P : A → Type 0) (Q : B → Type 0) → ((x : A) (y : B) → S x y → P x → Q y) → ((x : A) (y : B) → S x y → Q y → P x) → (xs : List A) (ys : List B) → AllZip S xs ys → (k j : ℕ) → k < length xs → j < length ys
    → IsFirstPlace P xs k → IsFirstPlace Q ys j → k ≡ j
first_one {A} {B} S P Q to back xs ys z k j h i a b = go (cases_lt k j) (cases_lt j k)
  where
    go : (k < j) ⊎ (j ≤ k) → (j < k) ⊎ (k ≤ j) → k ≡ j
    go (inl l) m = absurd (not_later S P Q back xs ys z k j h a b l)
    go (inr l) (inl m) = absurd (not_later (λ y x. S x y) Q P (λ y x s p. to x y s p) ys xs (zip_back S (λ y x. S x y) (λ x y s. s) xs ys z) j k i b a m)
    go (inr l) (inr m) = omega (arith, l, m)

not_first : {A : Type 0} (P : A → Type 0) (xs : List A) (k : ℕ) → k < length xs → IsFirstPlace P xs k → Each P xs → ⊥
not_first P xs k h a e = let x = some_at xs k h in a.fails x.0 x.1 (each_at P xs k x.0 e x.1)

-- daughters and words of one instance in both books
daughters_in : (t : TypeTable) (n : Numbered) (status : Status) (i : InstanceMap) → Type 0
daughters_in t n status i = HasDaughters t (lists_of n) n.args_path status i.structure

pub daughters_to : (b c : Book) → IsSameBook b c → (i j : InstanceMap) → IsSameInstance i j → HasItsDaughters b i → HasItsDaughters c j
unfolding daughters_in
daughters_to b c s i j k h =
    let n = numbered_of b.names in
    let moved : daughters_in b.system.types n i.status j = daughters_move i.structure j.structure k.structure b.system.types (lists_of n) n.args_path i.status h in
    subst (λ (g : Grammar). daughters_in g.types (numbered_of c.names) j.status j) s.system (subst (λ m. daughters_in b.system.types m j.status j) s.numbered (subst (λ st. daughters_in b.system.types n st j) k.status moved))

pub words_to : (b c : Book) (orth : List (Option ℕ)) → IsSameBook b c → (i j : InstanceMap) (ws : List Word) → IsSameInstance i j → HasWordsAt b orth i ws → HasWordsAt c orth j ws
words_to b c orth s i j ws k h =
    let moved = words_move i.structure j.structure k.structure b.system.types (lists_of (numbered_of b.names)) orth ws h in
    subst (λ (g : Grammar). HasWords g.types (lists_of (numbered_of c.names)) j.structure orth ws) s.system (subst (λ m. HasWords b.system.types (lists_of m) j.structure orth ws) s.numbered moved)

its_words_to : (b c : Book) (orth : List (Option ℕ)) → IsSameBook b c → (i j : InstanceMap) → IsSameInstance i j → HasItsWords b orth i → HasItsWords c orth j
its_words_to b c orth s i j k (of_entry ws h) = of_entry ws (words_to b c orth s i j ws k h)
its_words_to b c orth s i j k (no_entry e) = no_entry (ap is_entry (sym k.status) ∙ e)

-- the same first faults
pub daughters_each : (b c : Book) → IsSameBook b c → Each (HasItsDaughters b) (instances_of b) → Each (HasItsDaughters c) (instances_of c)
daughters_each b c s e = each_along IsSameInstance (HasItsDaughters b) (HasItsDaughters c) (λ i j k h. daughters_to b c s i j k h) (instances_of b) (instances_of c) s.instances e

pub arity_one : (b c : Book) → IsSameBook b c → (k j : ℕ) → k < length (instances_of b) → j < length (instances_of c) → IsFirstPlace (HasItsDaughters b) (instances_of b) k → IsFirstPlace (HasItsDaughters c) (instances_of c) j → k ≡ j
arity_one b c s =
    first_one IsSameInstance (HasItsDaughters b) (HasItsDaughters c) (λ x y z p. daughters_to b c s x y z p) (λ x y z p. daughters_to c b (book_back b c s) y x (instance_back x y z) p) (instances_of b) (instances_of c) s.instances

pub words_first_one : (b c : Book) (orth : List (Option ℕ)) → IsSameBook b c → (k j : ℕ) → k < length (instances_of b) → j < length (instances_of c) → IsFirstPlace (HasItsWords b orth) (instances_of b) k → IsFirstPlace (HasItsWords c orth) (instances_of c) j → k ≡ j
words_first_one b c orth s =
    first_one IsSameInstance (HasItsWords b orth) (HasItsWords c orth) (λ x y z p. its_words_to b c orth s x y z p) (λ x y z p. its_words_to c b orth (book_back b c s) y x (instance_back x y z) p) (instances_of b) (instances_of c) s.instances

pub arity_never : (b c : Book) → IsSameBook b c → (k : ℕ) → k < length (instances_of b) → IsFirstPlace (HasItsDaughters b) (instances_of b) k → Each (HasItsDaughters c) (instances_of c) → ⊥
arity_never b c s k h a e = not_first (HasItsDaughters b) (instances_of b) k h a (daughters_each c b (book_back b c s) e)

-- where the entries have their words, each instance does
all_spoken : (b : Book) (orth : List (Option ℕ)) (is : List InstanceMap) (given : List EntryTree) → AllZip (λ i (e : EntryTree). HasWordsAt b orth i e.words) (entries_in is) given → Each (HasItsWords b orth) is
all_spoken b orth [] given z = tt
all_spoken b orth (i ∷ is) given z = go (is_entry i.status) refl given (λ gs. all_spoken b orth is gs) z
  where
    go : (t : Bool) → is_entry i.status ≡ t → (gs : List EntryTree) → ((hs : List EntryTree) → AllZip (λ i (e : EntryTree). HasWordsAt b orth i e.words) (entries_in is) hs → Each (HasItsWords b orth) is)
        → AllZip (λ i (e : EntryTree). HasWordsAt b orth i e.words) (cond t (i ∷ entries_in is) (entries_in is)) gs → HasItsWords b orth i × Each (HasItsWords b orth) is
    go true e [] more w = absurd w
    go true e (g ∷ gs) more w = (of_entry g.words w.0, more gs w.1)
    go false e gs more w = (no_entry e, more gs w)

pub words_never : (b c : Book) (orth : List (Option ℕ)) → IsSameBook b c → (k : ℕ) (given : List EntryTree) → k < length (instances_of b) → IsFirstPlace (HasItsWords b orth) (instances_of b) k → AreEntriesOf c orth (instances_of c) given → ⊥
words_never b c orth s k given h a e =
    not_first (HasItsWords b orth) (instances_of b) k h a
    (each_along IsSameInstance (HasItsWords c orth) (HasItsWords b orth) (λ i j z p. its_words_to c b orth (book_back b c s) i j z p) (instances_of c) (instances_of b) (book_back b c s).instances (all_spoken c orth (instances_of c) given e.words))

-- the same entries
entries_beside : (is js : List InstanceMap) → AllZip IsSameInstance is js → AllZip IsSameInstance (entries_in is) (entries_in js)
entries_beside [] [] z = tt
entries_beside [] (j ∷ js) z = absurd z
entries_beside (i ∷ is) [] z = absurd z
entries_beside (i ∷ is) (j ∷ js) z = go (is_entry i.status) (is_entry j.status) (ap is_entry z.0.status) (entries_beside is js z.1)
  where
    go : (s t : Bool) → s ≡ t → AllZip IsSameInstance (entries_in is) (entries_in js) → AllZip IsSameInstance (cond s (i ∷ entries_in is) (entries_in is)) (cond t (j ∷ entries_in js) (entries_in js))
    go true true e rest = (z.0, rest)
    go true false e rest = absurd (let q : true ≡ false = e in cc)
    go false true e rest = absurd (let q : false ≡ true = e in cc)
    go false false e rest = rest

words_beside : (b c : Book) (orth : List (Option ℕ)) → IsSameBook b c → (is js : List InstanceMap) (xs ys : List EntryTree) → AllZip IsSameInstance is js
    → AllZip (λ i (e : EntryTree). HasWordsAt b orth i e.words) is xs → AllZip (λ i (e : EntryTree). HasWordsAt c orth i e.words) js ys → map (λ (e : EntryTree). e.words) xs ≡ map (λ (e : EntryTree). e.words) ys
words_beside b c orth s [] [] [] [] z v w = refl
words_beside b c orth s [] [] [] (y ∷ ys) z v w = absurd w
words_beside b c orth s [] [] (x ∷ xs) ys z v w = absurd v
words_beside b c orth s [] (j ∷ js) xs ys z v w = absurd z
words_beside b c orth s (i ∷ is) [] xs ys z v w = absurd z
words_beside b c orth s (i ∷ is) (j ∷ js) [] ys z v w = absurd v
words_beside b c orth s (i ∷ is) (j ∷ js) (x ∷ xs) [] z v w = absurd w
words_beside b c orth s (i ∷ is) (j ∷ js) (x ∷ xs) (y ∷ ys) z v w =
    let one : x.words ≡ y.words = words_one c.system.types (lists_of (numbered_of c.names)) j.structure orth x.words y.words (words_to b c orth s i j x.words z.0 v.0) w.0 in
    ap (λ k. k ∷ map (λ (e : EntryTree). e.words) xs) one ∙ ap (λ l. y.words ∷ l) (words_beside b c orth s is js xs ys z.1 v.1 w.1)

abbrev entry : ℕ → List Word → EntryTree
entry n ws = record { number = n; words = ws }

same_entries : (xs ys : List EntryTree) → map (λ (e : EntryTree). e.number) xs ≡ map (λ (e : EntryTree). e.number) ys → map (λ (e : EntryTree). e.words) xs ≡ map (λ (e : EntryTree). e.words) ys → xs ≡ ys
same_entries [] [] a b = refl
same_entries [] (y ∷ ys) a b = absurd (let q : [] ≡ y.number ∷ map (λ (e : EntryTree). e.number) ys = a in cc)
same_entries (x ∷ xs) [] a b = absurd (let q : x.number ∷ map (λ (e : EntryTree). e.number) xs ≡ [] = a in cc)
same_entries (x ∷ xs) (y ∷ ys) a b =
    let p : x.number ∷ map (λ (e : EntryTree). e.number) xs ≡ y.number ∷ map (λ (e : EntryTree). e.number) ys = a in
    let q : x.words ∷ map (λ (e : EntryTree). e.words) xs ≡ y.words ∷ map (λ (e : EntryTree). e.words) ys = b in
    let n : x.number ≡ y.number = cc in
    let w : x.words ≡ y.words = cc in
    let ns : map (λ (e : EntryTree). e.number) xs ≡ map (λ (e : EntryTree). e.number) ys = cc in
    let ws : map (λ (e : EntryTree). e.words) xs ≡ map (λ (e : EntryTree). e.words) ys = cc in
    let one : x ≡ y = ap (λ k. entry k x.words) n ∙ ap (entry y.number) w in
    ap (λ k. k ∷ xs) one ∙ ap (λ l. y ∷ l) (same_entries xs ys ns ws)

-- a lexicon is the list of entries that it was given
pub lexicon_is : (b : Book) (orth : List (Option ℕ)) (given lexicon : List EntryTree) → AreEntriesOf b orth (instances_of b) given → IsLexiconOf given lexicon → lexicon ≡ given
lexicon_is b orth given lexicon h l =
    let number = λ (e : EntryTree). e.number in
    given_is number (length given) given lexicon h.numbered l.same (numbers_are number (length given) given lexicon h.numbered l.same l.rising)

pub given_one : (b c : Book) (orth : List (Option ℕ)) → IsSameBook b c → (xs ys : List EntryTree) → AreEntriesOf b orth (instances_of b) xs → AreEntriesOf c orth (instances_of c) ys → xs ≡ ys
given_one b c orth s xs ys v w =
    let words = words_beside b c orth s (entries_in (instances_of b)) (entries_in (instances_of c)) xs ys (entries_beside (instances_of b) (instances_of c) s.instances) v.words w.words in
    let long : length xs ≡ length ys = sym (length-map xs (λ (e : EntryTree). e.words)) ∙ ap length words ∙ length-map ys (λ (e : EntryTree). e.words) in
    same_entries xs ys (v.numbered ∙ ap (range_with_len 0) long ∙ sym w.numbered) words
