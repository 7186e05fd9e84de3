-- The strings of nodes, one after another, and their words.
use Rattle.std.proofs.Common.{ℕ, zero, suc, ◌≡◌, ◌<◌, ◌≤◌, ◌+◌, cond, true, false, ◌==◌, List, [], ◌∷◌, ◌++◌, length, map, take, get_or, Option, None, Some, refl, sym, ◌∙◌, ap, subst, arith, append_assoc}
use Rattle.std.specs.List.{AllZip, flat_map}
use Rattle.std.specs.Prelude.{slice_get, slice_index_or}
use Rattle.std.proofs.lemmas.Bool.{le-ltb, lt-ltb}
use Rattle.std.proofs.lemmas.Bool.Decides.{Decides-eqb}
use Rattle.lexicon.proofs.WordLemmas.{true_not_false}
use Rattle.std.proofs.lemmas.List.{append-nil}
use Rattle.std.proofs.lemmas.Option.{slice_get-get_or}
use Rattle.type_hierarchy.specs.Decls.{Name}
use Rattle.type_hierarchy.specs.Table.{TypeTable, count_of, completed_count}
use Rattle.fs_graph.specs.GraphMap.{GraphMap, type_at}
use Rattle.lexicon.specs.Words.{Word}
use Rattle.closed_lists.specs.Names.{ListTree}
use Rattle.closed_lists.specs.Lists.{HasList}
use Rattle.closed_lists.specs.Strings.{string_of, words_of_string, AreSpoken, HasWords}
use Rattle.closed_lists.proofs.ListLemmas.{list_one}

pub no_string : (types : TypeTable) (t : ℕ) → t < completed_count types → None ≡ string_of types t
no_string types t lt = sym (ap (λ b. cond b None (slice_get types.names t)) (lt-ltb t (completed_count types) lt))

pub string_there : (types : TypeTable) (t : ℕ) (text : Name) → completed_count types ≤ t → t < count_of types → text ≡ slice_index_or types.names t [] → Some text ≡ string_of types t
string_there types t text le lt e =
    ap (λ x. Some x) e ∙ sym (slice_get-get_or types.names t [] lt) ∙ sym (ap (λ b. cond b None (slice_get types.names t)) (le-ltb t (completed_count types) le))

-- no node has no words
pub spoken_none : (types : TypeTable) (g : GraphMap) (ws : List Word) → ws ≡ [] → AreSpoken types g [] ws
spoken_none types g ws e = record { strings = []; texts = tt; is = e }

zip_more : (types : TypeTable) (g : GraphMap) (nodes : List ℕ) (strings : List Name) (n : ℕ) (text : Name) → AllZip (λ e t. string_of types (type_at g e) ≡ Some t) nodes strings → string_of types (type_at g n) ≡ Some text
    → AllZip (λ e t. string_of types (type_at g e) ≡ Some t) (nodes ++ n ∷ []) (strings ++ text ∷ [])
zip_more types g [] [] n text h e = (e, tt)
zip_more types g [] (s ∷ ss) n text h e = absurd h
zip_more types g (x ∷ xs) [] n text h e = absurd h
zip_more types g (x ∷ xs) (s ∷ ss) n text h e = (h.0, zip_more types g xs ss n text h.1 e)

flat-snoc : (strings : List Name) (text : Name) → flat_map words_of_string (strings ++ text ∷ []) ≡ flat_map words_of_string strings ++ words_of_string text
flat-snoc [] text = append-nil (words_of_string text)
flat-snoc (s ∷ ss) text = ap (λ l. words_of_string s ++ l) (flat-snoc ss text) ∙ sym (append_assoc (words_of_string s) (flat_map words_of_string ss) (words_of_string text))

-- one node more
pub spoken_more : (types : TypeTable) (g : GraphMap) (nodes all : List ℕ) (n : ℕ) (text : Name) (old new : List Word) → all ≡ nodes ++ n ∷ [] → string_of types (type_at g n) ≡ Some text → new ≡ old ++ words_of_string text
    → AreSpoken types g nodes old → AreSpoken types g all new
spoken_more types g nodes all n text old new is e grown h =
    subst (λ l. AreSpoken types g l new) (sym is)
    (record {
      strings = h.strings ++ text ∷ [];
      texts = zip_more types g nodes h.strings n text h.texts e;
      is = grown ∙ ap (λ l. l ++ words_of_string text) h.is ∙ sym (flat-snoc h.strings text);
    })

-- a node without a string
pub unspoken : (types : TypeTable) (g : GraphMap) (nodes : List ℕ) (k n : ℕ) (ws : List Word) → k < length nodes → n ≡ get_or nodes k 0 → None ≡ string_of types (type_at g n) → AreSpoken types g nodes ws → ⊥
unspoken types g nodes k n ws lt at none h = go nodes h.strings k lt at h.texts
  where
    go : (ns : List ℕ) (ss : List Name) (k : ℕ) → k < length ns → n ≡ get_or ns k 0 → AllZip (λ e t. string_of types (type_at g e) ≡ Some t) ns ss → ⊥
    go [] ss k lt at z = absurd (omega arith)
    go (x ∷ xs) [] k lt at z = z
    go (x ∷ xs) (s ∷ ss) zero lt at z = let q : None ≡ Some s = none ∙ ap (λ m. string_of types (type_at g m)) at ∙ z.0 in cc
    go (x ∷ xs) (s ∷ ss) (suc k) lt at z = go xs ss k (omega arith) at z.1

-- nodes have one list of words
zip_one : (types : TypeTable) (g : GraphMap) (nodes : List ℕ) (xs ys : List Name) → AllZip (λ e t. string_of types (type_at g e) ≡ Some t) nodes xs → AllZip (λ e t. string_of types (type_at g e) ≡ Some t) nodes ys → xs ≡ ys
zip_one types g [] [] [] h k = refl
zip_one types g [] [] (y ∷ ys) h k = absurd k
zip_one types g [] (x ∷ xs) ys h k = absurd h
zip_one types g (n ∷ ns) [] ys h k = absurd h
zip_one types g (n ∷ ns) (x ∷ xs) [] h k = absurd k
zip_one types g (n ∷ ns) (x ∷ xs) (y ∷ ys) h k =
    let z : Some x ≡ Some y = sym h.0 ∙ k.0 in
    let e : x ≡ y = cc in
    ap (λ a. a ∷ xs) e ∙ ap (λ l. y ∷ l) (zip_one types g ns xs ys h.1 k.1)

pub spoken_one : (types : TypeTable) (g : GraphMap) (nodes : List ℕ) (xs ys : List Word) → AreSpoken types g nodes xs → AreSpoken types g nodes ys → xs ≡ ys
spoken_one types g nodes xs ys h k = h.is ∙ ap (flat_map words_of_string) (zip_one types g nodes h.strings k.strings h.texts k.texts) ∙ sym k.is

-- where the list has no words, the path has none
pub none_spoken : (types : TypeTable) (names : ListTree) (g : GraphMap) (path : List (Option ℕ)) (elements : List ℕ) (ws : List Word) → HasList types names g path elements → ((vs : List Word) → AreSpoken types g elements vs → ⊥) → HasWords types names g path ws → ⊥
none_spoken types names g path elements ws l none h = none ws (subst (λ es. AreSpoken types g es ws) (list_one types names g path h.elements elements h.list l) h.spoken)

pub none_some : (types : TypeTable) (names : ListTree) (g : GraphMap) (path : List (Option ℕ)) (elements : List ℕ) (ws vs : List Word) → HasList types names g path elements → AreSpoken types g elements vs → vs ≡ [] → HasWords types names g path ws → ⊥
none_some types names g path elements ws vs l s e h =
    let same : ws ≡ [] = spoken_one types g elements ws vs (subst (λ es. AreSpoken types g es ws) (list_one types names g path h.elements elements h.list l) h.spoken) s ∙ e in
    let z : 0 < 0 = subst (λ l. 0 < length l) same h.some in
    omega arith

-- no items, and some
pub no_items : {A : Type 0} (xs : List A) (n : ℕ) → n ≡ length xs → (n == 0) ≡ true → xs ≡ []
no_items [] n e z = refl
no_items (x ∷ xs) n e z = let k : n ≡ 0 = (Decides-eqb n 0).0 z in absurd (omega arith)

pub some_items : {A : Type 0} (xs : List A) (n : ℕ) → n ≡ length xs → (n == 0) ≡ false → 0 < length xs
some_items [] n e z = true_not_false (n == 0) ((Decides-eqb n 0).1 e) z
some_items (x ∷ xs) n e z = omega arith
