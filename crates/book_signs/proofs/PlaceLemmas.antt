-- Paths to daughters.
use Rattle.std.proofs.Common.{ℕ, zero, suc, ◌≡◌, ◌+◌, ◌<◌, true, false, List, [], ◌∷◌, ◌++◌, length, map, drop, take, get_or, Option, None, Some, refl, sym, ◌∙◌, ap, subst, arith, append_assoc}
use Rattle.std.specs.Prelude.{replicate, slice_get}
use Rattle.std.specs.List.{AllZip, range_with_len}
use Rattle.std.proofs.lemmas.List.{drop_more, map-append, take_more}
use Rattle.std.proofs.lemmas.Option.{get_or_from_slice_get, slice_get_within}
use Rattle.tdl_reader.specs.declared.Status.{Status}
use Rattle.tdl_reader.specs.declared.Status.TheVariants.{TypeDef, Entry, LexRule, Rule, Root, Other}
use Rattle.type_hierarchy.specs.Table.{TypeTable}
use Rattle.fs_model.specs.Claims.{Path}
use Rattle.fs_graph.specs.declared.facts.Feat.{Feat}
use Rattle.fs_graph.specs.Facts.{path_of}
use Rattle.fs_graph.specs.GraphMap.{GraphMap}
use Rattle.constraint_expand.specs.declared.books.Book.{Book}
use Rattle.constraint_expand.specs.Books.{numbered_of, InstanceMap}
use Rattle.type_facts.proofs.RuleLemmas.{range_push}
use Rattle.constraint_expand.proofs.SplitLemmas.{zip_push}
use Rattle.closed_lists.specs.Names.{ListTree}
use Rattle.closed_lists.specs.Lists.{arc_named, Elements, ends, goes_on, HasList, IsListAt}
use Rattle.closed_lists.proofs.ListLemmas.{list_one, somes_one}
use Rattle.book_shapes.specs.Daughters.{is_rule, MayHave, of_rule, no_rule}
use Rattle.book_shapes.specs.Shapes.{lists_of, HasItsDaughters}
use Rattle.book_shapes.proofs.PlaceLemmas.{clash}
use Rattle.book_signs.specs.Signed.{known_of, element_path, AreDaughters, ArePlaces}
use Rattle.book_signs.specs.Signed as signed

-- the features that a grammar has, so far
known_step : (o : Option ℕ) (fs : List (Option ℕ)) → known_of (o ∷ fs) ≡ known_of (o ∷ []) ++ known_of fs
known_step None fs = refl
known_step (Some f) fs = refl

pub known_next : {A : Type 0} (f : A → Option ℕ) (xs : List A) (i : ℕ) (x : A) (old new all : List ℕ) → i < length xs → x ≡ get_or xs i x → new ≡ old ++ known_of (f x ∷ []) → old ++ known_of (map f (drop i xs)) ≡ all → new ++ known_of (map f (drop (i + 1) xs)) ≡ all
known_next f xs i x old new all lt at e h =
    ap (λ l. l ++ known_of (map f (drop (i + 1) xs))) e ∙ append_assoc old (known_of (f x ∷ [])) (known_of (map f (drop (i + 1) xs)))
    ∙ ap (λ l. old ++ l) (sym (known_step (f x) (map f (drop (i + 1) xs))) ∙ ap (λ y. known_of (f y ∷ map f (drop (i + 1) xs))) at ∙ ap (λ l. known_of (map f l)) (sym (drop_more xs i x lt))) ∙ h

pub known_all : (fs : List ℕ) → known_of (map (λ f. Some f) fs) ≡ fs
known_all [] = refl
known_all (f ∷ fs) = ap (λ l. f ∷ l) (known_all fs)

replicate_last : (k x : ℕ) → replicate (suc k) x ≡ replicate k x ++ x ∷ []
replicate_last zero x = refl
replicate_last (suc k) x = ap (λ l. x ∷ l) (replicate_last k x)

pub replicate_next : (k x : ℕ) → replicate (k + 1) x ≡ replicate k x ++ x ∷ []
replicate_next k x = let e : k + 1 ≡ suc k = omega arith in ap (λ n. replicate n x) e ∙ replicate_last k x

pub path_next : (list : Path) (k rest : ℕ) (old new : List Feat) (f : Feat) → new ≡ old ++ f ∷ [] → f.0 ≡ rest → path_of old ≡ list ++ replicate k rest → path_of new ≡ list ++ replicate (k + 1) rest
path_next list k rest old new f e at h =
    ap path_of e ∙ map-append (λ (x : Feat). x.0) old (f ∷ []) ∙ ap (λ l. l ++ f.0 ∷ []) h ∙ ap (λ x. (list ++ replicate k rest) ++ x ∷ []) at ∙ append_assoc list (replicate k rest) (rest ∷ [])
    ∙ ap (λ l. list ++ l) (sym (replicate_next k rest))

pub paths_next : {A : Type 0} (f : A → Path) (g : ℕ → Path) (k : ℕ) (old new : List A) (p : A) → new ≡ old ++ p ∷ [] → f p ≡ g k → map f old ≡ map g (range_with_len 0 k) → map f new ≡ map g (range_with_len 0 (k + 1))
paths_next f g k old new p e at h =
    ap (map f) e ∙ map-append f old (p ∷ []) ∙ ap (λ l. l ++ f p ∷ []) h ∙ ap (λ q. map g (range_with_len 0 k) ++ q ∷ []) at
    ∙ sym (ap (map g) (range_push k) ∙ map-append g (range_with_len 0 k) (k ∷ []))

-- a rule's list of daughters, which isn't empty
pub record Daughters (b : Book) (structure : GraphMap) : Type 0 where
  pub elements : List ℕ
  pub list : HasList b.system.types (lists_of (numbered_of b.names)) structure (numbered_of b.names).args_path elements
  pub some : 0 < length elements

some_of : (status : Status) (n : ℕ) → is_rule status ≡ true → MayHave status n → 0 < n
some_of TypeDef n e h = absurd (let z : false ≡ true = e in cc)
some_of Entry n e h = absurd (let z : false ≡ true = e in cc)
some_of LexRule n e h = omega (arith, h)
some_of Rule n e h = omega (arith, h.0)
some_of Root n e h = absurd (let z : false ≡ true = e in cc)
some_of Other n e h = absurd (let z : false ≡ true = e in cc)

pub has_some : (b : Book) (i : InstanceMap) → is_rule i.status ≡ true → HasItsDaughters b i → Daughters b i.structure
has_some b i rule (of_rule elements list may) = record { elements = elements; list = list; some = some_of i.status (length elements) rule may }
has_some b i rule (no_rule other) = clash (is_rule i.status) rule other

none_some : {A : Type 0} (x : A) → None ≡ Some x → ⊥
none_some x e = cc

-- a list that isn't empty has the features of lists
features_at : (types : TypeTable) (names : ListTree) (g : GraphMap) (n : ℕ) (es : List ℕ) → Elements types names g n es → 0 < length es → (names.first ≡ None → ⊥) × (names.rest ≡ None → ⊥)
features_at types names g n es (ends _ h) some = absurd (omega (arith, some))
features_at types names g n es (goes_on _ first rest more open_ cons at_first at_rest later) some =
    (λ e. none_some first (ap (arc_named g n) (sym e) ∙ at_first), λ e. none_some rest (ap (arc_named g n) (sym e) ∙ at_rest))

pub has_features : (b : Book) (structure : GraphMap) → Daughters b structure → ((numbered_of b.names).first ≡ None → ⊥) × ((numbered_of b.names).rest ≡ None → ⊥)
has_features b structure d = features_at b.system.types (lists_of (numbered_of b.names)) structure d.list.node d.elements d.list.list d.some

pub no_list_none : (b : Book) (structure : GraphMap) → Daughters b structure → IsListAt b.system.types (lists_of (numbered_of b.names)) structure (numbered_of b.names).args_path None → ⊥
no_list_none b structure d h = h d.elements d.list

pub daughters_made : (b : Book) (structure : GraphMap) (elements : List ℕ) (first rest : ℕ) (list : Path) (count : ℕ) (places : List Path) →
    IsListAt b.system.types (lists_of (numbered_of b.names)) structure (numbered_of b.names).args_path (Some elements) → (numbered_of b.names).first ≡ Some first → (numbered_of b.names).rest ≡ Some rest →
    list ≡ known_of (numbered_of b.names).args_path → count ≡ length elements → places ≡ map (element_path list first rest) (range_with_len 0 count) → AreDaughters b structure places
daughters_made b structure elements first rest list count places h f r l n p =
    let known : list ≡ h.known = l ∙ ap known_of h.features ∙ known_all h.known in
    record {
      elements = elements;
      list = h;
      first = first;
      first_is = f;
      rest = rest;
      rest_is = r;
      paths = p ∙ ap (λ q. map (element_path q first rest) (range_with_len 0 count)) known ∙ ap (λ m. map (element_path h.known first rest) (range_with_len 0 m)) n;
    }

-- the places of a rule's daughters are one list
same_some : (a b : ℕ) (o : Option ℕ) → o ≡ Some a → o ≡ Some b → a ≡ b
same_some a b o e f = let z : Some a ≡ Some b = sym e ∙ f in cc

daughters_one : (b : Book) (structure : GraphMap) (ps qs : List Path) → AreDaughters b structure ps → AreDaughters b structure qs → ps ≡ qs
daughters_one b structure ps qs x y =
    let known : x.list.known ≡ y.list.known = somes_one x.list.known y.list.known (sym x.list.features ∙ y.list.features) in
    let elements : x.elements ≡ y.elements = list_one b.system.types (lists_of (numbered_of b.names)) structure (numbered_of b.names).args_path x.elements y.elements x.list y.list in
    let first : x.first ≡ y.first = same_some x.first y.first (numbered_of b.names).first x.first_is y.first_is in
    let rest : x.rest ≡ y.rest = same_some x.rest y.rest (numbered_of b.names).rest x.rest_is y.rest_is in
    x.paths ∙ ap (λ p. map (element_path p x.first x.rest) (range_with_len 0 (length x.elements))) known ∙ ap (λ f. map (element_path y.list.known f x.rest) (range_with_len 0 (length x.elements))) first
    ∙ ap (λ r. map (element_path y.list.known y.first r) (range_with_len 0 (length x.elements))) rest ∙ ap (λ es. map (element_path y.list.known y.first y.rest) (range_with_len 0 (length es))) elements ∙ sym y.paths

pub places_one : (b : Book) (i : InstanceMap) (ps qs : List Path) → ArePlaces b i ps → ArePlaces b i qs → ps ≡ qs
places_one b i ps qs (signed.of_rule r x) (signed.of_rule s y) = daughters_one b i.structure ps qs x y
places_one b i ps qs (signed.of_rule r x) (signed.of_other s y) = clash (is_rule i.status) r s
places_one b i ps qs (signed.of_other r x) (signed.of_rule s y) = clash (is_rule i.status) s r
places_one b i ps qs (signed.of_other r x) (signed.of_other s y) = x ∙ sym y

-- the list that is read of an instance
pub list_moved : (b : Book) (structure : GraphMap) (types : TypeTable) (names : ListTree) (args : List (Option ℕ)) (o : Option (List ℕ)) → types ≡ b.system.types → names ≡ lists_of (numbered_of b.names) → args ≡ (numbered_of b.names).args_path →
    IsListAt types names structure args o → IsListAt b.system.types (lists_of (numbered_of b.names)) structure (numbered_of b.names).args_path o
list_moved b structure types names args o t n a h =
    subst (λ k. IsListAt b.system.types (lists_of (numbered_of b.names)) structure k o) a (subst (λ k. IsListAt b.system.types k structure args o) n (subst (λ k. IsListAt k names structure args o) t h))

-- one instance more has its places
pub placed_next : {A B C : Type 0} (R : A → B → Type 0) (f : C → B) (is : List A) (i : ℕ) (x : A) (old new : List C) (p : C) → slice_get is i ≡ Some x → new ≡ old ++ p ∷ [] → R x (f p) → AllZip R (take i is) (map f old) → AllZip R (take (i + 1) is) (map f new)
placed_next R f is i x old new p at e r h =
    let lt = slice_get_within is i x at in
    let more : take (i + 1) is ≡ take i is ++ x ∷ [] = take_more is i x lt ∙ ap (λ y. take i is ++ y ∷ []) (get_or_from_slice_get is i x x at) in
    subst (λ l. AllZip R l (map f new)) (sym more) (subst (AllZip R (take i is ++ x ∷ [])) (sym (ap (map f) e ∙ map-append f old (p ∷ []))) (zip_push R (take i is) (map f old) x (f p) h r))
