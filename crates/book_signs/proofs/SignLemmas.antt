-- Instances of a book as signs.
use Rattle.std.proofs.Common.{ℕ, zero, suc, ◌≡◌, ◌<◌, ◌==◌, eqb-true, Bool, true, false, List, [], ◌∷◌, ◌++◌, length, map, get_or, Option, None, Some, refl, sym, ◌∙◌, ap, subst, arith}
use Rattle.std.specs.Prelude.{All, slice_get, slice_index_or, option_map, replicate}
use Rattle.std.specs.List.{AllZip, range_with_len}
use Rattle.std.proofs.lemmas.List.{length-map}
use Rattle.std.proofs.lemmas.List.FromFn.{length-map-range_with_len}
use Rattle.std.proofs.lemmas.List.Elements.{All-nil, All-cons, All-append}
use Rattle.tdl_reader.specs.declared.Status.{Status}
use Rattle.tdl_reader.specs.declared.Status.TheVariants.{TypeDef, Entry, LexRule, Rule as a_rule, Root, Other}
use Rattle.type_hierarchy.specs.Table.{TypeTable, count_of}
use Rattle.fs_model.specs.Claims.{Path, Has, here, there}
use Rattle.fs_model.specs.Table.{walk}
use Rattle.fs_graph.specs.declared.graph.GraphArc.{GraphArc}
use Rattle.fs_graph.specs.GraphMap.{GraphMap, IsGraph, table_of, arcs_at, arc_to}
use Rattle.fs_unify.specs.Rules.{Grammar}
use Rattle.fs_unify.specs.Entering.{IsGraphIn}
use Rattle.fs_trim.specs.Cutting.{IsShort}
use Rattle.tree_model.specs.Mothers.{Rule}
use Rattle.fs_unify.specs.Rules.{Grammar as Typing}
use Rattle.tree_model.specs.Signs.{Instance}
use Rattle.closed_lists.specs.Names.{ListTree, IsReadable}
use Rattle.closed_lists.specs.Lists.{arc_named, Elements, ends, goes_on}
use Rattle.closed_lists.proofs.ListLemmas.{list_one}
use Rattle.book_shapes.specs.Daughters.{is_rule, MayHave, of_rule, no_rule}
use Rattle.lexicon.specs.Words.{Each}
use Rattle.constraint_expand.specs.declared.books.Book.{Book}
use Rattle.constraint_expand.specs.declared.books.Instance.{Instance as BookInstance}
use Rattle.constraint_expand.specs.Books.{numbered_of, InstanceMap, instance_of}
use Rattle.book_shapes.specs.Shapes.{lists_of, instances_of, HasItsDaughters}
use Rattle.book_shapes.proofs.PlaceLemmas.{seen_at, clash}
use Rattle.book_signs.specs.Signed.{kind_of, known_of, paths_in, element_path, AreDaughters, ArePlaces, IsSignOf, IsSignsOf, facts_of}
use Rattle.book_signs.specs.Signed as signed
use Rattle.book_signs.specs.Trees.{sign_of, signs_with, signs_of, facts_at, places_at, kinds_of, HasArity, HaveArities, ArePathsIn}
use Rattle.book_signs.specs.Inner.Kept.{kinds_in}

pub zip_lengths : {A B : Type 0} (R : A → B → Type 0) (xs : List A) (ys : List B) → AllZip R xs ys → length xs ≡ length ys
zip_lengths R [] [] h = refl
zip_lengths R [] (y ∷ ys) h = absurd h
zip_lengths R (x ∷ xs) [] h = absurd h
zip_lengths R (x ∷ xs) (y ∷ ys) h = let z = zip_lengths R xs ys h.1 in omega (arith, z)

pub zip_at : {A B : Type 0} (R : A → B → Type 0) (xs : List A) (ys : List B) (n : ℕ) (x : A) (y : B) → AllZip R xs ys → slice_get xs n ≡ Some x → slice_get ys n ≡ Some y → R x y
zip_at R [] ys n x y h e f = absurd (cc)
zip_at R (a ∷ xs) [] n x y h e f = absurd h
zip_at R (a ∷ xs) (b ∷ ys) zero x y h e f = let p : a ≡ x = cc in let q : b ≡ y = cc in subst (λ z. R z y) p (subst (R a) q h.0)
zip_at R (a ∷ xs) (b ∷ ys) (suc n) x y h e f = zip_at R xs ys n x y h.1 e f

-- the signs of instances with places
signed_each : (b : Book) (is : List InstanceMap) (placings : List (List Path)) → AllZip (ArePlaces b) is placings → AllZip (IsSignOf b) is (signs_with b.system is placings)
signed_each b [] [] h = tt
signed_each b [] (p ∷ placings) h = absurd h
signed_each b (i ∷ is) [] h = absurd h
signed_each b (i ∷ is) (p ∷ placings) h = (record { kind = refl; facts = refl; places = h.0 }, signed_each b is placings h.1)

pub are_signs : (b : Book) (placings : List (List Path)) → AllZip (ArePlaces b) (instances_of b) placings → IsSignsOf b (signs_of (record { book = b; places = placings }))
are_signs b placings h = record { system = refl; paths = refl; instances = signed_each b (instances_of b) placings h; daughter_features = refl; restrictors = refl }

pub signs_length : (t : Typing) (is : List InstanceMap) (placings : List (List Path)) → length is ≡ length placings → length (signs_with t is placings) ≡ length is
signs_length t [] placings h = refl
signs_length t (i ∷ is) [] h = absurd (omega (arith, h))
signs_length t (i ∷ is) (p ∷ placings) h = let z = signs_length t is placings (omega (arith, h)) in omega (arith, z)

pub signs_at : (t : Typing) (is : List InstanceMap) (placings : List (List Path)) (n : ℕ) (i : InstanceMap) (places : List Path) → slice_get is n ≡ Some i → slice_get placings n ≡ Some places → slice_get (signs_with t is placings) n ≡ Some (sign_of t i places)
signs_at t [] placings n i places e f = absurd (cc)
signs_at t (x ∷ is) [] n i places e f = absurd (cc)
signs_at t (x ∷ is) (p ∷ placings) zero i places e f = let a : x ≡ i = cc in let b : p ≡ places = cc in ap (λ y. Some (sign_of t y p)) a ∙ ap (λ q. Some (sign_of t i q)) b
signs_at t (x ∷ is) (p ∷ placings) (suc n) i places e f = signs_at t is placings n i places e f

pub got : {A : Type 0} (xs : List A) (n : ℕ) → n < length xs → (x : A) × (slice_get xs n ≡ Some x)
got [] n lt = absurd (omega (arith, lt))
got (x ∷ xs) zero lt = (x, refl)
got (x ∷ xs) (suc n) lt = got xs n (omega (arith, lt))

pub kinds_with : (t : Typing) (is : List BookInstance) (placings : List (List Path)) → length is ≡ length placings → map (λ s. s.kind) (signs_with t (map instance_of is) placings) ≡ kinds_in is
kinds_with t [] placings h = refl
kinds_with t (i ∷ is) [] h = absurd (omega (arith, h))
kinds_with t (i ∷ is) (p ∷ placings) h = ap (λ l. kind_of i.status ∷ l) (kinds_with t is placings (omega (arith, h)))

-- the kinds of signs are those of the book's instances
pub kinds_kept : (b : Book) (placings : List (List Path)) → AllZip (ArePlaces b) (instances_of b) placings → kinds_in b.instances.items ≡ kinds_of (signs_of (record { book = b; places = placings }))
kinds_kept b placings h = sym (kinds_with b.system b.instances.items placings (sym (length-map b.instances.items instance_of) ∙ zip_lengths (ArePlaces b) (instances_of b) placings h))

-- a place of a sign is one of an instance and of a list of places
pub within : (b : Book) (placings : List (List Path)) (n : ℕ) → AllZip (ArePlaces b) (instances_of b) placings → n < length (signs_with b.system (instances_of b) placings) → (n < length b.instances.items) × (n < length placings)
within b placings n h lt =
    let z = zip_lengths (ArePlaces b) (instances_of b) placings h in
    let y = signs_length b.system (instances_of b) placings z in
    let x = length-map b.instances.items instance_of in
    (omega (arith, lt, x, y, z), omega (arith, lt, y, z))

-- what stands at a place
pub record Stands (b : Book) (placings : List (List Path)) (n : ℕ) (i : InstanceMap) (places : List Path) : Type 0 where
  pub instance_at : slice_get (instances_of b) n ≡ Some i
  pub places_are : slice_get placings n ≡ Some places

pub stands_instance : (b : Book) (placings : List (List Path)) (n : ℕ) (x : BookInstance) → n < length b.instances.items → n < length placings → x ≡ get_or b.instances.items n x → (places : List Path) × Stands b placings n (instance_of x) places
stands_instance b placings n x lt lt' at = let p = got placings n lt' in (p.0, record { instance_at = seen_at instance_of b.instances.items n x lt at; places_are = p.1 })

pub facts_there : (b : Book) (placings : List (List Path)) (n : ℕ) (i : InstanceMap) (places : List Path) → Stands b placings n i places → facts_at (signs_of (record { book = b; places = placings })) n ≡ Some (facts_of b.system i.structure)
facts_there b placings n i places s = ap (λ o. option_map (λ (r : Rule). r.facts) (option_map (λ (i : Instance). i.rule) o)) (signs_at b.system (instances_of b) placings n i places s.instance_at s.places_are)

pub places_there : (b : Book) (placings : List (List Path)) (n : ℕ) (i : InstanceMap) (places : List Path) → Stands b placings n i places → places_at (signs_of (record { book = b; places = placings })) n ≡ Some places
places_there b placings n i places s = ap (λ o. option_map (λ (r : Rule). r.places) (option_map (λ (i : Instance). i.rule) o)) (signs_at b.system (instances_of b) placings n i places s.instance_at s.places_are)

-- features of paths that lead somewhere are features of the grammar
found : (arcs : List GraphArc) (f m : ℕ) → arc_to arcs f ≡ Some m → (a : GraphArc) × Has a arcs × (a.feat.0 ≡ f)
found [] f m e = absurd (cc)
found (a ∷ arcs) f m e = by_test (a.feat.0 == f) refl (found arcs f m)
  where
    by_test : (b : Bool) → (a.feat.0 == f) ≡ b → (arc_to arcs f ≡ Some m → (x : GraphArc) × Has x arcs × (x.feat.0 ≡ f)) → (x : GraphArc) × Has x (a ∷ arcs) × (x.feat.0 ≡ f)
    by_test true q go = (a, here, eqb-true a.feat.0 f q)
    by_test false q go = let z = go (let y : arc_to (a ∷ arcs) f ≡ arc_to arcs f = rw q refl in sym y ∙ e) in (z.0, there z.1, z.2)

no_arcs : (xs : List (List GraphArc)) (n : ℕ) (a : GraphArc) → Has a (slice_index_or xs n []) → n < length xs
no_arcs [] n a h = elim h [ ]
no_arcs (x ∷ xs) zero a h = omega arith
no_arcs (x ∷ xs) (suc n) a h = let z = no_arcs xs n a h in omega (arith, z)

module _ (types feats : ℕ) (g : GraphMap) (shape : IsGraph g) (is : IsGraphIn types feats g) where
  feat_in : (k f m : ℕ) → arc_to (arcs_at g k) f ≡ Some m → f < feats
  feat_in k f m e =
      let z = found (arcs_at g k) f m e in
      let low = no_arcs g.arcs k z.0 z.1 in
      let even = shape.even in
      subst (λ x. x < feats) z.2 (is.feats_in k z.0 (omega (arith, low, even)) z.1)

  path_in : (p : Path) (k n : ℕ) → walk (table_of g) k p ≡ Some n → All (λ f. f < feats) p
  path_in [] k n e = All-nil (λ f. f < feats)
  path_in (f ∷ p) k n e = by_arc (arc_to (arcs_at g k) f) refl (λ m h. path_in p m n h)
    where
      by_arc : (o : Option ℕ) → arc_to (arcs_at g k) f ≡ o → ((m : ℕ) → walk (table_of g) m p ≡ Some n → All (λ h. h < feats) p) → All (λ h. h < feats) (f ∷ p)
      by_arc None q go = absurd (let y : walk (table_of g) k (f ∷ p) ≡ None = rw (walk, q) refl in cc)
      by_arc (Some m) q go = All-cons (λ h. h < feats) f p (feat_in k f m q) (go m (let y : walk (table_of g) k (f ∷ p) ≡ walk (table_of g) m p = rw (walk, q) refl in sym y ∙ e))

  named_in : (k m f : ℕ) (o : Option ℕ) → o ≡ Some f → arc_named g k o ≡ Some m → f < feats
  named_in k m f o e a = feat_in k f m (sym (ap (arc_named g k) e) ∙ a)

  -- the features of lists, where there is an element
  list_feats : (table : TypeTable) (names : ListTree) (n first rest : ℕ) (es : List ℕ) → names.first ≡ Some first → names.rest ≡ Some rest → Elements table names g n es → 0 < length es → (first < feats) × (rest < feats)
  list_feats table names n first rest es f r (ends _ h) some = absurd (omega (arith, some))
  list_feats table names n first rest es f r (goes_on _ a b more open_ cons at_first at_rest later) some = (named_in n a first names.first f at_first, named_in n b rest names.rest r at_rest)

  all_replicate : (k x : ℕ) → x < feats → All (λ f. f < feats) (replicate k x)
  all_replicate zero x h = All-nil (λ f. f < feats)
  all_replicate (suc k) x h = All-cons (λ f. f < feats) x (replicate k x) h (all_replicate k x h)

  element_in : (list : Path) (first rest k : ℕ) → All (λ f. f < feats) list → first < feats → rest < feats → All (λ f. f < feats) (element_path list first rest k)
  element_in list first rest k l f r =
      All-append (λ f. f < feats) (list ++ replicate k rest) (first ∷ []) (All-append (λ f. f < feats) list (replicate k rest) l (all_replicate k rest r)) (All-cons (λ f. f < feats) first [] f (All-nil (λ f. f < feats)))

  elements_in : (list : Path) (first rest : ℕ) (ks : List ℕ) → All (λ f. f < feats) list → first < feats → rest < feats → All (λ p. All (λ f. f < feats) p) (map (element_path list first rest) ks)
  elements_in list first rest [] l f r = All-nil (λ p. All (λ f. f < feats) p)
  elements_in list first rest (k ∷ ks) l f r = All-cons (λ p. All (λ f. f < feats) p) (element_path list first rest k) (map (element_path list first rest) ks) (element_in list first rest k l f r) (elements_in list first rest ks l f r)

  daughters_within : (b : Book) (places : List Path) → AreDaughters b g places → All (λ p. All (λ f. f < feats) p) places
  daughters_within b places d = subst (All (λ p. All (λ f. f < feats) p)) (sym d.paths) (by_elements d.elements refl)
    where
      by_elements : (es : List ℕ) → d.elements ≡ es → All (λ p. All (λ f. f < feats) p) (map (element_path d.list.known d.first d.rest) (range_with_len 0 (length d.elements)))
      by_elements [] e = subst (λ n. All (λ p. All (λ f. f < feats) p) (map (element_path d.list.known d.first d.rest) (range_with_len 0 n))) (sym (ap length e)) (All-nil (λ p. All (λ f. f < feats) p))
      by_elements (x ∷ es) e =
          let some : 0 < length d.elements = omega (arith, ap length e) in
          let z = list_feats b.system.types (lists_of (numbered_of b.names)) d.list.node d.first d.rest d.elements d.first_is d.rest_is d.list.list some in
          elements_in d.list.known d.first d.rest (range_with_len 0 (length d.elements)) (path_in d.list.known 0 d.list.node d.list.at) z.0 z.1

pub places_within : (b : Book) (i : InstanceMap) (places : List Path) → IsGraph i.structure → IsGraphIn (count_of b.system.types) (length b.system.introducers) i.structure → ArePlaces b i places → ArePathsIn b.system places
places_within b i places shape is (signed.of_rule r d) = daughters_within (count_of b.system.types) (length b.system.introducers) i.structure shape is b places d
places_within b i places shape is (signed.of_other r e) = subst (ArePathsIn b.system) (sym e) (All-nil (λ p. All (λ f. f < length b.system.introducers) p))

pub short_instance : (g : Grammar) (names : ListTree) (graph : GraphMap) → IsGraph graph → IsReadable g.types names g.path_limit graph → IsGraphIn (count_of g.types) (length g.introducers) graph → IsShort g graph
short_instance g names graph shape readable is =
    record { graph_in = is; short = λ p n e. readable.bounded p n e; feats_in = λ p n e. path_in (count_of g.types) (length g.introducers) graph shape is p 0 n e }

-- each instance has as many places as its kind asks
arity_by : (status : Status) (n : ℕ) → MayHave status n → is_rule status ≡ true → HasArity (kind_of status) n
arity_by TypeDef n may r = absurd (let z : false ≡ true = r in cc)
arity_by Entry n may r = absurd (let z : false ≡ true = r in cc)
arity_by LexRule n may r = may
arity_by a_rule n may r = may
arity_by Root n may r = absurd (let z : false ≡ true = r in cc)
arity_by Other n may r = absurd (let z : false ≡ true = r in cc)

arity_none : (status : Status) → is_rule status ≡ false → HasArity (kind_of status) 0
arity_none TypeDef r = refl
arity_none Entry r = refl
arity_none LexRule r = absurd (let z : true ≡ false = r in cc)
arity_none a_rule r = absurd (let z : true ≡ false = r in cc)
arity_none Root r = refl
arity_none Other r = refl

arity_of : (b : Book) (i : InstanceMap) (places : List Path) → ArePlaces b i places → HasItsDaughters b i → HasArity (kind_of i.status) (length places)
arity_of b i places (signed.of_rule r d) (of_rule elements list may) =
    let same : d.elements ≡ elements = list_one b.system.types (lists_of (numbered_of b.names)) i.structure (numbered_of b.names).args_path d.elements elements d.list list in
    let count : length places ≡ length elements = ap length d.paths ∙ length-map-range_with_len (element_path d.list.known d.first d.rest) 0 (length d.elements) ∙ ap length same in
    subst (HasArity (kind_of i.status)) (sym count) (arity_by i.status (length elements) may r)
arity_of b i places (signed.of_rule r d) (no_rule other) = clash (is_rule i.status) r other
arity_of b i places (signed.of_other r e) h = subst (λ l. HasArity (kind_of i.status) (length l)) (sym e) (arity_none i.status r)

arities_each : (b : Book) (is : List InstanceMap) (placings : List (List Path)) → AllZip (ArePlaces b) is placings → Each (HasItsDaughters b) is → (n : ℕ) (s : Instance) → slice_get (signs_with b.system is placings) n ≡ Some s → HasArity s.kind (length s.rule.places)
arities_each b [] [] h k n s e = absurd (cc)
arities_each b [] (p ∷ placings) h k n s e = absurd h
arities_each b (i ∷ is) [] h k n s e = absurd h
arities_each b (i ∷ is) (p ∷ placings) h k zero s e =
    let z : sign_of b.system i p ≡ s = cc in subst (λ (x : Instance). HasArity x.kind (length x.rule.places)) z (arity_of b i p h.0 k.0)
arities_each b (i ∷ is) (p ∷ placings) h k (suc n) s e = arities_each b is placings h.1 k.1 n s e

pub arities : (b : Book) (placings : List (List Path)) → AllZip (ArePlaces b) (instances_of b) placings → Each (HasItsDaughters b) (instances_of b) → HaveArities (signs_of (record { book = b; places = placings }))
arities b placings h k = arities_each b (instances_of b) placings h k
