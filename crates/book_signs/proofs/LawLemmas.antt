-- A book has one list of signs, and what statements expand to is whole.
use Rattle.std.proofs.Common.{ℕ, string_bytes, ◌≡◌, Bool, true, false, List, [], ◌∷◌, length, map, Option, None, Some, refl, sym, ◌∙◌}
use Rattle.std.proofs.lemmas.List.{length-map}
use Rattle.std.specs.List.{AllZip, range_with_len}
use Rattle.type_hierarchy.specs.Decls.{Name, texts}
use Rattle.type_hierarchy.specs.Table.{TypeTable}
use Rattle.grammar_files.specs.Placings.{PlacedTree}
use Rattle.grammar_files.specs.Statements.{instances_in}
use Rattle.fs_model.specs.Claims.{Path, Claim, System}
use Rattle.fs_model.specs.Closure.{Closure, IsConsistent}
use Rattle.fs_model.specs.Sources.{Reader, Source, Told, Tells, tells_exists, tells_same, tells_below, IsUnified, IsGraphOf}
use Rattle.fs_graph.specs.GraphMap.{GraphMap, reader_of}
use Rattle.fs_unify.specs.Rules.{Grammar, system_of}
use Rattle.fs_unify.specs.Given.{facts_source}
use Rattle.tree_model.specs.Views.{source_alone}
use Rattle.tree_model.proofs.Closures.{falls, grows}
use Rattle.tree_model.proofs.ViewLemmas.{alone_to}
use Rattle.tree_model.specs.Signs.{Instance, Signs}
use Rattle.constraint_expand.specs.declared.books.Book.{Book}
use Rattle.constraint_expand.specs.Systems.{Settled, instance_claims, words_of}
use Rattle.constraint_expand.specs.Introducers.{IsIntroducer}
use Rattle.constraint_expand.specs.Features.{writers_of}
use Rattle.constraint_expand.specs.Books.{numbered_of, InstanceMap, IsInstanceOf, IsBookOf}
use Rattle.lexicon.specs.Words.{Each}
use Rattle.book_shapes.specs.Daughters.{is_rule}
use Rattle.book_shapes.specs.Shapes.{instances_of, HasItsDaughters}
use Rattle.book_shapes.proofs.ReadableLemmas.{readable}
use Rattle.book_signs.specs.Signed.{element_path, AreDaughters, ArePlaces, of_rule, of_other, IsSignOf, IsSignsOf, IsOnly}
use Rattle.book_signs.specs.Conditions.{IsClosed, IsWhole}
use Rattle.book_signs.specs.Trees.{signs_of}
use Rattle.book_signs.proofs.PlaceLemmas.{Daughters, has_some, has_features, places_one}
use Rattle.book_signs.proofs.SignLemmas.{are_signs, zip_lengths}

some_of : (o : Option ℕ) → (o ≡ None → ⊥) → (n : ℕ) × (o ≡ Some n)
some_of None h = absurd (h refl)
some_of (Some n) h = (n, refl)

daughters_there : (b : Book) (g : GraphMap) → Daughters b g → (places : List Path) × AreDaughters b g places
daughters_there b g d =
    let f = some_of (numbered_of b.names).first (has_features b g d).0 in
    let r = some_of (numbered_of b.names).rest (has_features b g d).1 in (
      map (element_path d.list.known f.0 r.0) (range_with_len 0 (length d.elements)),
      record { elements = d.elements; list = d.list; first = f.0; first_is = f.1; rest = r.0; rest_is = r.1; paths = refl },
    )

places_there : (b : Book) (i : InstanceMap) → HasItsDaughters b i → (places : List Path) × ArePlaces b i places
places_there b i h = by_status (is_rule i.status) refl
  where
    by_status : (r : Bool) → is_rule i.status ≡ r → (places : List Path) × ArePlaces b i places
    by_status true e = let z = daughters_there b i.structure (has_some b i e h) in (z.0, of_rule e z.1)
    by_status false e = ([], of_other e refl)

all_there : (b : Book) (is : List InstanceMap) → Each (HasItsDaughters b) is → (placings : List (List Path)) × AllZip (ArePlaces b) is placings
all_there b [] h = ([], tt)
all_there b (i ∷ is) h = let z = places_there b i h.0 in let zs = all_there b is h.1 in (z.0 ∷ zs.0, (z.1, zs.1))

same_sign : (b : Book) (i : InstanceMap) (x y : Instance) → IsSignOf b i x → IsSignOf b i y → x ≡ y
same_sign b i x y p q =
    let kind : x.kind ≡ y.kind = p.kind ∙ sym q.kind in
    let facts : x.rule.facts ≡ y.rule.facts = p.facts ∙ sym q.facts in
    let places : x.rule.places ≡ y.rule.places = places_one b i x.rule.places y.rule.places p.places q.places in
    λ k. record { kind = kind k; rule = record { facts = facts k; places = places k } }

same_signs : (b : Book) (is : List InstanceMap) (xs ys : List Instance) → AllZip (IsSignOf b) is xs → AllZip (IsSignOf b) is ys → xs ≡ ys
same_signs b [] [] [] p q = refl
same_signs b [] [] (y ∷ ys) p q = absurd q
same_signs b [] (x ∷ xs) ys p q = absurd p
same_signs b (i ∷ is) [] ys p q = absurd p
same_signs b (i ∷ is) (x ∷ xs) [] p q = absurd q
same_signs b (i ∷ is) (x ∷ xs) (y ∷ ys) p q = let e = same_sign b i x y p.0 q.0 in let es = same_signs b is xs ys p.1 q.1 in λ k. e k ∷ es k

one_of : (b : Book) (g h : Signs) → IsSignsOf b g → IsSignsOf b h → g ≡ h
one_of b g h p q =
    let system = p.system ∙ sym q.system in
    let paths = p.paths ∙ sym q.paths in
    let instances = same_signs b (instances_of b) g.instances h.instances p.instances q.instances in
    let daughters = p.daughter_features ∙ sym q.daughter_features in
    let restrictors = p.restrictors ∙ sym q.restrictors in
    λ k. record { system = system k; paths = paths k; instances = instances k; daughter_features = daughters k; restrictors = restrictors k }

pub only : (b : Book) → Each (HasItsDaughters b) (instances_of b) → IsOnly (IsSignsOf b)
only b h = let z = all_there b (instances_of b) h in record { value = signs_of (record { book = b; places = z.0 }); is = are_signs b z.0 z.1; one = one_of b }

-- what the graph of a closure tells stands in the closure
tells_in : (s : System) (given : Claim → Type 0) (r : Reader) → IsGraphOf s given r → (c : Claim) → Tells r c → Closure s given c
tells_in s given r is _ (tells_exists p n e) = (is.paths p).1 (n, e)
tells_in s given r is _ (tells_same p q n e f) = (is.equalities p q).1 (n, e, f)
tells_in s given r is _ (tells_below p n e) = is.types_there p n e

consistent_alone : (s : System) (source : Source) (r : Reader) → IsUnified s source (Some r) → IsConsistent s (Told (source_alone r))
consistent_alone s source r h = falls s (λ c a. grows s (λ d x. tells_in s (Told source) r h.1 d (alone_to r d x)) a) h.0

closed_each : (g : Grammar) (s : Settled) (feats : List Name) (ps : List PlacedTree) (is : List InstanceMap) → AllZip (IsInstanceOf g s feats) ps is → Each (λ i. IsClosed g i.structure) is
closed_each g s feats [] [] h = tt
closed_each g s feats [] (i ∷ is) h = absurd h
closed_each g s feats (p ∷ ps) [] h = absurd h
closed_each g s feats (p ∷ ps) (i ∷ is) h =
    (record { answer = h.0.answer; consistent = consistent_alone (system_of g) (facts_source (instance_claims (words_of g.types s.lists feats) p)) (reader_of i.structure) h.0.structure }, closed_each g s feats ps is h.1)

pub whole : (types : TypeTable) (s : Settled) (ps : List PlacedTree) (b : Book) → IsBookOf types s ps b → Each (HasItsDaughters b) (instances_of b) → IsWhole b
whole types s ps b h daughters =
    record { features = sym (length-map b.feats.items string_bytes) ∙ zip_lengths (λ f t. IsIntroducer types (writers_of types s.lists ps f) t) (texts b.feats.items) b.system.introducers h.system.introducers; bare = h.bare; closed = closed_each b.system s (texts b.feats.items) (instances_in ps) (instances_of b) h.instances; readable = readable types s ps b h; daughters = daughters }
