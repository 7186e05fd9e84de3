-- The structures that a grammar has for names.
use Rattle.std.proofs.Common.{ℕ, zero, suc, ◌≡◌, ◌<◌, List, [], ◌∷◌, length, map, slice_index_or, get_or, Option, None, Some, option_map, refl, sym, ◌∙◌, ap, subst, arith, string_bytes, true, false}
use Rattle.std.specs.List.{range_with_len}
use Rattle.std.specs.Option.{option_or}
use Rattle.std.proofs.lemmas.List.{get_or_default, length-map}
use Rattle.std.proofs.lemmas.List.FromFn.{get_or-range_with_len, length-range_with_len}
use Rattle.tdl_reader.specs.declared.Status.TheVariants.{Other}
use Rattle.type_hierarchy.specs.Decls.{Name, texts}
use Rattle.type_hierarchy.specs.Named.{type_named}
use Rattle.type_hierarchy.specs.Table.{TypeTable, count_of, completed_count}
use Rattle.fs_graph.specs.GraphMap.{GraphMap, reader_of}
use Rattle.fs_unify.specs.Entering.{IsGraphIn}
use Rattle.grammar_files.specs.Statements.{no_statement}
use Rattle.constraint_expand.specs.declared.books.Book.{Book}
use Rattle.constraint_expand.specs.declared.books.Instance.{Instance}
use Rattle.constraint_expand.specs.Books.{InstanceMap, instance_of, IsInstanceOf, IsConstraintOf, IsBookOf}
use Rattle.constraint_expand.specs.Features.{writers_of}
use Rattle.constraint_expand.specs.Introducers.{IsIntroducer}
use Rattle.constraint_expand.specs.Statements.{instances_in}
use Rattle.grammar_load.specs.Loaded.{GrammarTree}
use Rattle.grammar_commands.specs.Books.{IsSomeBook}
use Rattle.grammar_commands.specs.Expansions.{Sense, a_type, an_instance, Called, called_of, all_called, instance_of_name, sense_of, no_graph, structure_of, structure_named, AreLinesOf, unknown_line, AreShown}
use Rattle.grammar_commands.proofs.Members.{zip-at, zip-long}
use Rattle.grammar_commands.proofs.Senses.{type-there, instance-there}

-- the constraint of a completed type
constraint-at : (b : Book) (x : IsSomeBook b) (t : ℕ) → t < completed_count b.system.types → IsConstraintOf b.system t (slice_index_or b.constraints.items t no_graph)
constraint-at b x t h =
    let count = completed_count b.system.types in
    let at = zip-at (IsConstraintOf b.system) (range_with_len 0 count) b.constraints.items t 0 no_graph x.is.constraints (omega (arith, h, length-range_with_len 0 count)) in
    let number : slice_index_or (range_with_len 0 count) t 0 ≡ t = get_or-range_with_len 0 count t 0 h ∙ omega arith in
    subst (λ n. IsConstraintOf b.system n (slice_index_or b.constraints.items t no_graph)) number at

abbrev no_instance : InstanceMap
no_instance = record { status = Other; structure = no_graph }

structure-at : (is : List Instance) (k : ℕ) → (slice_index_or (map instance_of is) k no_instance).structure ≡ slice_index_or (map (λ i. i.structure) is) k no_graph
structure-at [] k = refl
structure-at (i ∷ is) zero = refl
structure-at (i ∷ is) (suc k) = structure-at is k

-- there are as many introducers as features
introducers-long : (b : Book) (x : IsSomeBook b) → length b.system.introducers ≡ length b.feats.items
introducers-long b x =
    zip-long (λ f t. IsIntroducer x.types (writers_of x.types x.settled.lists x.statements f) t) (texts b.feats.items) b.system.introducers x.is.system.introducers ∙ length-map b.feats.items string_bytes

-- as many instances as there are definitions
instances-long : (b : Book) (x : IsSomeBook b) → length b.instances.items ≡ length (instances_in x.statements)
instances-long b x =
    sym (length-map b.instances.items instance_of) ∙ zip-long (IsInstanceOf b.system x.settled (texts b.feats.items)) (instances_in x.statements) (map instance_of b.instances.items) x.is.instances

-- the names of a grammar go with its instances
called-long : (is : List InstanceMap) (ns : List Name) → length ns ≡ length is → length (called_of is ns) ≡ length is
called-long [] ns h = refl
called-long (i ∷ is) [] h = cc
called-long (i ∷ is) (n ∷ ns) h = ap suc (called-long is ns (omega (arith, h)))

pub constraint-bound : (b : Book) → IsSomeBook b → (name : Name) (t : ℕ) → type_named b.system.types name ≡ Some t → t < length b.constraints.items
constraint-bound b x name t is =
    let count = completed_count b.system.types in
    omega (arith, type-there b.system.types name t is, zip-long (IsConstraintOf b.system) (range_with_len 0 count) b.constraints.items x.is.constraints, length-range_with_len 0 count)

pub instance-bound : (g : GrammarTree) → length g.names ≡ length g.book.instances.items → (name : Name) (k : ℕ) → instance_of_name (all_called g) name ≡ Some k → k < length g.book.instances.items
instance-bound g named name k is =
    let all = length-map g.book.instances.items instance_of in
    omega (arith, instance-there (all_called g) name k is, called-long (map instance_of g.book.instances.items) g.names (named ∙ sym all), all)

pub type-within : (b : Book) → IsSomeBook b → (name : Name) (t : ℕ) → type_named b.system.types name ≡ Some t → IsGraphIn (count_of b.system.types) (length b.feats.items) (structure_of b (a_type t))
type-within b x name t is =
    subst (λ n. IsGraphIn (count_of b.system.types) n (structure_of b (a_type t))) (introducers-long b x) (constraint-at b x t (type-there b.system.types name t is)).answer.graph_in

pub instance-within : (b : Book) → IsSomeBook b → (k : ℕ) → k < length b.instances.items → IsGraphIn (count_of b.system.types) (length b.feats.items) (structure_of b (an_instance k))
instance-within b x k h =
    let at = zip-at (IsInstanceOf b.system x.settled (texts b.feats.items)) (instances_in x.statements) (map instance_of b.instances.items) k no_statement no_instance x.is.instances (omega (arith, h, instances-long b x)) in
    let within = subst (IsGraphIn (count_of b.system.types) (length b.system.introducers)) (structure-at b.instances.items k) at.answer.graph_in in
    subst (λ n. IsGraphIn (count_of b.system.types) n (structure_of b (an_instance k))) (introducers-long b x) within

-- the structure of a name, as it is looked up
pub type-found : (g : GrammarTree) (name : Name) (t : ℕ) → type_named g.book.system.types name ≡ Some t → Some (structure_of g.book (a_type t)) ≡ structure_named g name
type-found g name t is =
    sym (ap (λ (o : Option ℕ). option_map (structure_of g.book) (option_or (option_map a_type o) (option_map an_instance (instance_of_name (all_called g) name)))) is)

mapped-twice : (b : Book) (o : Option ℕ) → option_map (λ k. structure_of b (an_instance k)) o ≡ option_map (structure_of b) (option_map an_instance o)
mapped-twice b None = refl
mapped-twice b (Some k) = refl

pub instance-found : (g : GrammarTree) (name : Name) (o : Option ℕ) → type_named g.book.system.types name ≡ None → instance_of_name (all_called g) name ≡ o →
    option_map (λ k. structure_of g.book (an_instance k)) o ≡ structure_named g name
instance-found g name o none is =
    mapped-twice g.book o
    ∙ sym (ap (λ (p : Option ℕ). option_map (structure_of g.book) (option_or (option_map a_type p) (option_map an_instance (instance_of_name (all_called g) name)))) none
    ∙ ap (λ (p : Option ℕ). option_map (structure_of g.book) (option_map an_instance p)) is)

pub constraint-read : (b : Book) (t : ℕ) (g : GraphMap) → t < length b.constraints.items → g ≡ get_or b.constraints.items t g → g ≡ structure_of b (a_type t)
constraint-read b t g h is = is ∙ get_or_default b.constraints.items t g no_graph h

structure-read : (is : List Instance) (k : ℕ) (i : Instance) → k < length is → (get_or is k i).structure ≡ slice_index_or (map (λ (j : Instance). j.structure) is) k no_graph
structure-read [] k i h = absurd (omega (arith, h))
structure-read (j ∷ is) zero i h = refl
structure-read (j ∷ is) (suc k) i h = structure-read is k i (omega (arith, h))

pub instance-read : (b : Book) (k : ℕ) (i : Instance) → k < length b.instances.items → i ≡ get_or b.instances.items k i → i.structure ≡ structure_of b (an_instance k)
instance-read b k i h is = ap (λ (j : Instance). j.structure) is ∙ structure-read b.instances.items k i h

-- the report on a name that has a structure, and on one that has none
pub shown-some : (types : TypeTable) (feats : List Name) (name : Name) (o : Option GraphMap) (g : GraphMap) (pieces : List (List ℕ)) → Some g ≡ o → AreLinesOf types feats (reader_of g) pieces → AreShown types feats name o pieces false
shown-some types feats name o g pieces e p = subst (λ q. AreShown types feats name q pieces false) e (p, refl)

pub shown-none : (types : TypeTable) (feats : List Name) (name : Name) (o : Option GraphMap) (pieces : List (List ℕ)) → None ≡ o → pieces ≡ unknown_line name ∷ [] → AreShown types feats name o pieces true
shown-none types feats name o pieces e p = subst (λ q. AreShown types feats name q pieces true) e (p, refl)
