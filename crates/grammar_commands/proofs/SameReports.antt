-- A grammar that is loaded twice has one report.
use Rattle.std.proofs.Common.{ℕ, ◌≡◌, List, [], ◌∷◌, map, slice_index_or, Bool, Option, None, Some, option_map, refl, sym, ◌∙◌, ap, subst}
use Rattle.std.specs.List.{AllZip}
use Rattle.std.specs.Str.{str_to_ascii_lowercase}
use Rattle.type_hierarchy.specs.Decls.{Name, texts}
use Rattle.type_hierarchy.specs.Table.{TypeTable}
use Rattle.fs_model.specs.Sources.{Reader, IsSameStructure}
use Rattle.fs_graph.specs.Text.{line_text}
use Rattle.fs_graph.specs.GraphMap.{GraphMap, reader_of}
use Rattle.fs_graph.specs.PathLaws.{ListsAreOne}
use Rattle.fs_unify.specs.Rules.{Grammar}
use Rattle.constraint_expand.specs.declared.books.Book.{Book}
use Rattle.constraint_expand.specs.declared.books.Instance.{Instance}
use Rattle.constraint_expand.specs.Books.{InstanceMap, instance_of}
use Rattle.book_shapes.specs.Shapes.{instances_of}
use Rattle.grammar_load.specs.Loaded.{GrammarTree}
use Rattle.grammar_load.specs.Outcomes.{AreSameGraphs, IsSameInstance, IsSameBook, IsSameGrammar}
use Rattle.grammar_commands.specs.Expansions.{Sense, a_type, an_instance, Called, called_of, all_called, sense_of, no_graph, structure_of, AreLinesOf, AreShown, IsExpansion}
use Rattle.grammar_commands.proofs.Members.{zip-or}

itself : (r : Reader) → IsSameStructure r r
itself r = record {
  there = λ p n h. (n, h);
  there_back = λ p n h. (n, h);
  equal = λ p q n m h k l. let z : n ≡ m = cc in k ∙ ap Some z;
  equal_back = λ p q n m h k l. let z : n ≡ m = cc in k ∙ ap Some z;
  types = λ p n m h k. let z : n ≡ m = cc in ap r.type_of z;
}

abbrev Same : GraphMap → GraphMap → Type 0
Same g h = IsSameStructure (reader_of g) (reader_of h)

structures-same : (is js : List Instance) → AllZip IsSameInstance (map instance_of is) (map instance_of js) → AllZip Same (map (λ i. i.structure) is) (map (λ i. i.structure) js)
structures-same [] [] z = tt
structures-same [] (j ∷ js) z = absurd z
structures-same (i ∷ is) [] z = absurd z
structures-same (i ∷ is) (j ∷ js) z = (z.0.structure, structures-same is js z.1)

called-same : (is js : List InstanceMap) (ns : List Name) → AllZip IsSameInstance is js → called_of is ns ≡ called_of js ns
called-same [] [] ns z = refl
called-same [] (j ∷ js) ns z = absurd z
called-same (i ∷ is) [] ns z = absurd z
called-same (i ∷ is) (j ∷ js) [] z = refl
called-same (i ∷ is) (j ∷ js) (n ∷ ns) z = rw (z.0.status, called-same is js ns z.1) refl

structure-same : (b c : Book) → IsSameBook b c → (m : Sense) → Same (structure_of b m) (structure_of c m)
structure-same b c same (a_type t) = zip-or Same no_graph (itself (reader_of no_graph)) b.constraints.items c.constraints.items t same.constraints
structure-same b c same (an_instance k) =
    zip-or Same no_graph (itself (reader_of no_graph)) (map (λ i. i.structure) b.instances.items) (map (λ i. i.structure) c.instances.items) k (structures-same b.instances.items c.instances.items same.instances)

one-lines : ListsAreOne → (types : TypeTable) (feats : List Name) (a b : Reader) (pieces others : List (List ℕ)) → IsSameStructure a b → AreLinesOf types feats a pieces → AreLinesOf types feats b others → pieces ≡ others
one-lines one types feats a b pieces others s p q = p.2 ∙ ap (map (line_text types feats)) (one a b p.0 q.0 s p.1 q.1) ∙ sym q.2

one-shown : ListsAreOne → (types : TypeTable) (feats : List Name) (name : Name) (b c : Book) → IsSameBook b c → (m : Option Sense)
    → (pieces others : List (List ℕ)) (refused may : Bool) → AreShown types feats name (option_map (structure_of b) m) pieces refused → AreShown types feats name (option_map (structure_of c) m) others may
    → (pieces ≡ others) × (refused ≡ may)
one-shown lists types feats name b c same None pieces others refused may p q = (p.0 ∙ sym q.0, p.1 ∙ sym q.1)
one-shown lists types feats name b c same (Some k) pieces others refused may p q =
    (one-lines lists types feats (reader_of (structure_of b k)) (reader_of (structure_of c k)) pieces others (structure-same b c same k) p.0 q.0, p.1 ∙ sym q.1)

all-called-same : (g h : GrammarTree) → IsSameGrammar g h → all_called g ≡ all_called h
all-called-same g h same = called-same (instances_of g.book) (instances_of h.book) g.names same.book.instances ∙ ap (called_of (instances_of h.book)) same.names

abbrev Shown : Book → Name → TypeTable → List Name → List Called → List (List ℕ) → Bool → Type 0
Shown b name types feats called pieces refused = AreShown types feats name (option_map (structure_of b) (sense_of types called name)) pieces refused

-- the report on a name
pub one-expansion : ListsAreOne → (g h : GrammarTree) → IsSameGrammar g h → (entry : List ℕ) (pieces others : List (List ℕ)) (refused may : Bool) → IsExpansion g entry pieces refused → IsExpansion h entry others may
    → (pieces ≡ others) × (refused ≡ may)
one-expansion lists g h same entry pieces others refused may p q =
    let name = str_to_ascii_lowercase entry in
    let types : g.book.system.types ≡ h.book.system.types = ap (λ (s : Grammar). s.types) same.book.system in
    let first = subst (λ t. Shown g.book name t (texts g.book.feats.items) (all_called g) pieces refused) types p in
    let second = subst (λ f. Shown g.book name h.book.system.types f (all_called g) pieces refused) same.book.features first in
    let third = subst (λ l. Shown g.book name h.book.system.types (texts h.book.feats.items) l pieces refused) (all-called-same g h same) second in
    one-shown lists h.book.system.types (texts h.book.feats.items) name g.book h.book same.book (sense_of h.book.system.types (all_called h) name) pieces others refused may third q
