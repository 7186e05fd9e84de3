use Rattle.std.proofs.Common.{◌≡◌, ◌∙◌, List, Option, None, Some, sym, ap, subst, arith, map, length, string_bytes, String}
use Rattle.std.specs.Global.{Global}
use Rattle.std.proofs.lemmas.List.{length-map}
use Rattle.type_hierarchy.specs.Named.{type_named}
use Rattle.type_hierarchy.specs.Table.{TypeTable, count_of}
use Rattle.fs_graph.specs.GraphMap.{GraphMap}
use Rattle.fs_unify.specs.Entering.{IsGraphIn}
use Rattle.constraint_expand.specs.declared.books.Instance.{Instance}
use Rattle.constraint_expand.specs.Books.{instance_of}
use Rattle.grammar_load.specs.Views.{grammar_of}
use Rattle.grammar_commands.specs.Expansions.{called_of, all_called, instance_of_name}
use Rattle.grammar_commands.proofs.BookLemmas.{constraint-bound, instance-bound, type-within, instance-within, type-found, instance-found, constraint-read, instance-read}
use Rattle.grammar_commands.proofs.expansion.structure_named.Goals as goal

pub index-requires : goal.index-requires
index-requires c =
    let b = c.args.grammar.now.book in
    let is : type_named b.system.types c.args.name.now ≡ Some c.in-Some.ty.0 = sym (c.in-Some.ensures ∙ ap (λ (t : TypeTable). type_named t c.args.name.now) c.types.ensures) in
    omega (arith, constraint-bound b c.requires.book c.args.name.now c.in-Some.ty.0 is, b.constraints.ok.0)

pub returns-in-Some-clause-structure : goal.returns-in-Some-clause-structure
returns-in-Some-clause-structure c =
    let b = c.args.grammar.now.book in
    let is : type_named b.system.types c.args.name.now ≡ Some c.in-Some.ty.0 = sym (c.in-Some.ensures ∙ ap (λ (t : TypeTable). type_named t c.args.name.now) c.types.ensures) in
    let read = constraint-read b c.in-Some.ty.0 c.index.result.now (constraint-bound b c.requires.book c.args.name.now c.in-Some.ty.0 is) c.index.ensures in
    ap (λ (g : GraphMap). Some g) (c.graph.ensures ∙ read) ∙ type-found (grammar_of c.args.grammar.now) c.args.name.now c.in-Some.ty.0 is

pub returns-in-Some-clause-within : goal.returns-in-Some-clause-within
returns-in-Some-clause-within c =
    let b = c.args.grammar.now.book in
    let is : type_named b.system.types c.args.name.now ≡ Some c.in-Some.ty.0 = sym (c.in-Some.ensures ∙ ap (λ (t : TypeTable). type_named t c.args.name.now) c.types.ensures) in
    let read = constraint-read b c.in-Some.ty.0 c.index.result.now (constraint-bound b c.requires.book c.args.name.now c.in-Some.ty.0 is) c.index.ensures in
    subst (IsGraphIn (count_of b.system.types) (length b.feats.items)) (sym (c.graph.ensures ∙ read)) (type-within b c.requires.book c.args.name.now c.in-Some.ty.0 is)

pub index-requires-2 : goal.index-requires-2
index-requires-2 c =
    let g = grammar_of c.args.grammar.now in
    let name = c.args.name.now in
    let is : instance_of_name (all_called g) name ≡ Some c.in_ok-place.place =
    sym (c.in_ok-place.ensures ∙ ap (λ (l : List Instance). instance_of_name (called_of (map instance_of l) (map string_bytes c.deref-2.result.now)) name) c.deref.ensures.value
    ∙ ap (λ (l : List (String Global)). instance_of_name (called_of (map instance_of g.book.instances.items) (map string_bytes l)) name) c.deref-2.ensures.value) in
    let named = length-map c.args.grammar.now.names.items string_bytes ∙ c.requires.named in
    omega (arith, instance-bound g named name c.in_ok-place.place is, g.book.instances.ok.0)

pub returns-clause-structure : goal.returns-clause-structure
returns-clause-structure c =
    let g = grammar_of c.args.grammar.now in
    let b = g.book in
    let name = c.args.name.now in
    let none : type_named b.system.types name ≡ None = sym (c.in_default.ensures ∙ ap (λ (t : TypeTable). type_named t name) c.types.ensures) in
    let is : instance_of_name (all_called g) name ≡ Some c.in_ok-place.place =
    sym (c.in_ok-place.ensures ∙ ap (λ (l : List Instance). instance_of_name (called_of (map instance_of l) (map string_bytes c.deref-2.result.now)) name) c.deref.ensures.value
    ∙ ap (λ (l : List (String Global)). instance_of_name (called_of (map instance_of b.instances.items) (map string_bytes l)) name) c.deref-2.ensures.value) in
    let named = length-map c.args.grammar.now.names.items string_bytes ∙ c.requires.named in
    let read = instance-read b c.in_ok-place.place c.index-2.result.now (instance-bound g named name c.in_ok-place.place is) c.index-2.ensures in
    ap (λ (x : GraphMap). Some x) read ∙ instance-found g name (Some c.in_ok-place.place) none is

pub returns-clause-within : goal.returns-clause-within
returns-clause-within c =
    let g = grammar_of c.args.grammar.now in
    let b = g.book in
    let name = c.args.name.now in
    let is : instance_of_name (all_called g) name ≡ Some c.in_ok-place.place =
    sym (c.in_ok-place.ensures ∙ ap (λ (l : List Instance). instance_of_name (called_of (map instance_of l) (map string_bytes c.deref-2.result.now)) name) c.deref.ensures.value
    ∙ ap (λ (l : List (String Global)). instance_of_name (called_of (map instance_of b.instances.items) (map string_bytes l)) name) c.deref-2.ensures.value) in
    let named = length-map c.args.grammar.now.names.items string_bytes ∙ c.requires.named in
    let bound = instance-bound g named name c.in_ok-place.place is in
    let read = instance-read b c.in_ok-place.place c.index-2.result.now bound c.index-2.ensures in
    subst (IsGraphIn (count_of b.system.types) (length b.feats.items)) (sym read) (instance-within b c.requires.book c.in_ok-place.place bound)
