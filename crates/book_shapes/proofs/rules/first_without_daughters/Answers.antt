use Rattle.std.proofs.Common.{◌≡◌, ◌<◌, length, map, ap, arith}
use Rattle.std.specs.Option.{option_map}
use Rattle.std.proofs.lemmas.List.{length-map}
use Rattle.closed_lists.specs.Names.{names_of}
use Rattle.constraint_expand.specs.Books.{instance_of}
use Rattle.book_shapes.specs.Shapes.{instances_of, HasItsDaughters}
use Rattle.book_shapes.proofs.PlaceLemmas.{seen_at, before_next, first_here, first_past}
use Rattle.book_shapes.proofs.DaughterLemmas.{readable_at, daughters_of, has_none}
use Rattle.book_shapes.proofs.rules.first_without_daughters.Goals as goal

pub has_daughters-requires : goal.has_daughters-requires
has_daughters-requires c =
    let b = c.args.book.now in
    let within : c.loop-i.i < length b.instances.items = omega (arith, c.loop-i-test.true, c.len-i-end.ensures, b.instances.ok.0) in
    readable_at b c.loop-i.i c.index-instance.result.now c.types-types.result.now (names_of c.list_names-lists.result) c.path_limit-limit.result c.requires within c.index-instance.ensures c.types-types.ensures c.list_names-lists.ensures
    c.path_limit-limit.ensures.limit

pub returns-then-not-branch : goal.returns-then-not-branch
returns-then-not-branch c =
    let b = c.args.book.now in
    let i = c.loop-i.i in
    let x = c.index-instance.result.now in
    let within : i < length b.instances.items = omega (arith, c.loop-i-test.true, c.len-i-end.ensures, b.instances.ok.0) in
    first_here (HasItsDaughters b) (instances_of b) i (instance_of x) (seen_at instance_of b.instances.items i x within c.index-instance.ensures)
    (has_none c.in_ok-has_daughters.field-0 c.if-not-branch.true
    (daughters_of b x c.types-types.result.now (names_of c.list_names-lists.result) (map (option_map (λ f. f.0)) c.deref.result.now) c.in_ok-has_daughters.field-0 c.types-types.ensures c.list_names-lists.ensures
    (ap (map (option_map (λ f. f.0))) c.deref.ensures.value) c.in_ok-has_daughters.ensures))
    c.loop-i.invariant

pub loop-i-preserved : goal.loop-i-preserved
loop-i-preserved c =
    let b = c.args.book.now in
    let i = c.loop-i.i in
    let x = c.index-instance.result.now in
    let within : i < length b.instances.items = omega (arith, c.loop-i-test.true, c.len-i-end.ensures, b.instances.ok.0) in
    before_next (HasItsDaughters b) (instances_of b) i (instance_of x) (seen_at instance_of b.instances.items i x within c.index-instance.ensures)
    ((daughters_of b x c.types-types.result.now (names_of c.list_names-lists.result) (map (option_map (λ f. f.0)) c.deref.result.now) c.in_ok-has_daughters.field-0 c.types-types.ensures c.list_names-lists.ensures
    (ap (map (option_map (λ f. f.0))) c.deref.ensures.value) c.in_ok-has_daughters.ensures).0 c.if-not-branch.false)
    c.loop-i.invariant

pub returns : goal.returns
returns c =
    let b = c.args.book.now in
    let all : c.len.result ≡ length (instances_of b) = omega (arith, c.len.ensures, b.instances.ok.0, length-map b.instances.items instance_of) in
    first_past (HasItsDaughters b) (instances_of b) c.loop-i.i c.len.result all (omega (arith, c.loop-i-test.false, c.len-i-end.ensures, c.len.ensures)) c.loop-i.invariant
