use Rattle.std.proofs.Common.{◌≡◌, ◌∙◌, ◌<◌, ◌≤◌, [], true, false, List, Vec, Global, length, map, filter, take, ap, sym, subst, arith}
use Rattle.std.specs.List.{AllZip}
use Rattle.std.proofs.lemmas.List.{length-map}
use Rattle.body_facts.specs.WordTables.{table_of}
use Rattle.grammar_files.specs.Placings.{PlacedTree, placed_of}
use Rattle.constraint_expand.specs.Statements.{defines_instance}
use Rattle.constraint_expand.specs.Systems.{instance_claims}
use Rattle.constraint_expand.specs.Books.{instance_of}
use Rattle.constraint_expand.specs.declared.books.Instance.{Instance}
use Rattle.constraint_expand.specs.Shaped.{HaveClaimsIn, AddsInstance, IsInstanceBy, HasNoShape, IsFaultyAmongInstances}
use Rattle.constraint_expand.proofs.FirstLemmas.{at_placed, placed_within, none_first, none_next, none_at_all}
use Rattle.type_facts.proofs.ListLemmas.{true_not_false}
use Rattle.constraint_expand.proofs.MissingLemmas.{at_exit}
use Rattle.constraint_expand.proofs.StructureLemmas.{adds_one, adds_none, map_pushed, instances_none, instances_next, instances_all, faulty_here}
use Rattle.constraint_expand.proofs.structures.instances_of.Goals as goal
use Rattle.constraint_expand.proofs.structures.instances_of.Goals.{then-defines_instance+in_ok-one+in_ok-push, else-defines_instance}

pub instance-requires-clause-within : goal.instance-requires-clause-within
instance-requires-clause-within c =
    let g = c.args.system.now in
    let words = table_of c.args.words.now in
    let xs = c.args.statements.now in
    let i = c.loop-i.i in
    let x = c.index-statements-i.result in
    let within : i < length xs = omega arith in
    let here = at_placed xs i x within c.index-statements-i.is in
    let picked : defines_instance (placed_of x) ≡ true = sym c.defines_instance.ensures ∙ c.if-defines_instance.true in
    subst (λ (p : PlacedTree). HaveClaimsIn g (instance_claims words p)) here
    (c.requires.within i within (subst (λ (p : PlacedTree). defines_instance p ≡ true) (sym here) picked))

pub loop-i-init : goal.loop-i-init
loop-i-init c =
    let g = c.args.system.now in
    let words = table_of c.args.words.now in
    let ps = map placed_of c.args.statements.now in
    record {
      shaped = subst (λ (l : List Instance). AllZip (IsInstanceBy g words) (filter defines_instance (take 0 ps)) (map instance_of l)) (sym c.new-instances.ensures.items) (instances_none g words ps);
      none = none_first defines_instance ps (HasNoShape g c.args.limit words);
    }

pub loop-i-preserved : goal.loop-i-preserved
loop-i-preserved c =
    let g = c.args.system.now in
    let words = table_of c.args.words.now in
    let xs = c.args.statements.now in
    let ps = map placed_of xs in
    let i = c.loop-i.i in
    let x = c.index-statements-i.result in
    let within : i < length xs = omega arith in
    let here = at_placed xs i x within c.index-statements-i.is in
    let old = map instance_of c.loop-i.instances.items in
    let new = map instance_of c.if-defines_instance.instances.items in
    elim c.if-defines_instance.branch [
      | then-defines_instance+in_ok-one+in_ok-push w ↦
          (let picked : defines_instance (placed_of x) ≡ true = sym c.defines_instance.ensures ∙ w.if-defines_instance.true in
          let more = map_pushed c.loop-i.instances.items c.if-defines_instance.instances.items w.in_ok-one.one
          (ap (λ (v : Vec Instance Global). v.items) w.instances-is ∙ w.in_ok-push.ensures.items) in
          record {
            shaped = instances_next g words ps i (placed_of x) old new (placed_within xs i within) here
                (adds_one g words (placed_of x) old new (instance_of w.in_ok-one.one) more w.in_ok-one.ensures.instance picked) c.loop-i.invariant.shaped;
            none = none_next defines_instance ps (HasNoShape g c.args.limit words) i c.loop-i.invariant.none
                (λ _ bad. w.in_ok-one.ensures.shape (subst (HasNoShape g c.args.limit words) here bad));
          })
      | else-defines_instance w ↦
          (let no : defines_instance (placed_of x) ≡ false = sym c.defines_instance.ensures ∙ w.if-defines_instance.false in
          let same = ap (λ (v : Vec Instance Global). map instance_of v.items) w.instances-is in
          record {
            shaped = instances_next g words ps i (placed_of x) old new (placed_within xs i within) here
                (subst (AddsInstance g words (placed_of x) old) (sym same) (adds_none g words (placed_of x) old no)) c.loop-i.invariant.shaped;
            none = none_next defines_instance ps (HasNoShape g c.args.limit words) i c.loop-i.invariant.none
                (λ picked _. true_not_false (defines_instance (placed_of x)) (subst (λ (p : PlacedTree). defines_instance p ≡ true) here picked) no);
          })
    ]

pub returns-in_err-one-clause-fault : goal.returns-in_err-one-clause-fault
returns-in_err-one-clause-fault c =
    let g = c.args.system.now in
    let words = table_of c.args.words.now in
    let xs = c.args.statements.now in
    let ps = map placed_of xs in
    let i = c.loop-i.i in
    let x = c.index-statements-i.result in
    let within : i < length xs = omega arith in
    let e = c.in_err-one.field-0.0 in
    at_exit (IsFaultyAmongInstances g c.args.limit words ps) c.from_residual.result e c.from_residual.ensures.1
    (faulty_here g c.args.limit words ps i (placed_of x) e (at_placed xs i x within c.index-statements-i.is) (placed_within xs i within) c.loop-i.invariant.none
    c.in_err-one.ensures.fault)

pub returns-clause-instances : goal.returns-clause-instances
returns-clause-instances c =
    let xs = c.args.statements.now in
    let past : length (map placed_of xs) ≤ c.loop-i.i = omega (arith, length-map xs placed_of) in
    instances_all c.args.system.now (table_of c.args.words.now) (map placed_of xs) c.loop-i.i (map instance_of c.loop-i.instances.items) past c.loop-i.invariant.shaped

pub returns-clause-all : goal.returns-clause-all
returns-clause-all c =
    let xs = c.args.statements.now in
    let past : length (map placed_of xs) ≤ c.loop-i.i = omega (arith, length-map xs placed_of) in
    none_at_all defines_instance (map placed_of xs) (HasNoShape c.args.system.now c.args.limit (table_of c.args.words.now)) c.loop-i.i past c.loop-i.invariant.none
