use Rattle.std.proofs.Common.{map}
use Rattle.tdl_reader.specs.Views.{body_in, statement_of}
use Rattle.transfer_rules.specs.Inner.Views.{feature_of, parts_of}
use Rattle.transfer_rules.proofs.Lists.{true_not_false}
use Rattle.transfer_rules.proofs.Partly.{differ_is, differ_not, lists_is, named_is, named_not, parts_named, parts_differ, are_parts, parts_few}
use Rattle.transfer_rules.proofs.parts.parts_said.Goals.{then-not-are_part_names-via-then-not-are_part_names, then-not-are_part_names-via-else-not-are_part_names+then-not-differ_in_name}
use Rattle.transfer_rules.proofs.parts.parts_said.Goals as goal

pub returns-then-not-are_part_names-clause-none : goal.returns-then-not-are_part_names-clause-none
returns-then-not-are_part_names-clause-none c = λ _ p h.
    let s = statement_of c.args.statement.now in
    let d = c.in-Some.definition in
    let e = c.in-Some.ensures.some in
    let fs = c.in_ok-features.features.items in
    elim c.then-not-are_part_names.branch [
      | then-not-are_part_names-via-then-not-are_part_names w ↦
          named_not fs c.deref.result.now c.are_part_names.result c.deref.ensures.value c.are_part_names.ensures.1 w.if-not-are_part_names.true (parts_named s d.name.now e.0 (body_in d.body.now) (map feature_of fs) e.1 c.in_ok-features.ensures.some p h)
      | then-not-are_part_names-via-else-not-are_part_names+then-not-differ_in_name w ↦
          differ_not fs w.deref-else-not-are_part_names.result.now w.differ_in_name.result w.deref-else-not-are_part_names.ensures.value w.differ_in_name.ensures.1 w.if-not-differ_in_name.true (parts_differ s d.name.now e.0 (body_in d.body.now) (map feature_of fs) e.1 c.in_ok-features.ensures.some p h)
    ]

pub returns-then-are_few-clause-some : goal.returns-then-are_few-clause-some
returns-then-are_few-clause-some c =
    let s = statement_of c.args.statement.now in
    let d = c.in-Some.definition in
    let e = c.in-Some.ensures.some in
    let fs = c.in_ok-features.features.items in
    are_parts s d.name.now e.0 (body_in d.body.now) (map feature_of fs) e.1 c.in_ok-features.ensures.some (parts_of c.in_ok-parts.parts) c.in_ok-parts.ensures.name
    (named_is fs c.deref.result.now c.are_part_names.result c.deref.ensures.value c.are_part_names.ensures.0 c.if-not-are_part_names.false)
    (differ_is fs c.deref-else-not-are_part_names.result.now c.differ_in_name.result c.deref-else-not-are_part_names.ensures.value c.differ_in_name.ensures.0 c.if-not-differ_in_name.false)
    (lists_is fs c.deref-2.result.now (parts_of c.in_ok-parts.parts) c.deref-2.ensures.value c.in_ok-parts.ensures.some)
    (c.are_few.ensures.0 c.if-are_few.true)

pub returns-clause-none : goal.returns-clause-none
returns-clause-none c = λ _ p h.
    let s = statement_of c.args.statement.now in
    let d = c.in-Some.definition in
    let e = c.in-Some.ensures.some in
    let fs = c.in_ok-features.features.items in
    let few = parts_few s d.name.now e.0 (body_in d.body.now) (map feature_of fs) e.1 c.in_ok-features.ensures.some (parts_of c.in_ok-parts.parts) p c.in_ok-parts.ensures.name (lists_is fs c.deref-2.result.now (parts_of c.in_ok-parts.parts) c.deref-2.ensures.value c.in_ok-parts.ensures.some) h in
    true_not_false c.are_few.result (c.are_few.ensures.1 few) c.if-are_few.false
