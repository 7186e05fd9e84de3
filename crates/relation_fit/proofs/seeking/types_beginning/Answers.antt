use Rattle.std.proofs.Common.{◌≡◌, ◌∙◌, ◌+◌, map, refl, sym, ap, subst, arith, Vec, Global}
use Rattle.std.specs.Char.{to_ascii_lowercase}
use Rattle.type_hierarchy.specs.declared.types.Ty.{Ty}
use Rattle.mrs_extract.specs.Extraction.{Normal, type_name}
use Rattle.relation_fit.specs.Sought.{IsPredicate}
use Rattle.relation_fit.proofs.Scanning.{AreFound, found_next, found_not}
use Rattle.relation_fit.proofs.seeking.types_beginning.Goals as goal
use Rattle.relation_fit.proofs.seeking.types_beginning.Goals.{then-begins_as+in_ok-push, else-begins_as}

pub loop-t-preserved : goal.loop-t-preserved
loop-t-preserved c =
    let types = c.args.types.now in
    let pred = c.args.pred.now in
    let t = c.loop-t.t in
    let old = c.loop-t.found.items in
    elim c.if-begins_as.branch [
      | then-begins_as+in_ok-push w ↦
          found_next (IsPredicate types pred) 0 t old c.loop-t.invariant c.if-begins_as.found.items (t + 1)
          (ap (λ (v : Vec Ty Global). v.items) w.found-is ∙ w.in_ok-push.ensures.items) refl
      | else-begins_as w ↦
          subst (λ xs. AreFound (IsPredicate types pred) 0 (t + 1) xs) (sym (ap (λ (v : Vec Ty Global). v.items) w.found-is))
          (found_not (IsPredicate types pred) 0 t old c.loop-t.invariant (t + 1)
          (λ q. c.begins_as.ensures w.if-begins_as.false
          (subst (λ x. Normal (map to_ascii_lowercase x) c.as_bytes-in-loop-t.result.now) (sym (c.as_bytes.ensures.value ∙ c.name.ensures))
          (subst (Normal (map to_ascii_lowercase (type_name types t))) (sym c.as_bytes-in-loop-t.ensures.value) q))) refl)
    ]

pub returns : goal.returns
returns c = λ t lt q. c.loop-t.invariant t (omega arith) (omega (arith, lt, c.loop-t-test.false, c.counts-t-end.ensures.all)) q
