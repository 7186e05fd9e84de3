use Rattle.std.proofs.Common.{◌≡◌, ◌<◌, ◌+◌, [], false, length, map, slice_index_or, sym, subst, arith}
use Rattle.std.proofs.lemmas.List.{length-map, get_or-map}
use Rattle.body_facts.specs.declared.brackets.Use.{Use}
use Rattle.body_facts.specs.BracketUses.{used_of}
use Rattle.constraint_expand.specs.Faults.{no_use, use_at}
use Rattle.constraint_expand.specs.Found.{HasNoWriter}
use Rattle.type_facts.proofs.ListLemmas.{true_not_false}
use Rattle.constraint_expand.proofs.MissingLemmas.{IsSoFar, so_far_taken, so_far_without, so_far_kept, best_all}
use Rattle.constraint_expand.proofs.missing.first_use.Goals as goal
use Rattle.constraint_expand.proofs.missing.first_use.Goals.{then-has_no_writer+then-is_before, else-has_no_writer, else-has_no_writer-via-then-has_no_writer+else-is_before, else-has_no_writer-via-else-has_no_writer}

pub loop-i-preserved : goal.loop-i-preserved
loop-i-preserved c =
    let xs = c.args.found.now in
    let uses = map used_of xs in
    let entries = c.args.writers.now.entries in
    let i = c.loop-i.i in
    let none : Use = record { feature = record { ref_ptr = (0, 0); now = [] }; at = 0; own = false } in
    let x : Use = slice_index_or xs i none in
    let within : i < length xs = omega arith in
    let among : i < length uses = omega (arith, length-map xs used_of) in
    let here : use_at uses i ≡ used_of x = get_or-map used_of xs i none no_use within in
    elim c.if-has_no_writer.branch [
      | then-has_no_writer+then-is_before w ↦
          subst (IsSoFar uses (HasNoWriter entries) (i + 1)) (sym w.best-is)
          (so_far_taken uses (HasNoWriter entries) i c.loop-i.best w.is_before.result among (subst (HasNoWriter entries) (sym here) (c.has_no_writer.ensures.0 w.if-has_no_writer.true))
          w.if-is_before.true w.is_before.ensures c.loop-i.invariant)
      | else-has_no_writer w ↦
          subst (IsSoFar uses (HasNoWriter entries) (i + 1)) (sym w.best-is)
          (elim w.else-has_no_writer.branch [
            | else-has_no_writer-via-then-has_no_writer+else-is_before v ↦
                so_far_kept uses (HasNoWriter entries) i c.loop-i.best v.is_before.result v.if-is_before.false v.is_before.ensures c.loop-i.invariant
            | else-has_no_writer-via-else-has_no_writer v ↦
                so_far_without uses (HasNoWriter entries) i c.loop-i.best
                (λ p. true_not_false _ (c.has_no_writer.ensures.1 (subst (HasNoWriter entries) here p)) v.if-has_no_writer.false) c.loop-i.invariant
          ])
    ]

pub returns : goal.returns
returns c =
    best_all (map used_of c.args.found.now) (HasNoWriter c.args.writers.now.entries) c.loop-i.i c.loop-i.best (omega (arith, length-map c.args.found.now used_of)) c.loop-i.invariant
