use Rattle.std.proofs.Common.{◌∙◌, sym, ap, refl, subst, [], Ok, Err, map, length, ◌||◌, arith}
use Rattle.std.proofs.lemmas.Result.{err_from_is_err_and}
use Rattle.std.specs.List.{concat}
use Rattle.lkb_io.proofs.Told.{Adds-none}
use Rattle.endings.specs.Inner.Batches.{ServedBatch, IsToldPut, AreTold, lines_of_all, is_one_refused, is_one_wanting}
use Rattle.endings.proofs.ToldLines.{given-told, given-length, gaps-only, flag-any, put-as}
use Rattle.endings.proofs.in_turn.serve_batch.Goals as goal

pub returns-in_err-told-clause-outcome : goal.returns-in_err-told-clause-outcome
returns-in_err-told-clause-outcome g c =
    let written = g.O.Sink.written in
    let faults = g.O.Sink.faults in
    let answers = g.C.Answers.IsAnswer c.args.command.now in
    let lines = map (λ l. l.items) c.args.batch.now.lines.now in
    let old = c.args.kept.now.wanting in
    let p = err_from_is_err_and c.from_residual.result c.from_residual.ensures.1 in
    let r = gaps-only answers c.args.batch.now.number lines in
    subst (ServedBatch answers c.args.batch.now.number lines (written c.args.out.now) (written c.args.out.now) (faults c.args.out.now) (faults c.args.out.now) old old) (sym (p.1 ∙ ap Err p.2))
    (r.0, r.1, r.2, r.3, cc, ([], (concat r.0, refl), Adds-none (written c.args.out.now)))

pub put_told-requires : goal.put_told-requires
put_told-requires g c =
    let told = c.in_ok-told.told.items in
    let l = given-length _ 0 c.args.batch.now.lines.now told c.in_ok-told.ensures in
    let room = c.requires.room in
    let e = ap length c.deref-3.ensures.value in
    omega (arith, l, room, e)

pub returns-in_err-put_told-clause-outcome : goal.returns-in_err-put_told-clause-outcome
returns-in_err-put_told-clause-outcome g c =
    let written = g.O.Sink.written in
    let faults = g.O.Sink.faults in
    let answers = g.C.Answers.IsAnswer c.args.command.now in
    let number = c.args.batch.now.number in
    let lines = map (λ l. l.items) c.args.batch.now.lines.now in
    let told = c.in_ok-told.told.items in
    let before = c.args.kept.now.wanting in
    let later = c.either-kept.result in
    let stop = c.in_err-put_told.field-0.0 in
    let served = ServedBatch answers number lines (written c.args.out.now) (written c.put_told.new.out) (faults c.args.out.now) (faults c.put_told.new.out) before later in
    let flag = c.either-kept.ensures ∙ ap (λ b. before || b) (c.is_one_wanting.ensures ∙ ap is_one_wanting c.deref-2.ensures.value) in
    let put = subst (λ t. IsToldPut {X = Unit {0}} (concat (lines_of_all number t)) (written c.args.out.now) (written c.put_told.new.out) (faults c.args.out.now) (faults c.put_told.new.out) (Err stop)) c.deref-3.ensures.value c.in_err-put_told.ensures.put in
    let p = err_from_is_err_and c.from_residual-in_err-put_told.result c.from_residual-in_err-put_told.ensures.1 in
    subst served (sym p.1) (subst (λ e. served (Err e)) (sym p.2) (
      lines_of_all number told,
      is_one_refused told,
      is_one_wanting told,
      given-told answers (g.C.Answers.IsNote c.args.command.now) number 0 number c.args.batch.now.lines.now told (omega arith) c.in_ok-told.ensures,
      flag-any stop before (is_one_wanting told) later flag,
      put-as (Unit {0}) (concat (lines_of_all number told)) (written c.args.out.now) (written c.put_told.new.out) (faults c.args.out.now) (faults c.put_told.new.out) stop put,
    ))

pub returns-clause-outcome : goal.returns-clause-outcome
returns-clause-outcome g c =
    let written = g.O.Sink.written in
    let faults = g.O.Sink.faults in
    let answers = g.C.Answers.IsAnswer c.args.command.now in
    let number = c.args.batch.now.number in
    let lines = map (λ l. l.items) c.args.batch.now.lines.now in
    let told = c.in_ok-told.told.items in
    let before = c.args.kept.now.wanting in
    let flag = c.either-kept.ensures ∙ ap (λ b. before || b) (c.is_one_wanting.ensures ∙ ap is_one_wanting c.deref-2.ensures.value) in
    let put = subst (λ t. IsToldPut {X = Unit {0}} (concat (lines_of_all number t)) (written c.args.out.now) (written c.put_told.new.out) (faults c.args.out.now) (faults c.put_told.new.out) (Ok (tt {0}))) c.deref-3.ensures.value c.in_ok-put_told.ensures.put in
    let are = given-told answers (g.C.Answers.IsNote c.args.command.now) number 0 number c.args.batch.now.lines.now told (omega arith) c.in_ok-told.ensures in
    (lines_of_all number told, is_one_wanting told, subst (λ r. AreTold answers number lines (lines_of_all number told) r (is_one_wanting told)) (sym (c.is_one_refused.ensures ∙ ap is_one_refused c.deref-4.ensures.value)) are, flag, put)
