use Rattle.std.proofs.Common.{◌≡◌, ◌∙◌, [], ap, subst, map, length, string_bytes, arith, refl, Some, None, option_map}
use Rattle.std.specs.Vec.Iter.{into_iter_items}
use Rattle.std.proofs.lemmas.List.{nil_from_length}
use Rattle.tdl_reader.specs.Views.{statement_of}
use Rattle.grammar_settings.specs.SettingsViews.{names_in}
use Rattle.grammar_files.specs.WalkViews.{walk_of, Taken}
use Rattle.grammar_files.specs.Walks.{after_statement}
use Rattle.grammar_files.proofs.WalkLemmas.{Admitted, admitted, at_exit, turned_fault, said_fault, goes_first, file_more, names_length, goes_next, take_fault, takes, walked_on, walk_fault, leave_fault, leave_ok, files_kept}
use Rattle.grammar_files.proofs.walking.+walk_file.Goals as goal

pub returns-in_err-admit-clause-fault : goal.returns-in_err-admit-clause-fault
returns-in_err-admit-clause-fault g t c =
    at_exit _ c.from_residual.result c.in_err-admit.field-0.0 c.from_residual.ensures.1
    (turned_fault (g.S.Shelf.files c.args.shelf.now) (walk_of c.args.progress.now) (g.S.Shelf.faults c.args.shelf.now) (g.S.Shelf.faults c.args.shelf.now) (g.S.Shelf.asked c.args.shelf.now)
    (map string_bytes c.deref.result.now) (names_in c.args.open.now) (length c.deref-2.result.now) c.deref-3.result.now (string_bytes c.args.name) c.in_err-admit.field-0.0
    (ap (map string_bytes) c.deref.ensures.value) (ap length c.deref-2.ensures.value ∙ names_length c.args.progress.now) c.deref-3.ensures c.in_err-admit.ensures.fault)

pub returns-in_err-statements-clause-fault : goal.returns-in_err-statements-clause-fault
returns-in_err-statements-clause-fault g t c =
    at_exit _ c.from_residual-in_err-statements.result c.in_err-statements.field-0.0 c.from_residual-in_err-statements.ensures.1
    (said_fault (g.S.Shelf.files c.args.shelf.now) (names_in c.args.open.now) (walk_of c.args.progress.now) (g.S.Shelf.faults c.args.shelf.now) (g.S.Shelf.faults c.said.new.shelf) (g.S.Shelf.asked c.said.new.shelf)
    c.deref-4.result.now (string_bytes c.args.name) c.in_err-statements.field-0.0 c.deref-4.ensures
    (admitted (map string_bytes c.deref.result.now) (names_in c.args.open.now) (length c.deref-2.result.now) (length (walk_of c.args.progress.now).files) c.deref-3.result.now (string_bytes c.args.name)
    (ap (map string_bytes) c.deref.ensures.value) (ap length c.deref-2.ensures.value ∙ names_length c.args.progress.now) c.deref-3.ensures c.in_ok-admit.ensures.ok)
    c.in_err-statements.ensures.fault)

pub loop-statement-init : goal.loop-statement-init
loop-statement-init g t c =
    let may : Admitted (names_in c.args.open.now) (length (walk_of c.args.progress.now).files) (string_bytes c.args.name) =
    admitted (map string_bytes c.deref.result.now) (names_in c.args.open.now) (length c.deref-2.result.now) (length (walk_of c.args.progress.now).files) c.deref-3.result.now (string_bytes c.args.name)
    (ap (map string_bytes) c.deref.ensures.value) (ap length c.deref-2.ensures.value ∙ names_length c.args.progress.now) c.deref-3.ensures c.in_ok-admit.ensures.ok in
    record {
      same = c.said.ensures.same;
      no_fall = c.said.ensures.no_fall;
      within = c.in_ok-file.ensures.open;
      grown = file_more c.args.progress.now c.enter.new.progress (string_bytes c.args.name) c.in_ok-file.ensures.entered;
      room = omega (arith, may.room, names_length c.args.progress.now);
      rest = goes_first (g.S.Shelf.files c.args.shelf.now) (names_in c.args.open.now) (walk_of c.args.progress.now) (walk_of c.enter.new.progress) c.deref-4.result.now (string_bytes c.args.name) c.in_ok-file.file
          (map statement_of (into_iter_items c.into_iter-statement-iterator.result)) (map statement_of c.in_ok-statements.statements.items) c.deref-4.ensures c.in_ok-file.ensures.number c.in_ok-file.ensures.entered
          (ap (map statement_of) c.into_iter-statement-iterator.ensures.into_iter_gives.0) may c.in_ok-statements.ensures.said;
    }

pub returns-in_err-included-clause-fault : goal.returns-in_err-included-clause-fault
returns-in_err-included-clause-fault g t c =
    at_exit _ c.from_residual-in_err-included.result c.in_err-included.field-0.0 c.from_residual-in_err-included.ensures.1
    (take_fault (g.S.Shelf.files c.args.shelf.now) (names_in c.args.open.now) (walk_of c.args.progress.now) c.deref-in-loop-statement.result.now (string_bytes c.args.name) c.in_ok-file.file (walk_of c.loop-statement.progress)
    (statement_of c.in-Some.statement) (map statement_of (into_iter_items c.next.new.self)) (g.S.Shelf.faults c.args.shelf.now) (g.S.Shelf.faults c.loop-statement.shelf) (g.S.Shelf.asked c.loop-statement.shelf) c.in_err-included.field-0.0
    c.deref-in-loop-statement.ensures
    (goes_next (g.S.Shelf.files c.args.shelf.now) (names_in c.args.open.now) (walk_of c.args.progress.now) (string_bytes c.args.name) c.in_ok-file.file (walk_of c.loop-statement.progress) _ _
    (ap (map statement_of) c.in-Some.ensures.steps.0) c.loop-statement.invariant.rest)
    c.in_err-included.ensures.fault)

pub loop-statement-preserved-in-Continue-branch-6 : goal.loop-statement-preserved-in-Continue-branch-6
loop-statement-preserved-in-Continue-branch-6 g t c =
    let taken : Taken c.in_ok-file.file (string_bytes c.args.name) (walk_of c.loop-statement.progress) (statement_of c.in-Some.statement) (walk_of c.take.new.self) (Some (string_bytes c.in-Some-2.included)) =
    (subst (λ o. Taken c.in_ok-file.file (string_bytes c.args.name) (walk_of c.loop-statement.progress) (statement_of c.in-Some.statement) (walk_of c.take.new.self) (option_map string_bytes o)) c.in-Some-2.is
    (subst (λ n. Taken c.in_ok-file.file n (walk_of c.loop-statement.progress) (statement_of c.in-Some.statement) (walk_of c.take.new.self) (option_map string_bytes c.in_ok-included.field-0)) c.deref-in-loop-statement.ensures c.in_ok-included.ensures.taken)) in
    record {
      same = c.in_ok-walk_file.ensures.same ∙ c.loop-statement.invariant.same;
      no_fall = omega (arith, c.in_ok-walk_file.ensures.no_fall, c.loop-statement.invariant.no_fall);
      within = c.in_ok-walk_file.ensures.open ∙ c.loop-statement.invariant.within;
      grown = omega (arith, c.in_ok-walk_file.ensures.grows, c.loop-statement.invariant.grown, files_kept c.loop-statement.progress c.take.new.self (walk_of c.loop-statement.progress) taken.1 refl);
      room = c.loop-statement.invariant.room;
      rest = walked_on (g.S.Shelf.files c.args.shelf.now) (g.S.Shelf.files c.loop-statement.shelf) (names_in c.args.open.now) (names_in c.loop-statement.open) (walk_of c.args.progress.now) (string_bytes c.args.name) c.in_ok-file.file
          (walk_of c.loop-statement.progress) (walk_of c.take.new.self) (walk_of c.walk_file.new.progress) (statement_of c.in-Some.statement) (map statement_of (into_iter_items c.next.new.self)) (string_bytes c.in-Some-2.included)
          c.loop-statement.invariant.same c.loop-statement.invariant.within
          (goes_next (g.S.Shelf.files c.args.shelf.now) (names_in c.args.open.now) (walk_of c.args.progress.now) (string_bytes c.args.name) c.in_ok-file.file (walk_of c.loop-statement.progress) _ _
          (ap (map statement_of) c.in-Some.ensures.steps.0) c.loop-statement.invariant.rest)
          taken c.in_ok-walk_file.ensures.walked;
    }

pub returns-in_err-walk_file-clause-fault : goal.returns-in_err-walk_file-clause-fault
returns-in_err-walk_file-clause-fault g t c =
    let taken : Taken c.in_ok-file.file (string_bytes c.args.name) (walk_of c.loop-statement.progress) (statement_of c.in-Some.statement) (walk_of c.take.new.self) (Some (string_bytes c.in-Some-2.included)) =
    (subst (λ o. Taken c.in_ok-file.file (string_bytes c.args.name) (walk_of c.loop-statement.progress) (statement_of c.in-Some.statement) (walk_of c.take.new.self) (option_map string_bytes o)) c.in-Some-2.is
    (subst (λ n. Taken c.in_ok-file.file n (walk_of c.loop-statement.progress) (statement_of c.in-Some.statement) (walk_of c.take.new.self) (option_map string_bytes c.in_ok-included.field-0)) c.deref-in-loop-statement.ensures c.in_ok-included.ensures.taken)) in
    at_exit _ c.from_residual-in_err-walk_file.result c.in_err-walk_file.field-0.0 c.from_residual-in_err-walk_file.ensures.1
    (walk_fault (g.S.Shelf.files c.args.shelf.now) (g.S.Shelf.files c.loop-statement.shelf) (names_in c.args.open.now) (names_in c.loop-statement.open) (walk_of c.args.progress.now) (string_bytes c.args.name) c.in_ok-file.file
    (walk_of c.loop-statement.progress) (walk_of c.take.new.self) (statement_of c.in-Some.statement) (map statement_of (into_iter_items c.next.new.self)) (string_bytes c.in-Some-2.included)
    (g.S.Shelf.faults c.args.shelf.now) (g.S.Shelf.faults c.loop-statement.shelf) (g.S.Shelf.faults c.walk_file.new.shelf) (g.S.Shelf.asked c.walk_file.new.shelf) c.in_err-walk_file.field-0.0
    c.loop-statement.invariant.same c.loop-statement.invariant.within c.loop-statement.invariant.no_fall
    (goes_next (g.S.Shelf.files c.args.shelf.now) (names_in c.args.open.now) (walk_of c.args.progress.now) (string_bytes c.args.name) c.in_ok-file.file (walk_of c.loop-statement.progress) _ _
    (ap (map statement_of) c.in-Some.ensures.steps.0) c.loop-statement.invariant.rest)
    taken c.in_err-walk_file.ensures.fault)

pub loop-statement-preserved : goal.loop-statement-preserved
loop-statement-preserved g t c =
    let taken : Taken c.in_ok-file.file (string_bytes c.args.name) (walk_of c.loop-statement.progress) (statement_of c.in-Some.statement) (walk_of c.take.new.self) None =
    (subst (λ o. Taken c.in_ok-file.file (string_bytes c.args.name) (walk_of c.loop-statement.progress) (statement_of c.in-Some.statement) (walk_of c.take.new.self) (option_map string_bytes o)) c.in_default.is
    (subst (λ n. Taken c.in_ok-file.file n (walk_of c.loop-statement.progress) (statement_of c.in-Some.statement) (walk_of c.take.new.self) (option_map string_bytes c.in_ok-included.field-0)) c.deref-in-loop-statement.ensures c.in_ok-included.ensures.taken)) in
    record {
      same = c.loop-statement.invariant.same;
      no_fall = c.loop-statement.invariant.no_fall;
      within = c.loop-statement.invariant.within;
      grown = omega (arith, c.loop-statement.invariant.grown, files_kept c.loop-statement.progress c.take.new.self (after_statement c.in_ok-file.file (walk_of c.loop-statement.progress) (statement_of c.in-Some.statement)) taken.1 refl);
      room = c.loop-statement.invariant.room;
      rest = takes (g.S.Shelf.files c.args.shelf.now) (names_in c.args.open.now) (walk_of c.args.progress.now) (string_bytes c.args.name) c.in_ok-file.file (walk_of c.loop-statement.progress) (walk_of c.take.new.self)
          (statement_of c.in-Some.statement) (map statement_of (into_iter_items c.next.new.self))
          (goes_next (g.S.Shelf.files c.args.shelf.now) (names_in c.args.open.now) (walk_of c.args.progress.now) (string_bytes c.args.name) c.in_ok-file.file (walk_of c.loop-statement.progress) _ _
          (ap (map statement_of) c.in-Some.ensures.steps.0) c.loop-statement.invariant.rest)
          c.in_ok-included.ensures.lawful taken;
    }

pub returns-clause-walked : goal.returns-clause-walked
returns-clause-walked g t c =
    let none : map statement_of (into_iter_items c.loop-statement.statement-iterator) ≡ [] =
    ap (map statement_of) (nil_from_length (into_iter_items c.loop-statement.statement-iterator) (omega (arith, c.in-None.ensures.steps.0, c.loop-statement.statement-iterator.rest.ok))) in
    leave_ok (g.S.Shelf.files c.args.shelf.now) (names_in c.args.open.now) (walk_of c.args.progress.now) (string_bytes c.args.name) c.in_ok-file.file (walk_of c.loop-statement.progress) _ c.leave.result none c.loop-statement.invariant.rest c.leave.ensures.ended

pub returns-clause-fault : goal.returns-clause-fault
returns-clause-fault g t c =
    let none : map statement_of (into_iter_items c.loop-statement.statement-iterator) ≡ [] =
    ap (map statement_of) (nil_from_length (into_iter_items c.loop-statement.statement-iterator) (omega (arith, c.in-None.ensures.steps.0, c.loop-statement.statement-iterator.rest.ok))) in
    leave_fault (g.S.Shelf.files c.args.shelf.now) (names_in c.args.open.now) (walk_of c.args.progress.now) c.deref-5.result.now (string_bytes c.args.name) c.in_ok-file.file (walk_of c.loop-statement.progress) _
    (g.S.Shelf.faults c.args.shelf.now) (g.S.Shelf.faults c.loop-statement.shelf) (g.S.Shelf.asked c.loop-statement.shelf) c.leave.result c.deref-5.ensures none c.loop-statement.invariant.rest c.leave.ensures.fault
