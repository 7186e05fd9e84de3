use Rattle.std.proofs.Common.{◌∙◌, ◌+◌, ◌∷◌, ◌++◌, [], length, ap, sym, subst, length-append, arith}
use Rattle.shared_chart.specs.Held.{IsOpened}
use Rattle.shared_chart.specs.TurnSeats.{Knows, IsFresh}
use Rattle.shared_chart.proofs.Parts.{cuts}
use Rattle.shared_chart.proofs.Views.{each_push, each_cons}
use Rattle.shared_chart.proofs.Made.{made_one, made_all, fresh_seat}
use Rattle.shared_chart.proofs.Knowing.{base_known, state_known}
use Rattle.shared_chart.proofs.lock.TurnLock.open.Goals as goal

pub split_seat-chair-requires : goal.split_seat-chair-requires
split_seat-chair-requires g c =
    let i = c.loop-number.invariant in
    (i.table, (let w = c.in_ok-lock.lock.words in omega arith), cuts _ _ _ _ g.M.Machine.itself _ _ _ c.loop-number.first.me.0 (let u = i.first.unmade in let t = c.loop-number-test.true in omega arith))

pub seated-requires : goal.seated-requires
seated-requires g c =
    let i = c.loop-number.invariant in
    let f = fresh_seat _ _ _ _ _ _ c.split_seat-chair.ensures.4 i.first.knows i.first.next in record {
      sits = f.sits;
      knows = (_, _, f.knows);
      fresh = f.fresh;
    }

pub loop-number-preserved : goal.loop-number-preserved
loop-number-preserved g c =
    let i = c.loop-number.invariant in let s = c.split_seat-chair.ensures in let h = c.seated.ensures.chair in
    let f = fresh_seat _ _ _ _ _ _ s.4 i.first.knows i.first.next in
    let knows = subst (λ x. Knows c.args.base.now c.args.object x.me) (sym h.0) f.knows in record {
      table = s.0 ∙ i.table;
      first = made_one _ _ _ _ _ _ s.2 i.first c.loop-number-test.true;
      count = (let n = i.count in let p = ap (λ l. length l) c.push_reserved.ensures.items in let a = length-append c.loop-number.later.items (c.seated.result ∷ []) in omega arith);
      each = each_push (λ j x. IsOpened c.in_ok-lock.lock.board.shared.table_id (j + 1) c.args.base.now c.args.object x) c.loop-number.later.items c.push_reserved.new.self.items c.seated.result c.push_reserved.ensures.items
          (record {
            id_is = ap (λ x. x.table_id) h.0 ∙ s.3 ∙ i.table;
            number = h.1 ∙ (let n = i.count in omega arith);
            base = base_known c.seated.result _ _ knows;
            state = state_known c.seated.result _ _ knows;
            fresh = subst (λ x. IsFresh x.me) (sym h.0) f.fresh;
          }) i.each;
      room = (let r = i.room in let p = c.push_reserved.ensures.capacity in omega arith);
    }

pub returns-clause-each : goal.returns-clause-each
returns-clause-each g c =
    let i = c.loop-number.invariant in let h = c.seated-2.ensures.chair in
    let f = made_all _ _ _ _ _ i.first (let n = c.loop-number-test.false in let e = i.room in omega (arith, n)) in
    let knows = subst (λ x. Knows c.args.base.now c.args.object x.me) (sym h.0) f.knows in
    each_cons (λ j x. IsOpened c.in_ok-lock.lock.board.shared.table_id j c.args.base.now c.args.object x) c.loop-number.later.items c.append.new.self.items c.seated-2.result
    (c.in_ok-append.ensures.items ∙ ap (λ l. l ++ c.loop-number.later.items) (c.push_reserved-2.ensures.items ∙ ap (λ l. l ++ c.seated-2.result ∷ []) c.in_ok-chairs.ensures.items))
    (record {
      id_is = ap (λ x. x.table_id) h.0 ∙ i.table;
      number = h.1;
      base = base_known c.seated-2.result _ _ knows;
      state = state_known c.seated-2.result _ _ knows;
      fresh = subst (λ x. IsFresh x.me) (sym h.0) f.fresh;
    }) i.each
