use Rattle.std.proofs.Common.{refl}
use Rattle.shared_chart.proofs.Closes.{finished, is_whole}
use Rattle.shared_chart.proofs.lock.TurnLock.close.Goals as goal

pub unreachable-requires : goal.unreachable-requires
unreachable-requires g c =
    let f = finished g.M.Machine.history g.M.Machine.caller g.M.Machine.stands g.M.Machine.later g.M.Machine.itself _ c.args.self.board.shared.key.seats c.gather-all.result.id _ c.gather-all.result.me c.args.seats.items _ _ c.take-object.result refl c.requires.count.0 c.gather-all.ensures.rests c.gather-all.ensures.has c.gather-all.ensures.set c.close_with-closed.ensures.values.2 c.take-object.ensures.value in
    c.in_default.not-Some f.0 f.1

pub returns-clause-calls : goal.returns-clause-calls
returns-clause-calls g c =
    let f = finished g.M.Machine.history g.M.Machine.caller g.M.Machine.stands g.M.Machine.later g.M.Machine.itself _ c.args.self.board.shared.key.seats c.gather-all.result.id _ c.gather-all.result.me c.args.seats.items _ _ c.take-object.result refl c.requires.count.0 c.gather-all.ensures.rests c.gather-all.ensures.has c.gather-all.ensures.set c.close_with-closed.ensures.values.2 c.take-object.ensures.value in
    (is_whole g.M.Machine.history g.M.Machine.caller g.M.Machine.stands g.M.Machine.later g.M.Machine.itself _ c.args.seats.items c.take-object.result f.0 c.in-Some.object f.1 c.in-Some.is f.2).calls

pub returns-clause-callers : goal.returns-clause-callers
returns-clause-callers g c =
    let f = finished g.M.Machine.history g.M.Machine.caller g.M.Machine.stands g.M.Machine.later g.M.Machine.itself _ c.args.self.board.shared.key.seats c.gather-all.result.id _ c.gather-all.result.me c.args.seats.items _ _ c.take-object.result refl c.requires.count.0 c.gather-all.ensures.rests c.gather-all.ensures.has c.gather-all.ensures.set c.close_with-closed.ensures.values.2 c.take-object.ensures.value in
    (is_whole g.M.Machine.history g.M.Machine.caller g.M.Machine.stands g.M.Machine.later g.M.Machine.itself _ c.args.seats.items c.take-object.result f.0 c.in-Some.object f.1 c.in-Some.is f.2).callers

pub returns-clause-length : goal.returns-clause-length
returns-clause-length g c =
    let f = finished g.M.Machine.history g.M.Machine.caller g.M.Machine.stands g.M.Machine.later g.M.Machine.itself _ c.args.self.board.shared.key.seats c.gather-all.result.id _ c.gather-all.result.me c.args.seats.items _ _ c.take-object.result refl c.requires.count.0 c.gather-all.ensures.rests c.gather-all.ensures.has c.gather-all.ensures.set c.close_with-closed.ensures.values.2 c.take-object.ensures.value in
    (is_whole g.M.Machine.history g.M.Machine.caller g.M.Machine.stands g.M.Machine.later g.M.Machine.itself _ c.args.seats.items c.take-object.result f.0 c.in-Some.object f.1 c.in-Some.is f.2).long

pub returns-clause-standing : goal.returns-clause-standing
returns-clause-standing g c =
    let f = finished g.M.Machine.history g.M.Machine.caller g.M.Machine.stands g.M.Machine.later g.M.Machine.itself _ c.args.self.board.shared.key.seats c.gather-all.result.id _ c.gather-all.result.me c.args.seats.items _ _ c.take-object.result refl c.requires.count.0 c.gather-all.ensures.rests c.gather-all.ensures.has c.gather-all.ensures.set c.close_with-closed.ensures.values.2 c.take-object.ensures.value in
    (is_whole g.M.Machine.history g.M.Machine.caller g.M.Machine.stands g.M.Machine.later g.M.Machine.itself _ c.args.seats.items c.take-object.result f.0 c.in-Some.object f.1 c.in-Some.is f.2).standing

pub returns-clause-seen : goal.returns-clause-seen
returns-clause-seen g c =
    let f = finished g.M.Machine.history g.M.Machine.caller g.M.Machine.stands g.M.Machine.later g.M.Machine.itself _ c.args.self.board.shared.key.seats c.gather-all.result.id _ c.gather-all.result.me c.args.seats.items _ _ c.take-object.result refl c.requires.count.0 c.gather-all.ensures.rests c.gather-all.ensures.has c.gather-all.ensures.set c.close_with-closed.ensures.values.2 c.take-object.ensures.value in
    (is_whole g.M.Machine.history g.M.Machine.caller g.M.Machine.stands g.M.Machine.later g.M.Machine.itself _ c.args.seats.items c.take-object.result f.0 c.in-Some.object f.1 c.in-Some.is f.2).seen

pub returns-clause-mark : goal.returns-clause-mark
returns-clause-mark g c =
    let f = finished g.M.Machine.history g.M.Machine.caller g.M.Machine.stands g.M.Machine.later g.M.Machine.itself _ c.args.self.board.shared.key.seats c.gather-all.result.id _ c.gather-all.result.me c.args.seats.items _ _ c.take-object.result refl c.requires.count.0 c.gather-all.ensures.rests c.gather-all.ensures.has c.gather-all.ensures.set c.close_with-closed.ensures.values.2 c.take-object.ensures.value in
    (is_whole g.M.Machine.history g.M.Machine.caller g.M.Machine.stands g.M.Machine.later g.M.Machine.itself _ c.args.seats.items c.take-object.result f.0 c.in-Some.object f.1 c.in-Some.is f.2).mark
