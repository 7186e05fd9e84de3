use Rattle.std.proofs.Common.{◌∙◌, ◌<◌, ◌∷◌, ◌++◌, [], length, length-append, append_assoc, ap, sym, refl, true≢false, arith}
use Rattle.atomic_table.proofs.Lists.{at_last}
use Rattle.shared_chart.proofs.Parts.{glues}
use Rattle.shared_chart.proofs.Gathers.{the_last, last_claims, more_claims, set_last, set_more}
use Rattle.shared_chart.proofs.lock.TurnLock.gather.Goals as goal

pub loop-seat-init : goal.loop-seat-init
loop-seat-init g c =
    let is = c.in-Some.ensures.items in let x = c.in-Some.seat in
    let me = c.requires.each (length c.pop.new.self.items) x (ap (λ l. lib.ListN.get_elem? l (length c.pop.new.self.items)) is ∙ at_last c.pop.new.self.items x _ refl) in record {
      id = me.0;
      rests = x.sits.idle;
      left = (x ∷ [], is);
      has = last_claims _ _ x is me.1;
      set = set_last _ _ x is;
    }

pub join_seat-requires : goal.join_seat-requires
join_seat-requires g c =
    let i = c.loop-seat.invariant in let x = c.in-Some-pop.seat in let new = c.pop-in-loop-seat.new.self.items in
    let me = c.requires.each (length new) x (the_last _ new i.left.0 x (i.left.1 ∙ ap (λ l. l ++ i.left.0) c.in-Some-pop.ensures.items)) in
    (i.id, me.0, x.sits.idle.empty, (let w = c.args.self.now.words in omega arith), glues _ _ _ _ g.M.Machine.itself _ _ _ _ c.loop-seat.first.me.0 x.chair.me.0 i.rests.holds x.sits.idle.turn x.sits.makes_none)

pub loop-seat-preserved : goal.loop-seat-preserved
loop-seat-preserved g c =
    let i = c.loop-seat.invariant in let x = c.in-Some-pop.seat in let new = c.pop-in-loop-seat.new.self.items in let s = c.join_seat.ensures in
    let was = i.left.1 ∙ ap (λ l. l ++ i.left.0) c.in-Some-pop.ensures.items in
    let me = c.requires.each (length new) x (the_last _ new i.left.0 x was) in record {
      id = s.0 ∙ i.id;
      rests = record {
        turn = ap (λ m. m.0.turn) s.2 ∙ i.rests.turn;
        holds = ap (λ m. m.0.holds) s.2 ∙ i.rests.holds;
        empty = ap (λ m. m.1) s.2 ∙ i.rests.empty;
        numbered = (let a = ap (λ m. length m.0.claims) s.2 in let b = length-append c.loop-seat.first.me.0.claims x.chair.me.0.claims in let p = i.rests.numbered in omega arith);
      };
      left = (x ∷ i.left.0, was ∙ append_assoc new (x ∷ []) i.left.0);
      has = more_claims _ new i.left.0 x c.loop-seat.first.me c.join_seat.new.seat.me was s.2 me.1 (λ j d e le. i.has j d e (let n = ap (λ l. length l) c.in-Some-pop.ensures.items in omega arith));
      set = set_more _ new i.left.0 x c.loop-seat.first.me c.join_seat.new.seat.me was s.2 i.set;
    }

pub returns-clause-has : goal.returns-clause-has
returns-clause-has g c = λ j d e.
    c.loop-seat.invariant.has j d e (let none : 0 < length c.loop-seat.seats.items → ⊥ = λ some_left. true≢false (sym (c.in_default-pop.ensures.variant.1 (omega (arith, some_left)))) in omega (arith, none))
