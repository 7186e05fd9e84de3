use Rattle.std.proofs.Common.{◌≡◌, ◌∙◌, length, map, ap, sym, subst, MatchResult, arith}
use Rattle.std.proofs.lemmas.List.{length-map}
use Rattle.std.proofs.Math.Seq.{map-set_same}
use lib.ListN.{get_elem?}
use Rattle.chart_core.specs.Grammar.{grammar_of}
use Rattle.chart_core.specs.Kept.{limits_seen}
use Rattle.chart_core.specs.Passed.{IsPassed, IsPassFault}
use Rattle.chart_workers.specs.Posts.{post_seat}
use Rattle.chart_workers.proofs.Firsts.{first_there}
use Rattle.chart_workers.proofs.Posted.{written}
use Rattle.chart_workers.proofs.Ran.{may_begin, ran}
use Rattle.chart_workers.proofs.saturating.saturate.Goals as goal

pub run-requires-clause-ready : goal.run-requires-clause-ready
run-requires-clause-ready g c κs outlives =
    let o = c.in_ok-chart.ensures in
    may_begin (grammar_of g.S.Shapes g.S.Cover.Cover c.args.shapes.now) c.in_ok-chart.chart c.in_ok-core.core c.args.shapes.now c.in_ok-chart.seats.items c.as_mut_slice.result.now
    (ap (λ l. map post_seat l) c.as_mut_slice.ensures.value ∙ map-set_same post_seat c.in_ok-posts.posts.items 0 _ c.index_mut-first.result.now (ap post_seat c.index_mut-first.ensures.value) ∙ c.in_ok-posts.ensures) c.in_ok-core.ensures.core o.count.2 o.each

pub conclude-requires-clause-count : goal.conclude-requires-clause-count
conclude-requires-clause-count g c =
    let o = c.in_ok-chart.ensures in let a : length c.in_ok-seats.seats.items ≡ length (map post_seat c.run.new.posts) = ap (λ l. length l) (c.in_ok-seats.ensures ∙ ap (λ l. map post_seat l) (written c.run.new.posts _ c.in_ok-posts.posts.len (let n = c.run.ensures.count in let m = c.as_mut_slice.ensures.len in let o = c.in_ok-posts.posts.ok in omega arith))) in let b = length-map c.run.new.posts post_seat in let d = c.run.ensures.count in
    let e : length (map post_seat c.as_mut_slice.result.now) ≡ length c.in_ok-chart.seats.items = ap (λ l. length l) (ap (λ l. map post_seat l) c.as_mut_slice.ensures.value ∙ map-set_same post_seat c.in_ok-posts.posts.items 0 _ c.index_mut-first.result.now (ap post_seat c.index_mut-first.ensures.value) ∙ c.in_ok-posts.ensures) in
    let f = length-map c.as_mut_slice.result.now post_seat in let n = o.count.0 in let m = o.count.1 in let p = c.args.crew.now.size.0 in
    ((let z : length c.in_ok-seats.seats.items ≡ c.args.crew.now.workers = omega arith in z ∙ sym m), (let z : length c.in_ok-seats.seats.items ≡ c.args.crew.now.workers = omega arith in omega arith))

pub conclude-requires-clause-each : goal.conclude-requires-clause-each
conclude-requires-clause-each g c = λ i s at.
    let o = c.in_ok-chart.ensures in
    let same = ap (λ l. map post_seat l) c.as_mut_slice.ensures.value ∙ map-set_same post_seat c.in_ok-posts.posts.items 0 _ c.index_mut-first.result.now (ap post_seat c.index_mut-first.ensures.value) ∙ c.in_ok-posts.ensures in
    (ran (grammar_of g.S.Shapes g.S.Cover.Cover c.args.shapes.now) c.in_ok-chart.chart c.in_ok-core.core c.in_ok-chart.seats.items c.as_mut_slice.result.now c.run.new.posts same o.each c.run.ensures.count c.run.ensures.each i s (ap (λ l. get_elem? l i) (sym (c.in_ok-seats.ensures ∙ ap (λ l. map post_seat l) (written c.run.new.posts _ c.in_ok-posts.posts.len (let n = c.run.ensures.count in let m = c.as_mut_slice.ensures.len in let o = c.in_ok-posts.posts.ok in omega arith)))) ∙ at)).0

pub conclude-requires-clause-same : goal.conclude-requires-clause-same
conclude-requires-clause-same g c = λ s at.
    let o = c.in_ok-chart.ensures in
    let same = ap (λ l. map post_seat l) c.as_mut_slice.ensures.value ∙ map-set_same post_seat c.in_ok-posts.posts.items 0 _ c.index_mut-first.result.now (ap post_seat c.index_mut-first.ensures.value) ∙ c.in_ok-posts.ensures in
    let r = ran (grammar_of g.S.Shapes g.S.Cover.Cover c.args.shapes.now) c.in_ok-chart.chart c.in_ok-core.core c.in_ok-chart.seats.items c.as_mut_slice.result.now c.run.new.posts same o.each c.run.ensures.count c.run.ensures.each 0 s (ap (λ l. get_elem? l 0) (sym (c.in_ok-seats.ensures ∙ ap (λ l. map post_seat l) (written c.run.new.posts _ c.in_ok-posts.posts.len (let n = c.run.ensures.count in let m = c.as_mut_slice.ensures.len in let o = c.in_ok-posts.posts.ok in omega arith)))) ∙ at) in
    r.1.limits_same ∙ c.in_ok-core.ensures.limits

pub returns : goal.returns
returns g c =
    let o = c.in_ok-chart.ensures in let s = c.args.shapes.now in
    let same = ap (λ l. map post_seat l) c.as_mut_slice.ensures.value ∙ map-set_same post_seat c.in_ok-posts.posts.items 0 _ c.index_mut-first.result.now (ap post_seat c.index_mut-first.ensures.value) ∙ c.in_ok-posts.ensures in
    let a : length c.in_ok-seats.seats.items ≡ length (map post_seat c.run.new.posts) = ap (λ l. length l) (c.in_ok-seats.ensures ∙ ap (λ l. map post_seat l) (written c.run.new.posts _ c.in_ok-posts.posts.len (let n = c.run.ensures.count in let m = c.as_mut_slice.ensures.len in let o = c.in_ok-posts.posts.ok in omega arith))) in let b = length-map c.run.new.posts post_seat in let d = c.run.ensures.count in let e : length (map post_seat c.as_mut_slice.result.now) ≡ length c.in_ok-chart.seats.items = ap (λ l. length l) same in
    let f = length-map c.as_mut_slice.result.now post_seat in let n = o.count.0 in let p = c.args.crew.now.size.0 in
    let first = first_there c.in_ok-seats.seats.items (omega arith) in
    let r = ran (grammar_of g.S.Shapes g.S.Cover.Cover s) c.in_ok-chart.chart c.in_ok-core.core c.in_ok-chart.seats.items c.as_mut_slice.result.now c.run.new.posts same o.each c.run.ensures.count c.run.ensures.each 0 first.0 (ap (λ l. get_elem? l 0) (sym (c.in_ok-seats.ensures ∙ ap (λ l. map post_seat l) (written c.run.new.posts _ c.in_ok-posts.posts.len (let n = c.run.ensures.count in let m = c.as_mut_slice.ensures.len in let o = c.in_ok-posts.posts.ok in omega arith)))) ∙ first.1) in
    subst (λ ls. MatchResult c.conclude.result (IsPassed (grammar_of g.S.Shapes g.S.Cover.Cover s) (g.S.Shapes.full s) (g.S.Shapes.agrees s) (limits_seen c.args.terms.now.limits.now) ls) (IsPassFault (g.S.Shapes.calculus s) (limits_seen c.args.terms.now.limits.now) ls))
    (r.1.leaves_same ∙ c.in_ok-core.ensures.leaves) (c.conclude.ensures first.0 first.1)
