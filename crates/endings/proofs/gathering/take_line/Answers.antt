use Rattle.std.proofs.Common.{rules, arith, length, length-append, ◌≡◌, ◌++◌, ◌∷◌, [], ◌∙◌, ℕ, List, Bool, Vec, Global, map, sym, ap, subst, true, false, Ok, Err, option_map, append_assoc, inl, refl}
use Rattle.std.proofs.lemmas.Result.{err_from_is_err_and}
use Rattle.std.proofs.lemmas.List.{map-append}
use Rattle.lkb_io.specs.Lines.{IsNext}
use Rattle.endings.specs.Readings.{ReadsSoFar}
use Rattle.endings.specs.Inner.Batches.{Gathered, ReadsSome}
use Rattle.endings.proofs.Reading.{part-held, so_far-open, so_far-more, so_far-end, is_false}
use Rattle.endings.proofs.Batching.{some-took, fault-gathered}
use Rattle.endings.proofs.gathering.take_line.Goals as goal

abbrev items : Vec ℕ Global → List ℕ
items v = v.items

pub returns-in_err-line-clause-gathered : goal.returns-in_err-line-clause-gathered
returns-in_err-line-clause-gathered g c old before h =
    let p = err_from_is_err_and c.from_residual.result c.from_residual.ensures.1 in
    let left = g.I.Source.left in
    let next = c.in_err-line.ensures.next in
    let held = c.args.held.now in
    let lines = before ++ map items c.args.lines.now.items in
    let closed : (held.ended ≡ true → ⊥) = λ e. let q = (c.in_err-line.ensures.ended e).0 in search (rules, q) in
    let part = so_far-open old (left c.args.input.now) held.bytes held.ended lines closed h in
    let s = fault-gathered Bool old (left c.args.input.now) (left c.read_line.new.source) (g.I.Source.faults c.args.input.now) (g.I.Source.faults c.read_line.new.source) held.bytes next.0 c.read_line.new.held lines c.in_err-line.field-0.0 part next.1 next.2.0
    (λ e. c.in_err-line.ensures.too_long.0 (ap Err e)) (λ e. c.in_err-line.ensures.part (ap Err e)) (λ e. c.in_err-line.ensures.failed (ap Err e)) in
    subst (Gathered {X = Bool} old (left c.read_line.new.source) (g.I.Source.faults c.args.input.now) (g.I.Source.faults c.read_line.new.source) c.read_line.new.held lines) (sym (p.1 ∙ ap Err p.2)) s

pub returns-in_default-clause-gathered : goal.returns-in_default-clause-gathered
returns-in_default-clause-gathered g c old before h =
    let left = g.I.Source.left in
    let next = c.in_ok-line.ensures.next in
    let held = c.args.held.now in
    let kept = c.read_line.new.held in
    let lines = before ++ map items c.args.lines.now.items in
    let none = subst (λ v. IsNext (option_map (λ v. v.items) v) (held.bytes ++ next.0) kept) c.in_default.is next.2 in
    let all = so_far-end old (left c.args.input.now) (left c.read_line.new.source) held.bytes next.0 held.ended lines h next.1 none.0 (λ e. c.in_ok-line.ensures.end e none.2) (λ e. ap left (c.in_ok-line.ensures.ended e).1) in
    subst (λ b. ReadsSoFar old (left c.read_line.new.source) kept.bytes b lines) (sym none.2) all

pub returns-in_err-keep_line-clause-gathered : goal.returns-in_err-keep_line-clause-gathered
returns-in_err-keep_line-clause-gathered g c old before h =
    let p = err_from_is_err_and c.from_residual-in_err-keep_line.result c.from_residual-in_err-keep_line.ensures.1 in
    let left = g.I.Source.left in
    let next = c.in_ok-line.ensures.next in
    let held = c.args.held.now in
    let kept = c.read_line.new.held in
    let lines = before ++ map items c.args.lines.now.items in
    let closed : (held.ended ≡ true → ⊥) = λ e. let q = sym (ap Ok c.in-Some.is) ∙ (c.in_ok-line.ensures.ended e).0 in search (rules, q) in
    let part = so_far-open old (left c.args.input.now) held.bytes held.ended lines closed h in
    let some : ReadsSome old (left c.read_line.new.source) lines = (held.bytes ++ next.0, inl (part-held old (left c.args.input.now) (left c.read_line.new.source) held.bytes next.0 (held.bytes ++ next.0) lines part next.1 refl)) in
    let s = subst (λ l. ReadsSome old (left c.read_line.new.source) (before ++ map items l)) (sym c.in_err-keep_line.ensures.refused) some in
    subst (Gathered {X = Bool} old (left c.read_line.new.source) (g.I.Source.faults c.args.input.now) (g.I.Source.faults c.read_line.new.source) kept (before ++ map items c.keep_line.new.lines.items)) (sym (p.1 ∙ ap Err (p.2 ∙ c.in_err-keep_line.ensures.cause))) s

pub returns-clause-gathered : goal.returns-clause-gathered
returns-clause-gathered g c old before h =
    let left = g.I.Source.left in
    let next = c.in_ok-line.ensures.next in
    let held = c.args.held.now in
    let kept = c.read_line.new.held in
    let was = c.args.lines.now.items in
    let lines = before ++ map items was in
    let line = c.in-Some.line in
    let some = subst (λ v. IsNext (option_map (λ v. v.items) v) (held.bytes ++ next.0) kept) c.in-Some.is next.2 in
    let closed : (held.ended ≡ true → ⊥) = λ e. let q = sym (ap Ok c.in-Some.is) ∙ (c.in_ok-line.ensures.ended e).0 in search (rules, q) in
    let open_ : held.ended ≡ false = is_false held.ended closed in
    let part = so_far-open old (left c.args.input.now) held.bytes held.ended lines closed h in
    let more = so_far-more old (left c.args.input.now) (left c.read_line.new.source) held.bytes next.0 line.items kept lines part next.1 some (λ e. c.in_ok-line.ensures.end open_ e) in
    let pushed : c.keep_line.new.lines.items ≡ was ++ line ∷ [] = c.in_ok-keep_line.ensures.kept in
    let same = append_assoc before (map items was) (items line ∷ []) ∙ ap (λ t. before ++ t) (sym (map-append items was (line ∷ [])) ∙ ap (map items) (sym pushed)) in
    subst (ReadsSoFar old (left c.read_line.new.source) kept.bytes kept.ended) same more

pub returns-in_err-line-clause-before : goal.returns-in_err-line-clause-before
returns-in_err-line-clause-before g c old before h =
    let next = c.in_err-line.ensures.next in some-took old (g.I.Source.left c.args.input.now) (g.I.Source.left c.read_line.new.source) next.0 before h next.1

pub returns-in_default-clause-before : goal.returns-in_default-clause-before
returns-in_default-clause-before g c old before h =
    let next = c.in_ok-line.ensures.next in some-took old (g.I.Source.left c.args.input.now) (g.I.Source.left c.read_line.new.source) next.0 before h next.1

pub returns-in_err-keep_line-clause-before : goal.returns-in_err-keep_line-clause-before
returns-in_err-keep_line-clause-before g c old before h =
    let next = c.in_ok-line.ensures.next in some-took old (g.I.Source.left c.args.input.now) (g.I.Source.left c.read_line.new.source) next.0 before h next.1

pub returns-clause-before : goal.returns-clause-before
returns-clause-before g c old before h =
    let next = c.in_ok-line.ensures.next in some-took old (g.I.Source.left c.args.input.now) (g.I.Source.left c.read_line.new.source) next.0 before h next.1

pub returns-in_default-clause-end : goal.returns-in_default-clause-end
returns-in_default-clause-end g c e =
    let next = c.in_ok-line.ensures.next in
    (subst (λ v. IsNext (option_map (λ v. v.items) v) (c.args.held.now.bytes ++ next.0) c.read_line.new.held) c.in_default.is next.2).2

pub returns-clause-one : goal.returns-clause-one
returns-clause-one g c e =
    let i = ap length c.in_ok-keep_line.ensures.kept in
    let l = length-append c.args.lines.now.items (c.in-Some.line ∷ []) in
    omega (arith, i, l)

pub returns-clause-few : goal.returns-clause-few
returns-clause-few g c =
    let i = ap length c.in_ok-keep_line.ensures.kept in
    let l = length-append c.args.lines.now.items (c.in-Some.line ∷ []) in
    omega (arith, i, l)

pub returns-in_err-keep_line-clause-few : goal.returns-in_err-keep_line-clause-few
returns-in_err-keep_line-clause-few g c =
    let i = ap length c.in_err-keep_line.ensures.refused in
    omega (arith, i)
