use Rattle.std.proofs.Common.{rules, arith, ◌++◌, ◌∙◌, sym, ap, refl, append_assoc, subst, length, ◌≤◌}
use Rattle.std.proofs.lemmas.Result.{err_from_is_err_and}
use Rattle.lkb_io.specs.Lines.{IsTooLong, IsEndAt, HasNoEnd}
use Rattle.lkb_io.proofs.Told.{Takes-more}
use Rattle.lkb_io.proofs.Ends.{not_too_long, none-came, IsNext-last}
use Rattle.lkb_io.proofs.lines.next_line.Goals as goal

pub take_line-requires : goal.take_line-requires
take_line-requires g c = (subst (λ t. IsEndAt t c.in-Some.at) c.as_slice.ensures (c.in-Some.ensures.some c.in-Some.at refl)).0

pub returns-in_err-take_line-clause-too_long : goal.returns-in_err-take_line-clause-too_long
returns-in_err-take_line-clause-too_long g c =
    let p = err_from_is_err_and c.from_residual.result c.from_residual.ensures.1 in
    let at = subst (λ t. IsEndAt t c.in-Some.at) c.as_slice.ensures (c.in-Some.ensures.some c.in-Some.at refl) in
    rw (p.1, p.2) ((λ q. let r : ⊥ = search (rules, q) in absurd r), λ h. absurd (not_too_long c.loop-at.buffer c.in-Some.at at.2 (subst IsTooLong c.in_err-take_line.ensures.err h)))

pub returns-in-Some-clause-again : goal.returns-in-Some-clause-again
returns-in-Some-clause-again g c = λ h.
    let at = subst (λ t. IsEndAt t c.in-Some.at) c.as_slice.ensures (c.in-Some.ensures.some c.in-Some.at refl) in
    absurd (not_too_long c.loop-at.buffer c.in-Some.at at.2 (subst IsTooLong (sym (c.loop-at.invariant.again h).1) h))

pub returns-then-seen-ge-LIMIT-clause-too_long : goal.returns-then-seen-ge-LIMIT-clause-too_long
returns-then-seen-ge-LIMIT-clause-too_long g c =
    let none = subst HasNoEnd c.as_slice.ensures (c.in_default.ensures.none refl) in
    let long = c.if-seen-ge-LIMIT.true in
    let len = ap length c.as_slice-seen.ensures in
    ((λ _. (omega (arith, long, len), none)), λ _. refl)

pub returns-in_err-fill-clause-next : goal.returns-in_err-fill-clause-next
returns-in_err-fill-clause-next g c =
    let p = err_from_is_err_and c.from_residual-in_err-fill.result c.from_residual-in_err-fill.ensures.1 in
    let a = c.loop-at.invariant.came in
    let b = c.in_err-fill.ensures.came in
    let l = g.S.Source.left in
    let all = b.2 ∙ ap (λ t. t ++ b.0) a.2 ∙ append_assoc c.args.buffer.now a.0 b.0 in (
      a.0 ++ b.0,
      Takes-more (l c.args.source.now) (l c.loop-at.source) (l c.fill.new.source) a.0 b.0 a.1 b.1,
      rw p.1 (all, c.loop-at.invariant.now_open ∙ sym c.loop-at.invariant.was_open),
      subst (λ t. length t ≤ 65536) all c.in_err-fill.ensures.room,
    )

pub returns-then-branch-eq0-clause-next : goal.returns-then-branch-eq0-clause-next
returns-then-branch-eq0-clause-next g c =
    let a = c.loop-at.invariant.came in
    let b = c.in_ok-fill.ensures.came in
    let l = g.S.Source.left in
    let all = sym (b.2 ∙ ap (λ t. t ++ b.0) a.2 ∙ append_assoc c.args.buffer.now a.0 b.0) in
    let zero_more = c.if-branch-eq0.true in
    let length_is = c.in_ok-fill.ensures.length in
    let same = none-came c.loop-at.buffer c.fill.new.self b.0 b.2 (omega (arith, zero_more, length_is)) in
    let none = subst HasNoEnd (c.as_slice.ensures ∙ sym same) (c.in_default.ensures.none refl) in
    let short = c.if-seen-ge-LIMIT.false in
    let len = ap length c.as_slice-seen.ensures in (
      a.0 ++ b.0,
      Takes-more (l c.args.source.now) (l c.loop-at.source) (l c.fill.new.source) a.0 b.0 a.1 b.1,
      rw c.take_last.ensures.rest (IsNext-last (c.args.buffer.now ++ (a.0 ++ b.0)) c.fill.new.self _ c.take_last.ensures.line all none (omega (arith, zero_more, length_is, short, len))),
      subst (λ t. length t ≤ 65536) (sym all) c.in_ok-fill.ensures.room,
    )
