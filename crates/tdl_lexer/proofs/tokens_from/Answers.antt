use Rattle.std.proofs.Common.{◌≡◌, ◌+◌, ◌-◌, [], ◌++◌, length, Some, None, sym, ◌∙◌, ap, subst, arith, rules, inr}
use Rattle.std.proofs.lemmas.Bool.{eqb-true, eqb-false}
use Rattle.std.proofs.lemmas.List.{append-nil}
use Rattle.tdl_lexer.specs.declared.Mode.TheVariants.{Plain}
use Rattle.tdl_lexer.specs.Readings.{ends}
use Rattle.tdl_lexer.proofs.tokens_from.Goals.{in-Some-what+in_ok-push, in_default-what}
use Rattle.std.specs.Str.{chars, IsUtf8}
use Rattle.tdl_lexer.specs.Readings.{Reads}
use Rattle.tdl_lexer.specs.Scan.{cut_of, piece_at}
use Rattle.tdl_lexer.proofs.Sound.{left_of, fault_at, empty_text, no_empty, goes_on_token, goes_on}
use Rattle.tdl_lexer.proofs.tokens_from.Goals as goal

pub overflow_sub-to : goal.overflow_sub-to
overflow_sub-to c =
    let t : IsUtf8 c.in-Some.found.rest.now = search rules in
    let e : piece_at c.loop-rest.mode (chars c.loop-rest.rest.now) ≡ Some (cut_of c.in-Some.found) = sym c.in-Some.ensures in
    let h = left_of _ _ c.loop-rest.rest.now c.in-Some.found.rest.now _ c.loop-rest.invariant.text t e in
    omega (arith, h.shorter, c.loop-rest.invariant.room)

pub loop-rest-smaller : goal.loop-rest-smaller
loop-rest-smaller c =
    let t : IsUtf8 c.in-Some.found.rest.now = search rules in
    let e : piece_at c.loop-rest.mode (chars c.loop-rest.rest.now) ≡ Some (cut_of c.in-Some.found) = sym c.in-Some.ensures in
    let h = left_of _ _ c.loop-rest.rest.now c.in-Some.found.rest.now _ c.loop-rest.invariant.text t e in
    h.shorter

pub returns-clause-found : goal.returns-clause-found
returns-clause-found c =
    let e : length c.loop-rest.rest.now ≡ 0 = eqb-true _ _ (sym c.is_empty.ensures ∙ c.loop-rest-test.false) in
    let r : Reads c.loop-rest.mode (c.args.start + (length c.args.text.now - length c.loop-rest.rest.now)) (chars c.loop-rest.rest.now) [] None = rw (empty_text c.loop-rest.rest.now e) (ends _ _) in
    subst (λ l. Reads Plain c.args.start (chars c.args.text.now) l None) (append-nil c.loop-rest.out.items) (c.loop-rest.invariant.reads [] None r)

pub returns-in_default-clause-fault : goal.returns-in_default-clause-fault
returns-in_default-clause-fault c =
    let e = eqb-false _ _ (sym c.is_empty.ensures ∙ c.loop-rest-test.true) in
    let r = fault_at c.loop-rest.mode (c.args.start + (length c.args.text.now - length c.loop-rest.rest.now)) (chars c.loop-rest.rest.now) (no_empty c.loop-rest.rest.now c.loop-rest.invariant.text e) (sym c.in_default.ensures) in
    inr (c.loop-rest.out.items ++ [], subst (λ f. Reads Plain c.args.start (chars c.args.text.now) (c.loop-rest.out.items ++ []) (Some f)) (sym c.fault.ensures) (c.loop-rest.invariant.reads [] _ r))

pub loop-rest-preserved : goal.loop-rest-preserved
loop-rest-preserved c =
    let t : IsUtf8 c.in-Some.found.rest.now = search rules in
    let e : piece_at c.loop-rest.mode (chars c.loop-rest.rest.now) ≡ Some (cut_of c.in-Some.found) = sym c.in-Some.ensures in
    let h = left_of _ _ c.loop-rest.rest.now c.in-Some.found.rest.now _ c.loop-rest.invariant.text t e in
    record {
      text = t;
      room = omega (arith, h.shorter, c.loop-rest.invariant.room);
      reads = elim c.match-found.branch [
        | in-Some-what+in_ok-push w ↦ goes_on_token Plain _ _ c.args.start (length c.args.text.now) (chars c.args.text.now) c.loop-rest.rest.now c.in-Some.found.rest.now _ w.in-Some-what.kind c.loop-rest.out.items c.match-found.out.items c.loop-rest.invariant.room h w.in-Some-what.is (ap (λ v. v.items) w.out-is ∙ w.in_ok-push.ensures.items) c.loop-rest.invariant.reads
        | in_default-what w ↦ let n : c.in-Some.found.what ≡ None = search (rules, w.in_default-what.not-Some) in goes_on Plain _ _ c.args.start (length c.args.text.now) (chars c.args.text.now) c.loop-rest.rest.now c.in-Some.found.rest.now _ c.loop-rest.out.items c.match-found.out.items c.loop-rest.invariant.room h n (ap (λ v. v.items) w.out-is) c.loop-rest.invariant.reads
      ];
    }
