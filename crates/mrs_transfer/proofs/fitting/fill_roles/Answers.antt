use Rattle.std.proofs.Common.{◌≡◌, ℕ, List, length, sym, subst, arith}
use Rattle.std.specs.Prelude.{All, Contains, map, string_bytes}
use Rattle.std.proofs.lemmas.Bool.{OnTrue_at, OnFalse_at}
use Rattle.std.proofs.lemmas.List.{length-map}
use Rattle.mrs_model.specs.Meanings.{Argument}
use Rattle.mrs_model.specs.Valid.{IsFiller}
use Rattle.mrs_model.specs.Views.{variable_of, argument_of, filler_of}
use Rattle.mrs_transfer.proofs.Roles.{role_read, roles_more, roles_all, roles_refused, roles_missing}
use Rattle.mrs_transfer.proofs.fitting.fill_roles.Goals as goal

pub returns-in_default-clause-no : goal.returns-in_default-clause-no
returns-in_default-clause-no c =
    let r = c.role-item.result in
    let at = role_read c.args.written.now c.loop-role.role-index r c.loop-role-test.true c.role-item.is in
    roles_missing (map variable_of c.args.all.now) (map string_bytes c.args.letters.now) (map argument_of c.args.there.now) (map argument_of c.args.written.now) c.loop-role.role-index (argument_of r) c.args.pairs.now.items c.loop-role.pairs.items at.0 at.1
    (subst (λ (z : List ℕ). All (λ (a : Argument). a.role ≡ z → ⊥) (map argument_of c.args.there.now)) c.as_str.ensures.value c.in_default.ensures.none) c.loop-role.invariant

pub fill-requires-clause-written : goal.fill-requires-clause-written
fill-requires-clause-written c =
    let r = c.role-item.result in
    let at = role_read c.args.written.now c.loop-role.role-index r c.loop-role-test.true c.role-item.is in
    subst (λ (a : Argument). IsFiller (length c.args.letters.now) a.filler) (sym at.1) (c.requires.written c.loop-role.role-index (argument_of r) at.0).filler

pub returns-then-not-branch-clause-no : goal.returns-then-not-branch-clause-no
returns-then-not-branch-clause-no c =
    let r = c.role-item.result in
    let at = role_read c.args.written.now c.loop-role.role-index r c.loop-role-test.true c.role-item.is in
    roles_refused (map variable_of c.args.all.now) (map string_bytes c.args.letters.now) (map argument_of c.args.there.now) (map argument_of c.args.written.now) c.loop-role.role-index (argument_of r) (filler_of c.in-Some.value.now) c.args.pairs.now.items c.loop-role.pairs.items c.fill.new.pairs.items c.requires.order at.0 at.1
    (subst (λ (z : List ℕ). Contains (map argument_of c.args.there.now) (record { role = z; filler = filler_of c.in-Some.value.now })) c.as_str.ensures.value c.in-Some.ensures.some) c.loop-role.invariant (OnFalse_at c.if-not-branch.true c.in_ok-fill.ensures.no)

pub loop-role-preserved : goal.loop-role-preserved
loop-role-preserved c =
    let r = c.role-item.result in
    let at = role_read c.args.written.now c.loop-role.role-index r c.loop-role-test.true c.role-item.is in
    roles_more (map variable_of c.args.all.now) (map string_bytes c.args.letters.now) (map argument_of c.args.there.now) (map argument_of c.args.written.now) c.loop-role.role-index (argument_of r) (filler_of c.in-Some.value.now) c.args.pairs.now.items c.loop-role.pairs.items c.fill.new.pairs.items c.requires.order at.0 at.1
    (subst (λ (z : List ℕ). Contains (map argument_of c.args.there.now) (record { role = z; filler = filler_of c.in-Some.value.now })) c.as_str.ensures.value c.in-Some.ensures.some) c.loop-role.invariant (OnTrue_at c.if-not-branch.false c.in_ok-fill.ensures.yes)

pub returns-clause-yes : goal.returns-clause-yes
returns-clause-yes c =
    let n : length (map argument_of c.args.written.now) ≡ length c.args.written.now = length-map c.args.written.now argument_of in
    roles_all (map variable_of c.args.all.now) (map string_bytes c.args.letters.now) (map argument_of c.args.there.now) (map argument_of c.args.written.now) c.loop-role.role-index c.args.pairs.now.items c.loop-role.pairs.items (omega (arith, n)) c.loop-role.invariant
