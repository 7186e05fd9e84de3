use Rattle.std.proofs.Common.{◌<◌, ◌≤◌, ◌∙◌, ◌++◌, sym, ap, arith, length, map}
use Rattle.std.proofs.lemmas.List.{length-map, take_all, map-append, append-nil}
use Rattle.type_hierarchy.specs.Decls.{declared, decls_of, texts, unwritten, types_of, parent_names, number_of}
use Rattle.type_hierarchy.specs.Inner.Parents.{implied}
use Rattle.type_hierarchy.proofs.NameLemmas.{place_is}
use Rattle.type_hierarchy.proofs.ParentLemmas.{none_unknown, unknown_fault, implied_push, known_more}
use Rattle.type_hierarchy.proofs.parents.parents_of.Goals as goal

pub returns-in-Err-clause-unknown : goal.returns-in-Err-clause-unknown
returns-in-Err-clause-unknown c =
    let within : c.loop-decl.decl-index < length c.args.decls.now = omega arith in
    unknown_fault c.args.top.now c.args.text.now (decls_of c.args.decls.now) (texts c.args.names.now.keys) c.loop-decl.decl-index (declared c.decl-item.result)
    c.requires.named (omega (arith, within, length-map c.args.decls.now declared)) (place_is c.args.decls.now c.loop-decl.decl-index c.decl-item.result within c.decl-item.is)
    c.loop-decl.invariant.known c.in-Err.fault c.in-Err.ensures.unknown

pub loop-decl-init : goal.loop-decl-init
loop-decl-init c = record { parents = c.in_ok-parents.ensures ∙ sym (append-nil _); known = λ k h. absurd (omega arith) }

pub loop-decl-preserved : goal.loop-decl-preserved
loop-decl-preserved c =
    let ds = decls_of c.args.decls.now in
    let ns = texts c.args.names.now.keys in
    let within : c.loop-decl.decl-index < length c.args.decls.now = omega arith in
    let here = place_is c.args.decls.now c.loop-decl.decl-index c.decl-item.result within c.decl-item.is in
    record {
      parents = implied_push ns c.args.top.now (implied ns c.args.top.now (unwritten c.args.top.now c.args.text.now ds)) ds c.loop-decl.decl-index (declared c.decl-item.result) c.loop-decl.parents.items _ c.in-Ok.numbers
          (omega (arith, within, length-map c.args.decls.now declared)) here c.loop-decl.invariant.parents c.in_ok-push-in-Ok.ensures.items c.in-Ok.ensures.numbers;
      known = known_more ns ds c.loop-decl.decl-index (declared c.decl-item.result) here c.in-Ok.ensures.known c.loop-decl.invariant.known;
    }

pub returns-clause-parents : goal.returns-clause-parents
returns-clause-parents c =
    let ds = decls_of c.args.decls.now in
    let ns = texts c.args.names.now.keys in
    let all : length ds ≤ c.loop-decl.decl-index = omega (arith, length-map c.args.decls.now declared) in
    c.loop-decl.invariant.parents ∙ ap (λ l. implied ns c.args.top.now (unwritten c.args.top.now c.args.text.now ds) ++ implied ns c.args.top.now l) (take_all _ ds all)
    ∙ sym (map-append (λ d. map (number_of ns) (parent_names c.args.top.now d)) (unwritten c.args.top.now c.args.text.now ds) ds)
    ∙ ap (λ n. implied n c.args.top.now (types_of c.args.top.now c.args.text.now ds)) c.requires.named

pub returns-clause-known : goal.returns-clause-known
returns-clause-known c = λ k i u.
    none_unknown c.args.top.now c.args.text.now (decls_of c.args.decls.now) _ c.loop-decl.decl-index c.requires.named c.loop-decl.invariant.known k i
    (omega (arith, u.0, length-map c.args.decls.now declared)) u
