use Rattle.std.proofs.Common.{◌≡◌, ◌<◌, ◌∙◌, sym, ap, arith, length, true, false}
use Rattle.std.specs.Str.{bytes_eq}
use Rattle.std.specs.String.{string_bytes}
use Rattle.type_hierarchy.specs.declared.decl.Decl.{Decl}
use Rattle.type_hierarchy.specs.Decls.{declared}
use Rattle.type_hierarchy.proofs.ListLemmas.{list_any-map, any_here, any_next, any_end}
use Rattle.type_hierarchy.proofs.names.is_declared.Goals as goal

pub returns-then-eq : goal.returns-then-eq
returns-then-eq c =
    let test = λ (d : Decl). bytes_eq c.args.name.now (string_bytes d.name) in
    let passes : test c.decl-item.result ≡ true = ap (bytes_eq c.args.name.now) (sym c.as_str.ensures.value) ∙ sym c.eq.ensures ∙ c.if-eq.true in
    let within : c.loop-decl.decl-index < length c.args.decls.now = omega arith in
    sym (list_any-map (λ d. bytes_eq c.args.name.now d.name) declared c.args.decls.now
    ∙ any_here test c.args.decls.now c.loop-decl.decl-index c.decl-item.result within c.loop-decl.invariant (ap test (sym c.decl-item.is) ∙ passes))

pub loop-decl-preserved : goal.loop-decl-preserved
loop-decl-preserved c =
    let test = λ (d : Decl). bytes_eq c.args.name.now (string_bytes d.name) in
    let fails : test c.decl-item.result ≡ false = ap (bytes_eq c.args.name.now) (sym c.as_str.ensures.value) ∙ sym c.eq.ensures ∙ c.if-eq.false in
    let within : c.loop-decl.decl-index < length c.args.decls.now = omega arith in
    any_next test c.args.decls.now c.loop-decl.decl-index c.decl-item.result within c.loop-decl.invariant (ap test (sym c.decl-item.is) ∙ fails)

pub returns : goal.returns
returns c =
    sym (list_any-map (λ d. bytes_eq c.args.name.now d.name) declared c.args.decls.now
    ∙ any_end (λ d. bytes_eq c.args.name.now (string_bytes d.name)) c.args.decls.now c.loop-decl.decl-index (omega arith) c.loop-decl.invariant)
