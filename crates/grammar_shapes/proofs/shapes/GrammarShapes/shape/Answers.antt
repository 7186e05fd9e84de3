use Rattle.std.proofs.Common.{sym, subst, []}
use Rattle.std.specs.Prelude.{IfSome, Some, option_map}
use Rattle.fs_model.specs.Claims.{IsBare, Has}
use Rattle.fs_model.specs.Closure.{IsConsistent}
use Rattle.fs_model.specs.Sources.{Told}
use Rattle.fs_graph.specs.GraphMap.{reader_of}
use Rattle.fs_closing.specs.Rules.{system_of}
use Rattle.fs_unify.specs.Owing.{IsWellFormedBut}
use Rattle.fs_unify.specs.Placing.{source_of, IsPlacedIn}
use Rattle.fs_trim.specs.Cutting.{cut_of, owed_of, IsShort}
use Rattle.fs_trim.proofs.TrimLemmas.{cut_in}
use Rattle.tree_model.specs.Mothers.{IsAbstract, Meant}
use Rattle.tree_model.specs.Views.{view, IsTrimmed, source_alone}
use Rattle.tree_model.proofs.AllLaws.{leaves_are_made}
use Rattle.grammar_shapes.specs.Ruled.{paths_in}
use Rattle.grammar_shapes.specs.Systems.{rules_of}
use Rattle.grammar_shapes.proofs.OwedLemmas.{owes_same, trimmed_same}
use Rattle.grammar_shapes.proofs.RangeLemmas.{short_where}
use Rattle.grammar_shapes.proofs.ShapeLemmas.{inside}
use Rattle.grammar_shapes.proofs.shapes.GrammarShapes.shape.Goals as goal

pub unify_without-requires-clause-bare : goal.unify_without-requires-clause-bare
unify_without-requires-clause-bare c = subst (λ g. IsBare (system_of g)) (sym c.system-system.ensures) c.args.self.now.bare

pub unify_without-requires-clause-parts : goal.unify_without-requires-clause-parts
unify_without-requires-clause-parts c p h =
    let g = c.args.self.now.rules.grammar in
    let cut = c.args.self.now.rules.daughters in
    let lists = c.fulls_owe.ensures in
    subst (λ g. IsPlacedIn g p) (sym c.system-system.ensures)
    (cut_in g c.args.full.now c.fulls_owe.result.now cut c.requires.in_range c.requires.owes lists p (subst (Has p) c.in-Ok.ensures h))

pub shape_of-requires-in-Ok-Some-clause-owes : goal.shape_of-requires-in-Ok-Some-clause-owes
shape_of-requires-in-Ok-Some-clause-owes c =
    let g = c.args.self.now.rules.grammar in
    let owes = subst (λ o. IfSome o (λ k. IsWellFormedBut (system_of c.system-system.result.now) (reader_of k) (owed_of (cut_of c.restrictors.result.now)))) c.in-Ok-Some.field-0-is c.in-Ok-Some.ensures.owes in
    owes_same g c.system-system.result.now c.args.self.now.rules.restrictors (cut_of c.restrictors.result.now) (Some c.in-Ok-Some.graph) c.system-system.ensures c.restrictors.ensures owes

pub returns-in-Ok-Some-clause-shape : goal.returns-in-Ok-Some-clause-shape
returns-in-Ok-Some-clause-shape c =
    let g = c.args.self.now.rules.grammar in
    let full = reader_of c.args.full.now in
    let cut = c.args.self.now.rules.restrictors in
    let known = subst (λ g. IsShort g c.in-Ok-Some.graph) c.system-system.ensures (subst (λ o. IfSome o (IsShort c.system-system.result.now)) c.in-Ok-Some.field-0-is c.in-Ok-Some.ensures.known) in
    let made = subst (λ o. IsTrimmed (system_of c.system-system.result.now) (source_of c.in-Ok.alone) [] (cut_of c.restrictors.result.now) (option_map reader_of o)) c.in-Ok-Some.field-0-is c.in-Ok-Some.ensures.answer in
    let alone : IsTrimmed (system_of g) (source_alone full) [] cut (Some (reader_of c.in-Ok-Some.graph)) =
    subst (λ ps. IsTrimmed (system_of g) (source_of ps) [] cut (Some (reader_of c.in-Ok-Some.graph))) c.in-Ok.ensures
    (trimmed_same g c.system-system.result.now (source_of c.in-Ok.alone) [] cut (cut_of c.restrictors.result.now) (Some (reader_of c.in-Ok-Some.graph)) c.system-system.ensures c.restrictors.ensures made) in
    subst (λ graph. IsAbstract (rules_of c.args.self.now) (Meant (rules_of c.args.self.now) (view (paths_in g) full)) (view (paths_in g) (reader_of graph))) (sym c.in_ok-shape_of-in-Ok-Some.ensures.graph)
    (leaves_are_made (rules_of c.args.self.now) full (reader_of c.in-Ok-Some.graph) (inside g c.args.full.now (short_where g c.args.full.now c.laws.ensures c.requires.in_range c.requires.consistent)) (inside g c.in-Ok-Some.graph known) alone)

pub unreachable-requires : goal.unreachable-requires
unreachable-requires c =
    let cut = cut_of c.restrictors.result.now in
    let none = subst (λ o. IsTrimmed (system_of c.system-system.result.now) (source_of c.in-Ok.alone) [] cut (option_map reader_of o)) c.in-Ok-None.field-0-is c.in-Ok-None.ensures.answer in
    none (subst (λ g. IsConsistent (system_of g) (Told (source_of c.in-Ok.alone))) (sym c.system-system.ensures)
    (subst (λ ps. IsConsistent (system_of c.args.self.now.rules.grammar) (Told (source_of ps))) (sym c.in-Ok.ensures)
    c.requires.consistent))
