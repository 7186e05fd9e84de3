use Rattle.std.proofs.Common.{length, map, subst, sym, ◌∙◌}
use Rattle.chart_core.specs.Grammar.{grammar_of}
use Rattle.chart_core.specs.Kept.{core_of, rows_in}
use Rattle.forest_unpack.specs.Asking.{AreAsked}
use Rattle.forest_unpack.specs.Keeping.{asked_of}
use Rattle.forest_unpack.proofs.Ready.{skeleton_is, plan_is, all_below}
use Rattle.forest_unpack.proofs.unpacking.unpack.Goals as goal

pub unpack_by-requires : goal.unpack_by-requires
unpack_by-requires g c =
    let s = c.args.shapes.now in
    let f = c.args.finished.now in
    let fulls = c.args.fulls.now in
    let w = g.F.Fulls.wholes fulls in
    let rows = rows_in (core_of f) in
    let ranks_are = c.deref.ensures.value ∙ c.in_ok-ranks.ensures in
    let asked_are = subst (λ zs. AreAsked w rows (length rows) (map asked_of zs)) (sym c.deref-2.ensures.value) c.in_ok-wanted.ensures in
    record {
      suits = c.requires;
      skeleton = skeleton_is (grammar_of g.S.Shapes g.S.Cover.Cover s) (g.met.S.Shapes.laws s) w f (g.S.Shapes.full s) (g.S.Shapes.agrees s) (g.F.Fulls.named fulls) (g.F.Fulls.ruled fulls) c.requires
          g.S.Cover.Cover.extent (g.met.S.Shapes.sizes s) c.deref.result.now ranks_are (map asked_of c.deref-2.result.now) asked_are;
      plan = plan_is (grammar_of g.S.Shapes g.S.Cover.Cover s) (g.met.S.Shapes.laws s) w f (g.S.Shapes.full s) (g.S.Shapes.agrees s) (g.F.Fulls.named fulls) (g.F.Fulls.ruled fulls) c.requires
          g.S.Cover.Cover.extent (g.met.S.Shapes.sizes s) c.deref.result.now ranks_are (map asked_of c.deref-2.result.now) asked_are c.in_ok-members.members.last.items c.in_ok-members.members.before.items c.in_ok-members.ensures;
      wanted = all_below (grammar_of g.S.Shapes g.S.Cover.Cover s) (g.met.S.Shapes.laws s) w f (g.S.Shapes.full s) (g.S.Shapes.agrees s) (g.F.Fulls.named fulls) (g.F.Fulls.ruled fulls) c.requires
          g.S.Cover.Cover.extent (g.met.S.Shapes.sizes s) c.deref.result.now ranks_are c.deref-2.result.now asked_are;
    }
