use Rattle.std.proofs.Common.{◌<◌, sym, subst, All}
use Rattle.type_hierarchy.specs.Table.{count_of}
use Rattle.grammar_commands.proofs.TypeLines.{supertypes-in}
use Rattle.grammar_commands.proofs.types.type_line.Goals as goal

pub add_names-requires : goal.add_names-requires
add_names-requires c =
    let inside = supertypes-in c.args.table.now c.args.t.0 c.in_ok-above.above.items c.requires.few c.in_ok-above.ensures in
    subst (All (λ x. x.0 < count_of c.args.table.now)) (sym c.deref.ensures.value) inside
