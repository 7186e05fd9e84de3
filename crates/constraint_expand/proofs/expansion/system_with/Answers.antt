use Rattle.std.proofs.Common.{◌≤◌, map, refl, arith}
use Rattle.type_hierarchy.specs.Decls.{texts}
use Rattle.type_hierarchy.specs.Table.{count_of, completed_count}
use Rattle.fs_unify.specs.Systems.{grammar_of}
use Rattle.grammar_files.specs.Placings.{placed_of}
use Rattle.constraint_expand.specs.Systems.{settled_of}
use Rattle.constraint_expand.proofs.ExpandLemmas.{system_is, grammar_in_range, grammar_bare}
use Rattle.constraint_expand.proofs.expansion.system_with.Goals as goal

pub new-requires : goal.new-requires
new-requires c =
    let types = c.args.types in
    let s = settled_of c.args.names.now in
    let ps = map placed_of c.args.statements.now in
    let feats = texts c.args.feats.now in
    let le : completed_count types ≤ count_of types = omega arith in
    let g = grammar_of types c.args.introducers.items c.in_ok-rules.rules.items s.path_limit in
    grammar_in_range types s ps feats g c.requires.types le
    (system_is types s ps feats c.args.introducers.items c.in_ok-rules.rules.items g refl c.requires.introduced c.in_ok-rules.ensures)

pub returns-clause-system : goal.returns-clause-system
returns-clause-system c =
    system_is c.args.types (settled_of c.args.names.now) (map placed_of c.args.statements.now) (texts c.args.feats.now) c.args.introducers.items c.in_ok-rules.rules.items
    c.in_ok-system.system c.in_ok-system.ensures c.requires.introduced c.in_ok-rules.ensures

pub returns-clause-in_range : goal.returns-clause-in_range
returns-clause-in_range c =
    let types = c.args.types in
    let s = settled_of c.args.names.now in
    let ps = map placed_of c.args.statements.now in
    let feats = texts c.args.feats.now in
    let g = c.in_ok-system.system in
    let le : completed_count types ≤ count_of types = omega arith in
    let sys = system_is types s ps feats c.args.introducers.items c.in_ok-rules.rules.items g c.in_ok-system.ensures c.requires.introduced c.in_ok-rules.ensures in
    grammar_in_range types s ps feats g c.requires.types le sys

pub returns-clause-bare : goal.returns-clause-bare
returns-clause-bare c =
    let types = c.args.types in
    let s = settled_of c.args.names.now in
    let ps = map placed_of c.args.statements.now in
    let feats = texts c.args.feats.now in
    let g = c.in_ok-system.system in
    let sys = system_is types s ps feats c.args.introducers.items c.in_ok-rules.rules.items g c.in_ok-system.ensures c.requires.introduced c.in_ok-rules.ensures in
    grammar_bare types s ps feats g c.requires.types c.laws.ensures sys
