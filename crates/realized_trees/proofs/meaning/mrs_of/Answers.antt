use Rattle.std.proofs.Common.{◌≡◌, sym, ◌∙◌, ap, subst, map, string_bytes, Ok, Err}
use Rattle.type_hierarchy.specs.Table.{TypeTable}
use Rattle.fs_unify.specs.Rules.{Grammar}
use Rattle.mrs_model.specs.Meanings.{Meaning}
use Rattle.mrs_model.specs.Views.{meaning_of}
use Rattle.mrs_places.specs.Looking.{Sought}
use Rattle.mrs_places.specs.Paths.{paths_of}
use Rattle.mrs_extract.specs.Asked.{ArePaths, IsOf}
use Rattle.mrs_extract.specs.Extraction.{HasMrs, Extracts}
use Rattle.realized_trees.proofs.meaning.mrs_of.Goals as goal

pub extract-requires-clause-paths : goal.extract-requires-clause-paths
extract-requires-clause-paths c =
    subst (λ (types : TypeTable). ArePaths types (paths_of c.args.paths.now)) (sym (c.types.ensures ∙ ap (λ (g : Grammar). g.types) c.system.ensures)) c.requires.paths

pub extract-requires-clause-of : goal.extract-requires-clause-of
extract-requires-clause-of c =
    subst (λ (types : TypeTable). IsOf types (paths_of c.args.paths.now) c.args.graph.now) (sym (c.types.ensures ∙ ap (λ (g : Grammar). g.types) c.system.ensures)) c.requires.of

pub returns-in-Ok-clause-has : goal.returns-in-Ok-clause-has
returns-in-Ok-clause-has c =
    let paths = paths_of c.args.paths.now in
    subst (λ (t : TypeTable). HasMrs c.args.graph.now t paths (meaning_of c.in-Ok.mrs)) (c.types.ensures ∙ ap (λ (g : Grammar). g.types) c.system.ensures) c.in-Ok.ensures.told

pub returns-in-Err-Absent-clause-has : goal.returns-in-Err-Absent-clause-has
returns-in-Err-Absent-clause-has c = λ m h.
    let types = c.args.signs.now.book.system.types in
    let paths = paths_of c.args.paths.now in
    let out : Sought Meaning = Err (map string_bytes c.in-Err-Absent._path.items) in
    let has : Sought Meaning = Ok m in
    let missing : Extracts c.args.graph.now c.types.result.now paths out = rw c.in-Err-Absent.field-0-is at c.in-Err-Absent.ensures.told in
    let told = subst (λ (t : TypeTable). Extracts c.args.graph.now t paths out) (c.types.ensures ∙ ap (λ (g : Grammar). g.types) c.system.ensures) missing in
    let e : has ≡ out = c.mrs_is_one.ensures c.args.graph.now types paths has out h told in
    absurd (cc)
