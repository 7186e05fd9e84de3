use Rattle.std.proofs.Common.{◌≡◌, sym, ◌∙◌, ap, subst, map, string_bytes, Ok, Err}
use Rattle.type_hierarchy.specs.Table.{TypeTable}
use Rattle.fs_unify.specs.Rules.{Grammar}
use Rattle.mrs_model.specs.Meanings.{Meaning}
use Rattle.mrs_model.specs.Views.{meaning_of}
use Rattle.mrs_places.specs.Looking.{Sought}
use Rattle.mrs_places.specs.Paths.{paths_of}
use Rattle.mrs_extract.specs.Asked.{ArePaths, IsOf}
use Rattle.mrs_extract.specs.Extraction.{Extracts}
use Rattle.mrs_lines.specs.Lines.{mrs_line, no_mrs_line, sought_line}
use Rattle.mrs_lines.proofs.Telling.{if_ok}
use Rattle.mrs_lines.proofs.line.line_of_graph.Goals as goal

pub extract-requires-clause-paths : goal.extract-requires-clause-paths
extract-requires-clause-paths c =
    subst (λ (types : TypeTable). ArePaths types (paths_of c.args.paths.now)) (sym (c.types.ensures ∙ ap (λ (g : Grammar). g.types) c.system.ensures)) c.requires.paths

pub extract-requires-clause-of : goal.extract-requires-clause-of
extract-requires-clause-of c =
    subst (λ (types : TypeTable). IsOf types (paths_of c.args.paths.now) c.args.graph.now) (sym (c.types.ensures ∙ ap (λ (g : Grammar). g.types) c.system.ensures)) c.requires.of

pub returns-in-Ok : goal.returns-in-Ok
returns-in-Ok c =
    let types = c.args.signs.now.book.system.types in
    let paths = paths_of c.args.paths.now in
    let out : Sought Meaning = Ok (meaning_of c.in-Ok.mrs) in
    let told = subst (λ (t : TypeTable). Extracts c.args.graph.now t paths out) (c.types.ensures ∙ ap (λ (g : Grammar). g.types) c.system.ensures) c.in-Ok.ensures.told in
    if_ok c.line_of_mrs.result (λ line. line.items ≡ mrs_line (meaning_of c.in-Ok.mrs))
    (λ line. (outcome : Sought Meaning) × Extracts c.args.graph.now types paths outcome × (line.items ≡ sought_line outcome)) (λ line e. (out, told, e)) c.line_of_mrs.ensures

pub returns-in-Err-Absent : goal.returns-in-Err-Absent
returns-in-Err-Absent c =
    let types = c.args.signs.now.book.system.types in
    let paths = paths_of c.args.paths.now in
    let out : Sought Meaning = Err (map string_bytes c.in-Err-Absent.path.items) in
    let missing : Extracts c.args.graph.now c.types.result.now paths out = rw c.in-Err-Absent.field-0-is at c.in-Err-Absent.ensures.told in
    let told = subst (λ (t : TypeTable). Extracts c.args.graph.now t paths out) (c.types.ensures ∙ ap (λ (g : Grammar). g.types) c.system.ensures) missing in
    if_ok c.line_of_no_mrs.result (λ line. line.items ≡ no_mrs_line (map string_bytes c.deref.result.now))
    (λ line. (outcome : Sought Meaning) × Extracts c.args.graph.now types paths outcome × (line.items ≡ sought_line outcome))
    (λ line e. (out, told, e ∙ ap (λ ps. no_mrs_line (map string_bytes ps)) c.deref.ensures.value)) c.line_of_no_mrs.ensures
