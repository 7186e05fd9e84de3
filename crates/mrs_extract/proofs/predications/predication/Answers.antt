use Rattle.std.proofs.Common.{◌∙◌, map, sym, ap, subst}
use Rattle.std.specs.Char.{to_ascii_lowercase}
use Rattle.std.specs.String.{string_bytes}
use Rattle.mrs_places.specs.Paths.{paths_of}
use Rattle.mrs_extract.specs.Extraction.{Normal, type_name, role_nodes}
use Rattle.mrs_extract.proofs.Numbering.{Grows, all_noted_grows, is_later}
use Rattle.mrs_extract.proofs.predications.predication.Goals as goal

pub returns-clause-is : goal.returns-clause-is
returns-clause-is c = record {
  pred = subst (λ t. Normal (map to_ascii_lowercase t) (string_bytes c.in_ok-pred.pred)) (c.name.ensures ∙ ap (type_name c.args.types.now) c.ty.ensures) c.in_ok-pred.ensures;
  label = is_later _ _ _ _ (subst (Grows c.number.new.self.nodes) (sym c.in_ok-roles.ensures.nodes) (all_noted_grows c.number.new.self.nodes (role_nodes c.args.graph.now c.args.types.now (paths_of c.args.paths.now) c.args.element.at.0))) c.in_ok-label.ensures.is;
  args = c.in_ok-roles.ensures.are;
  span = c.span_at-span.ensures;
}
