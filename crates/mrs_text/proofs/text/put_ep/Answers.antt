use Rattle.std.proofs.Common.{[], ◌∷◌, ◌++◌, map, codes, refl, ap}
use Rattle.std.specs.List.{flat_map}
use Rattle.std.specs.String.{string_bytes}
use Rattle.mrs_model.specs.Views.{variable_of, argument_of}
use Rattle.mrs_text.specs.Written.{bytes, variable, argument_parts, pred_text, span_text}
use Rattle.mrs_text.proofs.Writing.{written_on, written_bytes, written_same}
use Rattle.mrs_text.proofs.text.put_ep.Goals as goal

pub returns-clause-written : goal.returns-clause-written
returns-clause-written c =
    let vars = map variable_of c.args.vars.now in
    let head = (codes " [ " ++ (pred_text (string_bytes c.args.ep.now.pred) ++ span_text c.args.ep.now.span)) ++ codes " LBL: " in
    let inner = flat_map argument_parts (map argument_of c.args.ep.now.roles.items) in
    let end = bytes (codes " ]") ∷ [] in
    written_on vars (bytes head ∷ []) (variable c.args.ep.now.label ∷ (inner ++ end)) _ _ _ _ _ _
    (written_bytes vars _ _ _ head c.in_ok-put_head.ensures)
    (written_on vars (variable c.args.ep.now.label ∷ []) (inner ++ end) _ _ _ _ _ _ c.in_ok-put_variable.ensures.written
    (written_on vars inner end _ _ _ _ _ _
    (written_same vars vars _ inner _ _ _ _ refl (ap (λ l. flat_map argument_parts (map argument_of l)) c.deref.ensures.value) c.in_ok-put_roles.ensures.written)
    (written_bytes vars _ _ _ (codes " ]") c.in_ok-extend_from_slice.ensures.items)))
