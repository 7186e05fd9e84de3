use Rattle.std.proofs.Common.{[], ◌∷◌, ◌++◌, map, codes}
use Rattle.std.specs.List.{flat_map}
use Rattle.mrs_model.specs.Views.{variable_of, hcon_of}
use Rattle.mrs_text.specs.Written.{bytes, constraint_parts}
use Rattle.mrs_text.proofs.Writing.{written_on, written_bytes}
use Rattle.mrs_text.proofs.text.put_hcons.Goals as goal

pub returns-clause-written : goal.returns-clause-written
returns-clause-written c =
    let vars = map variable_of c.args.vars.now in
    let inner = flat_map constraint_parts (map hcon_of c.args.hcons.now) in
    written_on vars (bytes (codes " HCONS: <") ∷ []) (inner ++ bytes (codes " >") ∷ []) _ _ _ _ _ _
    (written_bytes vars _ _ _ (codes " HCONS: <") c.in_ok-extend_from_slice.ensures.items)
    (written_on vars inner (bytes (codes " >") ∷ []) _ _ _ _ _ _ c.in_ok-put_all_hcons.ensures.written (written_bytes vars _ _ _ (codes " >") c.in_ok-extend_from_slice-2.ensures.items))
