use Rattle.std.proofs.Common.{◌∙◌, [], ◌∷◌, ◌++◌, map, codes, refl, ap}
use Rattle.std.specs.List.{flat_map}
use Rattle.mrs_model.specs.Views.{variable_of, predication_of, hcon_of, icon_of, meaning_of}
use Rattle.mrs_text.specs.Written.{bytes, ep_parts, list_parts, icons_parts, parts}
use Rattle.mrs_text.specs.Inner.Writing.{first_parts}
use Rattle.mrs_text.proofs.Writing.{written_on, written_bytes, written_same, parts_split}
use Rattle.mrs_text.proofs.text.put_mrs.Goals as goal

pub returns : goal.returns
returns c =
    let m = c.args.mrs.now in
    let vars = map variable_of m.vars.items in
    let eps = flat_map ep_parts (map predication_of m.eps.items) in
    let hcons = list_parts (codes "HCONS") (map hcon_of m.hcons.items) in
    let icons = icons_parts (map icon_of m.icons.items) in
    let end = bytes (codes " ]") ∷ [] in
    let close = bytes (codes " >") ∷ [] in
    record {
      written = written_same vars vars _ (parts (meaning_of m)) _ _ _ _ refl (parts_split (meaning_of m)) (written_on vars (first_parts (meaning_of m)) (eps ++ (close ++ (hcons ++ (icons ++ end)))) _ _ _ _ _ _ c.in_ok-put_first.ensures.written
          (written_on vars eps (close ++ (hcons ++ (icons ++ end))) _ _ _ _ _ _
          (written_same _ vars _ eps _ _ _ _ (ap (map variable_of) c.deref-2.ensures.value) (ap (λ l. flat_map ep_parts (map predication_of l)) c.deref.ensures.value) c.in_ok-put_eps.ensures.written)
          (written_on vars close (hcons ++ (icons ++ end)) _ _ _ _ _ _ (written_bytes vars _ _ _ (codes " >") c.in_ok-extend_from_slice.ensures.items)
          (written_on vars hcons (icons ++ end) _ _ _ _ _ _
          (written_same _ vars _ hcons _ _ _ _ (ap (map variable_of) c.deref-4.ensures.value) (ap (λ l. list_parts (codes "HCONS") (map hcon_of l)) c.deref-3.ensures.value) c.in_ok-put_hcons.ensures.written)
          (written_on vars icons end _ _ _ _ _ _
          (written_same _ vars _ icons _ _ _ _ (ap (map variable_of) c.deref-6.ensures.value) (ap (λ l. icons_parts (map icon_of l)) c.deref-5.ensures.value) c.in_ok-put_icons.ensures.written)
          (written_bytes vars _ _ _ (codes " ]") c.in_ok-extend_from_slice-2.ensures.items))))));
      size = c.put_icons.ensures.size ∙ (c.put_hcons.ensures.size ∙ (c.put_eps.ensures.size ∙ c.put_first.ensures.size));
    }
