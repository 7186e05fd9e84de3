use Rattle.std.proofs.Common.{map, ◌∙◌, ap, sym, [], ◌∷◌}
use Rattle.std.proofs.lemmas.List.{map-append, length-map}
use Rattle.fs_closing.proofs.RuleRowLemmas.{row_added}
use Rattle.fs_closing.proofs.rule_rows.new_row.Goals as goal

pub returns : goal.returns
returns c =
    let rows = c.args.rows.now.items in
    row_added (map (λ row. row.items) rows) (map (λ row. row.items) c.push.new.self.items) _ c.in_ok-row.row.items _
    (ap (map (λ row. row.items)) c.in_ok-push.ensures.items ∙ map-append (λ row. row.items) rows (c.in_ok-row.row ∷ []))
    (c.in_ok-number.ensures ∙ sym (length-map rows (λ row. row.items))) c.in_ok-row.ensures
