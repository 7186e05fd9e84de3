use Rattle.std.proofs.Common.{rules, arith, ◌≡◌, ◌∙◌, ◌+◌, ◌-◌, ◌<◌, ◌≤◌, ◌++◌, ◌==◌, ◌&&◌, ◌⊎◌, inl, inr, ℕ, Bool, true, false, cond, List, [], ◌∷◌, length, map, filter, take, drop, get_or, Option, Some, None, string_bytes, refl, sym, ap, subst}
use Rattle.spelling_rules.proofs.Lists.{map_take_next}
use Rattle.spelling_rules.proofs.TableLemmas.{noted_more, table_step}
use Rattle.spelling_rules.specs.Views.{sign_of, group_of, rule_of, line_of, words_in, letters_in}
use Rattle.std.specs.Str.{bytes_eq}
use Rattle.lexicon.specs.Words.{noted}
use Rattle.spelling_rules.specs.Inner.Tables.{Pair, pair_of, form_pair, stem_pair}
use Rattle.spelling_rules.proofs.table.table_of.Goals as goal

pub loop-line-preserved : goal.loop-line-preserved
loop-line-preserved c =
    let i = c.loop-line.line-index in
    let xs = map line_of (take c.loop-line.line-index c.args.lines.now) in
    let x = line_of c.line-item.result in
    let more = map_take_next line_of c.args.lines.now i c.line-item.result c.loop-line-test.true c.line-item.is in
    record {
      stems = λ w.
          noted_more form_pair (λ l. bytes_eq w l.stem) xs x _ _
          (table_step _ _ _ (bytes_eq w x.stem) (form_pair x)
          (c.in_ok-note.ensures w ∙ ap (λ k. noted c.loop-line.by_stem.entries w ++ cond (bytes_eq w k) (record { rule = c.line-item.result.rule; word = c.in_ok-form.form } ∷ []) []) c.deref.ensures)
          (ap (λ b. let p : Pair = record { rule = c.line-item.result.rule; word = b } in p) c.in_ok-form.ensures.cases))
          (c.loop-line.invariant.stems w) ∙ ap (λ l. map form_pair (filter (λ m. bytes_eq w m.stem) l)) (sym more);
      forms = λ w.
          noted_more stem_pair (λ l. bytes_eq w l.form) xs x _ _
          (table_step _ _ _ (bytes_eq w x.form) (stem_pair x)
          (c.in_ok-note-2.ensures w ∙ ap (λ k. noted c.loop-line.by_form.entries w ++ cond (bytes_eq w k) (record { rule = c.line-item.result.rule; word = c.in_ok-stem.stem } ∷ []) []) c.deref-in-loop-line.ensures)
          (ap (λ b. let p : Pair = record { rule = c.line-item.result.rule; word = b } in p) c.in_ok-stem.ensures.cases))
          (c.loop-line.invariant.forms w) ∙ ap (λ l. map stem_pair (filter (λ m. bytes_eq w m.form) l)) (sym more);
    }
