use Rattle.std.proofs.Common.{rules, arith, ◌≡◌, ◌∙◌, ◌+◌, ◌-◌, ◌<◌, ◌≤◌, ◌++◌, ◌==◌, ◌&&◌, ◌⊎◌, inl, inr, ℕ, Bool, true, false, cond, List, [], ◌∷◌, length, map, filter, take, drop, get_or, Option, Some, None, string_bytes, refl, sym, ap, subst}
use Rattle.spelling_rules.proofs.FormLemmas.{rule_kept, bound_at, forms_one}
use Rattle.spelling_rules.proofs.TableLemmas.{candidates_there, inflect_there, kept_put}
use Rattle.spelling_rules.specs.Views.{sign_of, group_of, rule_of, line_of, words_in, letters_in}
use Rattle.std.proofs.lemmas.List.{length-map}
use Rattle.lexicon.specs.Words.{Word, Has, Each}
use Rattle.spelling_rules.specs.Trees.{IsBound}
use Rattle.spelling_rules.specs.Forms.{rule_at, HasForm, AreForms}
use Rattle.spelling_rules.specs.Inner.Tables.{pair_of}
use Rattle.spelling_rules.specs.Inner.Undoing.{HasStems}
use Rattle.std.specs.Prelude.{encode_utf8_all}
use Rattle.spelling_rules.proofs.Lists.{Has-next, all_taken}
use Rattle.spelling_rules.specs.Inner.Keeping.{IsStem}
use Rattle.spelling_rules.proofs.spelling.Spelling.stems_by.Goals as goal

pub loop-stem-preserved : goal.loop-stem-preserved
loop-stem-preserved c =
    let k = c.in_ok-keep.ensures in
    record {
      rises = k.rises c.loop-stem.invariant.rises;
      have = λ w h. elim (k.only w h) [ inl old ↦ c.loop-stem.invariant.have w old | inr q ↦ subst (IsStem c.args.self.now c.args.rule c.args.form.now) (sym q.0) q.1 ];
      all = λ w is h.
          elim (Has-next string_bytes c.deref-stem-items.result.now c.loop-stem.stem-index c.stem-item.result w c.loop-stem-test.true c.stem-item.is h) [
            | inl old ↦ k.kept w (c.loop-stem.invariant.all w is old)
            | inr e ↦ subst (λ v. Has v (words_in c.keep.new.out)) (sym e) (k.added (subst (IsStem c.args.self.now c.args.rule c.args.form.now) e is))
          ];
    }

pub returns : goal.returns
returns c =
    let all : map string_bytes (take c.loop-stem.stem-index c.deref-stem-items.result.now) ≡ words_in c.in_ok-candidates.candidates =
    ap (map string_bytes) (all_taken c.deref-stem-items.result.now c.loop-stem.stem-index c.loop-stem-test.false ∙ c.deref-stem-items.ensures.value) in
    record {
      have = c.loop-stem.invariant.have;
      all = λ w pos has. c.loop-stem.invariant.all w (pos, has) (subst (Has w) (sym all) (c.in_ok-candidates.ensures w has));
      rise = c.loop-stem.invariant.rises;
    }
