use Rattle.std.proofs.Common.{rules, arith, ◌≡◌, ◌∙◌, ◌+◌, ◌-◌, ◌<◌, ◌≤◌, ◌++◌, ◌==◌, ◌&&◌, ◌⊎◌, inl, inr, ℕ, Bool, true, false, cond, List, [], ◌∷◌, length, map, filter, take, drop, get_or, Option, Some, None, string_bytes, refl, sym, ap, subst}
use Rattle.spelling_rules.proofs.UndoLemmas.{undone}
use Rattle.spelling_rules.proofs.Lists.{true_not_false}
use Rattle.spelling_rules.specs.Views.{sign_of, group_of, rule_of, line_of, words_in, letters_in}
use Rattle.std.specs.Prelude.{encode_utf8_all}
use Rattle.lexicon.specs.Words.{Word, Has}
use Rattle.spelling_rules.specs.Forms.{joined}
use Rattle.spelling_rules.specs.Inner.Rewriting.{fits_by, value_in, part_of, rest_of}
use Rattle.std.proofs.lemmas.List.{length-map}
use Rattle.spelling_rules.specs.Inner.Undoing.{fillings}
use Rattle.spelling_rules.proofs.undo.undo.Goals as goal

pub returns-then-letters-count-clause-added : goal.returns-then-letters-count-clause-added
returns-then-letters-count-clause-added c = λ w r.
    let g = group_of c.args.group.now in
    let u = undone c.args.suffix g c.args.letters.now w c.requires r in
    let long : length (map sign_of c.args.group.now.with.items) ≤ length c.args.letters.now = u.long in
    let same = length-map c.args.group.now.with.items sign_of in
    let count = c.len-count.ensures in
    absurd (omega (arith, long, same, count))

pub returns-then-not-fits-clause-added : goal.returns-then-not-fits-clause-added
returns-then-not-fits-clause-added c = λ w r.
    let g = group_of c.args.group.now in
    let u = undone c.args.suffix g c.args.letters.now w c.requires r in
    let same = length-map c.args.group.now.with.items sign_of in
    let part : c.part_of-part.result.now ≡ part_of c.args.suffix (length g.with) c.args.letters.now = c.part_of-part.ensures.value ∙ ap (λ n. part_of c.args.suffix n c.args.letters.now) (c.len-count.ensures ∙ sym c.deref.ensures.len ∙ ap length c.deref.ensures.value ∙ sym same) in
    let had : c.fits.result ≡ true =
    c.fits.ensures ∙ ap (λ s. fits_by (value_in (map sign_of s) c.part_of-part.result.now) (map sign_of s) c.part_of-part.result.now) c.deref.ensures.value
    ∙ ap (λ p. fits_by (value_in g.with p) g.with p) part ∙ u.fits in
    true_not_false c.fits.result had c.if-not-fits.true

pub returns-clause-added : goal.returns-clause-added
returns-clause-added c = λ w r.
    let g = group_of c.args.group.now in
    let u = undone c.args.suffix g c.args.letters.now w c.requires r in
    let same = length-map c.args.group.now.with.items sign_of in
    let count : c.len-count.result ≡ length g.with = c.len-count.ensures ∙ sym c.deref.ensures.len ∙ ap length c.deref.ensures.value ∙ sym same in
    let part : c.part_of-part.result.now ≡ part_of c.args.suffix (length g.with) c.args.letters.now = c.part_of-part.ensures.value ∙ ap (λ n. part_of c.args.suffix n c.args.letters.now) count in
    let rest : c.rest_of.result.now ≡ rest_of c.args.suffix (length g.with) c.args.letters.now = c.rest_of.ensures ∙ ap (λ n. rest_of c.args.suffix n c.args.letters.now) count in
    let made : map letters_in c.in_ok-parts.parts.items ≡ fillings g.with (part_of c.args.suffix (length g.with) c.args.letters.now) ([] ∷ []) g.pattern =
    c.in_ok-parts.ensures ∙ ap (λ s. fillings (map sign_of s) c.part_of-part.result.now ([] ∷ []) (map sign_of c.deref-3.result.now)) c.deref-2.ensures.value
    ∙ ap (λ s. fillings g.with c.part_of-part.result.now ([] ∷ []) (map sign_of s)) c.deref-3.ensures.value
    ∙ ap (λ p. fillings g.with p ([] ∷ []) g.pattern) part in
    let has : Has u.filled (map letters_in c.deref-4.result.now) = subst (λ l. Has u.filled (map letters_in l)) (sym c.deref-4.ensures.value) (subst (Has u.filled) (sym made) u.has) in
    subst (λ v. Has v (words_in c.add_words.new.out)) (sym (u.is ∙ ap (λ l. encode_utf8_all (joined c.args.suffix l u.filled)) (sym rest))) (c.in_ok-add_words.ensures.added u.filled has)
