use Rattle.std.proofs.Common.{◌≡◌, ◌∙◌, ◌++◌, [], ◌∷◌, map, string_bytes, refl, subst, ap, arith}
use Rattle.morph_analysis.specs.declared.made.MadeChain.{MadeChain}
use Rattle.morph_analysis.specs.Made.{MadeTree}
use Rattle.morph_analysis.specs.Views.{made_of}
use Rattle.std.proofs.lemmas.List.{map-append}
use Rattle.morph_analysis.proofs.AddLemmas.{one_ended, not_ended}
use Rattle.morph_analysis.proofs.outward.add_ended.Goals as goal

pub returns-clause-all : goal.returns-clause-all
returns-clause-all g c =
    let A = g.M.Maker.makes c.args.search.now.maker.now in
    let value = g.M.Maker.value c.args.search.now.maker.now in
    let x : MadeChain _ = record { chain = record { from = c.args.from; to = c.args.stem.now.step.now.to; entry = c.args.entry; rules = c.args.route.rules; words = c.push.new.self }; made = c.args.route.made } in
    let words = map string_bytes c.args.stem.now.front.now ++ string_bytes c.args.stem.now.step.now.word ∷ [] in
    let spelled : map string_bytes c.push.new.self.items ≡ words =
    ap (map string_bytes) c.in_ok-push.ensures.items ∙ map-append string_bytes c.in_ok-words.words.items (c.in_ok-clone.field-0 ∷ []) ∙ ap (λ l. l ++ string_bytes c.in_ok-clone.field-0 ∷ []) c.in_ok-words.ensures
    ∙ ap (λ w. map string_bytes c.args.stem.now.front.now ++ w ∷ []) c.in_ok-clone.ensures.cases in
    one_ended A c.laws.ensures.one c.args.entry c.args.route.node c.args.route.rules.items (value c.args.route.made) words c.args.from c.args.stem.now.step.now.to (made_of value x) (map (made_of value) c.args.out.now.items) (map (made_of value) c.push-2.new.self.items)
    (ap (map (made_of value)) c.in_ok-push-2.ensures.items ∙ map-append (made_of value) c.args.out.now.items (x ∷ []))
    (λ i. record { chain = record { entry = c.args.entry; rules = c.args.route.rules.items; words = spelled i; from = c.args.from; to = c.args.stem.now.step.now.to }; value = value c.args.route.made })
    (grind arith) c.requires

pub returns-then-route-ne0-clause-all : goal.returns-then-route-ne0-clause-all
returns-then-route-ne0-clause-all g c =
    let value = g.M.Maker.value c.args.search.now.maker.now in
    not_ended (g.M.Maker.makes c.args.search.now.maker.now) c.args.entry c.args.route.node c.args.route.rules.items (map string_bytes c.args.stem.now.front.now ++ string_bytes c.args.stem.now.step.now.word ∷ []) c.args.from c.args.stem.now.step.now.to (map (made_of value) c.args.out.now.items) (λ e. grind arith)

pub returns-then-is_enough-clause-halt : goal.returns-then-is_enough-clause-halt
returns-then-is_enough-clause-halt g c =
    let value = g.M.Maker.value c.args.search.now.maker.now in
    let rules = c.args.route.rules.items in
    let x : MadeTree _ = record {
      chain = record { entry = c.args.entry; rules = rules; words = map string_bytes c.args.stem.now.front.now ++ string_bytes c.args.stem.now.step.now.word ∷ []; from = c.args.from; to = c.args.stem.now.step.now.to };
      value = value c.args.route.made;
    } in (
      x,
      record { entry = refl; rules = record { there = grind arith; is = refl; made = c.requires }; from = refl; words_are = refl; to_is = refl },
      subst (g.M.Maker.enough c.args.search.now.maker.now) c.deref.ensures.value (c.is_enough.ensures c.if-is_enough.true),
    )
