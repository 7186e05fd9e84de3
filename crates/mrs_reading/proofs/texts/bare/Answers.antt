use Rattle.std.proofs.Common.{◌≡◌, ◌++◌, ◌∙◌, List, ℕ, sym, subst, ap, codes, rules}
use Rattle.mrs_reading.specs.Meaning.{Normal, bare, with_rel}
use Rattle.mrs_reading.proofs.texts.bare.Goals as goal

pub loop-front-preserved : goal.loop-front-preserved
loop-front-preserved c =
    let w = c.in-Some.ensures.cases in
    let e : c.loop-front.rest.now ≡ c.in-Some.front.now ++ codes "_rel" = w.1.1 ∙ ap (λ (l : List ℕ). l ++ codes "_rel") (sym w.2) in record {
      text = search rules;
      same = λ p h. c.loop-front.invariant.same p (subst (λ (l : List ℕ). Normal l p) (sym e) (with_rel c.in-Some.front.now p h));
    }

pub returns : goal.returns
returns c = c.loop-front.invariant.same c.loop-front.rest.now (bare c.loop-front.rest.now c.in_default.ensures.cases)
