use Rattle.std.proofs.Common.{◌||◌, ◌∙◌, map, drop, ap, sym, arith}
use Rattle.std.specs.Str.{bytes_eq}
use Rattle.profile_reports.specs.Texts.{is_among}
use Rattle.profile_reports.proofs.Counting.{just_more, texts_before}
use Rattle.profile_reports.proofs.texts.set_of.Goals as goal

pub loop-i-preserved : goal.loop-i-preserved
loop-i-preserved c =
    let rest = map (λ t. t.items) (drop c.loop-i.i c.args.texts.now) in
    let text = c.index-texts-i.result in
    let grown = just_more c.loop-i.set c.put.new.set c.as_slice.result.now rest c.in_ok-put.ensures.has c.loop-i.invariant.has in
    record {
      low = omega (arith, c.loop-i.invariant.low);
      has = λ t. grown t ∙ ap (λ s. bytes_eq t s || is_among rest t) c.as_slice.ensures.value
          ∙ sym (ap (λ l. is_among l t) (texts_before c.args.texts.now c.loop-i.i text (omega (arith, c.loop-i-test.true)) c.loop-i.invariant.low c.index-texts-i.is));
    }
