use Rattle.std.proofs.Common.{◌<◌, ◌∙◌, sym, ap, subst, length, get_or, ◌||◌, ◌&&◌, not, ◌==◌}
use Rattle.grammar_files.proofs.NameLemmas.{has_ending-more}
use Rattle.grammar_files.proofs.file_names.has_ending.Goals as goal

pub loop-byte-preserved : goal.loop-byte-preserved
loop-byte-preserved c =
    let i = c.loop-byte.byte-index in
    let value = c.as_bytes-byte-items.ensures.value in
    let b = get_or c.as_bytes-byte-items.result.now i 0 in
    let inside : i < length c.args.name.now = subst (λ t. i < length t) value c.loop-byte-test.true in
    c.has_ending_after-ending.ensures ∙ ap (λ e. (b == 46) || (e && not (b == 47))) c.loop-byte.invariant
    ∙ sym (has_ending-more c.args.name.now i b inside (ap (λ t. get_or t i 0) value))
