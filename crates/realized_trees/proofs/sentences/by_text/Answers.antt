use Rattle.std.proofs.Common.{◌≡◌, rules}
use Rattle.std.specs.Ordering.{nat_cmp, is_lt}
use Rattle.std.specs.Cmp.Lexicographic.{slice_cmp}
use Rattle.std.specs.String.{string_bytes}
use Rattle.std.proofs.lemmas.Cmp.{nat_list_cmp_total}
use Rattle.std.proofs.lemmas.List.Sorted.{ranks_by}
use Rattle.std.proofs.lemmas.Fn.{always_returns_same}
use Rattle.realized_trees.specs.TreeInner.{comes_before}
use Rattle.realized_trees.specs.declared.sentence.Sentence.{Sentence}
use Rattle.realized_trees.proofs.sentences.by_text.Goals as goal

pub returns : goal.returns
returns c =
    let order = ranks_by nat_list_cmp_total (λ (s : Sentence). string_bytes s.text) in
    let answers = always_returns_same _ (λ a r. is_lt r ≡ is_lt (slice_cmp nat_cmp (string_bytes a.0.now.text) (string_bytes a.1.0.now.text))) _ (λ a r f' k. search rules) in
    record {
      moved = c.in_ok-sort_by.ensures.permutation;
      sorted = c.in_ok-sort_by.ensures.sorted comes_before order answers;
      stable = c.in_ok-sort_by.ensures.stable comes_before order answers;
    }
