use Rattle.std.proofs.Common.{refl, ap, sym, ◌∙◌, subst, ◌<◌, ◌≡◌, ◌+◌, ◌==◌, false, length, get_or, arith, take}
use Rattle.std.specs.Str.{IsCharBoundary}
use Rattle.std.proofs.lemmas.Str.{IsCharBoundary-start, IsCharBoundary-after_ascii}
use Rattle.grammar_files.specs.FileNames.{folder_of}
use Rattle.grammar_files.proofs.NameLemmas.{folder-at_slash, folder-at_other}
use Rattle.grammar_files.proofs.file_names.folder.Goals as goal
use Rattle.grammar_files.proofs.file_names.folder.Goals.{then-byte-eq47, else-byte-eq47}

pub loop-i-init : goal.loop-i-init
loop-i-init c = record { room = omega arith; boundary = IsCharBoundary-start c.args.name.now c.utf8.name; same = refl }

pub loop-i-preserved : goal.loop-i-preserved
loop-i-preserved c =
    let name = c.args.name.now in
    let i = c.loop-i.i in
    let value = c.as_bytes-byte-items.ensures.value in
    let inside : i < length name = subst (λ t. i < length t) value c.loop-i-test.true in
    let byte : get_or c.as_bytes-byte-items.result.now i 0 ≡ get_or name i 0 = ap (λ t. get_or t i 0) value in
    elim c.if-byte-eq47.branch [
      | then-byte-eq47 w ↦
          let at : get_or name i 0 ≡ 47 = sym byte ∙ w.if-byte-eq47.true in
          record {
            room = omega arith;
            boundary = subst (IsCharBoundary name) (sym w.end-is) (IsCharBoundary-after_ascii name i c.utf8.name inside (omega arith));
            same = subst (λ k. folder_of (take (i + 1) name) ≡ take k name) (sym w.end-is) (folder-at_slash name i inside (sym at));
          }
      | else-byte-eq47 w ↦
          let other : (get_or c.as_bytes-byte-items.result.now i 0 == 47) ≡ false = grind (arith, w.if-byte-eq47.false) in
          record {
            room = omega arith;
            boundary = subst (IsCharBoundary name) (sym w.end-is) c.loop-i.invariant.boundary;
            same = folder-at_other name i (get_or c.as_bytes-byte-items.result.now i 0) inside byte other ∙ c.loop-i.invariant.same ∙ ap (λ k. take k name) (sym w.end-is);
          }
    ]
