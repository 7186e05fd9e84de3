use Rattle.std.proofs.Common.{◌≡◌, ℕ, ◌<◌, List, [], ◌∷◌, Some, ap, ◌∙◌, arith}
use Rattle.std.specs.List.{slice_get}
use Rattle.std.specs.Str.{IsUtf8, IsCharBoundary}
use Rattle.std.proofs.lemmas.Str.{IsCharBoundary-after_ascii}
use Rattle.tree_reading.proofs.bytes.strip.Goals as goal

ascii_first : (bs : List ℕ) (x b : ℕ) → IsUtf8 bs → Some x ≡ slice_get bs 0 → x ≡ b → b < 128 → IsCharBoundary bs 1
ascii_first [] x b u e f low = cc
ascii_first (y ∷ ys) x b u e f low = let is : x ≡ y = cc in IsCharBoundary-after_ascii (y ∷ ys) 0 u (omega arith) (omega arith)

pub split_at-requires : goal.split_at-requires
split_at-requires c = ascii_first c.args.text.now c.in-Some.first.now c.args.byte c.utf8.text
    (c.in-Some.ensures.value ∙ ap (λ b. slice_get b 0) c.as_bytes.ensures.value) c.if-first-byte.true c.requires
