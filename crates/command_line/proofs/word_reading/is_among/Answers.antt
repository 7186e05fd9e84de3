use Rattle.std.proofs.Common.{◌≡◌, ◌∙◌, sym, ap, rules, arith, map, drop, List, ℕ, string_bytes, add-one, String, Global, true, false, ◌||◌, suc}
use Rattle.std.specs.List.{list_any}
use Rattle.std.specs.Str.{bytes_eq}
use Rattle.command_line.proofs.Ends.{any-at}
use Rattle.command_line.proofs.word_reading.is_among.Goals as goal

pub returns-then-eq : goal.returns-then-eq
returns-then-eq c =
    let f = λ (w : String Global). string_bytes w in
    let p = λ (w : List ℕ). bytes_eq w c.args.word.now in
    let i = c.loop-other.other-index in
    let yes : bytes_eq (f c.other-item.result) c.args.word.now ≡ true = search rules in
    sym (c.loop-other.invariant ∙ any-at f p c.args.before.now i c.other-item.result (omega arith) (sym c.other-item.is) ∙ ap (λ t. t || list_any p (drop (suc i) (map f c.args.before.now))) yes)

pub loop-other-preserved : goal.loop-other-preserved
loop-other-preserved c =
    let f = λ (w : String Global). string_bytes w in
    let p = λ (w : List ℕ). bytes_eq w c.args.word.now in
    let i = c.loop-other.other-index in
    let no : bytes_eq (f c.other-item.result) c.args.word.now ≡ false = search rules in
    rw (add-one c.loop-other.other-index) (c.loop-other.invariant ∙ any-at f p c.args.before.now i c.other-item.result (omega arith) (sym c.other-item.is) ∙ ap (λ t. t || list_any p (drop (suc i) (map f c.args.before.now))) no)
