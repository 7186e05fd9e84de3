use Rattle.std.proofs.Common.{◌≡◌, ◌∙◌, sym, subst, map, string_bytes, length, ◌++◌, [], ◌∷◌, List, ℕ, false, String, Global}
use Rattle.std.proofs.lemmas.List.{length-map}
use Rattle.std.specs.List.{list_any}
use Rattle.std.specs.Str.{bytes_eq}
use Rattle.command_line.specs.Words.{IsHelpFlag}
use Rattle.command_line.specs.Fronts.{IsAt, value_in}
use Rattle.command_line.proofs.Items.{is_said}
use Rattle.command_line.proofs.Steps.{help-taken, said-refused, option-refused, option-leads, option-of, option-none}
use Rattle.command_line.proofs.Ends.{not-so}
use Rattle.command_line.proofs.word_reading.after_dash.Goals as goal

pub returns-then-asks_help : goal.returns-then-asks_help
returns-then-asks_help c =
    let f = λ (w : String Global). string_bytes w in
    let asks = c.asks_help.ensures.0 c.if-asks_help.true in
    λ at. help-taken (map f c.args.before.now) c.args.command c.args.filled c.args.word.now at (length-map c.args.before.now f ∙ asks.0) asks.1

pub returns-then-is_among : goal.returns-then-is_among
returns-then-is_among c =
    let f = λ (w : String Global). string_bytes w in
    let not = λ (one : length (map f c.args.before.now) ≡ 1) (flag : IsHelpFlag c.args.word.now). not-so c.asks_help.result _ c.asks_help.ensures c.if-asks_help.false (sym (length-map c.args.before.now f) ∙ one, flag) in
    λ at. said-refused (map f c.args.before.now) c.args.command c.args.filled c.args.word.now at c.requires.unnamed not (sym c.is_among.ensures ∙ c.if-is_among.true)

pub returns-in-None : goal.returns-in-None
returns-in-None c =
    let f = λ (w : String Global). string_bytes w in
    let not = λ (one : length (map f c.args.before.now) ≡ 1) (flag : IsHelpFlag c.args.word.now). not-so c.asks_help.result _ c.asks_help.ensures c.if-asks_help.false (sym (length-map c.args.before.now f) ∙ one, flag) in
    λ at. option-refused (map f c.args.before.now) c.args.command c.args.filled c.args.word.now at c.requires.unnamed not (option-none c.args.word.now c.in-None.ensures)

pub returns-in-Some : goal.returns-in-Some
returns-in-Some c =
    let f = λ (w : String Global). string_bytes w in
    let words = map f c.args.before.now in
    let o = option-of c.args.word.now (value_in c.in-Some.wanted) c.in-Some.ensures in
    let said : is_said o.0 words ≡ false = subst (λ (y : List ℕ). list_any (λ x. bytes_eq x y) words ≡ false) o.1 (sym c.is_among.ensures ∙ c.if-is_among.false) in
    λ at. subst (IsAt (words ++ c.args.word.now ∷ [])) (sym c.after_option.ensures) (option-leads words c.args.command c.args.filled c.args.word.now at o.0 c.in-Some.wanted o.1 said o.2)
