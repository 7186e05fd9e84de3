use Rattle.std.proofs.Common.{◌≡◌, ◌∙◌, sym, ap, subst, rules, List, ℕ, Some, map, string_bytes, true, false, ◌∷◌}
use Rattle.std.specs.List.{list_all}
use Rattle.command_line.specs.Words.{Value, Task, AreArguments, places_of, command_word, IsForm, run}
use Rattle.command_line.specs.Commands.{options_in}
use Rattle.command_line.specs.Inner.Reading.{is_word, command_named, places_by, places_in, names_in}
use Rattle.command_line.specs.declared.reading.Places.{Places}
use Rattle.command_line.proofs.Choosing.{of-words, items-pass, task-named, word-is, places-are-by, has-names}
use Rattle.command_line.proofs.words.command_by.Goals as goal

pub returns-then-not-are_words-clause-usage : goal.returns-then-not-are_words-clause-usage
returns-then-not-are_words-clause-usage c = λ e t options h. (
    let arguments = h.3 in
    let rest : map (λ w. string_bytes w) c.args.words.now ≡ h.0 = (let same = h.2 in cc) in
    let pass : list_all is_word (map (λ w. string_bytes w) c.args.words.now) ≡ true = ap (list_all is_word) (rest ∙ arguments.1) ∙ items-pass arguments.0 arguments.2 in
    let no : list_all is_word (map (λ w. string_bytes w) c.args.words.now) ≡ false = search rules in
    let bad : false ≡ true = sym no ∙ pass in cc)

pub read_arguments-requires : goal.read_arguments-requires
read_arguments-requires c = of-words _ (search rules)

pub returns-in-Err-clause-usage : goal.returns-in-Err-clause-usage
returns-in-Err-clause-usage c = λ e t options h. (
    let rest : map (λ w. string_bytes w) c.args.words.now ≡ h.0 = (let same = h.2 in cc) in
    let word : c.args.word.now ≡ command_word t = (let same = h.2 in cc) in
    let named : command_named c.args.word.now ≡ Some c.in-Some.name = search rules in
    let places : places_of t ≡ places_in c.places.result = task-named t c.in-Some.name (ap command_named (sym word) ∙ named) ∙ ap places_in (sym c.places.ensures) in
    c.in-Err.ensures.usage e h.1 options (subst (λ (ws : List (List ℕ)). AreArguments (places_in c.places.result) ws h.1 options) (sym rest) (subst (λ (ps : List Value). AreArguments ps h.0 h.1 options) places h.3)))

pub returns-in-Ok-clause-ok : goal.returns-in-Ok-clause-ok
returns-in-Ok-clause-ok c =
    let a = c.in-Ok.arguments.first.now in
    let b = c.in-Ok.arguments.second.now in
    let n = c.in-Some.name in
    let options = options_in c.in-Ok.arguments.options in
    let rest = map (λ w. string_bytes w) c.args.words.now in
    let named : command_named c.args.word.now ≡ Some n = search rules in
    let arguments : AreArguments (places_in (places_by n)) rest (names_in (places_by n) a b) options = subst (λ (p : Places). AreArguments (places_in p) rest (names_in p a b) options) c.places.ensures c.in-Ok.ensures.ok in
    subst (λ (t : Task). IsForm (c.args.word.now ∷ rest) (run t options)) (sym c.task.ensures)
    (rest, names_in (places_by n) a b, ap (λ (x : List ℕ). x ∷ rest) (word-is c.args.word.now n a b named), subst (λ (ps : List Value). AreArguments ps rest (names_in (places_by n) a b) options) (sym (places-are-by n a b)) arguments, has-names n a b)
