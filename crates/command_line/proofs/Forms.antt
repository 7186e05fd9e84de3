-- Fronts and the forms that they go on to.
use Rattle.std.proofs.Common.{◌≡◌, ◌∙◌, ◌⊎◌, inl, inr, sym, ap, refl, subst, ℕ, ◌≤◌, List, [], ◌∷◌, ◌++◌, length, Some, None, true, false, slice_get, append-nil, arith, codes}
use Rattle.command_line.specs.Words.{Value, in_range, name, number_of, IsNumber, IsValue, Item, words_of, AreItems, AreOnce, positionals, FillPlaces, options_of, Task, parse, chart, explain, generate, types, expand, check, self_test, scope, batch, transfer, command_in, name_word, places_of, HasNames, Form, help, help_on, version, run, IsHelpFlag, IsForm}
use Rattle.command_line.specs.declared.tasks.CommandName.{CommandName}
use Rattle.command_line.specs.declared.tasks.CommandName.TheVariants as named
use Rattle.command_line.specs.Inner.Reading.{command_named, is_word}
use Rattle.command_line.proofs.Choosing.{items-pass}
use Rattle.command_line.proofs.Unique.{same-items}
use Rattle.std.specs.List.{list_all}
use Rattle.command_line.proofs.Telling.{head-same, tail-same, some-same, named-is}
use Rattle.command_line.specs.Fronts.{GoesOn, values_by, FillFirst, AreFirst}
use Rattle.command_line.proofs.Items.{words-more, positionals-more, are-more, items_by, words-by, positionals-by, once-by, fill-none}

-- ---- words that go on, as items

pub record Runs (c : CommandName) (rest : List (List ℕ)) : Type 0 where
  pub items : List Item
  pub words : rest ≡ words_of items
  pub are : AreItems items
  pub once : AreOnce items
  pub fill : FillPlaces (values_by c) (positionals items)

pub uncommanded : (c : CommandName) (w : List ℕ) → name_word c ≡ w → command_named w ≡ None → ⊥
uncommanded c w e none = let bad : Some c ≡ None = sym (named-is c) ∙ ap command_named e ∙ none in cc

pub flag-unnamed : (w : List ℕ) → IsHelpFlag w → command_named w ≡ None
flag-unnamed w (inl e) = ap command_named e
flag-unnamed w (inr e) = ap command_named e

pub places-are : (t : Task) → places_of t ≡ values_by (command_in t)
places-are (parse g) = refl
places-are (chart g) = refl
places-are (explain g) = refl
places-are (generate g) = refl
places-are (types g) = refl
places-are (expand g x) = refl
places-are (check g) = refl
places-are (self_test a b) = refl
places-are scope = refl
places-are (batch g p) = refl
places-are (transfer r) = refl

help-unnamed : (w : List ℕ) → IsHelpFlag w ⊎ (w ≡ codes "help") → command_named w ≡ None
help-unnamed w (inl f) = flag-unnamed w f
help-unnamed w (inr e) = ap command_named e

-- a form that begins with a command's word is a run, or help on the command
pub of-command : (c : CommandName) (rest : List (List ℕ)) (f : Form) → ((w : List ℕ) → rest ≡ w ∷ [] → IsHelpFlag w → ⊥) → IsForm (name_word c ∷ rest) f → Runs c rest
of-command c rest help not h = absurd (uncommanded c h.0 (head-same (name_word c) h.0 rest [] h.1) (help-unnamed h.0 h.2))
of-command c rest (help_on d) not (inl h) = absurd (not h.0 (tail-same (name_word c) (name_word d) rest (h.0 ∷ []) h.1) h.2)
of-command c rest (help_on d) not (inr h) = absurd (uncommanded c (codes "help") (head-same (name_word c) (codes "help") rest _ h) refl)
of-command c rest version not h = absurd (uncommanded c (codes "--version") (head-same (name_word c) (codes "--version") rest [] h) refl)
of-command c rest (run t o) not h =
    let a = h.3 in
    let word : name_word c ≡ name_word (command_in t) = head-same (name_word c) (name_word (command_in t)) rest h.0 h.2 in
    let same : c ≡ command_in t = some-same c (command_in t) (sym (named-is c) ∙ ap command_named word ∙ named-is (command_in t)) in
    record {
      items = a.0;
      words = tail-same (name_word c) (name_word (command_in t)) rest h.0 h.2 ∙ a.1;
      are = a.2;
      once = a.3;
      fill = subst (λ vs. FillPlaces vs (positionals a.0)) (places-are t ∙ ap values_by (sym same)) a.4;
    }

-- ---- what goes on to a form

abbrev pub one_word : List ℕ
one_word = codes "1"

pub one-within : (least greatest : ℕ) → least ≤ 1 → 1 ≤ greatest → IsNumber least greatest one_word
one-within least greatest a b = ((omega arith, (omega arith, tt)), a, b)

-- positional words that a command may have, and a task with them
pub record Fits (c : CommandName) (words : List (List ℕ)) : Type 0 where
  pub task : Task
  pub word : name_word c ≡ name_word (command_in task)
  pub fill : FillPlaces (places_of task) words
  pub has : HasNames task words

-- What lacks to the first positional words: names that fill the other places. Where no place is left, there are none.
pub record Lacks (c : CommandName) (words : List (List ℕ)) : Type 0 where
  pub more : List (List ℕ)
  pub names : AreItems (items_by more)
  pub fits : Fits c (words ++ more)
  pub none : slice_get (values_by c) (length words) ≡ None → more ≡ []

lacks-one : (c : CommandName) (t : List ℕ → Task) → values_by c ≡ name ∷ [] → ((w : List ℕ) → name_word c ≡ name_word (command_in (t w)))
    → ((w : List ℕ) → places_of (t w) ≡ name ∷ []) → ((w : List ℕ) → HasNames (t w) (w ∷ [])) → (ws : List (List ℕ)) → FillFirst (name ∷ []) ws → Lacks c ws
lacks-one c t v word places has [] fill = record {
  more = one_word ∷ [];
  names = (refl, tt);
  fits = record { task = t one_word; word = word one_word; fill = subst (λ vs. FillPlaces vs (one_word ∷ [])) (sym (places one_word)) (refl, tt); has = has one_word };
  none = λ e. absurd (let bad : Some name ≡ None = ap (λ vs. slice_get vs 0) (sym v) ∙ e in cc);
}
lacks-one c t v word places has (w ∷ []) fill = record {
  more = [];
  names = tt;
  fits = record { task = t w; word = word w; fill = subst (λ vs. FillPlaces vs (w ∷ [])) (sym (places w)) fill; has = has w };
  none = λ e. refl;
}
lacks-one c t v word places has (w ∷ x ∷ ws) fill = absurd fill.1

lacks-two : (c : CommandName) (t : List ℕ → List ℕ → Task) (u v : Value) → values_by c ≡ u ∷ v ∷ [] → IsValue u (one_word ∷ []) → IsValue v (one_word ∷ [])
    → ((w x : List ℕ) → name_word c ≡ name_word (command_in (t w x))) → ((w x : List ℕ) → places_of (t w x) ≡ u ∷ v ∷ []) → ((w x : List ℕ) → HasNames (t w x) (w ∷ x ∷ []))
    → (ws : List (List ℕ)) → FillFirst (u ∷ v ∷ []) ws → Lacks c ws
lacks-two c t u v vs one other word places has [] fill = record {
  more = one_word ∷ one_word ∷ [];
  names = (refl, (refl, tt));
  fits = record {
    task = t one_word one_word;
    word = word one_word one_word;
    fill = subst (λ vs. FillPlaces vs (one_word ∷ one_word ∷ [])) (sym (places one_word one_word)) (one, (other, tt));
    has = has one_word one_word;
  };
  none = λ e. absurd (let bad : Some u ≡ None = ap (λ vs. slice_get vs 0) (sym vs) ∙ e in cc);
}
lacks-two c t u v vs one other word places has (w ∷ []) fill = record {
  more = one_word ∷ [];
  names = (refl, tt);
  fits = record {
    task = t w one_word;
    word = word w one_word;
    fill = subst (λ vs. FillPlaces vs (w ∷ one_word ∷ [])) (sym (places w one_word)) (fill.0, (other, tt));
    has = has w one_word;
  };
  none = λ e. absurd (let bad : Some v ≡ None = ap (λ vs. slice_get vs 1) (sym vs) ∙ e in cc);
}
lacks-two c t u v vs one other word places has (w ∷ x ∷ []) fill = record {
  more = [];
  names = tt;
  fits = record { task = t w x; word = word w x; fill = subst (λ vs. FillPlaces vs (w ∷ x ∷ [])) (sym (places w x)) fill; has = has w x };
  none = λ e. refl;
}
lacks-two c t u v vs one other word places has (w ∷ x ∷ y ∷ ws) fill = absurd fill.1.1

pub lacks : (c : CommandName) (ws : List (List ℕ)) → FillFirst (values_by c) ws → Lacks c ws
lacks named.Parse ws fill = lacks-one named.Parse (λ g. parse g) refl (λ w. refl) (λ w. refl) (λ w. refl) ws fill
lacks named.Chart ws fill = lacks-one named.Chart (λ g. chart g) refl (λ w. refl) (λ w. refl) (λ w. refl) ws fill
lacks named.Explain ws fill = lacks-one named.Explain (λ g. explain g) refl (λ w. refl) (λ w. refl) (λ w. refl) ws fill
lacks named.Generate ws fill = lacks-one named.Generate (λ g. generate g) refl (λ w. refl) (λ w. refl) (λ w. refl) ws fill
lacks named.Types ws fill = lacks-one named.Types (λ g. types g) refl (λ w. refl) (λ w. refl) (λ w. refl) ws fill
lacks named.Check ws fill = lacks-one named.Check (λ g. check g) refl (λ w. refl) (λ w. refl) (λ w. refl) ws fill
lacks named.Transfer ws fill = lacks-one named.Transfer (λ g. transfer g) refl (λ w. refl) (λ w. refl) (λ w. refl) ws fill
lacks named.Expand ws fill = lacks-two named.Expand (λ g x. expand g x) name name refl refl refl (λ w x. refl) (λ w x. refl) (λ w x. refl) ws fill
lacks named.Batch ws fill = lacks-two named.Batch (λ g x. batch g x) name name refl refl refl (λ w x. refl) (λ w x. refl) (λ w x. refl) ws fill
lacks named.SelfTest ws fill = lacks-two named.SelfTest (λ a b. self_test (number_of a) (number_of b)) (in_range 0 18446744073709551615) (in_range 1 1000) refl
    (refl, one-within 0 18446744073709551615 (omega arith) (omega arith)) (refl, one-within 1 1000 (omega arith) (omega arith))
    (λ w x. refl) (λ w x. refl) (λ w x. (w, x, refl, refl, refl)) ws fill
lacks named.Scope [] fill = record { more = []; names = tt; fits = record { task = scope; word = refl; fill = tt; has = refl }; none = λ e. refl }
lacks named.Scope (w ∷ ws) fill = absurd fill

-- words that an option's word follows: items, and positional words after them
module _ (c : CommandName) (items : List Item) (first : AreFirst c items) where
  abbrev rest : Lacks c (positionals items)
  rest = lacks c (positionals items) first.fill

  abbrev all : List Item
  all = items ++ items_by rest.more

  their_words : words_of items ++ rest.more ≡ words_of all
  their_words = sym (words-more items (items_by rest.more) ∙ ap (λ ws. words_of items ++ ws) (words-by rest.more))

  their_names : positionals all ≡ positionals items ++ rest.more
  their_names = positionals-more items (items_by rest.more) ∙ ap (λ ws. positionals items ++ ws) (positionals-by rest.more)

  abbrev pub going_form : Form
  going_form = run rest.fits.task (options_of all)

  is-form : IsForm ((name_word c ∷ words_of items) ++ rest.more) going_form
  is-form = (
    words_of items ++ rest.more,
    positionals items ++ rest.more,
    ap (λ w. w ∷ (words_of items ++ rest.more)) rest.fits.word,
    (
      all,
      their_words,
      are-more items (items_by rest.more) first.are rest.names,
      once-by items rest.more first.once,
      subst (FillPlaces (places_of rest.fits.task)) (sym their_names) rest.fits.fill,
      their_names,
      refl,
    ),
    rest.fits.has,
  )

  pub goes-argument : GoesOn (name_word c ∷ words_of items)
  goes-argument = (rest.more, going_form, is-form)

  -- where no place is left, they are of the form
  pub whole-argument : slice_get (values_by c) (length (positionals items)) ≡ None → IsForm (name_word c ∷ words_of items) going_form
  whole-argument e = subst (λ ws. IsForm ws going_form) (append-nil (name_word c ∷ words_of items)) (subst (λ more. IsForm ((name_word c ∷ words_of items) ++ more) going_form) (rest.none e) is-form)

-- a word that asks for help is none of items
pub no-flag : (items : List Item) (w : List ℕ) (ws : List (List ℕ)) → AreItems items → words_of items ≡ w ∷ ws → IsHelpFlag w → ⊥
no-flag items w ws are e flag = by_flag flag
  where
    pass : list_all is_word (w ∷ ws) ≡ true
    pass = ap (list_all is_word) (sym e) ∙ items-pass items are

    by_flag : IsHelpFlag w → ⊥
    by_flag (inl f) = let bad : false ≡ true = sym (ap (λ x. list_all is_word (x ∷ ws)) f) ∙ pass in cc
    by_flag (inr f) = let bad : false ≡ true = sym (ap (λ x. list_all is_word (x ∷ ws)) f) ∙ pass in cc

-- words of a form leave no place
pub none-left : (c : CommandName) (items : List Item) (f : Form) → AreFirst c items → IsForm (name_word c ∷ words_of items) f → slice_get (values_by c) (length (positionals items)) ≡ None
none-left c items f first is =
    let r = of-command c (words_of items) f (λ w e flag. no-flag items w [] first.are e flag) is in
    let same : items ≡ r.items = same-items items r.items first.are r.are r.words in
    ap (λ (x : List Item). slice_get (values_by c) (length (positionals x))) same ∙ fill-none (values_by c) (positionals r.items) r.fill
