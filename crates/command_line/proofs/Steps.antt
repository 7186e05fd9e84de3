-- One word more after a front.
use Rattle.std.proofs.Common.{◌≡◌, ◌∙◌, ◌⊎◌, inl, inr, sym, ap, refl, subst, ℕ, ◌+◌, List, [], ◌∷◌, ◌++◌, length, Option, Some, None, Bool, true, false, slice_get, append_assoc, append-nil, arith, codes, option_map, if◌then◌else◌}
use Rattle.std.proofs.lemmas.Slice.Eq.{bytes_eq-Decides}
use Rattle.std.specs.List.{list_any}
use Rattle.std.specs.Str.{bytes_eq}
use Rattle.command_line.specs.Words.{OptionName, Workers, Edges, Readings, Lexical, Unary, Empty, Settings, Mrs, Lattice, Verbose, Value, in_range, name, nothing, is_name, word_of, value_of, IsValue, Item, positional, option as an_option, words_of, AreItems, IsNotIn, AreOnce, positionals, FillPlaces, name_word, Form, help, help_on, version, run, IsHelpFlag, IsForm}
use Rattle.command_line.specs.declared.tasks.CommandName.{CommandName}
use Rattle.command_line.specs.declared.tasks.CommandName.TheVariants as named
use Rattle.command_line.specs.Inner.Reading.{command_named}
use Rattle.command_line.proofs.Telling.{head-same, tail-same, some-same, begins}
use Rattle.command_line.proofs.Unique.{same-option, not-name}
use Rattle.command_line.specs.declared.places.Wanted.{Wanted}
use Rattle.command_line.specs.declared.places.Wanted.TheVariants.{Number, Name, Nothing}
use Rattle.command_line.specs.declared.places.Place.{Place}
use Rattle.command_line.specs.declared.places.Place.TheVariants.{First, AfterHelp, PastEnd, Argument, OfOption}
use Rattle.command_line.specs.Fronts.{GoesOn, values_by, FillFirst, AreFirst, IsEnd, value_in, IsAt}
use Rattle.command_line.specs.WordInner.{option_named, after_option}
use Rattle.command_line.proofs.Items.{Filled, Cut, words-more, positionals-more, are-more, are-rest, once-option, once-by, not-in-front, fill-more, fill-at, value-name, cut, is_said, said-in, not-said, apart, or-false, or-parts-false}
use Rattle.command_line.proofs.Forms.{Runs, of-command, uncommanded, flag-unnamed, one_word, one-within, goes-argument, no-flag}

-- no option's word is a command's
command-apart : (c : CommandName) (o : OptionName) → bytes_eq (name_word c) (word_of o) ≡ false
command-apart c o = apart o (name_word c) (command-name c)
  where
    command-name : (c : CommandName) → is_name (name_word c) ≡ true
    command-name named.Parse = refl
    command-name named.Chart = refl
    command-name named.Explain = refl
    command-name named.Generate = refl
    command-name named.Types = refl
    command-name named.Expand = refl
    command-name named.Check = refl
    command-name named.SelfTest = refl
    command-name named.Scope = refl
    command-name named.Batch = refl
    command-name named.Transfer = refl

pub option-is : (o : OptionName) → option_named (word_of o) ≡ Some o
option-is Workers = refl
option-is Edges = refl
option-is Readings = refl
option-is Lexical = refl
option-is Unary = refl
option-is Empty = refl
option-is Settings = refl
option-is Mrs = refl
option-is Lattice = refl
option-is Verbose = refl

pick : (b : Bool) (w : List ℕ) (p o : OptionName) (rest : Option OptionName) → (b ≡ true → w ≡ word_of p) → (rest ≡ Some o → w ≡ word_of o) → (if b then Some p else rest) ≡ Some o → w ≡ word_of o
pick true w p o rest h k e = let same : p ≡ o = cc in h refl ∙ ap word_of same
pick false w p o rest h k e = k e

option-word : (w : List ℕ) (o : OptionName) → option_named w ≡ Some o → w ≡ word_of o
option-word w o =
    pick (bytes_eq w (word_of Workers)) w Workers o _ (bytes_eq-Decides w (word_of Workers)).0
    (pick (bytes_eq w (word_of Edges)) w Edges o _ (bytes_eq-Decides w (word_of Edges)).0
    (pick (bytes_eq w (word_of Readings)) w Readings o _ (bytes_eq-Decides w (word_of Readings)).0
    (pick (bytes_eq w (word_of Lexical)) w Lexical o _ (bytes_eq-Decides w (word_of Lexical)).0
    (pick (bytes_eq w (word_of Unary)) w Unary o _ (bytes_eq-Decides w (word_of Unary)).0
    (pick (bytes_eq w (word_of Empty)) w Empty o _ (bytes_eq-Decides w (word_of Empty)).0
    (pick (bytes_eq w (word_of Settings)) w Settings o _ (bytes_eq-Decides w (word_of Settings)).0
    (pick (bytes_eq w (word_of Mrs)) w Mrs o _ (bytes_eq-Decides w (word_of Mrs)).0
    (pick (bytes_eq w (word_of Lattice)) w Lattice o _ (bytes_eq-Decides w (word_of Lattice)).0
    (pick (bytes_eq w (word_of Verbose)) w Verbose o None (bytes_eq-Decides w (word_of Verbose)).0 (λ e. cc))))))))))

-- the option of a word after which this is wanted
pub option-of : (w : List ℕ) (v : Value) → Some v ≡ option_map value_of (option_named w) → (o : OptionName) × (w ≡ word_of o) × (value_of o ≡ v)
option-of w v e = by_named (option_named w) refl e
  where
    by_named : (n : Option OptionName) → option_named w ≡ n → Some v ≡ option_map value_of n → (o : OptionName) × (w ≡ word_of o) × (value_of o ≡ v)
    by_named (Some o) g e = (o, option-word w o g, sym (some-same v (value_of o) e))
    by_named None g e = cc

pub option-none : (w : List ℕ) → None ≡ option_map value_of (option_named w) → option_named w ≡ None
option-none w e = by_named (option_named w) e
  where
    by_named : (n : Option OptionName) → None ≡ option_map value_of n → n ≡ None
    by_named (Some o) e = cc
    by_named None e = refl

flag-option : (o : OptionName) → IsHelpFlag (word_of o) → ⊥
flag-option o (inl e) = let bad : Some o ≡ None = sym (option-is o) ∙ ap option_named e in cc
flag-option o (inr e) = let bad : Some o ≡ None = sym (option-is o) ∙ ap option_named e in cc

not-nil : {X : Type 0} (xs : List X) (y : X) (more : List X) → (xs ++ y ∷ []) ++ more ≡ [] → ⊥
not-nil [] y more e = cc
not-nil (x ∷ xs) y more e = cc

snoc-not-nil : {X : Type 0} (xs : List X) (y : X) → xs ++ y ∷ [] ≡ [] → ⊥
snoc-not-nil [] y e = cc
snoc-not-nil (x ∷ xs) y e = cc

first-one : {X : Type 0} (xs : List X) (y : X) (more : List X) (w : X) → (xs ++ y ∷ []) ++ more ≡ w ∷ [] → (xs ≡ []) × (y ≡ w)
first-one [] y more w e = (refl, head-same y w more [] e)
first-one (x ∷ xs) y more w e = absurd (not-nil xs y more (tail-same x w _ _ e))

of-more : (c : CommandName) (xs : List (List ℕ)) (y : List ℕ) (more : List (List ℕ)) (f : Form) → (xs ≡ [] → IsHelpFlag y → ⊥)
    → IsForm (name_word c ∷ ((xs ++ y ∷ []) ++ more)) f → Runs c ((xs ++ y ∷ []) ++ more)
of-more c xs y more f not is = of-command c ((xs ++ y ∷ []) ++ more) f (λ w e flag. (let one = first-one xs y more w e in not one.0 (subst IsHelpFlag (sym one.1) flag))) is

-- ---- what stands after items

pub data Stands (c : CommandName) (items : List Item) (w : List ℕ) : Type 0 where
  as_name : Filled (values_by c) (length (positionals items)) w → Stands c items w
  as_option : (o : OptionName) → w ≡ word_of o → IsNotIn o items → Stands c items w

pub stands : (c : CommandName) (items : List Item) (w : List ℕ) (more : List (List ℕ)) (f : Form) → AreFirst c items → (words_of items ≡ [] → IsHelpFlag w → ⊥)
    → IsForm (name_word c ∷ ((words_of items ++ w ∷ []) ++ more)) f → Stands c items w
stands c items w more f first not is = by_more k.more k.all k.words
  where
    r : Runs c ((words_of items ++ w ∷ []) ++ more)
    r = of-more c (words_of items) w more f not is

    k : Cut items r.items (w ∷ more)
    k = cut items r.items (w ∷ more) first.are r.are (sym (append_assoc (words_of items) (w ∷ []) more) ∙ r.words)

    by_more : (ms : List Item) → r.items ≡ items ++ ms → words_of ms ≡ w ∷ more → Stands c items w
    by_more [] all e = cc
    by_more (positional u ∷ ms) all e =
        let fill : FillPlaces (values_by c) (positionals items ++ u ∷ positionals ms) = subst (FillPlaces (values_by c)) (ap positionals all ∙ positionals-more items (positional u ∷ ms)) r.fill in
        as_name (subst (Filled (values_by c) (length (positionals items))) (head-same u w _ _ e) (fill-at (values_by c) (positionals items) u (positionals ms) fill))
    by_more (an_option o us ∷ ms) all e = as_option o (sym (head-same (word_of o) w _ _ e)) (not-in-front o us items ms (subst AreOnce all r.once))

value-first : (v : Value) (us ws : List (List ℕ)) (w : List ℕ) (more : List (List ℕ)) → IsValue v us → us ++ ws ≡ w ∷ more → (v ≡ nothing → ⊥) → IsValue v (w ∷ [])
value-first (in_range a b) (u ∷ []) ws w more is e not = subst (λ x. IsValue (in_range a b) (x ∷ [])) (head-same u w _ _ e) is
value-first name (u ∷ []) ws w more is e not = subst (λ x. IsValue name (x ∷ [])) (head-same u w _ _ e) is
value-first nothing [] ws w more is e not = absurd (not refl)
value-first v us ws w more is e not = absurd is

value-some : (v : Value) (us ws : List (List ℕ)) → IsValue v us → us ++ ws ≡ [] → (v ≡ nothing → ⊥) → ⊥
value-some (in_range a b) (u ∷ []) ws is e not = cc
value-some name (u ∷ []) ws is e not = cc
value-some nothing [] ws is e not = not refl
value-some v us ws is e not = is

-- the value that an option wants follows its word
pub record Opens (items all : List Item) (o : OptionName) (rest : List (List ℕ)) : Type 0 where
  pub us : List (List ℕ)
  pub ms : List Item
  pub is : IsValue (value_of o) us
  pub words : us ++ words_of ms ≡ rest

opens : (items all : List Item) (o : OptionName) (rest : List (List ℕ)) → AreItems items → AreItems all → words_of items ++ word_of o ∷ rest ≡ words_of all → Opens items all o rest
opens items all o rest are are_all e = by_more k.more k.all k.words
  where
    k : Cut items all (word_of o ∷ rest)
    k = cut items all (word_of o ∷ rest) are are_all e

    by_more : (ms : List Item) → all ≡ items ++ ms → words_of ms ≡ word_of o ∷ rest → Opens items all o rest
    by_more [] same e = cc
    by_more (positional u ∷ ms) same e =
        let h = are-rest items (positional u ∷ ms) (subst AreItems same are_all) in
        absurd (let bad : true ≡ false = sym h.0 ∙ ap is_name (head-same u (word_of o) _ _ e) ∙ not-name o in cc)
    by_more (an_option p us ∷ ms) same e =
        let h = are-rest items (an_option p us ∷ ms) (subst AreItems same are_all) in
        let here : p ≡ o = same-option p o (head-same (word_of p) (word_of o) _ _ e) in
        record { us = us; ms = ms; is = subst (λ q. IsValue (value_of q) us) here h.0; words = tail-same (word_of p) (word_of o) _ _ e }

pub value-stands : (c : CommandName) (items : List Item) (o : OptionName) (w : List ℕ) (more : List (List ℕ)) (f : Form) → AreItems items → (value_of o ≡ nothing → ⊥)
    → IsForm (name_word c ∷ (((words_of items ++ word_of o ∷ []) ++ w ∷ []) ++ more)) f → IsValue (value_of o) (w ∷ [])
value-stands c items o w more f are some is =
    let xs = words_of items ++ word_of o ∷ [] in
    let r = of-more c xs w more f (λ e flag. snoc-not-nil (words_of items) (word_of o) e) is in
    let whole : words_of items ++ word_of o ∷ w ∷ more ≡ words_of r.items = sym (append_assoc (words_of items) (word_of o ∷ []) (w ∷ more)) ∙ sym (append_assoc xs (w ∷ []) more) ∙ r.words in
    let p = opens items r.items o (w ∷ more) are r.are whole in
    value-first (value_of o) p.us (words_of p.ms) w more p.is p.words some

pub value-lacks : (c : CommandName) (items : List Item) (o : OptionName) (f : Form) → AreItems items → (value_of o ≡ nothing → ⊥)
    → IsForm (name_word c ∷ (words_of items ++ word_of o ∷ [])) f → ⊥
value-lacks c items o f are some is =
    let xs = words_of items ++ word_of o ∷ [] in
    let r = of-more c (words_of items) (word_of o) [] f (λ e flag. flag-option o flag) (subst (λ ws. IsForm (name_word c ∷ ws) f) (sym (append-nil xs)) is) in
    let p = opens items r.items o [] are r.are (sym (append-nil xs) ∙ r.words) in
    value-some (value_of o) p.us (words_of p.ms) p.is p.words some

-- ---- words that can't stand

pub first-refused : (w : List ℕ) (more : List (List ℕ)) (f : Form) → (IsHelpFlag w → ⊥) → (w ≡ codes "--version" → ⊥) → (w ≡ codes "help" → ⊥) → ((c : CommandName) → w ≡ name_word c → ⊥)
    → IsForm (w ∷ more) f → ⊥
first-refused w more help flag v h n is = by_word is.2
  where
    by_word : IsHelpFlag is.0 ⊎ (is.0 ≡ codes "help") → ⊥
    by_word (inl f) = flag (subst IsHelpFlag (sym (head-same w is.0 more [] is.1)) f)
    by_word (inr e) = h (head-same w is.0 more [] is.1 ∙ e)
first-refused w more (help_on d) flag v h n (inl is) = n d (head-same w (name_word d) more _ is.1)
first-refused w more (help_on d) flag v h n (inr is) = h (head-same w (codes "help") more _ is)
first-refused w more version flag v h n is = v (head-same w (codes "--version") more [] is)
first-refused w more (run t o) flag v h n is = n _ (head-same w _ more is.0 is.2)

-- two words or more
two-apart : (x w : List ℕ) (more : List (List ℕ)) (f : Form) → command_named x ≡ None → (x ≡ codes "help" → ⊥) → IsForm (x ∷ w ∷ more) f → ⊥
two-apart x w more help none not is = let e = tail-same x is.0 (w ∷ more) [] is.1 in cc
two-apart x w more (help_on d) none not (inl is) = uncommanded d x (sym (head-same x (name_word d) _ _ is.1)) none
two-apart x w more (help_on d) none not (inr is) = not (head-same x (codes "help") _ _ is)
two-apart x w more version none not is = let e = tail-same x (codes "--version") (w ∷ more) [] is in cc
two-apart x w more (run t o) none not is = begins t x (w ∷ more) is.0 none is.2

pub after-help-refused : (w : List ℕ) (more : List (List ℕ)) (f : Form) → ((c : CommandName) → w ≡ name_word c → ⊥) → IsForm (codes "help" ∷ w ∷ more) f → ⊥
after-help-refused w more help n is = let e = tail-same (codes "help") is.0 (w ∷ more) [] is.1 in cc
after-help-refused w more (help_on d) n (inl is) = uncommanded d (codes "help") (sym (head-same (codes "help") (name_word d) _ _ is.1)) refl
after-help-refused w more (help_on d) n (inr is) = n d (head-same w (name_word d) more [] (tail-same (codes "help") (codes "help") _ _ is))
after-help-refused w more version n is = let e = tail-same (codes "help") (codes "--version") (w ∷ more) [] is in cc
after-help-refused w more (run t o) n is = begins t (codes "help") (w ∷ more) is.0 refl is.2

three-apart : (c : CommandName) (w : List ℕ) (more : List (List ℕ)) (f : Form) → IsForm (codes "help" ∷ name_word c ∷ w ∷ more) f → ⊥
three-apart c w more help is = let e = tail-same (codes "help") is.0 (name_word c ∷ w ∷ more) [] is.1 in cc
three-apart c w more (help_on d) (inl is) = uncommanded d (codes "help") (sym (head-same (codes "help") (name_word d) _ _ is.1)) refl
three-apart c w more (help_on d) (inr is) = let e = tail-same (name_word c) (name_word d) (w ∷ more) [] (tail-same (codes "help") (codes "help") _ _ is) in cc
three-apart c w more version is = let e = tail-same (codes "help") (codes "--version") (name_word c ∷ w ∷ more) [] is in cc
three-apart c w more (run t o) is = begins t (codes "help") (name_word c ∷ w ∷ more) is.0 refl is.2

flag-apart : (x : List ℕ) → IsHelpFlag x → x ≡ codes "help" → ⊥
flag-apart x (inl e) f = let bad = sym e ∙ f in cc
flag-apart x (inr e) f = let bad = sym e ∙ f in cc

pub end-refused : (words : List (List ℕ)) (w : List ℕ) (more : List (List ℕ)) (f : Form) → IsEnd words → IsForm ((words ++ w ∷ []) ++ more) f → ⊥
end-refused words w more f (inl e) is = two-apart (codes "--version") w more f refl (λ e. cc) (subst (λ ws. IsForm ((ws ++ w ∷ []) ++ more) f) e is)
end-refused words w more f (inr (inl h)) is = two-apart h.0 w more f (flag-unnamed h.0 h.2) (flag-apart h.0 h.2) (subst (λ ws. IsForm ((ws ++ w ∷ []) ++ more) f) h.1 is)
end-refused words w more f (inr (inr h)) is = by_way h.1
  where
    by_way : IsForm words (help_on h.0) → ⊥
    by_way (inl k) =
        let r = of-command h.0 (k.0 ∷ w ∷ more) f (λ u e flag. (let bad = tail-same k.0 u (w ∷ more) [] e in cc)) (subst (λ ws. IsForm ((ws ++ w ∷ []) ++ more) f) k.1 is) in
        no-flag r.items k.0 (w ∷ more) r.are (sym r.words) k.2
    by_way (inr k) = three-apart h.0 w more f (subst (λ ws. IsForm ((ws ++ w ∷ []) ++ more) f) k is)

-- ---- words that can

pub named-at : (c : CommandName) (w : List ℕ) → w ≡ name_word c → IsAt (w ∷ []) (Argument c 0)
named-at c w e = ([], ap (λ x. x ∷ []) e, record { are = tt; once = tt; fill = tt }, refl)

with_value : (c : CommandName) (items : List Item) (o : OptionName) (vs : List (List ℕ)) → AreFirst c items → IsNotIn o items → IsValue (value_of o) vs → AreFirst c (items ++ an_option o vs ∷ [])
with_value c items o vs first not is = record {
  are = are-more items (an_option o vs ∷ []) first.are (is, tt);
  once = once-option items o vs first.once not;
  fill = subst (FillFirst (values_by c)) (sym (positionals-more items (an_option o vs ∷ []) ∙ append-nil (positionals items))) first.fill;
}

same-count : (items : List Item) (o : OptionName) (vs : List (List ℕ)) → length (positionals (items ++ an_option o vs ∷ [])) ≡ length (positionals items)
same-count items o vs = ap length (positionals-more items (an_option o vs ∷ []) ∙ append-nil (positionals items))

one-more : {X : Type 0} (xs : List X) (x : X) → length (xs ++ x ∷ []) ≡ length xs + 1
one-more [] x = refl
one-more (y ∷ xs) x = omega (arith, one-more xs x)

module _ (words : List (List ℕ)) (c : CommandName) (k : ℕ) (w : List ℕ) (at : IsAt words (Argument c k)) where
  abbrev items : List Item
  items = at.0

  first : AreFirst c items
  first = at.2

  -- a value of the next place
  pub name-taken : (v : Value) → slice_get (values_by c) k ≡ Some v → IsValue v (w ∷ []) → IsAt (words ++ w ∷ []) (Argument c (k + 1))
  name-taken v here is = (
    items ++ positional w ∷ [],
    ap (λ ws. ws ++ w ∷ []) at.1 ∙ ap (λ ws. name_word c ∷ ws) (sym (words-more items (positional w ∷ []))),
    record {
      are = are-more items (positional w ∷ []) first.are (value-name v w is, tt);
      once = once-by items (w ∷ []) first.once;
      fill = subst (FillFirst (values_by c)) (sym (positionals-more items (positional w ∷ [])))
          (fill-more (values_by c) (positionals items) v w first.fill (ap (slice_get (values_by c)) at.3 ∙ here) is);
    },
    ap length (positionals-more items (positional w ∷ [])) ∙ one-more (positionals items) w ∙ ap (λ n. n + 1) at.3,
  )

  -- an option's word
  fresh : (o : OptionName) → w ≡ word_of o → is_said o words ≡ false → IsNotIn o items
  fresh o e said = not-said o items (or_rest (subst (λ ws. is_said o ws ≡ false) at.1 said))
    where
      or_rest : is_said o (name_word c ∷ words_of items) ≡ false → is_said o (words_of items) ≡ false
      or_rest f = (or-parts-false (bytes_eq (name_word c) (word_of o)) (is_said o (words_of items)) f).1

  pub flag-taken : (o : OptionName) → w ≡ word_of o → is_said o words ≡ false → value_of o ≡ nothing → IsAt (words ++ w ∷ []) (Argument c k)
  flag-taken o e said alone = (
    items ++ an_option o [] ∷ [],
    ap (λ ws. ws ++ w ∷ []) at.1 ∙ ap (λ x. name_word c ∷ (words_of items ++ x ∷ [])) e ∙ ap (λ ws. name_word c ∷ ws) (sym (words-more items (an_option o [] ∷ []))),
    with_value c items o [] first (fresh o e said) (subst (λ v. IsValue v []) (sym alone) tt),
    same-count items o [] ∙ at.3,
  )

  pub option-taken : (o : OptionName) (wanted : Wanted) → w ≡ word_of o → is_said o words ≡ false → value_of o ≡ value_in wanted → (value_of o ≡ nothing → ⊥)
      → IsAt (words ++ w ∷ []) (OfOption c k wanted)
  option-taken o wanted e said is some = (
    items,
    o,
    ap (λ ws. ws ++ w ∷ []) at.1 ∙ ap (λ x. name_word c ∷ (words_of items ++ x ∷ [])) e,
    first,
    at.3,
    fresh o e said,
    is,
    some,
  )

  pub option-leads : (o : OptionName) (wanted : Wanted) → w ≡ word_of o → is_said o words ≡ false → value_of o ≡ value_in wanted → IsAt (words ++ w ∷ []) (after_option c k wanted)
  option-leads o Nothing e said is = flag-taken o e said is
  option-leads o (Number a b) e said is = option-taken o (Number a b) e said is (λ bad. (let no : in_range a b ≡ nothing = sym is ∙ bad in cc))
  option-leads o Name e said is = option-taken o Name e said is (λ bad. (let no : name ≡ nothing = sym is ∙ bad in cc))

  -- help, after the command's word alone
  pub help-taken : length words ≡ 1 → IsHelpFlag w → IsAt (words ++ w ∷ []) PastEnd
  help-taken one flag = inr (inr (c, inl (w, ap (λ ws. ws ++ w ∷ []) alone, flag)))
    where
      by_length : (ws : List (List ℕ)) → length (name_word c ∷ ws) ≡ 1 → ws ≡ []
      by_length [] e = refl
      by_length (x ∷ ws) e = absurd (omega (arith, e))

      alone : words ≡ name_word c ∷ []
      alone = at.1 ∙ ap (λ ws. name_word c ∷ ws) (by_length (words_of items) (ap length (sym at.1) ∙ one))

  -- what can't stand
  standing : (length words ≡ 1 → IsHelpFlag w → ⊥) → GoesOn (words ++ w ∷ []) → Stands c items w
  standing not g = stands c items w g.0 g.1 first (λ e. not (ap length (at.1 ∙ ap (λ ws. name_word c ∷ ws) e))) (subst (λ ws. IsForm ((ws ++ w ∷ []) ++ g.0) g.1) at.1 g.2)

  pub name-refused : is_name w ≡ true → ((v : Value) → slice_get (values_by c) k ≡ Some v → IsValue v (w ∷ []) → ⊥) → GoesOn (words ++ w ∷ []) → ⊥
  name-refused named not g = by_kind (standing (λ one flag. by_flag flag) g)
    where
      by_flag : IsHelpFlag w → ⊥
      by_flag (inl e) = let bad : false ≡ true = sym (ap is_name e) ∙ named in cc
      by_flag (inr e) = let bad : false ≡ true = sym (ap is_name e) ∙ named in cc

      by_kind : Stands c items w → ⊥
      by_kind (as_name f) = not f.value (ap (slice_get (values_by c)) (sym at.3) ∙ f.at) f.is
      by_kind (as_option o e h) = let bad : false ≡ true = sym (ap is_name e ∙ not-name o) ∙ named in cc

  pub said-refused : is_name w ≡ false → (length words ≡ 1 → IsHelpFlag w → ⊥) → list_any (λ x. bytes_eq x w) words ≡ true → GoesOn (words ++ w ∷ []) → ⊥
  said-refused unnamed not said g = by_kind (standing not g)
    where
      by_kind : Stands c items w → ⊥
      by_kind (as_name f) = let bad : true ≡ false = sym (value-name f.value w f.is) ∙ unnamed in cc
      by_kind (as_option o e h) =
          let here : is_said o (name_word c ∷ words_of items) ≡ true = subst (λ ws. is_said o ws ≡ true) at.1 (subst (λ y. list_any (λ x. bytes_eq x y) words ≡ true) e said) in
          said-in o items first.are h (or-false _ _ (command-apart c o) here)

  pub option-refused : is_name w ≡ false → (length words ≡ 1 → IsHelpFlag w → ⊥) → option_named w ≡ None → GoesOn (words ++ w ∷ []) → ⊥
  option-refused unnamed not none g = by_kind (standing not g)
    where
      by_kind : Stands c items w → ⊥
      by_kind (as_name f) = let bad : true ≡ false = sym (value-name f.value w f.is) ∙ unnamed in cc
      by_kind (as_option o e h) = let bad : None ≡ Some o = sym none ∙ ap option_named e ∙ option-is o in cc

module _ (words : List (List ℕ)) (c : CommandName) (k : ℕ) (wanted : Wanted) (w : List ℕ) (at : IsAt words (OfOption c k wanted)) where
  pub value-taken : IsValue (value_in wanted) (w ∷ []) → IsAt (words ++ w ∷ []) (Argument c k)
  value-taken is = (
    at.0 ++ an_option at.1 (w ∷ []) ∷ [],
    ap (λ ws. ws ++ w ∷ []) at.2 ∙ ap (λ ws. name_word c ∷ ws) (append_assoc (words_of at.0) (word_of at.1 ∷ []) (w ∷ []) ∙ sym (words-more at.0 (an_option at.1 (w ∷ []) ∷ []))),
    with_value c at.0 at.1 (w ∷ []) at.3 at.5 (subst (λ v. IsValue v (w ∷ [])) (sym at.6) is),
    same-count at.0 at.1 (w ∷ []) ∙ at.4,
  )

  pub value-refused : (IsValue (value_in wanted) (w ∷ []) → ⊥) → GoesOn (words ++ w ∷ []) → ⊥
  value-refused not g = not (subst (λ v. IsValue v (w ∷ [])) at.6 (value-stands c at.0 at.1 w g.0 g.1 at.3.are at.7 (subst (λ ws. IsForm ((ws ++ w ∷ []) ++ g.0) g.1) at.2 g.2)))

  pub value-wanted : (f : Form) → IsForm words f → ⊥
  value-wanted f is = value-lacks c at.0 at.1 f at.3.are at.7 (subst (λ ws. IsForm ws f) at.2 is)

-- ---- fronts go on

one-fits : (o : OptionName) → (value_of o ≡ nothing → ⊥) → IsValue (value_of o) (one_word ∷ [])
one-fits Workers some = (refl, one-within 1 64 (omega arith) (omega arith))
one-fits Edges some = (refl, one-within 1 20000 (omega arith) (omega arith))
one-fits Readings some = (refl, one-within 1 100000 (omega arith) (omega arith))
one-fits Lexical some = (refl, one-within 0 15 (omega arith) (omega arith))
one-fits Unary some = (refl, one-within 0 32 (omega arith) (omega arith))
one-fits Empty some = (refl, one-within 0 16 (omega arith) (omega arith))
one-fits Settings some = refl
one-fits Mrs some = absurd (some refl)
one-fits Lattice some = absurd (some refl)
one-fits Verbose some = absurd (some refl)

goes-at : (words : List (List ℕ)) (c : CommandName) (k : ℕ) → IsAt words (Argument c k) → GoesOn words
goes-at words c k at = subst GoesOn (sym at.1) (goes-argument c at.0 at.2)

pub goes-on : (words : List (List ℕ)) (place : Place) → IsAt words place → GoesOn words
goes-on words First at = (codes "--help" ∷ [], help, subst (λ ws. IsForm (ws ++ codes "--help" ∷ []) help) (sym at) (codes "--help", refl, inl (inl refl)))
goes-on words AfterHelp at = ([], help, subst (λ ws. IsForm (ws ++ []) help) (sym at) (codes "help", refl, inr refl))
goes-on words PastEnd (inl e) = ([], version, ap (λ ws. ws ++ []) e)
goes-on words PastEnd (inr (inl h)) = ([], help, (h.0, append-nil words ∙ h.1, inl h.2))
goes-on words PastEnd (inr (inr h)) = ([], help_on h.0, subst (λ ws. IsForm ws (help_on h.0)) (sym (append-nil words)) h.1)
goes-on words (Argument c k) at = goes-at words c k at
goes-on words (OfOption c k wanted) at =
    let fits : IsValue (value_in wanted) (one_word ∷ []) = subst (λ v. IsValue v (one_word ∷ [])) at.6 (one-fits at.1 at.7) in
    let g = goes-at (words ++ one_word ∷ []) c k (value-taken words c k wanted one_word at fits) in
    (one_word ∷ g.0, g.1, subst (λ ws. IsForm ws g.1) (append_assoc words (one_word ∷ []) g.0) g.2)
