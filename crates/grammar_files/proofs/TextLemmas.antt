-- What a file says, by what its shelf gives.
use Rattle.std.proofs.Common.{◌≡◌, ℕ, ◌≤◌, ◌-◌, ◌^◌, ◌&&◌, min, nat_lt, Bool, true, List, map, length, Option, None, Some, IfSome, Result, Ok, Err, IfOk, IfErr, IsErrOf, Vec, string_bytes, refl, ap, sym, ◌∙◌, subst, inl, inr}
use Rattle.std.specs.Global.{Global}
use Rattle.std.specs.Str.{IsUtf8, bytes_eq}
use Rattle.std.proofs.lemmas.Bool.{lt-ltb}
use Rattle.lkb_io.specs.Outside.{HasRisen}
use Rattle.lkb_io.specs.Shelves.{IsFile}
use Rattle.lkb_io.specs.declared.ShelfFault.{ShelfFault}
use Rattle.lkb_io.specs.declared.ShelfFault.TheVariants.{Failed, TooLong as ShelfTooLong, NoMemory as ShelfNoMemory}
use Rattle.tdl_lexer.specs.declared.Token.{Token}
use Rattle.tdl_lexer.specs.Readings.{Tokens, spelled}
use Rattle.tdl_reader.specs.declared.Statement.{Statement}
use Rattle.tdl_reader.specs.Views.{statement_of}
use Rattle.type_hierarchy.proofs.NameLemmas.{bytes_eq-refl}
use Rattle.grammar_settings.specs.declared.settings.Settings.{Settings}
use Rattle.grammar_files.specs.declared.fault.LoadFault.{LoadFault}
use Rattle.grammar_files.specs.declared.fault.LoadFault.TheVariants.{NoMemory, Found}
use Rattle.grammar_files.specs.declared.fault.Why.TheVariants.{Settings as SettingsWhy}
use Rattle.grammar_files.specs.Faults.{FoundFault, IsFaultBy}
use Rattle.grammar_settings.specs.Forms.{Name}
use Rattle.grammar_settings.specs.Settled.{settings_in, default_settings}
use Rattle.grammar_settings.specs.SettingsViews.{settings_of}
use Rattle.grammar_files.specs.Walks.{Files, IsText, IsTooLong, Says, fails_here, too_long, unlexed, unread, says, IsSettled, by_default, fails_there, too_long_there, out_of_form, in_form, has_failed, fault_at}
use Rattle.grammar_files.specs.TextViews.{IsShelfFault, SaysOf, IsFaultOfText, Covers}

pub is_utf8_of : (bs : List ℕ) (ts : List Token) → Tokens bs ts None → IsUtf8 bs
is_utf8_of bs ts (spelled _ _ u r) = u

pub says_text : (files : Files) (name : Name) (text : List ℕ) (r : Result (Vec Statement Global) LoadFault) → IsText files name text
    → IfOk r (λ v. SaysOf text (map statement_of v.items)) → IfOk r (λ v. (fails : Name → Bool) → Says files fails name (Ok (map statement_of v.items)))
says_text files name text (Ok v) is h = λ fails. says text h.tokens (map statement_of v.items) is h.reading h.statements
says_text files name text (Err e) is h = tt

pub text_fault : (files : Files) (name : Name) (text : List ℕ) (f : FoundFault) → IsText files name text → IsFaultOfText name text f → (fails : Name → Bool) → Says files fails name (Err f)
text_fault files name text f is (inl (ts, e, reading, same)) fails = subst (λ k. Says files fails name (Err k)) (sym same) (unlexed text ts e is reading)
text_fault files name text f is (inr (ts, e, reading, first, same)) fails = subst (λ k. Says files fails name (Err k)) (sym same) (unread text ts e is reading first)

both : (a b : Bool) → a ≡ true → b ≡ true → (a && b) ≡ true
both a b p q = rw (p, q) refl

pub has_failed-same : (old new : ℕ) (name : Name) → HasRisen old new → has_failed old new (Some name) name ≡ true
has_failed-same old new name risen = both (nat_lt (min old (2 ^ 64 - 2)) new) (bytes_eq name name) (lt-ltb (min old (2 ^ 64 - 2)) new risen) (bytes_eq-refl name)

asked_name : (old new : ℕ) (asked : Option Name) (name : Name) (fails : Name → Bool) → HasRisen old new → asked ≡ Some name → Covers old new asked fails → fails name ≡ true
asked_name old new asked name fails risen e covers = covers name (subst (λ a. has_failed old new a name ≡ true) (sym e) (has_failed-same old new name risen))

-- what a shelf tells of a call that gave no text
pub record Unheld (files : Files) (name : Name) (old new : ℕ) (asked : Option Name) (fault : ShelfFault) : Type 0 where
  pub failed : fault ≡ Failed → HasRisen old new
  pub asked_is : fault ≡ Failed → asked ≡ Some name
  pub long : fault ≡ ShelfTooLong → IsTooLong files name

pub shelf_says : (files : Files) (name : Name) (old new : ℕ) (asked : Option Name) (fault : ShelfFault) (f : FoundFault) → Unheld files name old new asked fault → IsShelfFault name fault f
    → (fails : Name → Bool) → Covers old new asked fails → Says files fails name (Err f)
shelf_says files name old new asked Failed f u same fails covers = subst (λ k. Says files fails name (Err k)) (sym same) (fails_here (asked_name old new asked name fails (u.failed refl) (u.asked_is refl) covers))
shelf_says files name old new asked ShelfTooLong f u same fails covers = subst (λ k. Says files fails name (Err k)) (sym same) (too_long (u.long refl))
shelf_says files name old new asked ShelfNoMemory f u same fails covers = absurd same

pub shelf_settles : (files : Files) (name : Name) (old new : ℕ) (asked : Option Name) (fault : ShelfFault) (f : FoundFault) → Unheld files name old new asked fault → IsShelfFault name fault f
    → (fails : Name → Bool) → Covers old new asked fails → IsSettled files fails (Some name) (Err f)
shelf_settles files name old new asked Failed f u same fails covers = subst (λ k. IsSettled files fails (Some name) (Err k)) (sym same) (fails_there name (asked_name old new asked name fails (u.failed refl) (u.asked_is refl) covers))
shelf_settles files name old new asked ShelfTooLong f u same fails covers = subst (λ k. IsSettled files fails (Some name) (Err k)) (sym same) (too_long_there name (u.long refl))
shelf_settles files name old new asked ShelfNoMemory f u same fails covers = absurd same

pub settles_text : (files : Files) (name : Name) (text : List ℕ) (r : Result Settings LoadFault) → IsText files name text
    → IfOk r (λ s. settings_in text ≡ Ok (settings_of s)) → IfOk r (λ s. (fails : Name → Bool) → IsSettled files fails (Some name) (Ok (settings_of s)))
settles_text files name text (Ok s) is h = λ fails. in_form name text (settings_of s) is h
settles_text files name text (Err e) is h = tt

pub settles_fault : (files : Files) (name : Name) (text : List ℕ) (f : FoundFault) → IsText files name text
    → (line : ℕ) × (settings_in text ≡ Err line) × (f ≡ fault_at name line SettingsWhy) → (fails : Name → Bool) → IsSettled files fails (Some name) (Err f)
settles_fault files name text f is (line, e, same) fails = subst (λ k. IsSettled files fails (Some name) (Err k)) (sym same) (out_of_form name text line is e)

-- a text that the shelf gave
pub is_text : (files : Files) (name : Name) (text items : List ℕ) → text ≡ items → IfSome files (λ f. IsFile (f name) items) → length items ≤ 67108864 → IsText files name text
is_text files name text items e told bound = subst (IsText files name) (sym e) (told, bound)

pub unheld : (files : Files) (name : Name) (old new : ℕ) (asked : Option Name) (r : Result (Vec ℕ Global) ShelfFault) (fault : ShelfFault) → r ≡ Err fault
    → (IsErrOf r Failed → HasRisen old new) → (IsErrOf r Failed → asked ≡ Some name) → (IsErrOf r ShelfTooLong → IsTooLong files name) → Unheld files name old new asked fault
unheld files name old new asked r fault is failed asked_is long =
    record { failed = λ e. failed (is ∙ ap Err e); asked_is = λ e. asked_is (is ∙ ap Err e); long = λ e. long (is ∙ ap Err e) }

pub settles_default : (files : Files) (s : Settings) (name : Option Name) → name ≡ None → settings_of s ≡ default_settings → (fails : Name → Bool) → IsSettled files fails name (Ok (settings_of s))
settles_default files s name none e fails = subst (λ n. IsSettled files fails n (Ok (settings_of s))) (sym none) (subst (λ t. IsSettled files fails None (Ok t)) (sym e) by_default)

-- the same of results
pub says_faults : (files : Files) (name : Name) (text : List ℕ) (old new : ℕ) (asked : Option Name) (r : Result (Vec Statement Global) LoadFault) → IsText files name text → IfErr r (IsFaultBy (IsFaultOfText name text))
    → IfErr r (IsFaultBy (λ f. (fails : Name → Bool) → Covers old new asked fails → Says files fails name (Err f)))
says_faults files name text old new asked (Ok v) is h = tt
says_faults files name text old new asked (Err NoMemory) is h = tt
says_faults files name text old new asked (Err (Found file at why)) is h = λ fails covers. text_fault files name text (record { file = string_bytes file; at = at; why = why }) is h fails

pub settles_faults : (files : Files) (name : Name) (text : List ℕ) (old new : ℕ) (asked : Option Name) (r : Result Settings LoadFault) → IsText files name text
    → IfErr r (IsFaultBy (λ f. (line : ℕ) × (settings_in text ≡ Err line) × (f ≡ fault_at name line SettingsWhy)))
    → IfErr r (IsFaultBy (λ f. (fails : Name → Bool) → Covers old new asked fails → IsSettled files fails (Some name) (Err f)))
settles_faults files name text old new asked (Ok v) is h = tt
settles_faults files name text old new asked (Err NoMemory) is h = tt
settles_faults files name text old new asked (Err (Found file at why)) is h = λ fails covers. settles_fault files name text (record { file = string_bytes file; at = at; why = why }) is h fails

pub shelf_faults_say : (files : Files) (name : Name) (old new : ℕ) (asked : Option Name) (fault : ShelfFault) (e : LoadFault) → Unheld files name old new asked fault → IsFaultBy (IsShelfFault name fault) e
    → IsFaultBy (λ f. (fails : Name → Bool) → Covers old new asked fails → Says files fails name (Err f)) e
shelf_faults_say files name old new asked fault NoMemory u h = tt
shelf_faults_say files name old new asked fault (Found file at why) u h = shelf_says files name old new asked fault (record { file = string_bytes file; at = at; why = why }) u h

pub shelf_faults_settle : (files : Files) (name : Name) (old new : ℕ) (asked : Option Name) (fault : ShelfFault) (e : LoadFault) → Unheld files name old new asked fault → IsFaultBy (IsShelfFault name fault) e
    → IsFaultBy (λ f. (fails : Name → Bool) → Covers old new asked fails → IsSettled files fails (Some name) (Err f)) e
shelf_faults_settle files name old new asked fault NoMemory u h = tt
shelf_faults_settle files name old new asked fault (Found file at why) u h = shelf_settles files name old new asked fault (record { file = string_bytes file; at = at; why = why }) u h
