-- What the files say, part by part.
use Rattle.std.proofs.Common.{◌≡◌, ℕ, ◌≤◌, Bool, true, List, [], length, Option, None, Some, IfSome, Ok, Err, string_bytes, refl, sym, subst}
use Rattle.lkb_io.specs.Outside.{HasRisen}
use Rattle.lkb_io.specs.Shelves.{IsFile}
use Rattle.lkb_io.specs.declared.ShelfFault.{ShelfFault}
use Rattle.lkb_io.specs.declared.ShelfFault.TheVariants.{Failed, TooLong as ShelfTooLong, NoMemory as ShelfNoMemory}
use Rattle.grammar_settings.specs.Forms.{Name}
use Rattle.grammar_files.specs.declared.fault.LoadFault.{LoadFault}
use Rattle.grammar_files.specs.declared.fault.LoadFault.TheVariants.{NoMemory, Found}
use Rattle.grammar_files.specs.Faults.{FoundFault, IsFaultBy}
use Rattle.grammar_files.specs.Walks.{Files, has_failed, WalkedTree, WalksTo}
use Rattle.grammar_files.specs.TextViews.{IsShelfFault, Covers}
use Rattle.grammar_files.proofs.TextLemmas.{Unheld, has_failed-same}
use Rattle.grammar_files.proofs.WalkLemmas.{covers_later}
use Rattle.grammar_files.specs.Reads.{AreIrregular, no_file, fails_there, too_long, text, ReadsTo, unwalked, without_forms, reads}

asked_name : (old new : ℕ) (asked : Option Name) (name : Name) (fails : Name → Bool) → HasRisen old new → asked ≡ Some name → Covers old new asked fails → fails name ≡ true
asked_name old new asked name fails risen e covers = covers name (subst (λ a. has_failed old new a name ≡ true) (sym e) (has_failed-same old new name risen))

shelf_lacks : (files : Files) (name : Name) (old new : ℕ) (asked : Option Name) (fault : ShelfFault) (f : FoundFault) → Unheld files name old new asked fault → IsShelfFault name fault f
    → (fails : Name → Bool) → Covers old new asked fails → AreIrregular files fails (Some name) (Err f)
shelf_lacks files name old new asked Failed f u same fails covers = subst (λ k. AreIrregular files fails (Some name) (Err k)) (sym same) (fails_there name (asked_name old new asked name fails (u.failed refl) (u.asked_is refl) covers))
shelf_lacks files name old new asked ShelfTooLong f u same fails covers = subst (λ k. AreIrregular files fails (Some name) (Err k)) (sym same) (too_long name (u.long refl))
shelf_lacks files name old new asked ShelfNoMemory f u same fails covers = absurd same

pub shelf_faults_lack : (files : Files) (name : Name) (old new : ℕ) (asked : Option Name) (fault : ShelfFault) (e : LoadFault) → Unheld files name old new asked fault → IsFaultBy (IsShelfFault name fault) e
    → IsFaultBy (λ f. (fails : Name → Bool) → Covers old new asked fails → AreIrregular files fails (Some name) (Err f)) e
shelf_faults_lack files name old new asked fault NoMemory u h = tt
shelf_faults_lack files name old new asked fault (Found file at why) u h = shelf_lacks files name old new asked fault (record { file = string_bytes file; at = at; why = why }) u h

pub text_there : (files : Files) (name : Name) (items : List ℕ) → IfSome files (λ f. IsFile (f name) items) → length items ≤ 67108864 → (fails : Name → Bool) → AreIrregular files fails (Some name) (Ok items)
text_there files name items told bound fails = text name items (told, bound)

pub no_text : (files : Files) (name : Option Name) (items : List ℕ) → name ≡ None → items ≡ [] → (fails : Name → Bool) → AreIrregular files fails name (Ok items)
no_text files name items e f fails = subst (λ n. AreIrregular files fails n (Ok items)) (sym e) (subst (λ l. AreIrregular files fails None (Ok l)) (sym f) no_file)

-- a fault of the walk, and one of the irregular forms after it
pub walk_faults : (files : Files) (fails : Name → Bool) (top : Name) (settings : Option Name) (e : LoadFault) → IsFaultBy (λ f. WalksTo files fails top settings (Err f)) e → IsFaultBy (λ f. ReadsTo files fails top settings (Err f)) e
walk_faults files fails top settings NoMemory h = tt
walk_faults files fails top settings (Found file at why) h = unwalked (record { file = string_bytes file; at = at; why = why }) h

pub forms_faults : (files later : Files) (old mid new : ℕ) (asked : Option Name) (top : Name) (settings : Option Name) (w : WalkedTree) (e : LoadFault) → later ≡ files → old ≤ mid → WalksTo files (has_failed old new asked) top settings (Ok w)
    → IsFaultBy (λ f. (fails : Name → Bool) → Covers mid new asked fails → AreIrregular later fails w.settings.irregular_file (Err f)) e → IsFaultBy (λ f. ReadsTo files (has_failed old new asked) top settings (Err f)) e
forms_faults files later old mid new asked top settings w NoMemory same le walked h = tt
forms_faults files later old mid new asked top settings w (Found file at why) same le walked h =
    let f : FoundFault = record { file = string_bytes file; at = at; why = why } in
    let fails = has_failed old new asked in
    without_forms w f walked (subst (λ k. AreIrregular k fails w.settings.irregular_file (Err f)) same (h fails (covers_later old mid new asked fails le (λ name e. e))))

pub all_read : (files later : Files) (fails : Name → Bool) (top : Name) (settings : Option Name) (w : WalkedTree) (items : List ℕ) → later ≡ files → WalksTo files fails top settings (Ok w)
    → ((fails : Name → Bool) → AreIrregular later fails w.settings.irregular_file (Ok items)) → ReadsTo files fails top settings (Ok (record { walked = w; irregular = items }))
all_read files later fails top settings w items same walked h = reads w items walked (subst (λ k. AreIrregular k fails w.settings.irregular_file (Ok items)) same (h fails))
