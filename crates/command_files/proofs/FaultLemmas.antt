-- The faults of a grammar's files as those of a run, and their texts.
use Rattle.std.proofs.Common.{◌≡◌, ◌∙◌, ℕ, List, [], ◌∷◌, ◌++◌, codes, string_bytes, if◌then◌else◌, Option, Some, ◌⊎◌, inl, inr, Bool, true, Result, Err, refl, ap, sym, subst}
use Rattle.std.specs.Fmt.{decimal}
use Rattle.lkb_io.specs.Outside.{HasRisen}
use Rattle.type_hierarchy.specs.declared.decl.TypeFault.{TypeFault}
use Rattle.type_hierarchy.specs.declared.decl.TypeFault.TheVariants.{Duplicate, Unknown, Cycle, Reserved, TooMany as TooManyWritten, NoMemory as TypeNoMemory}
use Rattle.grammar_files.specs.declared.expand_fault.ExpandFault.{ExpandFault}
use Rattle.grammar_files.specs.declared.expand_fault.ExpandFault.TheVariants.{UnknownName, NoIntro, Intro, NoStructure, NoMemory as ExpandNoMemory}
use Rattle.grammar_files.specs.declared.fault.Why.{Why}
use Rattle.grammar_files.specs.declared.fault.Why.TheVariants.{Shelf, Typing, Expand}
use Rattle.grammar_files.specs.declared.fault.LoadFault.{LoadFault}
use Rattle.grammar_files.specs.declared.fault.LoadFault.TheVariants.{NoMemory as LoadNoMemory, Found}
use Rattle.grammar_files.specs.Faults.{FoundFault, IsFaultBy}
use Rattle.grammar_files.specs.Walks.{Files, has_failed as failed_at_walk, fault_at}
use Rattle.grammar_types.specs.Typings.{IsSameTypeFault, IsSameWhy}
use Rattle.command_files.specs.FaultTexts.{type_fault_words, expand_fault_words, feature_name, why_words, has_place, place_text, cause_text, found_text, spaced}
use Rattle.endings.specs.Meanings.{Meaning, Shelves, FileFault, has_failed}
use Rattle.endings.specs.Endings.{NotCome}
use Rattle.endings.specs.declared.Fault.{Fault}
use Rattle.endings.specs.declared.Fault.TheVariants.{Usage, Files as FilesFault, Stopped}
use Rattle.endings.specs.declared.Stop.TheVariants.{Read as ReadStop, TooLong as TooLongStop, TooMany, Write, Gaps, NoMemory}
use Rattle.command_files.specs.Told.{never, told_of, IsOfShelf, IsToldAs}
use Rattle.command_files.specs.Shown.{IsShown, IsFollowed, no_lines, lines}
use Rattle.command_files.proofs.ToldLemmas.{failed_same, shelf_told, shelf_or_not, of_shelf, told_on, told_by, followed_on}
use Rattle.fault_details.specs.Further.{IsFurther}
use Rattle.grammar_load.specs.Loaded.{GrammarTree}
use Rattle.grammar_load.specs.Loads.{Loads}
use Rattle.grammar_load.specs.Outcomes.{IsSameExpandFault, IsSameCause, IsSameOutcome}
use Rattle.command_files.specs.Grammars.{AreDetails, place, whole, IsFirstFault, LacksGrammar}
use Rattle.command_files.specs.Views.{AreDetailsOf, IsMoreOf, IsToldIn}

abbrev AtShelf : Type 0
AtShelf = (files : Option (List ℕ → Option (List ℕ))) (fails : List ℕ → Bool) (name : List ℕ) (settings : Option (List ℕ)) (f : FoundFault) → Loads files fails name settings (Err f) → f.why ≡ Shelf → fails f.file ≡ true

abbrev Calm : Type 0
Calm = (files : Option (List ℕ → Option (List ℕ))) (fails other : List ℕ → Bool) (name : List ℕ) (settings : Option (List ℕ)) (f : FoundFault) → (f.why ≡ Shelf → ⊥) → Loads files fails name settings (Err f) → Loads files other name settings (Err f)

-- a fault of the files, as the run tells it once files were read again for its details
first_late : AtShelf → Calm → (h : Shelves) (mid : ℕ) (asked : Option (List ℕ)) (name : List ℕ) (settings : Option (List ℕ)) (verbose : Bool) (f : FoundFault) (d : List ℕ)
    → Loads h.files (failed_at_walk h.faults_old mid asked) name settings (Err f) → (f.why ≡ Shelf → (h.faults_new ≡ mid) × (h.asked_new ≡ asked)) → AreDetails verbose h.files name settings f d
    → IsFirstFault name settings verbose h.files (has_failed h) (told_of f d) × IsOfShelf h (told_of f d)
first_late shelf calm h mid asked name settings verbose f d x still details =
    let is = go (shelf_or_not f.why) in
    ((f, d, is, details, refl), of_shelf h f d (λ e. shelf h.files (has_failed h) name settings f is e))
  where
    go : (f.why ≡ Shelf) ⊎ (f.why ≡ Shelf → ⊥) → Loads h.files (has_failed h) name settings (Err f)
    go (inl e) =
        let s = still e in
        subst (λ fails. Loads h.files fails name settings (Err f)) (failed_same h)
        (subst (λ n. Loads h.files (failed_at_walk h.faults_old n h.asked_new) name settings (Err f)) (sym s.0)
        (subst (λ a. Loads h.files (failed_at_walk h.faults_old mid a) name settings (Err f)) (sym s.1) x))
    go (inr none) = calm h.files (failed_at_walk h.faults_old mid asked) (has_failed h) name settings f none x

pub by_on : (P Q : FoundFault → Type 0) (fault : LoadFault) → ((f : FoundFault) → P f → Q f) → IsFaultBy P fault → IsFaultBy Q fault
by_on P Q (Found file at why) to x = to (fault_at (string_bytes file) at why) x
by_on P Q LoadNoMemory to x = tt

module _ (shelf : AtShelf) (calm : Calm) (h : Shelves) (mid : ℕ) (asked : Option (List ℕ)) (name : List ℕ) (settings : Option (List ℕ)) (verbose : Bool) where
  abbrev AreAsThey : FoundFault → Type 0
  AreAsThey f = f.why ≡ Shelf → (h.faults_new ≡ mid) × (h.asked_new ≡ asked)

  abbrev AreLoaded : FoundFault → Type 0
  AreLoaded f = Loads h.files (failed_at_walk h.faults_old mid asked) name settings (Err f)

  -- why there is no grammar, where this fault was told by its line and its details
  pub lacks_in : (fault : LoadFault) (end : Fault) → IsFaultBy AreLoaded fault → IsFaultBy AreAsThey fault → IsToldIn verbose h.files name settings fault end → LacksGrammar h name settings verbose end
  lacks_in (Found file at why) (FilesFault text) x still t =
      let f = fault_at (string_bytes file) at why in
      let details = subst (λ g. AreDetails verbose h.files name settings g t.1) t.2.0 t.2.1 in
      let z = first_late shelf calm h mid asked name settings verbose f t.1 x still details in
      (told_of f t.1, z.0, z.1, t.3 ∙ ap (λ g. found_text g ++ t.1) t.2.0)
  lacks_in LoadNoMemory (FilesFault text) x still t = absurd t.2
  lacks_in fault (Stopped NoMemory) x still t = tt
  lacks_in (Found file at why) (Usage text) x still t = absurd t
  lacks_in (Found file at why) (Stopped ReadStop) x still t = absurd t
  lacks_in (Found file at why) (Stopped TooLongStop) x still t = absurd t
  lacks_in (Found file at why) (Stopped TooMany) x still t = absurd t
  lacks_in (Found file at why) (Stopped Write) x still t = absurd t
  lacks_in (Found file at why) (Stopped Gaps) x still t = absurd t
  lacks_in LoadNoMemory (Usage text) x still t = absurd t
  lacks_in LoadNoMemory (Stopped ReadStop) x still t = absurd t
  lacks_in LoadNoMemory (Stopped TooLongStop) x still t = absurd t
  lacks_in LoadNoMemory (Stopped TooMany) x still t = absurd t
  lacks_in LoadNoMemory (Stopped Write) x still t = absurd t
  lacks_in LoadNoMemory (Stopped Gaps) x still t = absurd t

module _ (files : Files) (name : List ℕ) (settings : Option (List ℕ)) (verbose : Bool) where
  abbrev Told : FoundFault → FoundFault → List ℕ → Type 0
  Told f g d = (g ≡ f) × AreDetails verbose files name settings g d

  none_told : (f : FoundFault) → Told f f []
  none_told f = (refl, place [] no_lines)

  -- what is told by its line alone
  pub told_plain : (fault : LoadFault) (end : Fault) → IsToldAs fault end → IsToldIn verbose files name settings fault end
  told_plain (Found file at why) end t =
      let f = fault_at (string_bytes file) at why in
      told_on (λ g d. (Told f g []) × (d ≡ [])) (Told f) end (λ g d x. subst (Told f g) (sym x.1) x.0)
      (told_by (λ g. Told f g []) (Found file at why) end (none_told f) t)
  told_plain LoadNoMemory end t = told_on (λ g d. ⊥ × (d ≡ [])) (λ g d. ⊥) end (λ g d x. x.0) (told_by (λ g. ⊥) LoadNoMemory end tt t)

  -- what is followed by its details
  pub told_followed : (fault : LoadFault) (line end : Fault) (details : List ℕ) → verbose ≡ true → IsToldAs fault line → AreDetailsOf files name settings fault details
      → IsFollowed line details end → IsToldIn verbose files name settings fault end
  told_followed (Found file at why) line end details on t are z =
      let f = fault_at (string_bytes file) at why in
      let own : AreDetails verbose files name settings f details = subst (λ v. AreDetails v files name settings f details) (sym on) are in
      followed_on (Told f) line end details (told_by (λ g. Told f g [] × Told f g details) (Found file at why) line (none_told f, (refl, own)) t) z
  told_followed LoadNoMemory line end details on t are z = followed_on (λ g d. ⊥) line end details (told_by (λ g. ⊥ × ⊥) LoadNoMemory line tt t) z

  -- lines that are followed by these, or by none
  pub more_from : (why : Why) (shown more words all : List ℕ) → words ≡ more → IsFurther files name settings why more → (all ≡ shown ++ words) ⊎ (all ≡ shown) → IsMoreOf files name settings why shown all
  more_from why shown more words all same is (inl e) = inl (more, is, e ∙ ap (λ w. shown ++ w) same)
  more_from why shown more words all same is (inr e) = inr e

  -- the lines that show a fault, followed by more or not
  pub details_with : (f : FoundFault) (shown all : List ℕ) → verbose ≡ true → IsShown files f shown → IsMoreOf files name settings f.why shown all → AreDetails verbose files name settings f all
  details_with f shown all on is (inl x) = subst (AreDetails verbose files name settings f) (sym x.2) (whole shown x.0 on is x.1)
  details_with f shown all on is (inr e) = subst (AreDetails verbose files name settings f) (sym e) (place shown (lines shown on is))

-- for a command whose first fault is that of its grammar's files, nothing came of them
pub not_come : (m : Meaning) (h : Shelves) (name : List ℕ) (settings : Option (List ℕ)) (verbose : Bool)
    → ((fault : FileFault) → IsFirstFault name settings verbose h.files (has_failed h) fault → m.first h.files (has_failed h) fault)
    → (end : Fault) → LacksGrammar h name settings verbose end → NotCome m h end
not_come m h name settings verbose to (FilesFault text) x = (x.0, (to x.0 x.1, x.2), x.3)
not_come m h name settings verbose to (Stopped NoMemory) x = tt
not_come m h name settings verbose to (Usage text) x = absurd x
not_come m h name settings verbose to (Stopped ReadStop) x = absurd x
not_come m h name settings verbose to (Stopped TooLongStop) x = absurd x
not_come m h name settings verbose to (Stopped TooMany) x = absurd x
not_come m h name settings verbose to (Stopped Write) x = absurd x
not_come m h name settings verbose to (Stopped Gaps) x = absurd x

-- where the shelf counts no fault, the fault is the first
pub calm_first : Calm → (h : Shelves) (name : List ℕ) (settings : Option (List ℕ)) (verbose : Bool) (fault : FileFault) → IsFirstFault name settings verbose h.files (has_failed h) fault → IsOfShelf h fault
    → (HasRisen h.faults_old h.faults_new → ⊥) → IsFirstFault name settings verbose h.files never fault
calm_first calm h name settings verbose fault x risen none =
    let no_shelf = λ (e : x.0.why ≡ Shelf). none (risen x.0.file (ap (λ (f : FileFault). f.failed) x.4 ∙ shelf_told x.0.why x.0.file e)).0 in
    (x.0, x.1, calm h.files (has_failed h) never name settings x.0 no_shelf x.2, x.3, x.4)

-- the same fault has the same text
same_type_words : (a b : TypeFault) → IsSameTypeFault a b → type_fault_words a ≡ type_fault_words b
same_type_words (Duplicate a) (Duplicate b) h = ap (λ n. codes "Duplicate" ∷ n ∷ []) h
same_type_words (Unknown a p) (Unknown b q) h = ap (λ n. codes "Unknown" ∷ n ∷ string_bytes p ∷ []) h.0 ∙ ap (λ n. codes "Unknown" ∷ string_bytes b ∷ n ∷ []) h.1
same_type_words (Cycle a) (Cycle b) h = ap (λ n. codes "Cycle" ∷ n ∷ []) h
same_type_words (Reserved a) (Reserved b) h = ap (λ n. codes "Reserved" ∷ n ∷ []) h
same_type_words (TooManyWritten a) (TooManyWritten b) h = ap (λ n. codes "TooMany" ∷ decimal n ∷ []) h
same_type_words TypeNoMemory TypeNoMemory h = refl
same_type_words a b h = absurd h

same_expand_words : (a b : ExpandFault) → IsSameExpandFault a b → expand_fault_words a ≡ expand_fault_words b
same_expand_words (UnknownName a at k) (UnknownName b on j) h = ap (λ n. codes "UnknownName" ∷ n ∷ []) h.0
same_expand_words (NoIntro f at k) (NoIntro g on j) h = ap (λ n. codes "NoIntro" ∷ feature_name n ∷ []) h.0
same_expand_words (Intro f a b k) (Intro g c d j) h =
    ap (λ n. codes "Intro" ∷ feature_name n ∷ string_bytes a ∷ string_bytes b ∷ []) h.0
    ∙ (ap (λ n. codes "Intro" ∷ feature_name (string_bytes g) ∷ n ∷ string_bytes b ∷ []) h.1 ∙ ap (λ n. codes "Intro" ∷ feature_name (string_bytes g) ∷ string_bytes c ∷ n ∷ []) h.2)
same_expand_words (NoStructure a k) (NoStructure b j) h = ap (λ n. codes "NoStructure" ∷ n ∷ []) h.0
same_expand_words ExpandNoMemory ExpandNoMemory h = refl
same_expand_words a b h = absurd h

same_why : (a b : Why) → IsSameWhy a b → (why_words a ≡ why_words b) × (has_place a ≡ has_place b)
same_why (Typing a) (Typing b) h = (same_type_words a b h, refl)
same_why a b h = (ap why_words h, ap has_place h)

same_cause : (a b : Why) → IsSameCause a b → (why_words a ≡ why_words b) × (has_place a ≡ has_place b)
same_cause (Expand a) (Expand b) h = (same_expand_words a b h, refl)
same_cause a b h = same_why a b h

same_text : (f g : FoundFault) → (f.file ≡ g.file) × (f.at ≡ g.at) × IsSameCause f.why g.why → found_text f ≡ found_text g
same_text f g h =
    let words = same_cause f.why g.why h.2 in
    ap (λ n. (codes "lkb: " ++ n) ++ (place_text f.why f.at ++ cause_text f.why)) h.0
    ∙ ap (λ b. (codes "lkb: " ++ g.file) ++ ((if b then 58 ∷ decimal f.at else []) ++ cause_text f.why)) words.1
    ∙ ap (λ n. (codes "lkb: " ++ g.file) ++ ((if has_place g.why then 58 ∷ decimal n else []) ++ cause_text f.why)) h.1
    ∙ ap (λ ws. (codes "lkb: " ++ g.file) ++ (place_text g.why g.at ++ (codes ":" ++ (spaced ws ++ 10 ∷ [])))) words.0

abbrev OneLoad : Type 0
OneLoad = (files : List ℕ → Option (List ℕ)) (name : List ℕ) (settings : Option (List ℕ)) (r q : Result GrammarTree FoundFault) → Loads (Some files) never name settings r → Loads (Some files) never name settings q → IsSameOutcome r q

pub fault_one : OneLoad → (files : List ℕ → Option (List ℕ)) (name : List ℕ) (settings : Option (List ℕ)) (verbose : Bool) (f g : FileFault)
    → IsFirstFault name settings verbose (Some files) never f → IsFirstFault name settings verbose (Some files) never g → f.text ≡ g.text
fault_one one files name settings verbose f g a b =
    ap (λ (x : FileFault). x.text) a.4 ∙ same_text a.0 b.0 (one files name settings (Err a.0) (Err b.0) a.2 b.2) ∙ sym (ap (λ (x : FileFault). x.text) b.4)
