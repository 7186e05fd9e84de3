-- Where the files are told, and the shelf fails at each name without a file, each top name has an outcome.
use Rattle.std.proofs.Common.{◌≡◌, ℕ, zero, suc, ◌+◌, ◌<◌, ◌≤◌, ◌⊎◌, inl, inr, Bool, true, false, List, [], ◌∷◌, ◌++◌, length, Option, Some, None, Result, Ok, Err, refl, ap, sym, ◌∙◌, subst, arith}
use Rattle.std.proofs.lemmas.Bool.{cases_lt}
use Rattle.std.proofs.lemmas.List.{length-append}
use Rattle.lkb_io.specs.Shelves.{IsLong}
use Rattle.tdl_lexer.specs.declared.Token.{Token}
use Rattle.tdl_lexer.specs.declared.LexFault.{LexFault}
use Rattle.tdl_lexer.specs.Readings.{Tokens}
use Rattle.tdl_reader.specs.declared.ReadFault.{ReadFault}
use Rattle.tdl_reader.specs.Reading.{IsReading, FirstFault}
use Rattle.tdl_reader.specs.Toks.{Tok, toks_of}
use Rattle.tdl_reader.specs.Trees.{StatementTree, defines, adds, begins, ends as end_of, includes, letters}
use Rattle.grammar_files.specs.declared.fault.Why.TheVariants.{Shelf, TooLong, IncludeLoop, TooManyFiles, Lex, Read, Settings as SettingsWhy, Environment as OutOfPlace}
use Rattle.grammar_files.specs.Environments.{breaks, is_include, left_open, place_of}
use Rattle.grammar_files.specs.Faults.{FoundFault, place_of_lex, place_of_read}
use Rattle.grammar_files.specs.FileNames.{included_in, with_ending}
use Rattle.grammar_settings.specs.Forms.{Name, is_among}
use Rattle.grammar_settings.specs.Settled.{SettingsTree, settings_in, default_settings}
use Rattle.grammar_files.specs.Walks.{Files, IsText, Says, fails_here, too_long, unlexed, unread, says, WalkState, with_file, after_statement, WalksFile, loops, too_many, unsaid, said, Walks, ends, ends_within, breaks_off, goes_on, stops_within, follows, IsSettled, by_default, fails_there, too_long_there, out_of_form, in_form, WalkedTree, WalksTo, unsettled, unwalked, walked, walked_with, begun, fault_at}

bools : (b : Bool) → (b ≡ true) ⊎ (b ≡ false)
bools true = inl refl
bools false = inr refl

-- each text has tokens or a first fault, and so have tokens a reading
pub record EachReading : Type 0 where
  pub lexed : (source : List ℕ) → (ts : List Token) × (end : Option LexFault) × Tokens source ts end
  pub read : (ts : List Tok) → ((ss : List StatementTree) × IsReading ts ss) ⊎ ((e : ReadFault) × FirstFault ts e)

-- no file is taken back
abbrev Grows : WalkState → Result WalkState FoundFault → Type 0
Grows s (Ok next) = length s.files ≤ length next.files
Grows s (Err f) = Unit {0}

grows_from : (s next : WalkState) (r : Result WalkState FoundFault) → length s.files ≤ length next.files → Grows next r → Grows s r
grows_from s next (Ok t) a b = omega (arith, a, b)
grows_from s next (Err f) a b = tt

entered : (s : WalkState) (name : Name) → length (with_file s name).files ≡ suc (length s.files)
entered s name = length-append s.files (name ∷ []) ∙ omega arith

mutual
  file_grows : (files : Files) (p : Name → Bool) (within : List Name) (s : WalkState) (name : Name) (r : Result WalkState FoundFault) → WalksFile files p within s name r → Grows s r
  file_grows files p within s name r (loops _ _ _ among) = tt
  file_grows files p within s name r (too_many _ _ _ new full) = tt
  file_grows files p within s name r (unsaid _ _ _ f new room say) = tt
  file_grows files p within s name r (said _ _ _ ss end new room say w) = grows_from s (with_file s name) end (omega (arith, entered s name)) (walks_grow files p _ name _ _ ss end w)

  walks_grow : (files : Files) (p : Name → Bool) (within : List Name) (name : Name) (file : ℕ) (s : WalkState) (xs : List StatementTree) (r : Result WalkState FoundFault) → Walks files p within name file s xs r → Grows s r
  walks_grow files p within name file s xs r (ends _ _ _ _ none) = omega arith
  walks_grow files p within name file s xs r (ends_within _ _ _ _ at some) = tt
  walks_grow files p within name file s xs r (breaks_off _ _ _ _ y ys b) = tt
  walks_grow files p within name file s xs r (goes_on _ _ _ _ y ys end b i w) = walks_grow files p within name file (after_statement file s y) ys end w
  walks_grow files p within name file s xs r (stops_within _ _ _ _ included at ys f w) = tt
  walks_grow files p within name file s xs r (follows _ _ _ _ next included at ys end w v) = grows_from s next end (file_grows files p within s _ (Ok next) w) (walks_grow files p within name file next ys end v)

module _ (each : EachReading) (f : Name → Option (List ℕ)) (fails : Name → Bool) (missing : (name : Name) → f name ≡ None → fails name ≡ true) where
  abbrev SaysOne : Name → Type 0
  SaysOne name = (r : Result (List StatementTree) FoundFault) × Says (Some f) fails name r

  abbrev FileOne : List Name → WalkState → Name → Type 0
  FileOne within s name = (r : Result WalkState FoundFault) × WalksFile (Some f) fails within s name r

  abbrev WalkOne : List Name → Name → ℕ → WalkState → List StatementTree → Type 0
  WalkOne within name file s xs = (r : Result WalkState FoundFault) × Walks (Some f) fails within name file s xs r

  says_each : (name : Name) → SaysOne name
  says_each name = go (f name) refl
    where
      parsed : (text : List ℕ) (ts : List Token) → IsText (Some f) name text → Tokens text ts None
          → ((ss : List StatementTree) × IsReading (toks_of text ts) ss) ⊎ ((e : ReadFault) × FirstFault (toks_of text ts) e) → SaysOne name
      parsed text ts is t (inl r) = (Ok r.0, says text ts r.0 is t r.1)
      parsed text ts is t (inr r) = (Err (fault_at name (place_of_read text r.0) (Read r.0)), unread text ts r.0 is t r.1)

      cut : (text : List ℕ) (ts : List Token) (end : Option LexFault) → IsText (Some f) name text → Tokens text ts end → SaysOne name
      cut text ts None is t = parsed text ts is t (each.read (toks_of text ts))
      cut text ts (Some e) is t = (Err (fault_at name (place_of_lex e) (Lex e)), unlexed text ts e is t)

      sized : (text : List ℕ) → f name ≡ Some text → (67108864 < length text) ⊎ (length text ≤ 67108864) → SaysOne name
      sized text e (inl l) = (Err (fault_at name 0 TooLong), too_long (subst IsLong (sym e) l))
      sized text e (inr l) = let t = each.lexed text in cut text t.0 t.1 (e, l) t.2

      go : (o : Option (List ℕ)) → f name ≡ o → SaysOne name
      go None e = (Err (fault_at name 0 Shelf), fails_here (missing name e))
      go (Some text) e = sized text e (cases_lt 67108864 (length text))

  -- the statements of a file are walked, where so many files more may be read and each has an outcome
  walks_each : (n : ℕ) → ((within : List Name) (s : WalkState) (name : Name) → 1024 ≤ length s.files + n → FileOne within s name)
      → (within : List Name) (name : Name) (file : ℕ) (s : WalkState) (xs : List StatementTree) → 1024 ≤ length s.files + n → WalkOne within name file s xs
  walks_each n files within name file s [] h = go (left_open file s.environment) refl
    where
      go : (o : Option ℕ) → left_open file s.environment ≡ o → WalkOne within name file s []
      go None e = (Ok s, ends within name file s e)
      go (Some at) e = (Err (fault_at name at OutOfPlace), ends_within within name file s at e)
  walks_each n files within name file s (x ∷ xs) h = go (bools (breaks s.environment x)) (λ t g. walks_each n files within name file t xs g)
    where
      Later : Type 0
      Later = (t : WalkState) → 1024 ≤ length t.files + n → WalkOne within name file t xs

      plain : Later → (is_include x ≡ false) → breaks s.environment x ≡ false → WalkOne within name file s (x ∷ xs)
      plain later i b = let w = later (after_statement file s x) h in (w.0, goes_on within name file s x xs w.0 b i w.1)

      followed : Later → (included : Name) (at : ℕ) (r : Result WalkState FoundFault) → WalksFile (Some f) fails within s (included_in name included) r → WalkOne within name file s (includes included at ∷ xs)
      followed later included at (Err e) v = (Err e, stops_within within name file s included at xs e v)
      followed later included at (Ok next) v =
          let more : length s.files ≤ length next.files = file_grows (Some f) fails within s (included_in name included) (Ok next) v in
          let w = later next (omega (arith, h, more)) in (w.0, follows within name file s next included at xs w.0 v w.1)

      taken : Later → (y : StatementTree) → x ≡ y → breaks s.environment x ≡ false → WalkOne within name file s (x ∷ xs)
      taken later (defines n at affix body) e b = plain later (ap is_include e) b
      taken later (adds n at body) e b = plain later (ap is_include e) b
      taken later (begins status at) e b = plain later (ap is_include e) b
      taken later (end_of instance at) e b = plain later (ap is_include e) b
      taken later (letters set at) e b = plain later (ap is_include e) b
      taken later (includes included at) e b =
          let v = files within s (included_in name included) h in subst (λ y. WalkOne within name file s (y ∷ xs)) (sym e) (followed later included at v.0 v.1)

      go : (breaks s.environment x ≡ true) ⊎ (breaks s.environment x ≡ false) → Later → WalkOne within name file s (x ∷ xs)
      go (inl b) later = (Err (fault_at name (place_of x) OutOfPlace), breaks_off within name file s x xs b)
      go (inr b) later = taken later x refl b

  -- a file has an outcome, if it has one where its statements are known
  file_by : (within : List Name) (s : WalkState) (name : Name)
      → ((ss : List StatementTree) → is_among within name ≡ false → length s.files < 1024 → Says (Some f) fails name (Ok ss) → FileOne within s name) → FileOne within s name
  file_by within s name walk = go (bools (is_among within name)) (cases_lt (length s.files) 1024)
    where
      read : is_among within name ≡ false → length s.files < 1024 → (r : Result (List StatementTree) FoundFault) → Says (Some f) fails name r → FileOne within s name
      read new room (Err e) say = (Err e, unsaid within s name e new room say)
      read new room (Ok ss) say = walk ss new room say

      go : (is_among within name ≡ true) ⊎ (is_among within name ≡ false) → (length s.files < 1024) ⊎ (1024 ≤ length s.files) → FileOne within s name
      go (inl among) c = (Err (fault_at name 0 IncludeLoop), loops within s name among)
      go (inr new) (inr full) = (Err (fault_at name 0 TooManyFiles), too_many within s name new full)
      go (inr new) (inl room) = let r = says_each name in read new room r.0 r.1

  file_each : (n : ℕ) (within : List Name) (s : WalkState) (name : Name) → 1024 ≤ length s.files + n → FileOne within s name
  file_each zero within s name h = file_by within s name (λ ss new room say. absurd (omega (arith, h, room)))
  file_each (suc n) within s name h =
      file_by within s name (λ ss new room say.
      let w = walks_each n (file_each n) (within ++ name ∷ []) name (length s.files) (with_file s name) ss (omega (arith, h, entered s name)) in
      (w.0, said within s name ss w.0 new room say w.1))

  abbrev SettledOne : Option Name → Type 0
  SettledOne name = (r : Result SettingsTree FoundFault) × IsSettled (Some f) fails name r

  settled_each : (name : Option Name) → SettledOne name
  settled_each None = (Ok default_settings, by_default)
  settled_each (Some name) = go (f name) refl
    where
      formed : (text : List ℕ) (r : Result SettingsTree ℕ) → IsText (Some f) name text → settings_in text ≡ r → SettledOne (Some name)
      formed text (Ok t) is e = (Ok t, in_form name text t is e)
      formed text (Err line) is e = (Err (fault_at name line SettingsWhy), out_of_form name text line is e)

      sized : (text : List ℕ) → f name ≡ Some text → (67108864 < length text) ⊎ (length text ≤ 67108864) → SettledOne (Some name)
      sized text e (inl l) = (Err (fault_at name 0 TooLong), too_long_there name (subst IsLong (sym e) l))
      sized text e (inr l) = formed text (settings_in text) (e, l) refl

      go : (o : Option (List ℕ)) → f name ≡ o → SettledOne (Some name)
      go None e = (Err (fault_at name 0 Shelf), fails_there name (missing name e))
      go (Some text) e = sized text e (cases_lt 67108864 (length text))

  abbrev OutcomeOne : Name → Option Name → Type 0
  OutcomeOne top settings = (r : Result WalkedTree FoundFault) × WalksTo (Some f) fails top settings r

  pub outcome_each : (top : Name) (settings : Option Name) → OutcomeOne top settings
  outcome_each top settings = let t = settled_each settings in go t.0 t.1
    where
      walks : (t : SettingsTree) (r : Result WalkState FoundFault) → IsSettled (Some f) fails settings (Ok t) → WalksFile (Some f) fails [] begun (with_ending top) r → OutcomeOne top settings
      walks t (Err e) i w = (Err e, unwalked t e i w)
      walks t (Ok s) i w = (Ok (walked_with t s), walked t s i w)

      go : (r : Result SettingsTree FoundFault) → IsSettled (Some f) fails settings r → OutcomeOne top settings
      go (Err e) i = (Err e, unsettled e i)
      go (Ok t) i = let w = file_each 1024 [] begun (with_ending top) (omega arith) in walks t w.0 i w.1
