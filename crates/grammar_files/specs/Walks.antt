-- What the files of a grammar say, from the top file on: a relation to the definitions and addenda, or to the first fault.
use Rattle.std.specs.Prelude.{◌≡◌, ℕ, ◌-◌, ◌^◌, ◌<◌, ◌≤◌, ◌&&◌, nat_lt, min, Bool, true, false, List, [], ◌∷◌, ◌++◌, length, Option, None, Some, IfSome, Result, Ok, Err}
use Rattle.std.specs.Str.{bytes_eq}
use Rattle.lkb_io.specs.Shelves.{IsFile, IsLong}
use Rattle.tdl_lexer.specs.declared.Token.{Token}
use Rattle.tdl_lexer.specs.declared.LexFault.{LexFault}
use Rattle.tdl_lexer.specs.Readings.{Tokens}
use Rattle.tdl_reader.specs.declared.ReadFault.{ReadFault}
use Rattle.tdl_reader.specs.Reading.{IsReading, FirstFault}
use Rattle.tdl_reader.specs.Toks.{toks_of}
use Rattle.tdl_reader.specs.Trees.{StatementTree, includes}
use Rattle.grammar_files.specs.Placings.{PlacedTree}
use Rattle.grammar_files.specs.declared.environment.Environment.{Environment}
use Rattle.grammar_files.specs.declared.fault.Why.{Why}
use Rattle.grammar_files.specs.declared.fault.Why.TheVariants.{Settings, Shelf, TooLong, IncludeLoop, TooManyFiles, Lex, Read, Environment as OutOfPlace}
use Rattle.grammar_settings.specs.Forms.{Name, is_among}
use Rattle.grammar_files.specs.FileNames.{with_ending, included_in}
use Rattle.grammar_files.specs.Environments.{breaks, environment_after, placed_by, place_of, is_include, left_open}
use Rattle.grammar_files.specs.Faults.{FoundFault, place_of_lex, place_of_read}
use Rattle.grammar_settings.specs.Settled.{SettingsTree, settings_in, default_settings}

-- the file under each name, where the shelf tells its files
abbrev pub Files : Type 0
Files = Option (Name → Option (List ℕ))

-- This is the file under the name, where the files are told, and it isn't longer than 67,108,864 bytes.
abbrev pub IsText : Files → Name → List ℕ → Type 0
IsText files name text = IfSome files (λ f. IsFile (f name) text) × (length text ≤ 67108864)

abbrev pub IsTooLong : Files → Name → Type 0
IsTooLong files name = IfSome files (λ f. IsLong (f name))

abbrev pub fault_at : Name → ℕ → Why → FoundFault
fault_at file at why = record { file = file; at = at; why = why }

-- What a file says, read whole: its statements, or its first fault. `fails` tells at which names the shelf fails.
pub data Says (files : Files) (fails : Name → Bool) (name : Name) : Result (List StatementTree) FoundFault → Type 0 where
  fails_here : fails name ≡ true → Says files fails name (Err (fault_at name 0 Shelf))
  too_long : IsTooLong files name → Says files fails name (Err (fault_at name 0 TooLong))
  unlexed : (text : List ℕ) (ts : List Token) (e : LexFault) → IsText files name text → Tokens text ts (Some e)
      → Says files fails name (Err (fault_at name (place_of_lex e) (Lex e)))
  unread : (text : List ℕ) (ts : List Token) (e : ReadFault) → IsText files name text → Tokens text ts None → FirstFault (toks_of text ts) e
      → Says files fails name (Err (fault_at name (place_of_read text e) (Read e)))
  says : (text : List ℕ) (ts : List Token) (ss : List StatementTree) → IsText files name text → Tokens text ts None → IsReading (toks_of text ts) ss
      → Says files fails name (Ok ss)

-- What was met so far: definitions and addenda in order of writing, the files in order of reading, and the environment that is open.
pub record WalkState : Type 0 where
  pub placed : List PlacedTree
  pub files : List Name
  pub environment : Option Environment

abbrev pub after_statement : ℕ → WalkState → StatementTree → WalkState
after_statement file s x =
    record { placed = s.placed ++ placed_by file s.environment x; files = s.files; environment = environment_after file s.environment x }

abbrev pub with_file : WalkState → Name → WalkState
with_file s name = record { placed = s.placed; files = s.files ++ name ∷ []; environment = s.environment }

mutual
  -- A file is walked, within the files that are being walked already: it is read whole, and then its statements are taken
  -- in order. At most 1,024 files are read.
  pub data WalksFile (files : Files) (fails : Name → Bool) : List Name → WalkState → Name → Result WalkState FoundFault → Type 0 where
    loops : (within : List Name) (s : WalkState) (name : Name) → is_among within name ≡ true
        → WalksFile files fails within s name (Err (fault_at name 0 IncludeLoop))
    too_many : (within : List Name) (s : WalkState) (name : Name) → is_among within name ≡ false → 1024 ≤ length s.files
        → WalksFile files fails within s name (Err (fault_at name 0 TooManyFiles))
    unsaid : (within : List Name) (s : WalkState) (name : Name) (f : FoundFault) → is_among within name ≡ false → length s.files < 1024
        → Says files fails name (Err f) → WalksFile files fails within s name (Err f)
    said : (within : List Name) (s : WalkState) (name : Name) (ss : List StatementTree) (end : Result WalkState FoundFault)
        → is_among within name ≡ false → length s.files < 1024 → Says files fails name (Ok ss)
        → Walks files fails (within ++ name ∷ []) name (length s.files) (with_file s name) ss end → WalksFile files fails within s name end

  -- Statements of the file of this name and number are taken in order, an include where it stands.
  pub data Walks (files : Files) (fails : Name → Bool) : List Name → Name → ℕ → WalkState → List StatementTree → Result WalkState FoundFault → Type 0 where
    ends : (within : List Name) (name : Name) (file : ℕ) (s : WalkState) → left_open file s.environment ≡ None
        → Walks files fails within name file s [] (Ok s)
    ends_within : (within : List Name) (name : Name) (file : ℕ) (s : WalkState) (at : ℕ) → left_open file s.environment ≡ Some at
        → Walks files fails within name file s [] (Err (fault_at name at OutOfPlace))
    breaks_off : (within : List Name) (name : Name) (file : ℕ) (s : WalkState) (x : StatementTree) (xs : List StatementTree)
        → breaks s.environment x ≡ true → Walks files fails within name file s (x ∷ xs) (Err (fault_at name (place_of x) OutOfPlace))
    goes_on : (within : List Name) (name : Name) (file : ℕ) (s : WalkState) (x : StatementTree) (xs : List StatementTree) (end : Result WalkState FoundFault)
        → breaks s.environment x ≡ false → is_include x ≡ false → Walks files fails within name file (after_statement file s x) xs end
        → Walks files fails within name file s (x ∷ xs) end
    stops_within : (within : List Name) (name : Name) (file : ℕ) (s : WalkState) (included : Name) (at : ℕ) (xs : List StatementTree) (f : FoundFault)
        → WalksFile files fails within s (included_in name included) (Err f) → Walks files fails within name file s (includes included at ∷ xs) (Err f)
    follows : (within : List Name) (name : Name) (file : ℕ) (s next : WalkState) (included : Name) (at : ℕ) (xs : List StatementTree) (end : Result WalkState FoundFault)
        → WalksFile files fails within s (included_in name included) (Ok next) → Walks files fails within name file next xs end
        → Walks files fails within name file s (includes included at ∷ xs) end

-- What the settings are: the defaults, or what the settings file says.
pub data IsSettled (files : Files) (fails : Name → Bool) : Option Name → Result SettingsTree FoundFault → Type 0 where
  by_default : IsSettled files fails None (Ok default_settings)
  fails_there : (name : Name) → fails name ≡ true → IsSettled files fails (Some name) (Err (fault_at name 0 Shelf))
  too_long_there : (name : Name) → IsTooLong files name → IsSettled files fails (Some name) (Err (fault_at name 0 TooLong))
  out_of_form : (name : Name) (text : List ℕ) (line : ℕ) → IsText files name text → settings_in text ≡ Err line
      → IsSettled files fails (Some name) (Err (fault_at name line Settings))
  in_form : (name : Name) (text : List ℕ) (settings : SettingsTree) → IsText files name text → settings_in text ≡ Ok settings
      → IsSettled files fails (Some name) (Ok settings)

-- the settings, the definitions and addenda in order of writing, and the files in order of reading
pub record WalkedTree : Type 0 where
  pub settings : SettingsTree
  pub statements : List PlacedTree
  pub files : List Name

abbrev pub begun : WalkState
begun = record { placed = []; files = []; environment = None }

abbrev pub walked_with : SettingsTree → WalkState → WalkedTree
walked_with settings s = record { settings = settings; statements = s.placed; files = s.files }

-- What the files of a grammar say: the settings are read first, and then the files from the top one on.
pub data WalksTo (files : Files) (fails : Name → Bool) (top : Name) (settings : Option Name) : Result WalkedTree FoundFault → Type 0 where
  unsettled : (f : FoundFault) → IsSettled files fails settings (Err f) → WalksTo files fails top settings (Err f)
  unwalked : (t : SettingsTree) (f : FoundFault) → IsSettled files fails settings (Ok t) → WalksFile files fails [] begun (with_ending top) (Err f)
      → WalksTo files fails top settings (Err f)
  walked : (t : SettingsTree) (s : WalkState) → IsSettled files fails settings (Ok t) → WalksFile files fails [] begun (with_ending top) (Ok s)
      → WalksTo files fails top settings (Ok (walked_with t s))

-- whether the shelf's count of faults rose, and this is the name that it was asked for when it failed
abbrev pub has_failed : ℕ → ℕ → Option Name → Name → Bool
has_failed old new None name = false
has_failed old new (Some asked) name = nat_lt (min old (2 ^ 64 - 2)) new && bytes_eq asked name
