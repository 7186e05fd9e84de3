-- What contracts see of what is kept of a settings file.
use Rattle.std.specs.Prelude.{ℕ, List, map, Vec, string_bytes}
use Rattle.std.specs.Global.{Global}
use Rattle.std.specs.Borrow.{Bor}
use Rattle.grammar_settings.specs.declared.lines.Entry.{Entry as KeptEntry}
use Rattle.grammar_settings.specs.Forms.{Word}
use Rattle.grammar_settings.specs.SettingsFiles.{Entry}

-- words as they are kept
abbrev pub words_in : List (Vec ℕ Global) → List Word
words_in ws = map (λ w. w.items) ws

abbrev pub words_at : Bor (List (Vec ℕ Global)) → List Word
words_at ws = words_in ws.now

abbrev pub entry_in : KeptEntry → Entry
entry_in e = record { name = string_bytes e.name; values = words_in e.values.items; line = e.line }

abbrev pub entries_in : List KeptEntry → List Entry
entries_in es = map entry_in es
