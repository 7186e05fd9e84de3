-- The entries of the lines of a settings file.
use Rattle.std.proofs.Common.{◌≡◌, ℕ, List, [], ◌∷◌, ◌++◌, Some, None, Result, Ok, Err, refl, ap, sym, append_assoc}
use Rattle.grammar_settings.specs.SettingsFiles.{Entry, after_line}

-- entries before those of the lines that follow
abbrev pub joined : List Entry → Result (List Entry) ℕ → Result (List Entry) ℕ
joined es (Ok fs) = Ok (es ++ fs)
joined es (Err n) = Err n

pub joined-entry : (es : List Entry) (e : Entry) (n : ℕ) (more : Result (List Entry) ℕ) → joined es (after_line n (Some (Some e)) more) ≡ joined (es ++ e ∷ []) more
joined-entry es e n (Ok fs) = ap Ok (sym (append_assoc es (e ∷ []) fs))
joined-entry es e n (Err k) = refl

pub joined-blank : (es : List Entry) (n : ℕ) (more : Result (List Entry) ℕ) → joined es (after_line n (Some None) more) ≡ joined es more
joined-blank es n (Ok fs) = refl
joined-blank es n (Err k) = refl

pub joined-fault : (es : List Entry) (n : ℕ) (more : Result (List Entry) ℕ) → joined es (after_line n None more) ≡ Err n
joined-fault es n more = refl
