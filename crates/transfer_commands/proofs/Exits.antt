-- Why nothing comes of the files, as the end of a run.
use Rattle.std.proofs.Common.{◌≡◌, ◌∙◌, ◌⊎◌, inl, inr, ℕ, refl, sym, ap, append-nil, List, [], ◌++◌, Bool, true, Option, None, Some, Result, Ok, Err, IfErr, string_bytes, subst}
use Rattle.tdl_reader.specs.Trees.{StatementTree}
use Rattle.grammar_settings.specs.Forms.{Name}
use Rattle.grammar_settings.specs.Settled.{SettingsTree}
use Rattle.grammar_files.specs.declared.fault.Why.TheVariants.{Shelf}
use Rattle.grammar_files.specs.declared.fault.LoadFault.{LoadFault}
use Rattle.grammar_files.specs.declared.fault.LoadFault.TheVariants.{NoMemory as LoadNoMemory, Found}
use Rattle.grammar_files.specs.Faults.{FoundFault, IsFaultBy}
use Rattle.grammar_files.specs.Walks.{Files, Says, IsSettled, has_failed as failed_at_walk, fault_at}
use Rattle.endings.specs.Meanings.{Shelves, Fails, has_failed}
use Rattle.endings.specs.Endings.{NotCome}
use Rattle.endings.specs.declared.Fault.{Fault}
use Rattle.endings.specs.declared.Fault.TheVariants.{Usage, Files as FilesFault, Stopped}
use Rattle.endings.specs.declared.Stop.TheVariants.{Read as ReadStop, TooLong as TooLongStop, TooMany, Write, Gaps, NoMemory}
use Rattle.command_files.specs.Shown.{AreShown, AreLines, IsFollowed, no_lines}
use Rattle.command_files.specs.Told.{told_of, IsToldAs}
use Rattle.command_files.proofs.ToldLemmas.{failed_same, shelf_or_not, of_shelf, told_on, told_by, followed_on, not_come}
use Rattle.transfer_rules.specs.Forms.{IsFirstOutside}
use Rattle.transfer_commands.specs.Faults.{form_text, told_of_form, IsFormShown, IsUnread, unread, out_of_form}
use Rattle.transfer_commands.specs.Transferring.{transfer_meaning}
use Rattle.transfer_commands.specs.Inner.{IsTold, IsToldWith, AreShownOf, IsToldIn, IsOutOfForm}
use Rattle.transfer_commands.proofs.OneFiles.{unread-tells, unread-moves}

pub if-err : {T E : Type 0} (r : Result T E) (P Q : E → Type 0) → ((e : E) → P e → Q e) → IfErr r P → IfErr r Q
if-err (Ok t) P Q f p = tt
if-err (Err e) P Q f p = f e p

none-file : {A : Type 0} (file : Name) → ◌≡◌ {A = Option Name} None (Some file) → A
none-file file e = cc

-- a fault of files that is told by its line, and by lines that show it or not
module _ (files : Files) (verbose : Bool) where
  abbrev Told : FoundFault → FoundFault → List ℕ → Type 0
  Told f g d = (g ≡ f) × AreShown verbose files g d

  none-told : (f : FoundFault) → Told f f []
  none-told f = (refl, no_lines)

  pub told-plain : (fault : LoadFault) (end : Fault) → IsToldAs fault end → IsToldIn verbose files fault end
  told-plain (Found file at why) end t =
      let f = fault_at (string_bytes file) at why in
      told_on (λ g d. Told f g [] × (d ≡ [])) (Told f) end (λ g d x. subst (Told f g) (sym x.1) x.0)
      (told_by (λ g. Told f g []) (Found file at why) end (none-told f) t)
  told-plain LoadNoMemory end t = told_on (λ g d. ⊥ × (d ≡ [])) (λ g d. ⊥) end (λ g d x. x.0) (told_by (λ g. ⊥) LoadNoMemory end tt t)

  pub told-followed : (fault : LoadFault) (line end : Fault) (shown : List ℕ) → verbose ≡ true → IsToldAs fault line → AreShownOf files fault shown → IsFollowed line shown end
      → IsToldIn verbose files fault end
  told-followed (Found file at why) line end shown on t are z =
      let f = fault_at (string_bytes file) at why in
      let own : AreShown verbose files f shown = subst (λ v. AreShown v files f shown) (sym on) are in
      followed_on (Told f) line end shown (told_by (λ g. Told f g [] × Told f g shown) (Found file at why) line (none-told f, (refl, own)) t) z
  told-followed LoadNoMemory line end shown on t are z = followed_on (λ g d. ⊥) line end shown (told_by (λ g. ⊥ × ⊥) LoadNoMemory line tt t) z

-- the line of a statement outside the form, and lines that show it or not
module _ (line : List ℕ) (P : List ℕ → Type 0) (none : P []) where
  pub form-plain : (end : Fault) → IsTold line end → IsToldWith line P end
  form-plain (FilesFault text) t = ([], none, t ∙ sym (append-nil line))
  form-plain (Stopped NoMemory) t = tt
  form-plain (Stopped ReadStop) t = absurd t
  form-plain (Stopped TooLongStop) t = absurd t
  form-plain (Stopped TooMany) t = absurd t
  form-plain (Stopped Write) t = absurd t
  form-plain (Stopped Gaps) t = absurd t
  form-plain (Usage text) t = absurd t

  pub form-followed : (told end : Fault) (more : List ℕ) → P more → IsTold line told → IsFollowed told more end → IsToldWith line P end
  form-followed (FilesFault text) (FilesFault longer) more p t (inl e) = (more, p, e ∙ ap (λ l. l ++ more) t)
  form-followed (FilesFault text) (FilesFault longer) more p t (inr e) = ([], none, e ∙ t ∙ sym (append-nil line))
  form-followed (FilesFault text) (Usage other) more p t e = absurd cc
  form-followed (FilesFault text) (Stopped stop) more p t e = absurd cc
  form-followed (Stopped NoMemory) end more p t e = subst (IsToldWith line P) (sym e) tt
  form-followed (Stopped ReadStop) end more p t e = absurd t
  form-followed (Stopped TooLongStop) end more p t e = absurd t
  form-followed (Stopped TooMany) end more p t e = absurd t
  form-followed (Stopped Write) end more p t e = absurd t
  form-followed (Stopped Gaps) end more p t e = absurd t
  form-followed (Usage text) end more p t e = absurd t

-- a statement outside the form, by how it is told
module _ (files : Files) (verbose : Bool) (name : Name) (ss : List StatementTree) (at : ℕ) (is : IsFirstOutside ss at) where
  pub out-of-form : (end : Fault) → IsToldWith (form_text name at) (AreLines verbose (IsFormShown files name at)) end → IsOutOfForm verbose files name ss end
  out-of-form (FilesFault text) t = (at, t.0, is, t.1, t.2)
  out-of-form (Stopped NoMemory) t = tt
  out-of-form (Stopped ReadStop) t = absurd t
  out-of-form (Stopped TooLongStop) t = absurd t
  out-of-form (Stopped TooMany) t = absurd t
  out-of-form (Stopped Write) t = absurd t
  out-of-form (Stopped Gaps) t = absurd t
  out-of-form (Usage text) t = absurd t

-- A fault of the files, as the run tells it once a file was read again to show it: `mid` and `asked` are what the shelf counted and was asked for
-- before.
module _ (h : Shelves) (mid : ℕ) (asked : Option Name) (name : Name) (settings : Option Name) (verbose : Bool) where
  abbrev AreAsThey : FoundFault → Type 0
  AreAsThey f = f.why ≡ Shelf → (h.faults_new ≡ mid) × (h.asked_new ≡ asked)

  abbrev IsUnreadThen : FoundFault → Type 0
  IsUnreadThen f = IsUnread name settings h.files (failed_at_walk h.faults_old mid asked) f

  unread-late : (f : FoundFault) → IsUnreadThen f → AreAsThey f → (f.why ≡ Shelf) ⊎ (f.why ≡ Shelf → ⊥) → IsUnread name settings h.files (has_failed h) f
  unread-late f x still (inl e) =
      let s = still e in
      subst (λ fails. IsUnread name settings h.files fails f) (failed_same h)
      (subst (λ n. IsUnread name settings h.files (failed_at_walk h.faults_old n h.asked_new) f) (sym s.0)
      (subst (λ a. IsUnread name settings h.files (failed_at_walk h.faults_old mid a) f) (sym s.1) x))
  unread-late f x still (inr none) = unread-moves h.files (failed_at_walk h.faults_old mid asked) (has_failed h) name settings f none x

  first : (f : FoundFault) (details : List ℕ) → IsUnreadThen f → AreAsThey f → AreShown verbose h.files f details → Fails (transfer_meaning name settings verbose) h (told_of f details)
  first f details x still shown =
      let is = unread-late f x still (shelf_or_not f.why) in
      (unread f details is shown, of_shelf h f details (unread-tells h.files (has_failed h) name settings f is))

  -- the settings or the statements aren't read
  pub not-read : (fault : LoadFault) (end : Fault) → IsFaultBy IsUnreadThen fault → IsFaultBy AreAsThey fault → IsToldIn verbose h.files fault end
      → NotCome (transfer_meaning name settings verbose) h end
  not-read (Found file at why) end x still t =
      let f = fault_at (string_bytes file) at why in
      not_come (transfer_meaning name settings verbose) h (λ g d. (g ≡ f) × AreShown verbose h.files g d)
      (λ g d y. first g d (subst IsUnreadThen (sym y.0) x) (subst AreAsThey (sym y.0) still) y.1) end t
  not-read LoadNoMemory end x still t = not_come (transfer_meaning name settings verbose) h (λ g d. ⊥) (λ g d y. absurd y) end t

-- they are read, and a statement is outside the form of rules
module _ (h : Shelves) (name : Name) (settings : Option Name) (verbose : Bool) where
  pub not-rules : (t : SettingsTree) (ss : List StatementTree) (end : Fault) → IsSettled h.files (has_failed h) settings (Ok t) → Says h.files (has_failed h) name (Ok ss)
      → IsOutOfForm verbose h.files name ss end → NotCome (transfer_meaning name settings verbose) h end
  not-rules t ss (FilesFault text) i s x = (told_of_form name x.0 x.1, (out_of_form t ss x.0 x.1 i s x.2 x.3, λ file e. none-file file e), x.4)
  not-rules t ss (Stopped NoMemory) i s x = tt
  not-rules t ss (Stopped ReadStop) i s x = absurd x
  not-rules t ss (Stopped TooLongStop) i s x = absurd x
  not-rules t ss (Stopped TooMany) i s x = absurd x
  not-rules t ss (Stopped Write) i s x = absurd x
  not-rules t ss (Stopped Gaps) i s x = absurd x
  not-rules t ss (Usage text) i s x = absurd x
