-- Told files say one thing where the shelf doesn't fail, and what files say hangs on the faults of the shelf only where it tells one.
use Rattle.std.proofs.Common.{◌≡◌, ℕ, Bool, true, false, List, [], Option, Some, None, Result, Ok, Err, refl, ap, sym, ◌∙◌, subst, arith}
use Rattle.tdl_lexer.specs.declared.Token.{Token}
use Rattle.tdl_lexer.specs.declared.LexFault.{LexFault}
use Rattle.tdl_lexer.specs.Readings.{Tokens}
use Rattle.tdl_reader.specs.Reading.{IsReading, FirstFault}
use Rattle.tdl_reader.specs.Toks.{toks_of}
use Rattle.tdl_reader.specs.Trees.{StatementTree}
use Rattle.grammar_settings.specs.Forms.{Name}
use Rattle.grammar_settings.specs.Settled.{SettingsTree, settings_in}
use Rattle.grammar_files.specs.declared.fault.Why.TheVariants.{Shelf}
use Rattle.grammar_files.specs.Faults.{FoundFault}
use Rattle.grammar_files.specs.Walks.{Files, Says, fails_here, too_long, unlexed, unread as unread_here, says, WalkState, begun, unsaid as unsaid_here, IsSettled, by_default, fails_there, too_long_there, out_of_form as settings_out_of_form, in_form, WalkedTree, unsettled as unsettled_walk}
use Rattle.grammar_files.proofs.OneLemmas.{OneReading, file_one, outcome_one}
use Rattle.command_files.specs.Told.{never}
use Rattle.command_files.proofs.TextLemmas.{same_text, long_text}
use Rattle.transfer_commands.specs.Faults.{IsUnread, unsettled, unsaid}

false-true : false ≡ true → ⊥
false-true e = cc

none-some : {A : Type 0} (x : A) → None ≡ Some x → ⊥
none-some x e = cc

err-same : (f g : FoundFault) → ◌≡◌ {A = Result WalkState FoundFault} (Err f) (Err g) → f ≡ g
err-same f g e = cc

walk-err-same : (f g : FoundFault) → ◌≡◌ {A = Result WalkedTree FoundFault} (Err f) (Err g) → f ≡ g
walk-err-same f g e = cc

tree-same : (a b : List ℕ) (t u : SettingsTree) → a ≡ b → settings_in a ≡ Ok t → settings_in b ≡ Ok u → t ≡ u
tree-same a b t u e p q = let k : ◌≡◌ {A = Result SettingsTree ℕ} (Ok t) (Ok u) = sym p ∙ ap settings_in e ∙ q in cc

tree-or-line : (a b : List ℕ) (t : SettingsTree) (n : ℕ) → a ≡ b → settings_in a ≡ Ok t → settings_in b ≡ Err n → ⊥
tree-or-line a b t n e p q = let k : ◌≡◌ {A = Result SettingsTree ℕ} (Ok t) (Err n) = sym p ∙ ap settings_in e ∙ q in cc

module _ (one : OneReading) (f : Name → Option (List ℕ)) where
  -- texts that are one have the same tokens and end
  toks-same : (a b : List ℕ) (ts us : List Token) (d e : Option LexFault) → a ≡ b → Tokens a ts d → Tokens b us e → (toks_of b us ≡ toks_of a ts) × (d ≡ e)
  toks-same a b ts us d e x t u =
      let both = one.lexed a ts us d e t (subst (λ z. Tokens z us e) (sym x) u) in
      let tokens : ts ≡ us = both.0 in
      let toks : toks_of b us ≡ toks_of a ts = cc in
      (toks, both.1)

  pub said-one : (name : Name) (ss us : List StatementTree) → Says (Some f) never name (Ok ss) → Says (Some f) never name (Ok us) → ss ≡ us
  said-one name ss us (says a ts _ p t x) (says b vs _ q u y) =
      let same = toks-same a b ts vs None None (same_text f name a b p q) t u in
      one.statements (toks_of a ts) ss us x (subst (λ z. IsReading z us) same.0 y)

  pub said-or-not : (name : Name) (ss : List StatementTree) (g : FoundFault) → Says (Some f) never name (Ok ss) → Says (Some f) never name (Err g) → ⊥
  said-or-not name ss g (says a ts _ p t x) (fails_here e) = false-true e
  said-or-not name ss g (says a ts _ p t x) (too_long l) = long_text f name a l p
  said-or-not name ss g (says a ts _ p t x) (unlexed b us e q u) = none-some e (toks-same a b ts us None (Some e) (same_text f name a b p q) t u).1
  said-or-not name ss g (says a ts _ p t x) (unread_here b us e q u y) =
      let same = toks-same a b ts us None None (same_text f name a b p q) t u in
      one.not_both (toks_of a ts) ss e x (subst (λ z. FirstFault z e) same.0 y)

  pub unsaid-one : (name : Name) (g h : FoundFault) → Says (Some f) never name (Err g) → Says (Some f) never name (Err h) → g ≡ h
  unsaid-one name g h p q = err-same g h (file_one one f [] begun name (Err g) (Err h) (unsaid_here [] begun name g refl (omega arith) p) (unsaid_here [] begun name h refl (omega arith) q))

  pub settled-one : (name : Option Name) (t u : SettingsTree) → IsSettled (Some f) never name (Ok t) → IsSettled (Some f) never name (Ok u) → t ≡ u
  settled-one _ _ _ by_default by_default = refl
  settled-one _ t u (in_form n a _ p e) (in_form _ b _ q k) = tree-same a b t u (same_text f n a b p q) e k

  pub settled-or-not : (name : Option Name) (t : SettingsTree) (g : FoundFault) → IsSettled (Some f) never name (Ok t) → IsSettled (Some f) never name (Err g) → ⊥
  settled-or-not _ _ g by_default x = elim x [ ]
  settled-or-not _ t g (in_form n a _ p e) (fails_there _ k) = false-true k
  settled-or-not _ t g (in_form n a _ p e) (too_long_there _ l) = long_text f n a l p
  settled-or-not _ t g (in_form n a _ p e) (settings_out_of_form _ b line q k) = tree-or-line a b t line (same_text f n a b p q) e k

  pub unsettled-one : (name : Option Name) (g h : FoundFault) → IsSettled (Some f) never name (Err g) → IsSettled (Some f) never name (Err h) → g ≡ h
  unsettled-one name g h p q = walk-err-same g h (outcome_one one f [] name (Err g) (Err h) (unsettled_walk g p) (unsettled_walk h q))

  -- the settings or the statements have one first fault
  pub unread-one : (name : Name) (settings : Option Name) (g h : FoundFault) → IsUnread name settings (Some f) never g → IsUnread name settings (Some f) never h → g ≡ h
  unread-one name settings g h (unsettled _ p) (unsettled _ q) = unsettled-one settings g h p q
  unread-one name settings g h (unsettled _ p) (unsaid t _ q s) = absurd (settled-or-not settings t g q p)
  unread-one name settings g h (unsaid t _ q s) (unsettled _ p) = absurd (settled-or-not settings t h q p)
  unread-one name settings g h (unsaid t _ q s) (unsaid u _ p r) = unsaid-one name g h s r

  -- or are read
  pub unread-or-read : (name : Name) (settings : Option Name) (g : FoundFault) (t : SettingsTree) (ss : List StatementTree) → IsUnread name settings (Some f) never g
      → IsSettled (Some f) never settings (Ok t) → Says (Some f) never name (Ok ss) → ⊥
  unread-or-read name settings g t ss (unsettled _ p) q s = settled-or-not settings t g q p
  unread-or-read name settings g t ss (unsaid u _ p r) q s = said-or-not name ss g s r

-- What files say doesn't hang on where the shelf fails, unless it is a fault of the shelf.
module _ (files : Files) (p q : Name → Bool) where
  pub said-moves : (name : Name) (ss : List StatementTree) → Says files p name (Ok ss) → Says files q name (Ok ss)
  said-moves name ss (says text ts _ is t x) = says text ts ss is t x

  pub settled-moves : (name : Option Name) (t : SettingsTree) → IsSettled files p name (Ok t) → IsSettled files q name (Ok t)
  settled-moves _ _ by_default = by_default
  settled-moves _ t (in_form n text _ is e) = in_form n text t is e

  unsaid-moves : (name : Name) (g : FoundFault) → (g.why ≡ Shelf → ⊥) → Says files p name (Err g) → Says files q name (Err g)
  unsaid-moves name _ own (fails_here e) = absurd (own refl)
  unsaid-moves name _ own (too_long l) = too_long l
  unsaid-moves name _ own (unlexed text ts e is t) = unlexed text ts e is t
  unsaid-moves name _ own (unread_here text ts e is t x) = unread_here text ts e is t x

  unsettled-moves : (name : Option Name) (g : FoundFault) → (g.why ≡ Shelf → ⊥) → IsSettled files p name (Err g) → IsSettled files q name (Err g)
  unsettled-moves _ _ own (fails_there n e) = absurd (own refl)
  unsettled-moves _ _ own (too_long_there n l) = too_long_there n l
  unsettled-moves _ _ own (settings_out_of_form n text line is e) = settings_out_of_form n text line is e

  pub unread-moves : (name : Name) (settings : Option Name) (g : FoundFault) → (g.why ≡ Shelf → ⊥) → IsUnread name settings files p g → IsUnread name settings files q g
  unread-moves name settings g own (unsettled _ i) = unsettled g (unsettled-moves settings g own i)
  unread-moves name settings g own (unsaid t _ i s) = unsaid t g (settled-moves settings t i) (unsaid-moves name g own s)

-- a fault of the shelf stands at a name at which it fails
module _ (files : Files) (p : Name → Bool) where
  unsaid-tells : (name : Name) (g : FoundFault) → Says files p name (Err g) → g.why ≡ Shelf → p g.file ≡ true
  unsaid-tells name _ (fails_here e) k = e
  unsaid-tells name _ (too_long l) k = cc
  unsaid-tells name _ (unlexed text ts e is t) k = cc
  unsaid-tells name _ (unread_here text ts e is t x) k = cc

  unsettled-tells : (name : Option Name) (g : FoundFault) → IsSettled files p name (Err g) → g.why ≡ Shelf → p g.file ≡ true
  unsettled-tells _ _ (fails_there n e) k = e
  unsettled-tells _ _ (too_long_there n l) k = cc
  unsettled-tells _ _ (settings_out_of_form n text line is e) k = cc

  pub unread-tells : (name : Name) (settings : Option Name) (g : FoundFault) → IsUnread name settings files p g → g.why ≡ Shelf → p g.file ≡ true
  unread-tells name settings g (unsettled _ i) k = unsettled-tells settings g i k
  unread-tells name settings g (unsaid t _ i s) k = unsaid-tells name g s k
