-- Where the files are told and nothing fails, a top name and settings have one outcome.
use Rattle.std.proofs.Common.{◌≡◌, ℕ, ◌<◌, ◌≤◌, Bool, true, false, List, [], ◌∷◌, ◌++◌, length, Option, Some, None, Result, Ok, Err, refl, ap, sym, ◌∙◌, subst, arith}
use Rattle.lkb_io.specs.Shelves.{IsLong}
use Rattle.tdl_lexer.specs.declared.Token.{Token}
use Rattle.tdl_lexer.specs.declared.LexFault.{LexFault}
use Rattle.tdl_lexer.specs.Readings.{Tokens}
use Rattle.tdl_reader.specs.declared.ReadFault.{ReadFault}
use Rattle.tdl_reader.specs.Reading.{IsReading, FirstFault}
use Rattle.tdl_reader.specs.Toks.{Tok, toks_of}
use Rattle.tdl_reader.specs.Trees.{StatementTree}
use Rattle.grammar_files.specs.declared.fault.Why.TheVariants.{TooLong, Lex, Read, Settings as SettingsWhy, Environment as OutOfPlace}
use Rattle.grammar_files.specs.Faults.{FoundFault, place_of_lex, place_of_read}
use Rattle.grammar_files.specs.FileNames.{included_in, with_ending}
use Rattle.grammar_settings.specs.Forms.{Name}
use Rattle.grammar_settings.specs.Settled.{SettingsTree, settings_in}
use Rattle.grammar_files.specs.Walks.{IsText, IsTooLong, Says, fails_here, too_long, unlexed, unread, says, WalkState, with_file, after_statement, WalksFile, loops, too_many, unsaid, said, Walks, ends, ends_within, breaks_off, goes_on, stops_within, follows, IsSettled, by_default, fails_there, too_long_there, out_of_form, in_form, WalkedTree, WalksTo, unsettled, unwalked, walked, walked_with, begun, fault_at}

-- a text has one list of tokens or first fault, and tokens have one reading
pub record OneReading : Type 0 where
  pub lexed : (source : List ℕ) (ts us : List Token) (d e : Option LexFault) → Tokens source ts d → Tokens source us e → (ts ≡ us) × (d ≡ e)
  pub statements : (ts : List Tok) (ss us : List StatementTree) → IsReading ts ss → IsReading ts us → ss ≡ us
  pub faults : (ts : List Tok) (d e : ReadFault) → FirstFault ts d → FirstFault ts e → d ≡ e
  pub not_both : (ts : List Tok) (ss : List StatementTree) (e : ReadFault) → IsReading ts ss → FirstFault ts e → ⊥

abbrev pub never : Name → Bool
never name = false

false-true : false ≡ true → ⊥
false-true e = cc

bools : {A : Type 0} (b : Bool) → b ≡ true → b ≡ false → A
bools b p q = absurd (false-true (sym q ∙ p))

none-some : {A : Type 0} {B : Type 0} (x : A) → None ≡ Some x → B
none-some x e = cc

ok-err : {B : Type 0} (s : WalkState) (f : FoundFault) → Ok s ≡ Err f → B
ok-err s f e = cc

same_text : (f : Name → Option (List ℕ)) (name : Name) (a b : List ℕ) → IsText (Some f) name a → IsText (Some f) name b → a ≡ b
same_text f name a b p q = let e : Some a ≡ Some b = sym p.0 ∙ q.0 in cc

long_text : (f : Name → Option (List ℕ)) (name : Name) (a : List ℕ) → IsTooLong (Some f) name → IsText (Some f) name a → ⊥
long_text f name a l t = let long : IsLong (Some a) = subst IsLong t.0 l in omega (arith, long, t.1)

module _ (one : OneReading) (f : Name → Option (List ℕ)) (name : Name) where
  -- the same tokens and end, of texts that are one
  lexed_same : (a b : List ℕ) (ts us : List Token) (d e : Option LexFault) → IsText (Some f) name a → IsText (Some f) name b → Tokens a ts d → Tokens b us e → (ts ≡ us) × (d ≡ e)
  lexed_same a b ts us d e p q t u = one.lexed a ts us d e t (subst (λ x. Tokens x us e) (sym (same_text f name a b p q)) u)

  toks_same : (a b : List ℕ) (ts us : List Token) → a ≡ b → ts ≡ us → toks_of b us ≡ toks_of a ts
  toks_same a b ts us x y = cc

  from_long : IsTooLong (Some f) name → (r : Result (List StatementTree) FoundFault) → Says (Some f) never name r → Err (fault_at name 0 TooLong) ≡ r
  from_long l r (fails_here e) = absurd (false-true e)
  from_long l r (too_long m) = refl
  from_long l r (unlexed b us e q u) = absurd (long_text f name b l q)
  from_long l r (unread b us e q u x) = absurd (long_text f name b l q)
  from_long l r (says b us ss q u x) = absurd (long_text f name b l q)

  from_lex : (a : List ℕ) (ts : List Token) (d : LexFault) → IsText (Some f) name a → Tokens a ts (Some d) → (r : Result (List StatementTree) FoundFault) → Says (Some f) never name r
      → Err (fault_at name (place_of_lex d) (Lex d)) ≡ r
  from_lex a ts d p t r (fails_here e) = absurd (false-true e)
  from_lex a ts d p t r (too_long m) = absurd (long_text f name a m p)
  from_lex a ts d p t r (unlexed b us e q u) =
      let same : Some d ≡ Some e = (lexed_same a b ts us (Some d) (Some e) p q t u).1 in
      let inner : d ≡ e = cc in
      ap (λ x. Err (fault_at name (place_of_lex x) (Lex x))) inner
  from_lex a ts d p t r (unread b us e q u x) = none-some d (sym (lexed_same a b ts us (Some d) None p q t u).1)
  from_lex a ts d p t r (says b us ss q u x) = none-some d (sym (lexed_same a b ts us (Some d) None p q t u).1)

  from_read : (a : List ℕ) (ts : List Token) (d : ReadFault) → IsText (Some f) name a → Tokens a ts None → FirstFault (toks_of a ts) d → (r : Result (List StatementTree) FoundFault) → Says (Some f) never name r
      → Err (fault_at name (place_of_read a d) (Read d)) ≡ r
  from_read a ts d p t y r (fails_here e) = absurd (false-true e)
  from_read a ts d p t y r (too_long m) = absurd (long_text f name a m p)
  from_read a ts d p t y r (unlexed b us e q u) = none-some e (lexed_same a b ts us None (Some e) p q t u).1
  from_read a ts d p t y r (unread b us e q u x) =
      let text : a ≡ b = same_text f name a b p q in
      let toks : toks_of b us ≡ toks_of a ts = toks_same a b ts us text (lexed_same a b ts us None None p q t u).0 in
      let inner : d ≡ e = one.faults (toks_of a ts) d e y (subst (λ z. FirstFault z e) toks x) in
      cc
  from_read a ts d p t y r (says b us ss q u x) =
      let toks : toks_of b us ≡ toks_of a ts = toks_same a b ts us (same_text f name a b p q) (lexed_same a b ts us None None p q t u).0 in
      absurd (one.not_both (toks_of a ts) ss d (subst (λ z. IsReading z ss) toks x) y)

  from_says : (a : List ℕ) (ts : List Token) (ss : List StatementTree) → IsText (Some f) name a → Tokens a ts None → IsReading (toks_of a ts) ss → (r : Result (List StatementTree) FoundFault) → Says (Some f) never name r → Ok ss ≡ r
  from_says a ts ss p t y r (fails_here e) = absurd (false-true e)
  from_says a ts ss p t y r (too_long m) = absurd (long_text f name a m p)
  from_says a ts ss p t y r (unlexed b us e q u) = none-some e (lexed_same a b ts us None (Some e) p q t u).1
  from_says a ts ss p t y r (unread b us e q u x) =
      let toks : toks_of b us ≡ toks_of a ts = toks_same a b ts us (same_text f name a b p q) (lexed_same a b ts us None None p q t u).0 in
      absurd (one.not_both (toks_of a ts) ss e y (subst (λ z. FirstFault z e) toks x))
  from_says a ts ss p t y r (says b us xs q u x) =
      let toks : toks_of b us ≡ toks_of a ts = toks_same a b ts us (same_text f name a b p q) (lexed_same a b ts us None None p q t u).0 in
      ap Ok (one.statements (toks_of a ts) ss xs y (subst (λ z. IsReading z xs) toks x))

  says_one : (r s : Result (List StatementTree) FoundFault) → Says (Some f) never name r → Says (Some f) never name s → r ≡ s
  says_one r s (fails_here e) k = absurd (false-true e)
  says_one r s (too_long l) k = from_long l s k
  says_one r s (unlexed a ts e p t) k = from_lex a ts e p t s k
  says_one r s (unread a ts e p t x) k = from_read a ts e p t x s k
  says_one r s (says a ts ss p t x) k = from_says a ts ss p t x s k

-- the room of files that are read
room_full : {B : Type 0} (n : ℕ) → n < 1024 → 1024 ≤ n → B
room_full n a b = absurd (omega arith)

ok-fault : {B : Type 0} (ss : List StatementTree) (f : FoundFault) → Ok ss ≡ Err f → B
ok-fault ss f e = cc

ok_same : (ss us : List StatementTree) → ◌≡◌ {A = Result (List StatementTree) FoundFault} (Ok ss) (Ok us) → ss ≡ us
ok_same ss us e = cc

state_same : (s t : WalkState) → ◌≡◌ {A = Result WalkState FoundFault} (Ok s) (Ok t) → s ≡ t
state_same s t e = cc

err_same : (f g : FoundFault) → ◌≡◌ {A = Result (List StatementTree) FoundFault} (Err f) (Err g) → ◌≡◌ {A = Result WalkState FoundFault} (Err f) (Err g)
err_same f g e = cc

left_same : (name : Name) (a b : ℕ) → Some a ≡ Some b → ◌≡◌ {A = Result WalkState FoundFault} (Err (fault_at name a OutOfPlace)) (Err (fault_at name b OutOfPlace))
left_same name a b e = let inner : a ≡ b = cc in ap (λ x. Err (fault_at name x OutOfPlace)) inner

line_same : (name : Name) (a b : List ℕ) (m n : ℕ) → a ≡ b → settings_in a ≡ Err m → settings_in b ≡ Err n → ◌≡◌ {A = Result SettingsTree FoundFault} (Err (fault_at name m SettingsWhy)) (Err (fault_at name n SettingsWhy))
line_same name a b m n e p q = let k : ◌≡◌ {A = Result SettingsTree ℕ} (Err m) (Err n) = sym p ∙ ap settings_in e ∙ q in let inner : m ≡ n = cc in ap (λ x. Err (fault_at name x SettingsWhy)) inner

out_in : {B : Type 0} (a b : List ℕ) (n : ℕ) (t : SettingsTree) → a ≡ b → settings_in a ≡ Err n → settings_in b ≡ Ok t → B
out_in a b n t e p q = let k : ◌≡◌ {A = Result SettingsTree ℕ} (Err n) (Ok t) = sym p ∙ ap settings_in e ∙ q in cc

in_same : (a b : List ℕ) (t u : SettingsTree) → a ≡ b → settings_in a ≡ Ok t → settings_in b ≡ Ok u → ◌≡◌ {A = Result SettingsTree FoundFault} (Ok t) (Ok u)
in_same a b t u e p q = let k : ◌≡◌ {A = Result SettingsTree ℕ} (Ok t) (Ok u) = sym p ∙ ap settings_in e ∙ q in let inner : t ≡ u = cc in ap Ok inner

fault_same : (f g : FoundFault) → ◌≡◌ {A = Result SettingsTree FoundFault} (Err f) (Err g) → ◌≡◌ {A = Result WalkedTree FoundFault} (Err f) (Err g)
fault_same f g e = cc

walk_fault_same : (f g : FoundFault) → ◌≡◌ {A = Result WalkState FoundFault} (Err f) (Err g) → ◌≡◌ {A = Result WalkedTree FoundFault} (Err f) (Err g)
walk_fault_same f g e = cc

tree-fault : {B : Type 0} (t : SettingsTree) (f : FoundFault) → Ok t ≡ Err f → B
tree-fault t f e = cc

tree_same : (t u : SettingsTree) → ◌≡◌ {A = Result SettingsTree FoundFault} (Ok t) (Ok u) → t ≡ u
tree_same t u e = cc

both_same : (t u : SettingsTree) (s v : WalkState) → t ≡ u → s ≡ v → ◌≡◌ {A = Result WalkedTree FoundFault} (Ok (walked_with t s)) (Ok (walked_with u v))
both_same t u s v p q = ap Ok (λ i. walked_with (p i) (q i))

module _ (one : OneReading) (f : Name → Option (List ℕ)) where
  mutual
    pub file_one : (within : List Name) (s : WalkState) (name : Name) (r q : Result WalkState FoundFault) → WalksFile (Some f) never within s name r → WalksFile (Some f) never within s name q → r ≡ q
    file_one within s name r q (loops _ _ _ a) (loops _ _ _ b) = refl
    file_one within s name r q (loops _ _ _ a) (too_many _ _ _ new full) = bools _ a new
    file_one within s name r q (loops _ _ _ a) (unsaid _ _ _ g new room say) = bools _ a new
    file_one within s name r q (loops _ _ _ a) (said _ _ _ us end new room say v) = bools _ a new
    file_one within s name r q (too_many _ _ _ new full) (loops _ _ _ b) = bools _ b new
    file_one within s name r q (too_many _ _ _ new full) (too_many _ _ _ new' full') = refl
    file_one within s name r q (too_many _ _ _ new full) (unsaid _ _ _ g new' room say) = room_full _ room full
    file_one within s name r q (too_many _ _ _ new full) (said _ _ _ us end new' room say v) = room_full _ room full
    file_one within s name r q (unsaid _ _ _ g new room say) (loops _ _ _ b) = bools _ b new
    file_one within s name r q (unsaid _ _ _ g new room say) (too_many _ _ _ new' full) = room_full _ room full
    file_one within s name r q (unsaid _ _ _ g new room say) (unsaid _ _ _ h new' room' say') = err_same g h (says_one one f name (Err g) (Err h) say say')
    file_one within s name r q (unsaid _ _ _ g new room say) (said _ _ _ us end new' room' say' v) = ok-fault us g (says_one one f name (Ok us) (Err g) say' say)
    file_one within s name r q (said _ _ _ ss end new room say w) (loops _ _ _ b) = bools _ b new
    file_one within s name r q (said _ _ _ ss end new room say w) (too_many _ _ _ new' full) = room_full _ room full
    file_one within s name r q (said _ _ _ ss end new room say w) (unsaid _ _ _ h new' room' say') = ok-fault ss h (says_one one f name (Ok ss) (Err h) say say')
    file_one within s name r q (said _ _ _ ss end new room say w) (said _ _ _ us end' new' room' say' v) =
        walks_one (within ++ name ∷ []) name (length s.files) (with_file s name) ss end end' w (subst (λ z. Walks (Some f) never (within ++ name ∷ []) name (length s.files) (with_file s name) z end') (sym (ok_same ss us (says_one one f name (Ok ss) (Ok us) say say'))) v)

    walks_one : (within : List Name) (name : Name) (file : ℕ) (s : WalkState) (xs : List StatementTree) (r q : Result WalkState FoundFault) → Walks (Some f) never within name file s xs r
        → Walks (Some f) never within name file s xs q → r ≡ q
    walks_one within name file s xs r q (ends _ _ _ _ none) (ends _ _ _ _ none') = refl
    walks_one within name file s xs r q (ends _ _ _ _ none) (ends_within _ _ _ _ at some) = none-some at (sym none ∙ some)
    walks_one within name file s xs r q (ends_within _ _ _ _ at some) (ends _ _ _ _ none) = none-some at (sym none ∙ some)
    walks_one within name file s xs r q (ends_within _ _ _ _ at some) (ends_within _ _ _ _ to some') = left_same name at to (sym some ∙ some')
    walks_one within name file s xs r q (breaks_off _ _ _ _ y ys b) (breaks_off _ _ _ _ z zs b') = refl
    walks_one within name file s xs r q (breaks_off _ _ _ _ y ys b) (goes_on _ _ _ _ z zs end b' i v) = bools _ b b'
    walks_one within name file s xs r q (breaks_off _ _ _ _ y ys b) (stops_within _ _ _ _ included at zs g v) = absurd (false-true b)
    walks_one within name file s xs r q (breaks_off _ _ _ _ y ys b) (follows _ _ _ _ next included at zs end v u) = absurd (false-true b)
    walks_one within name file s xs r q (goes_on _ _ _ _ y ys end b i w) (breaks_off _ _ _ _ z zs b') = bools _ b' b
    walks_one within name file s xs r q (goes_on _ _ _ _ y ys end b i w) (goes_on _ _ _ _ z zs end' b' i' v) = walks_one within name file (after_statement file s y) ys end end' w v
    walks_one within name file s xs r q (goes_on _ _ _ _ y ys end b i w) (stops_within _ _ _ _ included at zs g v) = absurd (false-true (sym i))
    walks_one within name file s xs r q (goes_on _ _ _ _ y ys end b i w) (follows _ _ _ _ next included at zs end' v u) = absurd (false-true (sym i))
    walks_one within name file s xs r q (stops_within _ _ _ _ included at ys g w) (breaks_off _ _ _ _ z zs b') = absurd (false-true b')
    walks_one within name file s xs r q (stops_within _ _ _ _ included at ys g w) (goes_on _ _ _ _ z zs end b' i v) = absurd (false-true (sym i))
    walks_one within name file s xs r q (stops_within _ _ _ _ included at ys g w) (stops_within _ _ _ _ included' at' zs h v) = file_one within s (included_in name included) (Err g) (Err h) w v
    walks_one within name file s xs r q (stops_within _ _ _ _ included at ys g w) (follows _ _ _ _ next included' at' zs end v u) = ok-err next g (sym (file_one within s (included_in name included) (Err g) (Ok next) w v))
    walks_one within name file s xs r q (follows _ _ _ _ next included at ys end w x) (breaks_off _ _ _ _ z zs b') = absurd (false-true b')
    walks_one within name file s xs r q (follows _ _ _ _ next included at ys end w x) (goes_on _ _ _ _ z zs end' b' i v) = absurd (false-true (sym i))
    walks_one within name file s xs r q (follows _ _ _ _ next included at ys end w x) (stops_within _ _ _ _ included' at' zs h v) = ok-err next h (file_one within s (included_in name included) (Ok next) (Err h) w v)
    walks_one within name file s xs r q (follows _ _ _ _ next included at ys end w x) (follows _ _ _ _ other included' at' zs end' v u) =
        walks_one within name file next ys end end' x (subst (λ z. Walks (Some f) never within name file z ys end') (sym (state_same next other (file_one within s (included_in name included) (Ok next) (Ok other) w v))) u)

  settled_one : (name : Option Name) (r q : Result SettingsTree FoundFault) → IsSettled (Some f) never name r → IsSettled (Some f) never name q → r ≡ q
  settled_one name r q by_default by_default = refl
  settled_one name r q (fails_there n e) v = absurd (false-true e)
  settled_one name r q (too_long_there n l) (fails_there _ e) = absurd (false-true e)
  settled_one name r q (too_long_there n l) (too_long_there _ m) = refl
  settled_one name r q (too_long_there n l) (out_of_form _ text line is e) = absurd (long_text f n text l is)
  settled_one name r q (too_long_there n l) (in_form _ text t is e) = absurd (long_text f n text l is)
  settled_one name r q (out_of_form n text line is e) (fails_there _ k) = absurd (false-true k)
  settled_one name r q (out_of_form n text line is e) (too_long_there _ m) = absurd (long_text f n text m is)
  settled_one name r q (out_of_form n text line is e) (out_of_form _ text' line' is' e') = line_same n text text' line line' (same_text f n text text' is is') e e'
  settled_one name r q (out_of_form n text line is e) (in_form _ text' t' is' e') = out_in text text' line t' (same_text f n text text' is is') e e'
  settled_one name r q (in_form n text t is e) (fails_there _ k) = absurd (false-true k)
  settled_one name r q (in_form n text t is e) (too_long_there _ m) = absurd (long_text f n text m is)
  settled_one name r q (in_form n text t is e) (out_of_form _ text' line' is' e') = out_in text' text line' t (sym (same_text f n text text' is is')) e' e
  settled_one name r q (in_form n text t is e) (in_form _ text' t' is' e') = in_same text text' t t' (same_text f n text text' is is') e e'

  pub outcome_one : (top : Name) (settings : Option Name) (r q : Result WalkedTree FoundFault) → WalksTo (Some f) never top settings r → WalksTo (Some f) never top settings q → r ≡ q
  outcome_one top settings r q (unsettled g i) (unsettled h k) = fault_same g h (settled_one settings (Err g) (Err h) i k)
  outcome_one top settings r q (unsettled g i) (unwalked t h k v) = tree-fault t g (settled_one settings (Ok t) (Err g) k i)
  outcome_one top settings r q (unsettled g i) (walked t s k v) = tree-fault t g (settled_one settings (Ok t) (Err g) k i)
  outcome_one top settings r q (unwalked t g i w) (unsettled h k) = tree-fault t h (settled_one settings (Ok t) (Err h) i k)
  outcome_one top settings r q (unwalked t g i w) (unwalked t' h k v) = walk_fault_same g h (file_one [] begun (with_ending top) (Err g) (Err h) w v)
  outcome_one top settings r q (unwalked t g i w) (walked t' s k v) = ok-err s g (file_one [] begun (with_ending top) (Ok s) (Err g) v w)
  outcome_one top settings r q (walked t s i w) (unsettled h k) = tree-fault t h (settled_one settings (Ok t) (Err h) i k)
  outcome_one top settings r q (walked t s i w) (unwalked t' h k v) = ok-err s h (file_one [] begun (with_ending top) (Ok s) (Err h) w v)
  outcome_one top settings r q (walked t s i w) (walked t' s' k v) =
      both_same t t' s s' (tree_same t t' (settled_one settings (Ok t) (Ok t') i k)) (state_same s s' (file_one [] begun (with_ending top) (Ok s) (Ok s') w v))
