-- The walk of a file, statement by statement: what the rest comes to is what the file comes to.
use Rattle.std.proofs.Common.{◌≡◌, ℕ, ◌+◌, ◌<◌, ◌≤◌, ◌-◌, ◌^◌, ◌&&◌, min, nat_lt, Bool, true, false, List, [], ◌∷◌, ◌++◌, length, Option, None, Some, Result, Ok, Err, IfErr, OnOk, map, refl, ap, sym, ◌∙◌, subst, inl, inr, arith}
use Rattle.std.specs.String.{string_bytes}
use Rattle.std.specs.Result.{IsErrAnd}
use Rattle.std.specs.Str.{bytes_eq}
use Rattle.std.proofs.lemmas.Bool.{lt-ltb, ltb-true}
use Rattle.std.proofs.lemmas.List.{length-map, length_push}
use Rattle.grammar_files.specs.declared.fault.LoadFault.{LoadFault}
use Rattle.grammar_files.specs.declared.fault.LoadFault.TheVariants.{NoMemory, Found}
use Rattle.grammar_files.specs.declared.walking.Progress.{Progress}
use Rattle.grammar_files.specs.Placings.{placed_of}
use Rattle.tdl_reader.specs.Trees.{StatementTree}
use Rattle.grammar_files.specs.declared.fault.Why.TheVariants.{Environment as OutOfPlace}
use Rattle.grammar_files.specs.Environments.{breaks, place_of, left_open}
use Rattle.grammar_files.specs.Faults.{FoundFault, IsFaultBy}
use Rattle.grammar_files.specs.FileNames.{with_ending}
use Rattle.grammar_settings.specs.Forms.{Name, is_among}
use Rattle.grammar_files.specs.Included.{Includes}
use Rattle.grammar_files.specs.TextViews.{Covers}
use Rattle.grammar_files.specs.Walks.{Files, Says, WalkState, with_file, WalksFile, loops, too_many, unsaid, said, Walks, ends, ends_within, breaks_off, goes_on, stops_within, follows, IsSettled, WalksTo, unsettled, unwalked, walked, walked_with, begun, has_failed, fault_at}
use Rattle.grammar_settings.specs.Settled.{SettingsTree}
use Rattle.grammar_files.specs.WalkViews.{IsTurnedAway, Taken, walk_of}

-- within these files and in this state, the file of this name and number has these statements left in a later state
pub record Goes (files : Files) (within : List Name) (first : WalkState) (name : Name) (file : ℕ) (s : WalkState) (xs : List StatementTree) : Type 0 where
  pub on : (fails : Name → Bool) (end : Result WalkState FoundFault) → Walks files fails (within ++ name ∷ []) name file s xs end → WalksFile files fails within first name end

pub turned_away : (files : Files) (within : List Name) (s : WalkState) (name : Name) (f : FoundFault) → IsTurnedAway within (length s.files) name f → (fails : Name → Bool) → WalksFile files fails within s name (Err f)
turned_away files within s name f (inl (among, same)) fails = subst (λ k. WalksFile files fails within s name (Err k)) (sym same) (loops within s name among)
turned_away files within s name f (inr (new, full, same)) fails = subst (λ k. WalksFile files fails within s name (Err k)) (sym same) (too_many within s name new full)

pub begins : (files : Files) (within : List Name) (s : WalkState) (name : Name) (ss : List StatementTree) → is_among within name ≡ false → length s.files < 1024
    → ((fails : Name → Bool) → Says files fails name (Ok ss)) → Goes files within s name (length s.files) (with_file s name) ss
begins files within s name ss new room says = record { on = λ fails end r. said within s name ss end new room (says fails) r }

module _ (files : Files) (within : List Name) (first : WalkState) (name : Name) (file : ℕ) (s : WalkState) where
  pub takes : (next : WalkState) (x : StatementTree) (xs : List StatementTree) → Goes files within first name file s (x ∷ xs) → breaks s.environment x ≡ false → Taken file name s x next None
      → Goes files within first name file next xs
  takes next x xs g lawful t =
      record { on = λ fails end r. g.on fails end (goes_on (within ++ name ∷ []) name file s x xs end lawful t.0 (subst (λ k. Walks files fails (within ++ name ∷ []) name file k xs end) t.1 r)) }

  pub breaks_here : (x : StatementTree) (xs : List StatementTree) (f : FoundFault) → Goes files within first name file s (x ∷ xs) → breaks s.environment x ≡ true → f ≡ fault_at name (place_of x) OutOfPlace
      → (fails : Name → Bool) → WalksFile files fails within first name (Err f)
  breaks_here x xs f g b same fails = g.on fails (Err f) (subst (λ k. Walks files fails (within ++ name ∷ []) name file s (x ∷ xs) (Err k)) (sym same) (breaks_off (within ++ name ∷ []) name file s x xs b))

  follows_walk : (fails : Name → Bool) (next : WalkState) (x : StatementTree) (xs : List StatementTree) (included : Name) (end : Result WalkState FoundFault) → Includes name x included
      → WalksFile files fails (within ++ name ∷ []) s included (Ok next) → Walks files fails (within ++ name ∷ []) name file next xs end → Walks files fails (within ++ name ∷ []) name file s (x ∷ xs) end
  follows_walk fails next x xs included end i w r =
      subst (λ k. Walks files fails (within ++ name ∷ []) name file s (k ∷ xs) end) (sym i.statement_is)
      (follows (within ++ name ∷ []) name file s next i.written i.at xs end (subst (λ k. WalksFile files fails (within ++ name ∷ []) s k (Ok next)) i.file_is w) r)

  stops_walk : (fails : Name → Bool) (x : StatementTree) (xs : List StatementTree) (included : Name) (f : FoundFault) → Includes name x included
      → WalksFile files fails (within ++ name ∷ []) s included (Err f) → Walks files fails (within ++ name ∷ []) name file s (x ∷ xs) (Err f)
  stops_walk fails x xs included f i w =
      subst (λ k. Walks files fails (within ++ name ∷ []) name file s (k ∷ xs) (Err f)) (sym i.statement_is)
      (stops_within (within ++ name ∷ []) name file s i.written i.at xs f (subst (λ k. WalksFile files fails (within ++ name ∷ []) s k (Err f)) i.file_is w))

  pub includes_file : (before next : WalkState) (x : StatementTree) (xs : List StatementTree) (included : Name) → Goes files within first name file s (x ∷ xs) → Taken file name s x before (Some included)
      → ((fails : Name → Bool) → WalksFile files fails (within ++ name ∷ []) before included (Ok next)) → Goes files within first name file next xs
  includes_file before next x xs included g t w =
      record { on = λ fails end r. g.on fails end (follows_walk fails next x xs included end t.0 (subst (λ k. WalksFile files fails (within ++ name ∷ []) k included (Ok next)) t.1 (w fails)) r) }

  pub stops_in_file : (before : WalkState) (x : StatementTree) (xs : List StatementTree) (included : Name) (f : FoundFault) → Goes files within first name file s (x ∷ xs) → Taken file name s x before (Some included)
      → (fails : Name → Bool) → WalksFile files fails (within ++ name ∷ []) before included (Err f) → WalksFile files fails within first name (Err f)
  stops_in_file before x xs included f g t fails w =
      g.on fails (Err f) (stops_walk fails x xs included f t.0 (subst (λ k. WalksFile files fails (within ++ name ∷ []) k included (Err f)) t.1 w))

  pub ends_here : Goes files within first name file s [] → left_open file s.environment ≡ None → (fails : Name → Bool) → WalksFile files fails within first name (Ok s)
  ends_here g none fails = g.on fails (Ok s) (ends (within ++ name ∷ []) name file s none)

  pub left_here : (at : ℕ) (f : FoundFault) → Goes files within first name file s [] → left_open file s.environment ≡ Some at → f ≡ fault_at name at OutOfPlace → (fails : Name → Bool)
      → WalksFile files fails within first name (Err f)
  left_here at f g some same fails = g.on fails (Err f) (subst (λ k. Walks files fails (within ++ name ∷ []) name file s [] (Err k)) (sym same) (ends_within (within ++ name ∷ []) name file s at some))

both : (a b : Bool) → a ≡ true → b ≡ true → (a && b) ≡ true
both a b p q = rw (p, q) refl

left : (a b : Bool) → (a && b) ≡ true → a ≡ true
left true b e = refl
left false b e = e

right : (a b : Bool) → (a && b) ≡ true → b ≡ true
right true b e = e
right false true e = refl
right false false e = e

-- what covers a longer time covers its end
failed_later : (old mid new : ℕ) (asked : Option Name) (name : Name) → old ≤ mid → has_failed mid new asked name ≡ true → has_failed old new asked name ≡ true
failed_later old mid new None name h e = e
failed_later old mid new (Some asked) name h e =
    let risen : min mid (2 ^ 64 - 2) < new = ltb-true (min mid (2 ^ 64 - 2)) new (left (nat_lt (min mid (2 ^ 64 - 2)) new) (bytes_eq asked name) e) in
    both (nat_lt (min old (2 ^ 64 - 2)) new) (bytes_eq asked name) (lt-ltb (min old (2 ^ 64 - 2)) new (omega arith)) (right (nat_lt (min mid (2 ^ 64 - 2)) new) (bytes_eq asked name) e)

pub covers_later : (old mid new : ℕ) (asked : Option Name) (fails : Name → Bool) → old ≤ mid → Covers old new asked fails → Covers mid new asked fails
covers_later old mid new asked fails h covers name e = covers name (failed_later old mid new asked name h e)

-- the exit of a `?`
pub at_exit : {A E : Type 0} (P : E → Type 0) (r : Result A E) (e : E) → IsErrAnd r (λ y. y ≡ e) → P e → IfErr r P
at_exit P (Ok x) e is h = tt
at_exit P (Err y) e is h = subst P (sym is) h

pub on_err : {A : Type 0} (P Q : FoundFault → Type 0) (r : Result A LoadFault) → ((f : FoundFault) → P f → Q f) → IfErr r (IsFaultBy P) → IfErr r (IsFaultBy Q)
on_err P Q (Ok x) to h = tt
on_err P Q (Err NoMemory) to h = tt
on_err P Q (Err (Found file at why)) to h = to (record { file = string_bytes file; at = at; why = why }) h

pub on_fault : (P Q : FoundFault → Type 0) (e : LoadFault) → ((f : FoundFault) → P f → Q f) → IsFaultBy P e → IsFaultBy Q e
on_fault P Q NoMemory to h = tt
on_fault P Q (Found file at why) to h = to (record { file = string_bytes file; at = at; why = why }) h

pub on_ok : {A : Type 0} {E : Type 0} {P Q : Type 0} (r : Result A E) → (P → Q) → OnOk r P → OnOk r Q
on_ok (Ok x) to h = to h
on_ok (Err e) to h = tt

-- a file may be walked: it isn't being walked, and fewer than 1,024 are read
pub record Admitted (within : List Name) (count : ℕ) (name : Name) : Type 0 where
  pub new : is_among within name ≡ false
  pub room : count < 1024

pub names_length : (p : Progress) → length p.files.items ≡ length (walk_of p).files
names_length p = sym (length-map p.files.items string_bytes)

pub admitted : (ds within : List Name) (k count : ℕ) (n name : Name) → ds ≡ within → k ≡ count → n ≡ name → (is_among ds n ≡ false) × (k < 1024) → Admitted within count name
admitted ds within k count n name d e f h =
    record { new = subst (λ m. is_among within m ≡ false) f (subst (λ w. is_among w n ≡ false) d h.0); room = subst (λ j. j < 1024) e h.1 }

turned : (ds within : List Name) (k count : ℕ) (n name : Name) (f : FoundFault) → ds ≡ within → k ≡ count → n ≡ name → IsTurnedAway ds k n f → IsTurnedAway within count name f
turned ds within k count n name f d e m h =
    subst (λ x. IsTurnedAway within count x f) m (subst (λ x. IsTurnedAway within x n f) e (subst (λ x. IsTurnedAway x k n f) d h))

pub turned_fault : (files : Files) (s : WalkState) (old new : ℕ) (asked : Option Name) (ds within : List Name) (k : ℕ) (n name : Name) (e : LoadFault) → ds ≡ within → k ≡ length s.files → n ≡ name
    → IsFaultBy (IsTurnedAway ds k n) e → IsFaultBy (λ f. (fails : Name → Bool) → Covers old new asked fails → WalksFile files fails within s name (Err f)) e
turned_fault files s old new asked ds within k n name NoMemory d j m h = tt
turned_fault files s old new asked ds within k n name (Found file at why) d j m h =
    let f : FoundFault = record { file = string_bytes file; at = at; why = why } in
    λ fails covers. turned_away files within s name f (turned ds within k (length s.files) n name f d j m h) fails

pub said_fault : (files : Files) (within : List Name) (s : WalkState) (old new : ℕ) (asked : Option Name) (n name : Name) (e : LoadFault) → n ≡ name → Admitted within (length s.files) name
    → IsFaultBy (λ f. (fails : Name → Bool) → Covers old new asked fails → Says files fails n (Err f)) e
    → IsFaultBy (λ f. (fails : Name → Bool) → Covers old new asked fails → WalksFile files fails within s name (Err f)) e
said_fault files within s old new asked n name NoMemory m a h = tt
said_fault files within s old new asked n name (Found file at why) m a h =
    let f : FoundFault = record { file = string_bytes file; at = at; why = why } in
    λ fails covers. unsaid within s name f a.new a.room (subst (λ x. Says files fails x (Err f)) m (h fails covers))

pub goes_first : (files : Files) (within : List Name) (s s' : WalkState) (n name : Name) (file : ℕ) (xs ss : List StatementTree) → n ≡ name → file ≡ length s.files → s' ≡ with_file s name → xs ≡ ss
    → Admitted within (length s.files) name → ((fails : Name → Bool) → Says files fails n (Ok ss)) → Goes files within s name file s' xs
goes_first files within s s' n name file xs ss m k e x a says =
    let start : Goes files within s name (length s.files) (with_file s name) ss = begins files within s name ss a.new a.room (λ fails. subst (λ z. Says files fails z (Ok ss)) m (says fails)) in
    subst (λ zs. Goes files within s name file s' zs) (sym x) (subst (λ z. Goes files within s name file z ss) (sym e) (subst (λ z. Goes files within s name z (with_file s name) ss) (sym k) start))

pub file_more : (p q : Progress) (name : Name) → walk_of q ≡ with_file (walk_of p) name → length p.files.items < length q.files.items
file_more p q name e =
    let more : length (walk_of q).files ≡ length (walk_of p).files + 1 = ap (λ s. length s.files) e ∙ length_push (walk_of p).files name in
    omega (arith, more, names_length p, names_length q)

pub files_kept : (p q : Progress) (s : WalkState) → walk_of q ≡ s → s.files ≡ (walk_of p).files → length q.files.items ≡ length p.files.items
files_kept p q s e f = names_length q ∙ ap (λ z. length z.files) e ∙ ap length f ∙ sym (names_length p)

-- the statement that is taken next
pub goes_next : (files : Files) (within : List Name) (first : WalkState) (name : Name) (file : ℕ) (s : WalkState) (xs ys : List StatementTree) → xs ≡ ys → Goes files within first name file s xs → Goes files within first name file s ys
goes_next files within first name file s xs ys e g = subst (Goes files within first name file s) e g

pub take_fault : (files : Files) (within : List Name) (first : WalkState) (n name : Name) (file : ℕ) (s : WalkState) (x : StatementTree) (xs : List StatementTree) (old new : ℕ) (asked : Option Name) (e : LoadFault) → n ≡ name
    → Goes files within first name file s (x ∷ xs) → IsFaultBy (λ f. (breaks s.environment x ≡ true) × (f ≡ fault_at n (place_of x) OutOfPlace)) e
    → IsFaultBy (λ f. (fails : Name → Bool) → Covers old new asked fails → WalksFile files fails within first name (Err f)) e
take_fault files within first n name file s x xs old new asked NoMemory m g h = tt
take_fault files within first n name file s x xs old new asked (Found path at why) m g h =
    let f : FoundFault = record { file = string_bytes path; at = at; why = why } in
    λ fails covers. breaks_here files within first name file s x xs f g h.0 (subst (λ z. f ≡ fault_at z (place_of x) OutOfPlace) m h.1) fails

pub walk_fault : (files there : Files) (within around : List Name) (first : WalkState) (name : Name) (file : ℕ) (s before : WalkState) (x : StatementTree) (xs : List StatementTree) (included : Name)
    (old mid new : ℕ) (asked : Option Name) (e : LoadFault) → there ≡ files → around ≡ within ++ name ∷ [] → old ≤ mid → Goes files within first name file s (x ∷ xs) → Taken file name s x before (Some included)
    → IsFaultBy (λ f. (fails : Name → Bool) → Covers mid new asked fails → WalksFile there fails around before included (Err f)) e
    → IsFaultBy (λ f. (fails : Name → Bool) → Covers old new asked fails → WalksFile files fails within first name (Err f)) e
walk_fault files there within around first name file s before x xs included old mid new asked NoMemory d o r g t h = tt
walk_fault files there within around first name file s before x xs included old mid new asked (Found path at why) d o r g t h =
    let f : FoundFault = record { file = string_bytes path; at = at; why = why } in
    λ fails covers. stops_in_file files within first name file s before x xs included f g t fails
    (subst (λ w. WalksFile files fails w before included (Err f)) o (subst (λ z. WalksFile z fails around before included (Err f)) d (h fails (covers_later old mid new asked fails r covers))))

pub walked_on : (files there : Files) (within around : List Name) (first : WalkState) (name : Name) (file : ℕ) (s before next : WalkState) (x : StatementTree) (xs : List StatementTree) (included : Name)
    → there ≡ files → around ≡ within ++ name ∷ [] → Goes files within first name file s (x ∷ xs) → Taken file name s x before (Some included)
    → ((fails : Name → Bool) → WalksFile there fails around before included (Ok next)) → Goes files within first name file next xs
walked_on files there within around first name file s before next x xs included d o g t w =
    includes_file files within first name file s before next x xs included g t
    (λ fails. subst (λ z. WalksFile files fails z before included (Ok next)) o (subst (λ z. WalksFile z fails around before included (Ok next)) d (w fails)))

pub leave_fault : (files : Files) (within : List Name) (first : WalkState) (n name : Name) (file : ℕ) (s : WalkState) (xs : List StatementTree) (old new : ℕ) (asked : Option Name) (r : Result (Unit {0}) LoadFault) → n ≡ name → xs ≡ []
    → Goes files within first name file s xs → IfErr r (IsFaultBy (λ f. (at : ℕ) × (left_open file s.environment ≡ Some at) × (f ≡ fault_at n at OutOfPlace)))
    → IfErr r (IsFaultBy (λ f. (fails : Name → Bool) → Covers old new asked fails → WalksFile files fails within first name (Err f)))
leave_fault files within first n name file s xs old new asked (Ok u) m x g h = tt
leave_fault files within first n name file s xs old new asked (Err NoMemory) m x g h = tt
leave_fault files within first n name file s xs old new asked (Err (Found path at why)) m x g h =
    let f : FoundFault = record { file = string_bytes path; at = at; why = why } in
    λ fails covers. left_here files within first name file s h.0 f (subst (Goes files within first name file s) x g) h.1 (subst (λ z. f ≡ fault_at z h.0 OutOfPlace) m h.2) fails

pub leave_ok : (files : Files) (within : List Name) (first : WalkState) (name : Name) (file : ℕ) (s : WalkState) (xs : List StatementTree) (r : Result (Unit {0}) LoadFault) → xs ≡ []
    → Goes files within first name file s xs → OnOk r (left_open file s.environment ≡ None) → OnOk r ((fails : Name → Bool) → WalksFile files fails within first name (Ok s))
leave_ok files within first name file s xs (Ok u) x g h = ends_here files within first name file s (subst (Goes files within first name file s) x g) h
leave_ok files within first name file s xs (Err e) x g h = tt

-- the whole walk
pub walks_settle_fault : (files : Files) (old new : ℕ) (asked : Option Name) (top : Name) (opt : Option Name) (e : LoadFault) → IsFaultBy (λ f. (fails : Name → Bool) → Covers old new asked fails → IsSettled files fails opt (Err f)) e
    → IsFaultBy (λ f. WalksTo files (has_failed old new asked) top opt (Err f)) e
walks_settle_fault files old new asked top opt NoMemory h = tt
walks_settle_fault files old new asked top opt (Found path at why) h = unsettled (record { file = string_bytes path; at = at; why = why }) (h (has_failed old new asked) (λ name k. k))

pub walks_fault : (files there : Files) (old mid new : ℕ) (asked : Option Name) (top file : Name) (opt : Option Name) (t : SettingsTree) (within : List Name) (s : WalkState) (e : LoadFault)
    → there ≡ files → within ≡ [] → s ≡ begun → file ≡ with_ending top → old ≤ mid → ((fails : Name → Bool) → IsSettled files fails opt (Ok t))
    → IsFaultBy (λ f. (fails : Name → Bool) → Covers mid new asked fails → WalksFile there fails within s file (Err f)) e
    → IsFaultBy (λ f. WalksTo files (has_failed old new asked) top opt (Err f)) e
walks_fault files there old mid new asked top file opt t within s NoMemory d w b m r settled h = tt
walks_fault files there old mid new asked top file opt t within s (Found path at why) d w b m r settled h =
    let f : FoundFault = record { file = string_bytes path; at = at; why = why } in
    let fails : Name → Bool = has_failed old new asked in
    unwalked t f (settled fails)
    (subst (λ x. WalksFile files fails [] begun x (Err f)) m (subst (λ x. WalksFile files fails [] x file (Err f)) b (subst (λ x. WalksFile files fails x s file (Err f)) w
    (subst (λ x. WalksFile x fails within s file (Err f)) d (h fails (λ name k. failed_later old mid new asked name r k))))))

pub walks_ok : (files there : Files) (fails : Name → Bool) (top file : Name) (opt : Option Name) (t : SettingsTree) (within : List Name) (s next : WalkState)
    → there ≡ files → within ≡ [] → s ≡ begun → file ≡ with_ending top → ((p : Name → Bool) → IsSettled files p opt (Ok t)) → ((p : Name → Bool) → WalksFile there p within s file (Ok next))
    → WalksTo files fails top opt (Ok (walked_with t next))
walks_ok files there fails top file opt t within s next d w b m settled h =
    walked t next (settled fails)
    (subst (λ x. WalksFile files fails [] begun x (Ok next)) m (subst (λ x. WalksFile files fails [] x file (Ok next)) b (subst (λ x. WalksFile files fails x s file (Ok next)) w
    (subst (λ x. WalksFile x fails within s file (Ok next)) d (h fails)))))

pub begun_is : (p : Progress) → p.placed.items ≡ [] → p.files.items ≡ [] → p.environment ≡ None → walk_of p ≡ begun
begun_is p a b e = λ i. record { placed = map placed_of (a i); files = map string_bytes (b i); environment = e i }
