-- Names that are defined a second time.
use Rattle.std.proofs.Common.{ℕ, ◌≡◌, ◌<◌, ◌+◌, ◌≤◌, ◌&&◌, ◌||◌, ◌⊎◌, inl, inr, Bool, true, false, cond, not, List, [], ◌∷◌, ◌++◌, length, map, filter, take, get_or, String, refl, sym, ◌∙◌, ap, subst, arith}
use Rattle.std.specs.Global.{Global}
use Rattle.std.specs.List.{list_any}
use Rattle.std.specs.Str.{bytes_eq}
use Rattle.std.specs.String.{string_bytes, string_eq}
use Rattle.std.proofs.lemmas.Bool.{cases_lt}
use Rattle.std.proofs.lemmas.List.{take_more, map-append, append-nil, get_or-map}
use Rattle.std.proofs.lemmas.List.Elements.{filter-append}
use Rattle.tdl_reader.specs.declared.Status.{Status}
use Rattle.tdl_reader.specs.declared.Status.TheVariants.{TypeDef, Entry, LexRule, Rule, Root, Other}
use Rattle.grammar_files.specs.declared.placed.Placed.{Placed}
use Rattle.grammar_files.specs.Placings.{PlacedTree, placed_of}
use Rattle.type_hierarchy.specs.Decls.{texts}
use Rattle.grammar_types.specs.Typings.{is_heeded}
use Rattle.grammar_settings.specs.Forms.{Name}
use Rattle.grammar_types.specs.SettleViews.{is_again, IsEntered, IsEarliest, IsEarliestOfAll}
use Rattle.grammar_types.specs.Typings.{statement_at, no_statement, defines_under, definitions_under, names_under, name_written, has_name, IsRepeatUnder, IsRepeat}
use Rattle.grammar_types.proofs.SettleLists.{bools, true_not_false, has_texts}

-- the names of the definitions so far, none of which has been given twice
pub record Met (s : Status) (ps : List PlacedTree) (i : ℕ) (names : List Name) : Type 0 where
  pub names_are : names ≡ names_under s (take i ps)
  pub none_before : (j : ℕ) → j < i → IsRepeatUnder s ps j → ⊥

pub at_placed : (xs : List Placed) (i : ℕ) (x : Placed) → i < length xs → x ≡ get_or xs i x → statement_at (map placed_of xs) i ≡ placed_of x
at_placed xs i x h e = get_or-map placed_of xs i x no_statement h ∙ ap placed_of (sym e)

names_next : (s : Status) (ps : List PlacedTree) (i : ℕ) → i < length ps →
    names_under s (take (i + 1) ps) ≡ names_under s (take i ps) ++ names_under s (statement_at ps i ∷ [])
names_next s ps i h =
    ap (names_under s) (take_more ps i no_statement h)
    ∙ ap (map (λ p. name_written p.statement)) (filter-append (defines_under s) (take i ps) (statement_at ps i ∷ []))
    ∙ map-append (λ p. name_written p.statement) (definitions_under s (take i ps)) (definitions_under s (statement_at ps i ∷ []))

none_more : (s : Status) (ps : List PlacedTree) (i : ℕ) → ((j : ℕ) → j < i → IsRepeatUnder s ps j → ⊥) → (IsRepeatUnder s ps i → ⊥) → (j : ℕ) → j < i + 1 → IsRepeatUnder s ps j → ⊥
none_more s ps i old here j h r = go (cases_lt j i)
  where
    go : (j < i) ⊎ (i ≤ j) → ⊥
    go (inl a) = old j a r
    go (inr a) = let same : j ≡ i = omega arith in here (subst (λ k. IsRepeatUnder s ps k) same r)

-- what becomes of the names at a place
pub met_next : (s : Status) (ps : List PlacedTree) (i : ℕ) (names new : List Name) → Met s ps i names → i < length ps →
    is_again s (statement_at ps i) names ≡ false → new ≡ names ++ names_under s (statement_at ps i ∷ []) → Met s ps (i + 1) new
met_next s ps i names new m h no' is =
    record {
      names_are = is ∙ ap (λ l. l ++ names_under s (statement_at ps i ∷ [])) m.names_are ∙ sym (names_next s ps i h);
      none_before = none_more s ps i m.none_before (λ r. true_not_false _ (again s ps i names m r) no');
    }
  where
    again : (s : Status) (ps : List PlacedTree) (i : ℕ) (names : List Name) → Met s ps i names → IsRepeatUnder s ps i → is_again s (statement_at ps i) names ≡ true
    again s ps i names m r =
        ap (λ b. b && has_name names (name_written (statement_at ps i).statement)) r.1 ∙ ap (λ ns. has_name ns (name_written (statement_at ps i).statement)) m.names_are ∙ r.2

pub met_again : (s : Status) (ps : List PlacedTree) (bound i : ℕ) (names : List Name) → Met s ps i names → i < length ps → i ≤ bound →
    is_again s (statement_at ps i) names ≡ true → IsEarliest s ps bound i
met_again s ps bound i names m h b e =
    record {
      within = b;
      is_repeat = λ l. (h, and_left _ _ e, ap (λ ns. has_name ns (name_written (statement_at ps i).statement)) (sym m.names_are) ∙ and_right _ _ e);
      none_before = m.none_before;
    }
  where
    and_left : (x y : Bool) → (x && y) ≡ true → x ≡ true
    and_left true y k = refl
    and_left false y k = k

    and_right : (x y : Bool) → (x && y) ≡ true → y ≡ true
    and_right true y k = k
    and_right false y k = true_not_false false k refl

-- a name that is entered
pub entered : (s : Status) (p : PlacedTree) (keys new : List (String Global)) (k : String Global) (b : Bool) → defines_under s p ≡ true → string_bytes k ≡ name_written p.statement →
    b ≡ not (list_any (string_eq k) keys) → new ≡ cond (list_any (string_eq k) keys) keys (keys ++ k ∷ []) → IsEntered s p (texts keys) (texts new) b
entered s p keys new k b d e added is = go (bools (list_any (string_eq k) keys))
  where
    there : has_name (texts keys) (name_written p.statement) ≡ list_any (string_eq k) keys
    there = ap (has_name (texts keys)) (sym e) ∙ has_texts keys (string_bytes k)

    again : is_again s p (texts keys) ≡ list_any (string_eq k) keys
    again = ap (λ c. c && has_name (texts keys) (name_written p.statement)) d ∙ there

    go : (list_any (string_eq k) keys ≡ true) ⊎ (list_any (string_eq k) keys ≡ false) → IsEntered s p (texts keys) (texts new) b
    go (inl h) = subst (IsEntered s p (texts keys) (texts new)) (sym (added ∙ ap not h)) (again ∙ h)
    go (inr h) =
        subst (IsEntered s p (texts keys) (texts new)) (sym (added ∙ ap not h)) (
          again ∙ h,
          ap texts (is ∙ ap (λ c. cond c keys (keys ++ k ∷ [])) h) ∙ map-append string_bytes keys (k ∷ [])
              ∙ ap (λ n. texts keys ++ n ∷ []) e ∙ sym (ap (λ c. texts keys ++ map (λ q. name_written q.statement) (cond c (p ∷ []) [])) d),
        )

pub passed : (s : Status) (p : PlacedTree) (names : List Name) → defines_under s p ≡ false → IsEntered s p names names true
passed s p names d = (
  ap (λ c. c && has_name names (name_written p.statement)) d,
  sym (ap (λ c. names ++ map (λ q. name_written q.statement) (cond c (p ∷ []) [])) d ∙ append-nil names),
)

pub met_all : (s : Status) (ps : List PlacedTree) (bound i : ℕ) (names : List Name) → Met s ps i names → i ≡ bound → IsEarliest s ps bound bound
met_all s ps bound i names m e =
    record {
      within = omega arith;
      is_repeat = λ l. absurd (omega arith);
      none_before = λ j l r. m.none_before j (omega arith) r;
    }

-- one status more
earlier : (s : Status) (ps : List PlacedTree) (bound k : ℕ) → is_heeded s ≡ true → IsEarliest s ps bound k → (bound < length ps → IsRepeat ps bound) → k < length ps → IsRepeat ps k
earlier s ps bound k heeded e had h = go (cases_lt k bound)
  where
    go : (k < bound) ⊎ (bound ≤ k) → IsRepeat ps k
    go (inl a) = (s, heeded, e.is_repeat a)
    go (inr a) = let same : bound ≡ k = omega (arith, e.within) in subst (IsRepeat ps) same (had (omega arith))

pub earliest_of_all : (ps : List PlacedTree) (n a b c d e : ℕ) → IsEarliest TypeDef ps n a → IsEarliest Entry ps a b → IsEarliest LexRule ps b c → IsEarliest Rule ps c d →
    IsEarliest Root ps d e → n ≡ length ps → IsEarliestOfAll ps e
earliest_of_all ps n a b c d e ea eb ec ed ee size =
    record {
      within = omega (arith, ea.within, eb.within, ec.within, ed.within, ee.within);
      is_repeat = earlier Root ps d e refl ee (earlier Rule ps c d refl ed (earlier LexRule ps b c refl ec (earlier Entry ps a b refl eb (earlier TypeDef ps n a refl ea (λ h. absurd (omega arith))))));
      none_before = λ j h r. none j h r.0 r.1 r.2;
    }
  where
    none : (j : ℕ) → j < e → (s : Status) → is_heeded s ≡ true → IsRepeatUnder s ps j → ⊥
    none j h TypeDef k r = ea.none_before j (omega (arith, eb.within, ec.within, ed.within, ee.within)) r
    none j h Entry k r = eb.none_before j (omega (arith, ec.within, ed.within, ee.within)) r
    none j h LexRule k r = ec.none_before j (omega (arith, ed.within, ee.within)) r
    none j h Rule k r = ed.none_before j (omega (arith, ee.within)) r
    none j h Root k r = ee.none_before j h r
    none j h Other k r = true_not_false false k refl
