-- Sayings told from the beginning are the claims of the sayings.
use Rattle.std.proofs.Common.{ℕ, ◌≡◌, ◌⊎◌, inl, inr, Bool, true, false, cond, Option, Some, None, String, Vec, List, [], ◌∷◌, ◌++◌, map, refl, sym, ◌∙◌, ap}
use Rattle.std.specs.Global.{Global}
use Rattle.std.specs.Map.{lookup}
use Rattle.std.specs.Option.{option_or, option_map}
use Rattle.std.specs.String.{string_bytes}
use Rattle.std.specs.Prelude.{is_some, unwrap_or}
use Rattle.std.specs.Str.{bytes_eq}
use Rattle.std.proofs.lemmas.List.{append_assoc, append-nil}
use Rattle.std.proofs.lemmas.Slice.Eq.{bytes_eq-Decides}
use Rattle.type_hierarchy.specs.Decls.{Name}
use Rattle.type_hierarchy.specs.Table.{TypeTable}
use Rattle.fs_model.specs.Claims.{Path, Claim, exists_at, same, below}
use Rattle.fs_graph.specs.declared.facts.Feat.{Feat}
use Rattle.fs_graph.specs.declared.facts.Fact.{Fact}
use Rattle.fs_graph.specs.Facts.{path_of, claims_of}
use Rattle.body_facts.specs.Claimed.{first_carrier, claim_said, claims_of_sayings}
use Rattle.body_facts.specs.Numbers.{type_number, text_number}
use Rattle.body_facts.specs.Running.{Running, running, Carrier, carrier, carrier_of, carrier_in, with_carrier, told_once, told_all}
use Rattle.body_facts.specs.Sayings.{Saying, has_type, has_text, carries, is_there, are_equal}

-- a saying as a claim, where `first` tells the first path of each coreference
abbrev claim_by : TypeTable → (Name → Option Path) → Saying ℕ → Claim
claim_by types first (has_type p name) = below p (type_number types name)
claim_by types first (has_text p text) = below p (text_number types text)
claim_by types first (carries p name) = same (unwrap_or (first name) p) p
claim_by types first (is_there p) = exists_at p
claim_by types first (are_equal p q) = same p q

by_said : (types : TypeTable) (all : List (Saying ℕ)) (x : Saying ℕ) → claim_by types (λ n. first_carrier n all) x ≡ claim_said types all x
by_said types all (has_type p name) = refl
by_said types all (has_text p text) = refl
by_said types all (carries p name) = refl
by_said types all (is_there p) = refl
by_said types all (are_equal p q) = refl

all_by_said : (types : TypeTable) (all xs : List (Saying ℕ)) → map (claim_by types (λ n. first_carrier n all)) xs ≡ map (claim_said types all) xs
all_by_said types all [] = refl
all_by_said types all (x ∷ xs) = both (by_said types all x) (all_by_said types all xs)
  where
    both : {a b : Claim} {cs ds : List Claim} → a ≡ b → cs ≡ ds → a ∷ cs ≡ b ∷ ds
    both e f = cc

by_same : (types : TypeTable) (f g : Name → Option Path) → ((n : Name) → f n ≡ g n) → (x : Saying ℕ) → claim_by types f x ≡ claim_by types g x
by_same types f g h (has_type p name) = refl
by_same types f g h (has_text p text) = refl
by_same types f g h (carries p name) = ap (λ o. same (unwrap_or o p) p) (h name)
by_same types f g h (is_there p) = refl
by_same types f g h (are_equal p q) = refl

all_by_same : (types : TypeTable) (f g : Name → Option Path) → ((n : Name) → f n ≡ g n) → (xs : List (Saying ℕ)) → map (claim_by types f) xs ≡ map (claim_by types g) xs
all_by_same types f g h [] = refl
all_by_same types f g h (x ∷ xs) = both (by_same types f g h x) (all_by_same types f g h xs)
  where
    both : {a b : Claim} {cs ds : List Claim} → a ≡ b → cs ≡ ds → a ∷ cs ≡ b ∷ ds
    both e f = cc

bools : (b : Bool) → (b ≡ true) ⊎ (b ≡ false)
bools true = inl refl
bools false = inr refl

pub carrier_push : (cs : List Carrier) (c : Carrier) (n : Name) → carrier_in (cs ++ c ∷ []) n ≡ option_or (carrier_in cs n) (cond (bytes_eq n c.name) (Some c.path) None)
carrier_push [] c n = refl
carrier_push (d ∷ cs) c n = go (bytes_eq n d.name) (carrier_push cs c n)
  where
    go : (b : Bool) → carrier_in (cs ++ c ∷ []) n ≡ option_or (carrier_in cs n) (cond (bytes_eq n c.name) (Some c.path) None) →
        cond b (Some d.path) (carrier_in (cs ++ c ∷ []) n) ≡ option_or (cond b (Some d.path) (carrier_in cs n)) (cond (bytes_eq n c.name) (Some c.path) None)
    go true ih = refl
    go false ih = ih

has_some : (o : Option Path) (p : Option Path) → is_some o ≡ true → option_or o p ≡ o
has_some (Some a) p h = refl
has_some None p h = absurd (let e : false ≡ true = h in cc)

or_none : (o : Option Path) → option_or o None ≡ o
or_none (Some a) = refl
or_none None = refl

-- a carrier that is noted unless it is there
with_carrier_in : (name : Name) (p : Path) (cs : List Carrier) (n : Name) →
    carrier_in (with_carrier name p cs) n ≡ option_or (carrier_in cs n) (cond (bytes_eq n name) (Some p) None)
with_carrier_in name p cs n = go (bools (is_some (carrier_in cs name)))
  where
    there : is_some (carrier_in cs name) ≡ true → (bytes_eq n name ≡ true) ⊎ (bytes_eq n name ≡ false) →
        carrier_in cs n ≡ option_or (carrier_in cs n) (cond (bytes_eq n name) (Some p) None)
    there e (inl f) =
        sym (has_some (carrier_in cs n) _ (ap (λ m. is_some (carrier_in cs m)) ((bytes_eq-Decides n name).0 f) ∙ e))
    there e (inr f) = sym (ap (λ b. option_or (carrier_in cs n) (cond b (Some p) None)) f ∙ or_none (carrier_in cs n))

    go : (is_some (carrier_in cs name) ≡ true) ⊎ (is_some (carrier_in cs name) ≡ false) →
        carrier_in (with_carrier name p cs) n ≡ option_or (carrier_in cs n) (cond (bytes_eq n name) (Some p) None)
    go (inl e) = ap (λ b. carrier_in (cond b cs (cs ++ record { name = name; path = p } ∷ [])) n) e ∙ there e (bools (bytes_eq n name))
    go (inr e) = ap (λ b. carrier_in (cond b cs (cs ++ record { name = name; path = p } ∷ [])) n) e ∙ carrier_push cs (record { name = name; path = p }) n

-- the first path of a coreference, by what is noted and what is still to be told
abbrev look : Running → List (Saying ℕ) → Name → Option Path
look s xs n = option_or (carrier_in s.carriers n) (first_carrier n xs)

or_assoc : (a b c : Option Path) → option_or (option_or a b) c ≡ option_or a (option_or b c)
or_assoc (Some x) b c = refl
or_assoc None b c = refl

cond_or : (b : Bool) (p : Path) (o : Option Path) → option_or (cond b (Some p) None) o ≡ cond b (Some p) o
cond_or true p o = refl
cond_or false p o = refl

look_step : (types : TypeTable) (s : Running) (x : Saying ℕ) (xs : List (Saying ℕ)) (n : Name) → look (told_once types s x) xs n ≡ look s (x ∷ xs) n
look_step types s (has_type p name) xs n = refl
look_step types s (has_text p text) xs n = refl
look_step types s (carries p name) xs n =
    ap (λ o. option_or o (first_carrier n xs)) (with_carrier_in name p s.carriers n)
    ∙ or_assoc (carrier_in s.carriers n) (cond (bytes_eq n name) (Some p) None) (first_carrier n xs)
    ∙ ap (λ o. option_or (carrier_in s.carriers n) o) (cond_or (bytes_eq n name) p (first_carrier n xs))
look_step types s (is_there p) xs n = refl
look_step types s (are_equal p q) xs n = refl

own_path : (o : Option Path) (p : Path) → unwrap_or (option_or o (Some p)) p ≡ unwrap_or o p
own_path (Some q) p = refl
own_path None p = refl

claim_step : (types : TypeTable) (s : Running) (x : Saying ℕ) (xs : List (Saying ℕ)) →
    (told_once types s x).claims ≡ s.claims ++ claim_by types (look s (x ∷ xs)) x ∷ []
claim_step types s (has_type p name) xs = refl
claim_step types s (has_text p text) xs = refl
claim_step types s (carries p name) xs =
    ap (λ q. s.claims ++ same q p ∷ [])
    (sym (ap (λ b. unwrap_or (option_or (carrier_in s.carriers name) (cond b (Some p) (first_carrier name xs))) p) ((bytes_eq-Decides name name).1 refl) ∙ own_path (carrier_in s.carriers name) p))
claim_step types s (is_there p) xs = refl
claim_step types s (are_equal p q) xs = refl

told_claims : (types : TypeTable) (s : Running) (xs : List (Saying ℕ)) → (told_all types s xs).claims ≡ s.claims ++ map (claim_by types (look s xs)) xs
told_claims types s [] = sym (append-nil s.claims)
told_claims types s (x ∷ xs) =
    told_claims types (told_once types s x) xs
    ∙ ap (λ cs. cs ++ map (claim_by types (look (told_once types s x) xs)) xs) (claim_step types s x xs)
    ∙ ap (λ cs. (s.claims ++ claim_by types (look s (x ∷ xs)) x ∷ []) ++ cs) (all_by_same types _ _ (look_step types s x xs) xs)
    ∙ append_assoc s.claims (claim_by types (look s (x ∷ xs)) x ∷ []) (map (claim_by types (look s (x ∷ xs))) xs)

-- all that is told from the beginning
pub told_from_none : (types : TypeTable) (p : Path) (xs : List (Saying ℕ)) →
    (told_all types (record { path = p; claims = []; carriers = [] }) xs).claims ≡ claims_of_sayings types xs
told_from_none types p xs = told_claims types (record { path = p; claims = []; carriers = [] }) xs ∙ all_by_said types xs xs

-- the map of carriers, as it is kept
pub entry_in : (es : List (String Global × Vec Feat Global)) (n : Name) →
    carrier_in (map carrier_of es) n ≡ option_map (λ v. path_of v.items) (lookup (λ k. bytes_eq n (string_bytes k)) es)
entry_in [] n = refl
entry_in (e ∷ es) n = go (bytes_eq n (string_bytes e.0)) (entry_in es n)
  where
    go : (b : Bool) → carrier_in (map carrier_of es) n ≡ option_map (λ v. path_of v.items) (lookup (λ k. bytes_eq n (string_bytes k)) es) →
        cond b (Some (path_of e.1.items)) (carrier_in (map carrier_of es) n) ≡ option_map (λ v. path_of v.items) (cond b (Some e.1) (lookup (λ k. bytes_eq n (string_bytes k)) es))
    go true ih = refl
    go false ih = ih

no_value : (o : Option (Vec Feat Global)) → option_map (λ v. path_of v.items) o ≡ None → o ≡ None
no_value None h = refl
no_value (Some v) h = absurd (let e : Some (path_of v.items) ≡ None = h in cc)

pub no_entry : (es : List (String Global × Vec Feat Global)) (n : Name) → carrier_in (map carrier_of es) n ≡ None → lookup (λ k. bytes_eq n (string_bytes k)) es ≡ None
no_entry es n h = no_value _ (sym (entry_in es n) ∙ h)

pub same_carrier : (n m : Name) (p q : Path) → n ≡ m → p ≡ q → carrier n p ≡ carrier m q
same_carrier n m p q e f = ap (λ x. carrier x p) e ∙ ap (carrier m) f

-- where nothing is told yet
pub begun : (path : List Feat) (facts : List Fact) (carriers : List (String Global × Vec Feat Global)) → path ≡ [] → facts ≡ [] → carriers ≡ [] →
    running (path_of path) (claims_of facts) (map carrier_of carriers) ≡ running [] [] []
begun path facts carriers e f g =
    ap (λ p. running (path_of p) (claims_of facts) (map carrier_of carriers)) e ∙ ap (λ c. running [] (claims_of c) (map carrier_of carriers)) f
    ∙ ap (λ c. running [] [] (map carrier_of c)) g
