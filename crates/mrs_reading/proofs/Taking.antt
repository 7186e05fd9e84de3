-- Tokens that are taken one by one.
use Rattle.std.proofs.Common.{◌≡◌, ◌≢◌, ℕ, zero, suc, ◌+◌, ◌<◌, ◌≤◌, inl, inr, ◌∙◌, true, List, [], ◌∷◌, ◌++◌, map, refl, ap, sym, subst, length, take, drop, get_or, vec_len, arith}
use Rattle.std.proofs.lemmas.List.{take-append-drop, take_more, drop_more, take_all, map-append, length-map}
use Rattle.std.proofs.lemmas.Option.{slice_get_within}
use Rattle.std.specs.String.{string_bytes}
use Rattle.mrs_model.specs.Views.{variable_of}
use Rattle.mrs_spelling.specs.declared.tokens.Token.{Token}
use Rattle.mrs_spelling.specs.declared.kinds.Kind.{Kind}
use Rattle.mrs_spelling.specs.declared.kinds.Kind.TheVariants.{Top, PropValue}
use Rattle.mrs_spelling.specs.Conditions.{Word, Context, Given, context, given, after_kind, gives, AllKeep, BreaksIn, BreaksAfter}
use Rattle.mrs_reading.specs.declared.building.Building.{Building}
use Rattle.mrs_reading.specs.declared.table.Table.{Table}
use Rattle.mrs_reading.specs.Inner.Stages.{Follow}
use Rattle.mrs_reading.specs.Inner.Tables.{is_variable, IsTableOf}
use Rattle.mrs_reading.specs.Inner.Built.{IsBuilt, IsBreach, word_at, kinds}
use Rattle.mrs_reading.proofs.Contexts.{context_more, given_more, keep_more}
use Rattle.mrs_reading.proofs.Staging.{first_is_top}
use Rattle.mrs_reading.proofs.Naming.{value_or_other}

pub first_kind : (ts : List Token) (d : Token) → 0 < length ts → Follow (kinds ts) → (get_or ts 0 d).kind ≡ Top
first_kind [] d l h = absurd (omega arith)
first_kind (u ∷ us) d l h = first_is_top u.kind (kinds us) h

pub last_within : (c : Context) (gs : List Given) (t : Table) → IsTableOf c gs t → 0 < vec_len t.vars → t.last < vec_len t.vars
last_within c gs t h l =
    let e = h.even in
    let m = length-map t.vars.items variable_of in
    let w : 0 < length (map string_bytes t.keys.keys) = omega (arith, e, m, l, t.vars.ok.0) in
    let r = slice_get_within (map string_bytes t.keys.keys) t.last c.key (h.at_last w) in
    omega (arith, e, m, r, t.vars.ok.0)

pub words_more : (ts : List Token) (i : ℕ) (d : Token) → i < length ts → map word_at (take (i + 1) ts) ≡ map word_at (take i ts) ++ word_at (get_or ts i d) ∷ []
words_more ts i d l = ap (map word_at) (take_more ts i d l) ∙ map-append word_at (take i ts) (get_or ts i d ∷ [])

pub keeps_on : (ts : List Token) (i : ℕ) (d : Token) → i < length ts → AllKeep (map word_at (take i ts)) → (BreaksAfter (map word_at (take i ts)) (word_at (get_or ts i d)) → ⊥) → AllKeep (map word_at (take (i + 1) ts))
keeps_on ts i d l h k = subst AllKeep (sym (words_more ts i d l)) (keep_more (map word_at (take i ts)) (word_at (get_or ts i d)) h k)

pub built_on : (ts : List Token) (i : ℕ) (d : Token) (b : Building) → i < length ts → IsBuilt (map word_at (take i ts) ++ word_at (get_or ts i d) ∷ []) b → IsBuilt (map word_at (take (i + 1) ts)) b
built_on ts i d b l h = subst (λ (z : List Word). IsBuilt z b) (sym (words_more ts i d l)) h

pub breach_here : (ts : List Token) (i : ℕ) (d : Token) → i < length ts → AllKeep (map word_at (take i ts)) → BreaksAfter (map word_at (take i ts)) (word_at (get_or ts i d)) → IsBreach ts (get_or ts i d).left
breach_here ts i d l h k = record {
  before = take i ts;
  token = get_or ts i d;
  after = drop (i + 1) ts;
  split = sym (take-append-drop i ts) ∙ ap (λ z. take i ts ++ z) (drop_more ts i d l);
  left_is = refl;
  keeps = h;
  breaks = k;
}

-- a value of a property follows a variable
pub value_ready : (ts : List Token) (i : ℕ) (d : Token) (b : Building) → i < length ts → Follow (kinds ts) → IsBuilt (map word_at (take i ts)) b → (0 < i → 0 < vec_len b.table.vars) → (get_or ts i d).kind ≡ PropValue → b.table.last < vec_len b.table.vars
value_ready ts zero d b l f h k e = let t = first_kind ts d l f in absurd (cc)
value_ready ts (suc i) d b l f h k e = last_within (context (map word_at (take (suc i) ts))) (given (map word_at (take (suc i) ts))) b.table h.table (k (omega arith))

-- after the first token there is a variable
pub some_more : (ts : List Token) (i : ℕ) (d : Token) (before after : ℕ) → i < length ts → Follow (kinds ts) → (0 < i → 0 < before) → (is_variable (get_or ts i d).kind ≡ true → 0 < after) → before ≤ after → 0 < after
some_more ts zero d before after l f h k m = let t = first_kind ts d l f in k (ap is_variable t)
some_more ts (suc i) d before after l f h k m = let g = h (omega arith) in omega (arith, g, m)

pub table_more : (ws : List Word) (w : Word) (t : Table) → IsTableOf (after_kind (context ws) w.kind w.text) (given ws ++ gives (context ws) w.kind w.text) t → IsTableOf (context (ws ++ w ∷ [])) (given (ws ++ w ∷ [])) t
table_more ws w t h =
    subst (λ (z : Context). IsTableOf z (given (ws ++ w ∷ [])) t) (sym (context_more ws w)) (subst (λ (z : List Given). IsTableOf (after_kind (context ws) w.kind w.text) z t) (sym (given_more ws w)) h)

pub keeps_all : (ts : List Token) (i : ℕ) → length ts ≤ i → AllKeep (map word_at (take i ts)) → AllKeep (map word_at ts)
keeps_all ts i l h = subst (λ (z : List Token). AllKeep (map word_at z)) (take_all i ts l) h

-- a token that keeps the conditions on properties and those on roles breaks none
pub keeps_both : (c : Context) (gs : List Given) (k : Kind) (text : List ℕ) → (k ≡ PropValue → BreaksIn c gs k text → ⊥) → (k ≢ PropValue → BreaksIn c gs k text → ⊥) → BreaksIn c gs k text → ⊥
keeps_both c gs k text f g b = elim (value_or_other k) [ inl e ↦ f e b | inr e ↦ g e b ]
