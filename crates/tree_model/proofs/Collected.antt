-- What is collected from groups is what is asked for.
use Rattle.std.specs.Prelude.{◌≡◌, ℕ, Bool, false, List, ◌∷◌, map, refl}
use Rattle.std.proofs.Common.{subst, sym, ◌∙◌}
use Rattle.chart_model.specs.Calculus.{Calculus}
use Rattle.chart_model.specs.At.{At, at_one}
use Rattle.chart_model.specs.Chart.{Chart, Leaf, Limits, Row}
use Rattle.derivation.specs.Trees as derived
use Rattle.tree_model.specs.Readings.{Wholes, IsReading, IsAccepted}
use Rattle.tree_model.specs.Forest.{Agree, AreApart, IsForest}
use Rattle.tree_model.specs.Lists.{Has, has_here, has_there, AllDiffer, differ_none, differ_more, Item, IsIn, IsGroup, Keeps, keeps_none, leaves_out, keeps, Collects, collects_none, collects_more, AreHosts}
use Rattle.tree_model.proofs.Members.{map_has, Either, on_left, on_right, has_append, has_left, has_right, differ_append}
use Rattle.tree_model.proofs.Standing.{same_row}
use Rattle.tree_model.proofs.Read.{read}
use Rattle.tree_model.proofs.Held.{held}

module _ {C V : Type 0} (w : Wholes V C) (c : C) where
  pub record Kept (items : List (Item V)) (t : derived.Derivation) : Type 0 where
    pub item : Item V
    pub has : Has item items
    pub accepted : w.accepted item.full c
    pub is : item.tree ≡ t

  kept_there : {x : Item V} {items : List (Item V)} {t : derived.Derivation} → Kept items t → Kept (x ∷ items) t
  kept_there r = record { item = r.item; has = has_there r.has; accepted = r.accepted; is = r.is }

  pub keeps_sound : {items : List (Item V)} {ts : List derived.Derivation} → Keeps w c items ts → (t : derived.Derivation) → Has t ts → Kept items t
  keeps_sound keeps_none t h = elim h [ ]
  keeps_sound (leaves_out item items ts never rest) t h = kept_there (keeps_sound rest t h)
  keeps_sound (keeps item items ts ok rest) _ has_here = record { item = item; has = has_here; accepted = ok; is = refl }
  keeps_sound (keeps item items ts ok rest) t (has_there h) = kept_there (keeps_sound rest t h)

  pub keeps_all : {items : List (Item V)} {ts : List derived.Derivation} → Keeps w c items ts → (item : Item V) → Has item items → w.accepted item.full c → Has item.tree ts
  keeps_all keeps_none item h ok = elim h [ ]
  keeps_all (leaves_out item items ts never rest) _ has_here ok = absurd (never ok)
  keeps_all (leaves_out item items ts never rest) other (has_there h) ok = keeps_all rest other h ok
  keeps_all (keeps item items ts is rest) _ has_here ok = has_here
  keeps_all (keeps item items ts is rest) other (has_there h) ok = has_there (keeps_all rest other h ok)

  pub keeps_differ : {items : List (Item V)} {ts : List derived.Derivation} → Keeps w c items ts → AllDiffer (map (λ item. item.tree) items) → AllDiffer ts
  keeps_differ keeps_none d = differ_none
  keeps_differ (leaves_out item items ts never rest) (differ_more not d) = keeps_differ rest d
  keeps_differ (keeps item items ts ok rest) (differ_more not d) =
      differ_more (λ h. let r = keeps_sound rest item.tree h in not (subst (λ z. Has z (map (λ x. x.tree) items)) r.is (map_has (λ (x : Item V). x.tree) r.has))) (keeps_differ rest d)

module _ {M C F V : Type 0} (k : Calculus M C) (full : ℕ → List F → F → Type 0) (agrees : M → F → Type 0) (w : Wholes V C) (limits : Limits) (leaves : List (Leaf M C)) (agree : Agree k full agrees w leaves) (apart : AreApart k w leaves) (ch : Chart M C) (forest : IsForest k full agrees limits leaves ch) (cut : Bool) (table : ℕ → List (Item V)) where
  -- a tree that was collected from the group of one of these hosts
  record From' (hs : List ℕ) (t : derived.Derivation) : Type 0 where
    host : ℕ
    has : Has host hs
    row : Row M C
    at : At ch.rows host row
    kept : Kept w row.cover (table host) t

  from_there' : {h : ℕ} {hs : List ℕ} {t : derived.Derivation} → From' hs t → From' (h ∷ hs) t
  from_there' r = record { host = r.host; has = has_there r.has; row = r.row; at = r.at; kept = r.kept }

  from_either : (h : ℕ) (hs : List ℕ) (row : Row M C) (t : derived.Derivation) (ts us : List derived.Derivation) → At ch.rows h row → (Has t ts → Kept w row.cover (table h) t) → (Has t us → From' hs t) → Either t ts us → From' (h ∷ hs) t
  from_either h hs row t ts us at f g (on_left a) = record { host = h; has = has_here; row = row; at = at; kept = f a }
  from_either h hs row t ts us at f g (on_right b) = from_there' (g b)

  collects_sound : {hs : List ℕ} {ts : List derived.Derivation} → Collects w ch table hs ts → (t : derived.Derivation) → Has t ts → From' hs t
  collects_sound collects_none t g = elim g [ ]
  collects_sound (collects_more h hs row ts us at keep rest) t g = from_either h hs row t ts us at (keeps_sound w row.cover keep t) (collects_sound rest t) (has_append ts g)

  collects_all : {hs : List ℕ} {ts : List derived.Derivation} → Collects w ch table hs ts → (h : ℕ) (row : Row M C) (item : Item V) → Has h hs → At ch.rows h row → Has item (table h) → w.accepted item.full row.cover → Has item.tree ts
  collects_all collects_none h row item a at b ok = elim a [ ]
  collects_all (collects_more h hs other ts us bt keep rest) _ row item has_here at b ok = has_left us (keeps_all w other.cover keep item b (subst (λ r. w.accepted item.full r.cover) (at_one at bt) ok))
  collects_all (collects_more h hs other ts us bt keep rest) g row item (has_there a) at b ok = has_right ts (collects_all rest g row item a at b ok)

  same_host : (h g : ℕ) (a b : Item V) → IsIn w leaves ch h a → IsIn w leaves ch g b → a.tree ≡ b.tree → h ≡ g
  same_host h g a b p q e = (same_row k w limits leaves ch forest.complete apart p.stands q.stands p.full q.full e).host

  collects_differ : {hs : List ℕ} {ts : List derived.Derivation} → Collects w ch table hs ts → ((h : ℕ) → Has h hs → IsGroup w leaves ch cut h (table h)) → AllDiffer hs → AllDiffer ts
  collects_differ collects_none groups d = differ_none
  collects_differ (collects_more h hs row ts us at keep rest) groups (differ_more not d) =
      differ_append (keeps_differ w row.cover keep (groups h has_here).differ) (collects_differ rest (λ g a. groups g (has_there a)) d)
      (λ t p q.
      let a = keeps_sound w row.cover keep t p in
      let b = collects_sound rest t q in
      let one = (groups h has_here).each a.item a.has in
      let two = (groups b.host (has_there b.has)).each b.kept.item b.kept.has in
      not (subst (λ n. Has n hs) (sym (same_host h b.host a.item b.kept.item one two (a.is ∙ sym b.kept.is))) b.has))

  -- trees that are asked for, each once
  pub record AreSome (ts : List derived.Derivation) : Type 0 where
    pub each : (t : derived.Derivation) → Has t ts → IsAccepted k w limits leaves t
    pub differ : AllDiffer ts

  accepted_by : (h : ℕ) (t : derived.Derivation) (row : Row M C) (item : Item V) → At ch.rows h row → IsIn w leaves ch h item → w.accepted item.full row.cover → item.tree ≡ t → IsAccepted k w limits leaves t
  accepted_by h t row item at is ok e = record {
    class = record { cover = row.cover; level = row.level; shape = item.full };
    reading = subst (λ z. IsReading k w limits leaves z (record { cover = row.cover; level = row.level; shape = item.full })) e (read k w limits leaves ch forest.complete is.stands is.full row at);
    accepted = ok;
  }

  -- what is collected from groups of hosts is asked for, each once
  pub collected_some : (hs : List ℕ) (ts : List derived.Derivation) → AllDiffer hs → ((h : ℕ) → Has h hs → IsGroup w leaves ch cut h (table h)) → Collects w ch table hs ts → AreSome ts
  collected_some hs ts differ groups collect = record {
    each = λ t h. let f = collects_sound collect t h in accepted_by f.host t f.row f.kept.item f.at ((groups f.host f.has).each f.kept.item f.kept.has) f.kept.accepted f.kept.is;
    differ = collects_differ collect groups differ;
  }

  -- and where nothing was cut, and the hosts are all that count, it is all that is asked for
  pub collected_all : cut ≡ false → (hs : List ℕ) (ts : List derived.Derivation) → AreHosts w ch table hs → ((h : ℕ) → Has h hs → IsGroup w leaves ch cut h (table h)) → Collects w ch table hs ts → (t : derived.Derivation) → IsAccepted k w limits leaves t → Has t ts
  collected_all whole hs ts hosts groups collect t a =
      let p = held k full agrees w limits leaves agree ch forest.holds a.reading in
      let ok = subst (λ c. w.accepted a.class.shape c) (sym p.cover) a.accepted in
      let has = hosts.all p.host p.row p.shape a.class.shape p.at p.shape_is p.free ok in
      collects_all collect p.host p.row (record { tree = t; full = a.class.shape }) has p.at ((groups p.host has).all whole (record { tree = t; full = a.class.shape }) p.is_in) ok
