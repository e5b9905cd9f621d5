-- Integrations by receiver, kind and index: after an insert, a span has those to which the routes of its label set lead.
use Rattle.std.proofs.Common.{◌≡◌, ◌∙◌, ℕ, ◌+◌, Bool, true, false, cond, ◌&&◌, ◌||◌, ◌==◌, List, [], ◌∷◌, ◌++◌, map, Option, Some, None, refl, sym, ap}
use Rattle.std.specs.List.{AllByRecursion, enumerate_from, flat_map, list_any}
use Rattle.std.specs.Option.{option_map_or}
use Rattle.std.specs.Str.{bytes_eq}
use Rattle.std.proofs.lemmas.Bool.{and_from, and_parts, eqb-true, or_right}
use Rattle.std.proofs.lemmas.Cmp.{nat_eq_equiv}
use Rattle.std.proofs.lemmas.List.Folds.{list_any-append}
use Rattle.std.proofs.lemmas.Slice.Eq.{bytes_eq-Decides}
use Rattle.am_alerts.specs.RoutingTree.{route_at, routes_of}
use Rattle.am_alerts.specs.declared.labels.Label.{Label}
use Rattle.am_model.specs.declared.config.Config.{Config}
use Rattle.am_model.specs.declared.config.Integration.{Integration}
use Rattle.am_model.specs.declared.group.GroupName.{GroupName}
use Rattle.am_model.specs.Carry.{index_at}
use Rattle.am_model.specs.Configured.{route_of}
use Rattle.am_model.specs.Insert.{name_in}
use Rattle.am_model.specs.State.{same_name}
use Rattle.am_model.specs.look_back.Presence.{goes_to}
use Rattle.am_model.proofs.lists.Distinct.{all-weaker}
use Rattle.am_model.proofs.lists.Sets.{any-alike, any-map}
use Rattle.am_model.proofs.states.Alike.{same_name-is}
use Rattle.am_undelivered.specs.Spans.{FlushData, fate_at, notified, position_for, notified_by, recipients_from, recipients_named, recipients_of, same_recipient, unflushed, with_recipient, with_recipients}
use Rattle.am_undelivered.specs.declared.fate.Fate.{Fate}
use Rattle.am_undelivered.specs.declared.recipient.Recipient.{Recipient}

-- two have one receiver, kind and index
pub record IsSame (a b : Recipient) : Type 0 where
  pub receiver : a.receiver ≡ b.receiver
  pub kind : a.kind ≡ b.kind
  pub index : a.index ≡ b.index

pub same-is : (a b : Recipient) → same_recipient a b ≡ true → IsSame a b
same-is a b e =
    let first = and_parts (bytes_eq a.receiver b.receiver) (bytes_eq a.kind b.kind && (a.index == b.index)) e in
    let second = and_parts (bytes_eq a.kind b.kind) (a.index == b.index) first.1 in
    record {
      receiver = (bytes_eq-Decides a.receiver b.receiver).0 first.0;
      kind = (bytes_eq-Decides a.kind b.kind).0 second.0;
      index = eqb-true a.index b.index second.1;
    }

pub same-from : (a b : Recipient) → IsSame a b → same_recipient a b ≡ true
same-from a b s =
    and_from (bytes_eq a.receiver b.receiver) (bytes_eq a.kind b.kind && (a.index == b.index)) ((bytes_eq-Decides a.receiver b.receiver).1 s.receiver)
    (and_from (bytes_eq a.kind b.kind) (a.index == b.index) ((bytes_eq-Decides a.kind b.kind).1 s.kind)
    (ap (λ n. a.index == n) (sym s.index) ∙ nat_eq_equiv.refl a.index))

-- one is like another exactly if one that is the same is
pub same-test : (a b : Recipient) → IsSame a b → (x : Recipient) → same_recipient a x ≡ same_recipient b x
same-test a b s x = λ j. bytes_eq (s.receiver j) x.receiver && (bytes_eq (s.kind j) x.kind && (s.index j == x.index))

-- ---- one among others

module _ (k : Recipient) where
  -- whether it is among these
  abbrev pub has : List Recipient → Bool
  has rs = list_any (same_recipient k) rs

  has-still : (all : List Recipient) (r : Recipient) → has all ≡ true → has (with_recipient all r) ≡ true
  has-still all r is =
      elim (list_any (same_recipient r) all) as (λ b. has (cond b all (all ++ r ∷ [])) ≡ true) [
        | true ↦ is
        | false ↦ list_any-append (same_recipient k) all (r ∷ []) ∙ ap (λ b. b || has (r ∷ [])) is
      ]

  has-own : (all : List Recipient) (r : Recipient) → same_recipient k r ≡ true → has (with_recipient all r) ≡ true
  has-own all r e =
      elim (list_any (same_recipient r) all) as (λ b. list_any (same_recipient r) all ≡ b → has (cond b all (all ++ r ∷ [])) ≡ true) [
        | true ↦ λ is. any-alike (same_recipient k) (same_recipient r) (same-test k r (same-is k r e)) all ∙ is
        | false ↦ λ is. list_any-append (same_recipient k) all (r ∷ []) ∙ or_right (has all) (has (r ∷ [])) (ap (λ b. b || false) e)
      ] refl

  pub has-more : (all rs : List Recipient) → has all ≡ true → has (with_recipients all rs) ≡ true
  has-more all [] is = is
  has-more all (r ∷ rs) is = has-more (with_recipient all r) rs (has-still all r is)

  -- each that is added is there
  pub has-added : (all rs : List Recipient) → has rs ≡ true → has (with_recipients all rs) ≡ true
  has-added all (r ∷ rs) is =
      elim (same_recipient k r) as (λ b. same_recipient k r ≡ b → (b || has rs) ≡ true → has (with_recipients (with_recipient all r) rs) ≡ true) [
        | true ↦ λ e is. has-more (with_recipient all r) rs (has-own all r e)
        | false ↦ λ e is. has-added (with_recipient all r) rs is
      ] refl is
  has-added all [] is = absurd (cc)

  -- ---- to whom the routes lead

  -- one of a receiver, at its position, by its index among those of its kind
  pub has-named : (receiver : List ℕ) → receiver ≡ k.receiver → (among : List Integration) (n : ℕ) (is : List Integration)
      → AllByRecursion (λ i. index_at among i.0 ≡ k.index → i.1.kind ≡ k.kind → has (recipients_from receiver among n is) ≡ true) (enumerate_from n is)
  has-named receiver own among n [] = tt
  has-named receiver own among n (i ∷ is) =
      let rest = recipients_from receiver among (n + 1) is in
      let x = unflushed receiver (index_at among n) i in (
        λ at kind. ap (λ b. b || has rest) (same-from k x (record { receiver = sym own; kind = sym kind; index = sym at })),
        all-weaker (λ (i : ℕ × Integration). index_at among i.0 ≡ k.index → i.1.kind ≡ k.kind → has rest ≡ true) (λ (i : ℕ × Integration). index_at among i.0 ≡ k.index → i.1.kind ≡ k.kind → (same_recipient k x || has rest) ≡ true)
            (λ i h at kind. or_right (same_recipient k x) (has rest) (h at kind)) (enumerate_from (n + 1) is) (has-named receiver own among (n + 1) is),
      )

  module _ (config : Config) (name : GroupName) (labels : List Label) where
    abbrev all_named : List ℕ → List Recipient
    all_named ps = flat_map (λ p. recipients_named config (route_at config.routes p).receiver) ps

    led : (ps : List ℕ) → list_any (same_name name) (map (name_in config labels) ps) ≡ true → has (recipients_named config (route_of config name).receiver) ≡ true → has (all_named ps) ≡ true
    led (p ∷ ps) goes is =
        let here = recipients_named config (route_at config.routes p).receiver in
        elim (same_name name (name_in config labels p)) as (λ b. same_name name (name_in config labels p) ≡ b → (b || list_any (same_name name) (map (name_in config labels) ps)) ≡ true → has (here ++ all_named ps) ≡ true) [
          | true ↦ λ e goes.
              let same : name ≡ name_in config labels p = same_name-is name (name_in config labels p) e in
              list_any-append (same_recipient k) here (all_named ps)
              ∙ ap (λ b. b || has (all_named ps)) (ap (λ (n : GroupName). has (recipients_named config (route_of config n).receiver)) (sym same) ∙ is)
          | false ↦ λ e goes. list_any-append (same_recipient k) here (all_named ps) ∙ or_right (has here) (has (all_named ps)) (led ps goes is)
        ] refl goes
    led [] goes is = absurd (cc)

    -- the integrations of a group's receiver, if a route leads to the group
    pub has-led : goes_to config name labels ≡ true → has (recipients_named config (route_of config name).receiver) ≡ true → has (recipients_of config labels) ≡ true
    has-led goes is = led (routes_of config.routes labels) goes is

-- ---- flushes

-- a flush changes no receiver, kind or index
pub same-notified : (k : Recipient) (f : FlushData) (labels : List Label) (fires : Bool) (r : Recipient) → same_recipient k (notified_by f labels fires r) ≡ same_recipient k r
same-notified k f labels fires r = by (position_for f r)
  where
    one : (b : Bool) (fate : Fate) → same_recipient k (notified r b fate) ≡ same_recipient k r
    one true fate = refl
    one false fate = refl

    by : (o : Option ℕ) → same_recipient k (option_map_or (λ p. notified r fires (fate_at f labels fires p)) o r) ≡ same_recipient k r
    by None = refl
    by (Some p) = one fires (fate_at f labels fires p)

pub has-flushed : (k : Recipient) (f : FlushData) (labels : List Label) (fires : Bool) (rs : List Recipient) → has k (map (notified_by f labels fires) rs) ≡ has k rs
has-flushed k f labels fires rs =
    any-map (same_recipient k) (notified_by f labels fires) rs
    ∙ any-alike (λ r. same_recipient k (notified_by f labels fires r)) (same_recipient k) (same-notified k f labels fires) rs
