-- What is found in lists that are put into, filtered and changed, where no two elements are alike.
use Rattle.std.proofs.Common.{◌≡◌, Bool, true, false, cond, not, ◌&&◌, ◌||◌, Option, Some, None, List, [], ◌∷◌, map, refl, sym, ap, ◌∙◌, subst}
use Rattle.std.specs.Prelude.{find, filter, ◌==◌}
use Rattle.std.specs.List.{AllByRecursion, IsDistinct}
use Rattle.std.proofs.lemmas.Bool.{false≢true}
use Rattle.std.proofs.lemmas.Cmp.{nat_eq_equiv}
use Rattle.std.proofs.lemmas.Map.Keys.{IsDistinct-head, IsDistinct-tail}
use Rattle.am_alerts.specs.Labels.{same_label_set}
use Rattle.am_alerts.specs.LabelOrder.{same_label_set_equiv}
use Rattle.am_alerts.specs.declared.labels.Label.{Label}
use Rattle.am_nflog.specs.Members.{is_empty}
use Rattle.am_model.specs.declared.group.GroupName.{GroupName}
use Rattle.am_model.specs.Insert.{same_member, same_group}
use Rattle.am_model.specs.Lists.{upsert, without, changed_where}
use Rattle.am_model.specs.look_back.Laws.{member_with}
use Rattle.am_model.specs.State.{MemberState, GroupState, Stamped, same_name, is_named}
use Rattle.am_model.specs.Finish.{is_leaving}
use Rattle.am_model.specs.Maintenance.{has_no_alerts}
use Rattle.am_model.proofs.legal.ConsistentGroups.{members_of}
use Rattle.am_model.proofs.lists.Alone.{find-none}
use Rattle.am_model.proofs.lists.Distinct.{all-filter, all-weaker, find-passes}
use Rattle.am_model.proofs.states.Alike.{same_name_equiv}

-- an element, unless it passes a test
abbrev pub unless : {X : Type 0} → (X → Bool) → Option X → Option X
unless gone None = None
unless gone (Some x) = cond (gone x) None (Some x)

pub unless-never : {X : Type 0} (o : Option X) → unless (λ x. false) o ≡ o
unless-never None = refl
unless-never (Some x) = refl

module _ {X : Type 0} (test : X → Bool) where
  -- what is put in is found, and else what was found
  pub find-put : (like : X → X → Bool) (x : X) → ((y : X) → like x y ≡ true → test y ≡ test x) → ((y : X) → test x ≡ true → test y ≡ true → like x y ≡ true) → (xs : List X) → find test (upsert like x xs) ≡ cond (test x) (Some x) (find test xs)
  find-put like x sees agrees [] = refl
  find-put like x sees agrees (y ∷ ys) =
      elim (like x y) as (λ b. like x y ≡ b → find test (cond b (x ∷ ys) (y ∷ upsert like x ys)) ≡ cond (test x) (Some x) (cond (test y) (Some y) (find test ys))) [
        | true ↦ λ e. here (test x) (test y) (sees y e)
        | false ↦ λ e. ap (λ o. cond (test y) (Some y) o) (find-put like x sees agrees ys) ∙ there (test x) (test y) (λ f g. false≢true (sym e ∙ agrees y f g)) refl refl
      ] refl
    where
      here : (a b : Bool) → b ≡ a → cond a (Some x) (find test ys) ≡ cond a (Some x) (cond b (Some y) (find test ys))
      here true b e = refl
      here false true e = absurd (false≢true (sym e))
      here false false e = refl

      there : (a b : Bool) → (test x ≡ true → test y ≡ true → ⊥) → test x ≡ a → test y ≡ b → cond b (Some y) (cond a (Some x) (find test ys)) ≡ cond a (Some x) (cond b (Some y) (find test ys))
      there true true apart e f = absurd (apart e f)
      there true false apart e f = refl
      there false b apart e f = refl

  -- what is found among those that stay: what was found, unless it went
  pub find-without : (like : X → X → Bool) → ((x y : X) → test x ≡ true → test y ≡ true → like x y ≡ true) → (gone : X → Bool) (xs : List X) → IsDistinct like xs → find test (without gone xs) ≡ unless gone (find test xs)
  find-without like agrees gone [] h = refl
  find-without like agrees gone (x ∷ xs) h =
      by (gone x) (test x) refl refl (find-without like agrees gone xs (IsDistinct-tail like x xs h))
    where
      later : test x ≡ true → AllByRecursion (λ y. test y ≡ false) xs
      later e = all-weaker (λ y. like x y ≡ false) (λ y. test y ≡ false) (λ y apart. no (test y) (λ f. false≢true (sym apart ∙ agrees x y e f))) xs (IsDistinct-head like x xs h)
        where
          no : (b : Bool) → (b ≡ true → ⊥) → b ≡ false
          no true f = absurd (f refl)
          no false f = refl

      by : (g t : Bool) → gone x ≡ g → test x ≡ t → find test (without gone xs) ≡ unless gone (find test xs) → find test (cond (not g) (x ∷ without gone xs) (without gone xs)) ≡ unless gone (cond t (Some x) (find test xs))
      by true true e f rest =
          find-none test (without gone xs) (all-filter (λ y. test y ≡ false) (λ y. not (gone y)) xs (later f)) ∙ sym (ap (λ b. cond b None (Some x)) e)
      by true false e f rest = rest
      by false true e f rest = ap (λ b. cond b (Some x) (find test (without gone xs))) f ∙ sym (ap (λ b. cond b None (Some x)) e)
      by false false e f rest = ap (λ b. cond b (Some x) (find test (without gone xs))) f ∙ rest

-- ---- the alerts of a group

module _ (labels : List Label) where
  abbrev pub has_labels : MemberState → Bool
  has_labels m = same_label_set labels m.alert.labels

  alike : (m n : MemberState) → has_labels m ≡ true → has_labels n ≡ true → same_member m n ≡ true
  alike m n e f = sym (same_label_set_equiv.congr labels m.alert.labels n.alert.labels e) ∙ f

  pub member-put : (m : MemberState) (ms : List MemberState) → member_with labels (upsert same_member m ms) ≡ cond (has_labels m) (Some m) (member_with labels ms)
  member-put m ms =
      find-put has_labels same_member m
      (λ n e. same_label_set_equiv.symm labels n.alert.labels ∙ sym (same_label_set_equiv.congr m.alert.labels n.alert.labels labels e) ∙ same_label_set_equiv.symm m.alert.labels labels)
      (alike m) ms

  pub member-without : (gone : MemberState → Bool) (ms : List MemberState) → IsDistinct same_member ms → member_with labels (without gone ms) ≡ unless gone (member_with labels ms)
  member-without gone ms h = find-without has_labels same_member alike gone ms h

  -- the one that is found has the labels
  pub member-labels : (m : MemberState) (ms : List MemberState) → member_with labels ms ≡ Some m → has_labels m ≡ true
  member-labels m ms e = find-passes has_labels m ms e

-- ---- the alerts of a name's group

-- after a group was put in
pub members_of-put : (name : GroupName) (g : GroupState) (gs : List GroupState) → members_of (upsert same_group g gs) name ≡ cond (is_named name g) g.members (members_of gs name)
members_of-put name g [] = refl
members_of-put name g (k ∷ gs) =
    elim (same_group g k) as (λ b. same_group g k ≡ b → members_of (cond b (g ∷ gs) (k ∷ upsert same_group g gs)) name ≡ cond (is_named name g) g.members (cond (is_named name k) k.members (members_of gs name))) [
      | true ↦ λ e. here (is_named name g) (is_named name k) (same_name_equiv.symm name k.name ∙ sym (same_name_equiv.congr g.name k.name name e) ∙ same_name_equiv.symm g.name name)
      | false ↦ λ e.
          ap (λ ms. cond (is_named name k) k.members ms) (members_of-put name g gs)
          ∙ there (is_named name g) (is_named name k) (λ f h. false≢true (sym e ∙ (sym (same_name_equiv.congr name g.name k.name f) ∙ h))) refl refl
    ] refl
  where
    here : (a b : Bool) → b ≡ a → cond a g.members (members_of gs name) ≡ cond a g.members (cond b k.members (members_of gs name))
    here true b e = refl
    here false true e = absurd (false≢true (sym e))
    here false false e = refl

    there : (a b : Bool) → (is_named name g ≡ true → is_named name k ≡ true → ⊥) → is_named name g ≡ a → is_named name k ≡ b → cond b k.members (cond a g.members (members_of gs name)) ≡ cond a g.members (cond b k.members (members_of gs name))
    there true true apart e f = absurd (apart e f)
    there true false apart e f = refl
    there false b apart e f = refl

-- after a change of one name's group
module _ (own : GroupName) (change : GroupState → GroupState) (named : (g : GroupState) → (change g).name ≡ g.name) (gone : MemberState → Bool) (members : (g : GroupState) → (change g).members ≡ without gone g.members) where
  pub members_of-changed_own : (name : GroupName) (gs : List GroupState) → members_of (changed_where (is_named own) change gs) name ≡ cond (same_name name own) (without gone (members_of gs name)) (members_of gs name)
  members_of-changed_own name [] = none (same_name name own)
    where
      none : (b : Bool) → members_of [] name ≡ cond b (without gone (members_of [] name)) (members_of [] name)
      none true = refl
      none false = refl
  members_of-changed_own name (g ∷ gs) =
      ap (λ n. cond (same_name name n) (cond (is_named own g) (change g) g).members (members_of (changed_where (is_named own) change gs) name)) (keeps (is_named own g))
      ∙ by (is_named name g) (same_name name own) (is_named own g) refl same (members_of-changed_own name gs)
    where
      keeps : (b : Bool) → (cond b (change g) g).name ≡ g.name
      keeps true = named g
      keeps false = refl

      same : is_named name g ≡ true → is_named own g ≡ same_name name own
      same e = same_name_equiv.symm own g.name ∙ sym (same_name_equiv.congr name g.name own e)

      by : (a b c : Bool) → is_named name g ≡ a → (is_named name g ≡ true → c ≡ b) → members_of (changed_where (is_named own) change gs) name ≡ cond b (without gone (members_of gs name)) (members_of gs name)
          → cond a (cond c (change g) g).members (members_of (changed_where (is_named own) change gs) name) ≡ cond b (without gone (cond a g.members (members_of gs name))) (cond a g.members (members_of gs name))
      by true true true e f rest = members g
      by true true false e f rest = absurd (false≢true (f e))
      by true false true e f rest = absurd (false≢true (sym (f e)))
      by true false false e f rest = refl
      by false b c e f rest = rest

-- after those without alerts went
pub members_of-kept_some : (name : GroupName) (gs : List GroupState) → IsDistinct same_group gs → members_of (without has_no_alerts gs) name ≡ members_of gs name
members_of-kept_some name [] h = refl
members_of-kept_some name (g ∷ gs) h = by (has_no_alerts g) (is_named name g) refl refl (members_of-kept_some name gs (IsDistinct-tail same_group g gs h))
  where
    no_other : (ks : List GroupState) → AllByRecursion (λ k. same_group g k ≡ false) ks → is_named name g ≡ true → members_of ks name ≡ []
    no_other [] all e = refl
    no_other (k ∷ ks) all e = ap (λ b. cond b k.members (members_of ks name)) (same_name_equiv.congr name g.name k.name e ∙ all.0) ∙ no_other ks all.1 e

    nothing : (ms : List MemberState) → is_empty ms ≡ true → ms ≡ []
    nothing [] e = refl
    nothing (m ∷ ms) e = absurd (false≢true e)

    by : (d n : Bool) → has_no_alerts g ≡ d → is_named name g ≡ n → members_of (without has_no_alerts gs) name ≡ members_of gs name
        → members_of (cond (not d) (g ∷ without has_no_alerts gs) (without has_no_alerts gs)) name ≡ cond n g.members (members_of gs name)
    by true true e f rest = rest ∙ no_other gs (IsDistinct-head same_group g gs h) f ∙ sym (nothing g.members e)
    by true false e f rest = rest
    by false n e f rest = ap (λ b. cond b g.members (members_of (without has_no_alerts gs) name)) f ∙ ap (λ ms. cond n g.members ms) rest

-- ---- what leaves

-- an alert of a group is among those of its group that passed a test, with its stamp, exactly if it passes it
module _ (m : MemberState) (test : MemberState → Bool) where
  abbrev stamp_of : MemberState → Stamped
  stamp_of n = record { labels = n.alert.labels; stamp = n.stamp }

  pub leaving-found : (ms : List MemberState) → IsDistinct same_member ms → member_with m.alert.labels ms ≡ Some m → is_leaving (map stamp_of (filter test ms)) m ≡ test m
  leaving-found [] h e = absurd (cc)
  leaving-found (n ∷ ms) h found =
      by (same_label_set m.alert.labels n.alert.labels) refl (leaving-found ms (IsDistinct-tail same_member n ms h)) found
    where
      own : same_label_set m.alert.labels m.alert.labels ≡ true
      own = same_label_set_equiv.refl m.alert.labels

      -- no other has its labels
      apart : (ks : List MemberState) → AllByRecursion (λ k. same_member m k ≡ false) ks → is_leaving (map stamp_of (filter test ks)) m ≡ false
      apart [] all = refl
      apart (k ∷ ks) all =
          elim (test k) as (λ b. is_leaving (map stamp_of (cond b (k ∷ filter test ks) (filter test ks))) m ≡ false) [
            | true ↦
                ap (λ b. (b && (k.stamp == m.stamp)) || is_leaving (map stamp_of (filter test ks)) m) (same_label_set_equiv.symm k.alert.labels m.alert.labels ∙ all.0)
                ∙ apart ks all.1
            | false ↦ apart ks all.1
          ]

      here : (b : Bool) → test m ≡ b → AllByRecursion (λ k. same_member m k ≡ false) ms → is_leaving (map stamp_of (cond b (m ∷ filter test ms) (filter test ms))) m ≡ b
      here true e all =
          ap (λ b. (b && (m.stamp == m.stamp)) || is_leaving (map stamp_of (filter test ms)) m) own
          ∙ ap (λ b. b || is_leaving (map stamp_of (filter test ms)) m) (nat_eq_equiv.refl m.stamp)
      here false e all = apart ms all

      by : (b : Bool) → same_label_set m.alert.labels n.alert.labels ≡ b → (member_with m.alert.labels ms ≡ Some m → is_leaving (map stamp_of (filter test ms)) m ≡ test m) → cond b (Some n) (member_with m.alert.labels ms) ≡ Some m → is_leaving (map stamp_of (cond (test n) (n ∷ filter test ms) (filter test ms))) m ≡ test m
      by true e later found =
          let same : n ≡ m = cc in
          subst (λ k. is_leaving (map stamp_of (cond (test k) (k ∷ filter test ms) (filter test ms))) m ≡ test m) (sym same)
          (here (test m) refl (subst (λ k. AllByRecursion (λ j. same_member k j ≡ false) ms) same (IsDistinct-head same_member n ms h)))
      by false e later found =
          let rest = later found in
          elim (test n) as (λ b. is_leaving (map stamp_of (cond b (n ∷ filter test ms) (filter test ms))) m ≡ test m) [
            | true ↦ ap (λ b. (b && (n.stamp == m.stamp)) || is_leaving (map stamp_of (filter test ms)) m) (same_label_set_equiv.symm n.alert.labels m.alert.labels ∙ e) ∙ rest
            | false ↦ rest
          ]
