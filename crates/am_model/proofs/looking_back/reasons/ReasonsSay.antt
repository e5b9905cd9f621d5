-- A reason is the one of an integration exactly where what it says is so.
use Rattle.std.proofs.Common.{◌≡◌, ℕ, ◌+◌, Bool, true, false, cond, not, ◌&&◌, ◌||◌, Option, Some, None, List, [], ◌∷◌, ◌≢◌, refl, sym, ap, ◌∙◌, subst, arith}
use Rattle.std.specs.Cmp.{first_so, second_so}
use Rattle.std.specs.Prelude.{nat_lt}
use Rattle.std.proofs.Math.Bool.{or-true}
use Rattle.std.proofs.lemmas.Bool.{false≢true, ltb-true, ltb-false, lt-ltb, le-ltb}
use Rattle.am_alerts.specs.Labels.{same_label_set}
use Rattle.am_alerts.specs.LabelOrder.{same_label_set_equiv}
use Rattle.am_alerts.specs.declared.labels.Label.{Label}
use Rattle.am_nflog.specs.Members.{is_empty, is_member, is_subset}
use Rattle.am_model.specs.declared.reason.Reason.{Reason}
use Rattle.am_model.specs.declared.reason.Reason.TheVariants.{FirstNotice, NewAlert, AllResolved, NewlyResolved, Repeat, NothingLeft, NothingFiring, NotYet, RouteMuted}
use Rattle.am_model.specs.declared.views.RowView.{RowView}
use Rattle.am_model.specs.Configured.{route_of, route_muted}
use Rattle.am_model.specs.look_back.Entry.{firing_in, resolved_in, entry_in}
use Rattle.am_model.specs.look_back.Reasons.{reason_where, HasMore, HasAllFiring, HasAllResolved, Says, SaysWhere, ReasonsAreSo}
use Rattle.am_model.proofs.lists.Sets.{any-alike}
use Rattle.am_model.proofs.looking_back.reasons.Chains.{reason_by-chain, reason_chain}

none-there : {X : Type 0} (xs : List X) → is_empty xs ≡ true → xs ≡ []
none-there [] e = refl
none-there (x ∷ xs) e = absurd (false≢true e)

some-there : {X : Type 0} (xs : List X) → is_empty xs ≡ false → xs ≢ []
some-there xs e nil = false≢true (sym e ∙ ap is_empty nil)

-- where not all are among the others, some label set is more
has-more : (xs ys : List (List Label)) → is_subset same_label_set xs ys ≡ false → HasMore xs ys
has-more [] ys e = absurd (false≢true (sym e))
has-more (x ∷ xs) ys e =
    elim (is_member same_label_set x ys) as (λ b. is_member same_label_set x ys ≡ b → (b && is_subset same_label_set xs ys) ≡ false → HasMore (x ∷ xs) ys) [
      | true ↦ λ is e.
          let more = has-more xs ys e in
          (more.0, ap (λ b. same_label_set more.0 x || b) more.1 ∙ or-true (same_label_set more.0 x), more.2)
      | false ↦ λ is e. (x, ap (λ b. b || is_member same_label_set x xs) (same_label_set_equiv.refl x), is)
    ] refl e

-- ---- what the reason says is so

-- where something is left and nothing fires, some are resolved
some-left : (firing resolved : List (List Label)) → (is_empty firing && is_empty resolved) ≡ false → firing ≡ [] → resolved ≢ []
some-left firing resolved left nil gone = false≢true (sym left ∙ (λ j. is_empty (nil j) && is_empty (gone j)))

module _ (row : RowView) (firing resolved : List (List Label)) (repeat t : ℕ) where
  abbrev SaysByRow : Bool → Reason → Type 0
  SaysByRow send_resolved reason = Says reason (Some row) firing resolved send_resolved repeat t

  -- the cases, from the last to the first
  abbrev timed : Reason
  timed = cond (nat_lt (row.time + repeat) t) Repeat (NotYet (row.time + repeat + 1))

  says-timed : (send_resolved : Bool) → firing ≢ [] → HasAllFiring row firing → HasAllResolved row resolved send_resolved
      → SaysByRow send_resolved timed
  says-timed send_resolved some all ended =
      let over = row.time + repeat in
      elim (nat_lt over t) as (λ b. nat_lt over t ≡ b → SaysByRow send_resolved (cond b Repeat (NotYet (over + 1)))) [
        | true ↦ λ e. (row, refl, some, all, ended, ltb-true over t e)
        | false ↦ λ e. let reached = ltb-false over t e in (row, refl, some, all, ended, refl, omega (arith, reached))
      ] refl

  abbrev among : Bool
  among = is_subset same_label_set firing row.firing

  abbrev ended_among : Bool
  ended_among = is_subset same_label_set resolved row.resolved

  says-ended : (send_resolved : Bool) → firing ≢ [] → among ≡ true
      → SaysByRow send_resolved (cond (send_resolved && not ended_among) NewlyResolved timed)
  says-ended true some e =
      elim ended_among as (λ b. ended_among ≡ b → SaysByRow true (cond (not b) NewlyResolved timed)) [
        | true ↦ λ is. says-timed true some e (λ h. is)
        | false ↦ λ is. (row, refl, some, e, refl, has-more resolved row.resolved is)
      ] refl
  says-ended false some e = says-timed false some e (λ h. absurd (false≢true h))

  says-none : (send_resolved : Bool) → firing ≡ [] → resolved ≢ []
      → SaysByRow send_resolved (cond (is_empty row.firing) NothingFiring AllResolved)
  says-none send_resolved nil left =
      elim (is_empty row.firing) as (λ b. is_empty row.firing ≡ b → SaysByRow send_resolved (cond b NothingFiring AllResolved)) [
        | true ↦ λ e. (
          nil,
          left,
          λ other is. let same : row ≡ other = cc in subst (λ (r : RowView). r.firing ≡ []) same (none-there row.firing e),
        )
        | false ↦ λ e. (row, refl, nil, left, some-there row.firing e)
      ] refl

  says-row : (send_resolved : Bool) → (is_empty firing && is_empty resolved) ≡ false
      → SaysByRow send_resolved (reason_chain (Some row) firing resolved send_resolved repeat t)
  says-row send_resolved left =
      let later = cond (send_resolved && not ended_among) NewlyResolved timed in
      let fired = cond (is_empty row.firing) NothingFiring AllResolved in
      elim among as (λ b. among ≡ b → SaysByRow send_resolved (cond (not b) NewAlert (cond (is_empty firing) fired later))) [
        | true ↦ λ e.
            elim (is_empty firing) as (λ b. is_empty firing ≡ b → SaysByRow send_resolved (cond b fired later)) [
              | true ↦ λ none.
                  let nil = none-there firing none in
                  says-none send_resolved nil (some-left firing resolved left nil)
              | false ↦ λ some. says-ended send_resolved (some-there firing some) e
            ] refl
        | false ↦ λ e. (row, refl, has-more firing row.firing e)
      ] refl

says-by : (o : Option RowView) (firing resolved : List (List Label)) (send_resolved : Bool) (repeat t : ℕ)
    → (is_empty firing && is_empty resolved) ≡ false
    → Says (reason_chain o firing resolved send_resolved repeat t) o firing resolved send_resolved repeat t
says-by None firing resolved send_resolved repeat t left =
    elim (is_empty firing) as (λ b. is_empty firing ≡ b → Says (cond b NothingFiring FirstNotice) None firing resolved send_resolved repeat t) [
      | true ↦ λ e. let nil = none-there firing e in (nil, some-left firing resolved left nil, λ row is. absurd (cc))
      | false ↦ λ e. (refl, some-there firing e)
    ] refl
says-by (Some row) firing resolved send_resolved repeat t left = says-row row firing resolved repeat t send_resolved left

-- nothing is left where both are empty
both-none : (xs ys : List (List Label)) → (is_empty xs && is_empty ys) ≡ true → (xs ≡ []) × (ys ≡ [])
both-none [] [] e = (refl, refl)
both-none [] (y ∷ ys) e = absurd (false≢true e)
both-none (x ∷ xs) ys e = absurd (false≢true e)

-- the reason by an entry
abbrev decided : Option RowView → List (List Label) → List (List Label) → Bool → ℕ → ℕ → Reason
decided o firing resolved send_resolved repeat t =
    cond (is_empty firing && is_empty resolved) NothingLeft (reason_chain o firing resolved send_resolved repeat t)

says : (o : Option RowView) (firing resolved : List (List Label)) (send_resolved : Bool) (repeat t : ℕ)
    → Says (decided o firing resolved send_resolved repeat t) o firing resolved send_resolved repeat t
says o firing resolved send_resolved repeat t =
    let nothing = is_empty firing && is_empty resolved in
    let reason = reason_chain o firing resolved send_resolved repeat t in
    elim nothing as (λ b. nothing ≡ b → Says (cond b NothingLeft reason) o firing resolved send_resolved repeat t) [
      | true ↦ λ e. both-none firing resolved e
      | false ↦ λ e. says-by o firing resolved send_resolved repeat t e
    ] refl

-- ---- where what a reason says is so, it is the reason

is-filled : {X : Type 0} (xs : List X) → xs ≢ [] → is_empty xs ≡ false
is-filled [] some = absurd (some refl)
is-filled (x ∷ xs) some = refl

has-member : (labels : List Label) (xs : List (List Label)) → is_member same_label_set labels xs ≡ true → is_empty xs ≡ false
has-member labels [] e = absurd (false≢true e)
has-member labels (x ∷ xs) e = refl

-- a member of some is one of the others, if all are
member-among : (labels : List Label) (xs ys : List (List Label)) → is_subset same_label_set xs ys ≡ true
    → is_member same_label_set labels xs ≡ true → is_member same_label_set labels ys ≡ true
member-among labels [] ys all e = absurd (false≢true e)
member-among labels (x ∷ xs) ys all e =
    by (same_label_set labels x) refl e (member-among labels xs ys (second_so _ _ all))
  where
    by : (b : Bool) → same_label_set labels x ≡ b → (b || is_member same_label_set labels xs) ≡ true
        → (is_member same_label_set labels xs ≡ true → is_member same_label_set labels ys ≡ true)
        → is_member same_label_set labels ys ≡ true
    by true same e rest =
        any-alike (same_label_set labels) (same_label_set x) (λ z. same_label_set_equiv.congr labels x z same) ys ∙ first_so _ _ all
    by false same e rest = rest e

not-among : (xs ys : List (List Label)) → HasMore xs ys → is_subset same_label_set xs ys ≡ false
not-among xs ys more =
    elim (is_subset same_label_set xs ys) as (λ b. is_subset same_label_set xs ys ≡ b → b ≡ false) [
      | true ↦ λ all. absurd (false≢true (sym more.2 ∙ member-among more.0 xs ys all more.1))
      | false ↦ λ e. refl
    ] refl

none-ended : (send_resolved all : Bool) → (send_resolved ≡ true → all ≡ true) → (send_resolved && not all) ≡ false
none-ended true all ended_listed = ap not (ended_listed refl)
none-ended false all ended_listed = refl

-- the reason by what the tests of a row answer
abbrev chosen : Bool → Bool → Bool → Bool → Bool → Bool → ℕ → Reason
chosen nothing all none fired ended over from =
    cond nothing NothingLeft
    (cond (not all) NewAlert (cond none (cond fired NothingFiring AllResolved) (cond ended NewlyResolved (cond over Repeat (NotYet from)))))

module _ (o : Option RowView) (firing resolved : List (List Label)) (send_resolved : Bool) (repeat t : ℕ) where
  abbrev Decides : Reason → Type 0
  Decides reason = decided o firing resolved send_resolved repeat t ≡ reason

  -- by the row of the entry
  by-row : (row : RowView) (reason : Reason) → o ≡ Some row → decided (Some row) firing resolved send_resolved repeat t ≡ reason
      → Decides reason
  by-row row reason e is = ap (λ (o : Option RowView). decided o firing resolved send_resolved repeat t) e ∙ is

  decides-first : Says FirstNotice o firing resolved send_resolved repeat t → Decides FirstNotice
  decides-first (none, some) =
      let filled = is-filled firing some in
      let first : decided None firing resolved send_resolved repeat t ≡ FirstNotice =
      λ j. cond (filled j && is_empty resolved) NothingLeft (cond (filled j) NothingFiring FirstNotice) in
      ap (λ (o : Option RowView). decided o firing resolved send_resolved repeat t) none ∙ first

  decides-new : Says NewAlert o firing resolved send_resolved repeat t → Decides NewAlert
  decides-new (row, e, more) =
      let filled = has-member more.0 firing more.1 in
      let all = not-among firing row.firing more in
      by-row row NewAlert e (λ j. chosen (filled j && is_empty resolved) (all j) (is_empty firing) (is_empty row.firing)
      (send_resolved && not (is_subset same_label_set resolved row.resolved)) (nat_lt (row.time + repeat) t) (row.time + repeat + 1))

  decides-all : Says AllResolved o firing resolved send_resolved repeat t → Decides AllResolved
  decides-all (row, e, nil, left, fired) =
      let none = is-filled resolved left in
      let some = is-filled row.firing fired in
      let last : decided (Some row) [] resolved send_resolved repeat t ≡ AllResolved =
      λ j. cond (none j) NothingLeft (cond (some j) NothingFiring AllResolved) in
      by-row row AllResolved e (ap (λ (fs : List (List Label)). decided (Some row) fs resolved send_resolved repeat t) nil ∙ last)

  decides-newly : Says NewlyResolved o firing resolved send_resolved repeat t → Decides NewlyResolved
  decides-newly (row, e, some, all, sent, more) =
      let filled = is-filled firing some in
      let ended = not-among resolved row.resolved more in
      by-row row NewlyResolved e (λ j. chosen (filled j && is_empty resolved) (all j) (filled j) (is_empty row.firing)
      (sent j && not (ended j)) (nat_lt (row.time + repeat) t) (row.time + repeat + 1))

  decides-repeat : Says Repeat o firing resolved send_resolved repeat t → Decides Repeat
  decides-repeat (row, e, some, all, ended_listed, before) =
      let filled = is-filled firing some in
      let ended = none-ended send_resolved (is_subset same_label_set resolved row.resolved) ended_listed in
      let over = lt-ltb (row.time + repeat) t before in
      by-row row Repeat e (λ j. chosen (filled j && is_empty resolved) (all j) (filled j) (is_empty row.firing)
      (ended j) (over j) (row.time + repeat + 1))

  decides-left : Says NothingLeft o firing resolved send_resolved repeat t → Decides NothingLeft
  decides-left (nil, gone) = λ j. decided o (nil j) (gone j) send_resolved repeat t

  decides-not_yet : (from : ℕ) → Says (NotYet from) o firing resolved send_resolved repeat t → Decides (NotYet from)
  decides-not_yet from (row, e, some, all, ended_listed, is, before) =
      let filled = is-filled firing some in
      let ended = none-ended send_resolved (is_subset same_label_set resolved row.resolved) ended_listed in
      let over = le-ltb (row.time + repeat) t (omega (arith, is, before)) in
      by-row row (NotYet from) e (λ j. chosen (filled j && is_empty resolved) (all j) (filled j) (is_empty row.firing)
      (ended j) (over j) (sym is j))

none-fires : (o : Option RowView) (resolved : List (List Label)) (send_resolved : Bool) (repeat t : ℕ)
    → resolved ≢ [] → ((row : RowView) → o ≡ Some row → row.firing ≡ []) → decided o [] resolved send_resolved repeat t ≡ NothingFiring
none-fires None resolved send_resolved repeat t left none = ap (λ b. cond b NothingLeft NothingFiring) (is-filled resolved left)
none-fires (Some row) resolved send_resolved repeat t left none =
    λ j. cond (is-filled resolved left j) NothingLeft (cond (is_empty (none row refl j)) NothingFiring AllResolved)

decides : (reason : Reason) (o : Option RowView) (firing resolved : List (List Label)) (send_resolved : Bool) (repeat t : ℕ)
    → Says reason o firing resolved send_resolved repeat t → decided o firing resolved send_resolved repeat t ≡ reason
decides FirstNotice = decides-first
decides NewAlert = decides-new
decides AllResolved = decides-all
decides NewlyResolved = decides-newly
decides Repeat = decides-repeat
decides NothingLeft = decides-left
decides NothingFiring = λ o firing resolved send_resolved repeat t (nil, left, none).
    ap (λ (fs : List (List Label)). decided o fs resolved send_resolved repeat t) nil
    ∙ none-fires o resolved send_resolved repeat t left none
decides (NotYet from) = λ o firing resolved send_resolved repeat t. decides-not_yet o firing resolved send_resolved repeat t from
decides (RouteMuted until) = λ o firing resolved send_resolved repeat t never. absurd never

-- where the route can be muted
says-where : (muted : Option ℕ) (reason : Reason) (o : Option RowView) (firing resolved : List (List Label)) (send_resolved : Bool) (repeat t : ℕ)
    → (SaysWhere muted reason o firing resolved send_resolved repeat t → reason_where muted (decided o firing resolved send_resolved repeat t) ≡ reason)
    × (reason_where muted (decided o firing resolved send_resolved repeat t) ≡ reason → SaysWhere muted reason o firing resolved send_resolved repeat t)
says-where None reason o firing resolved send_resolved repeat t = (
  decides reason o firing resolved send_resolved repeat t,
  λ is. subst (λ (x : Reason). Says x o firing resolved send_resolved repeat t) is (says o firing resolved send_resolved repeat t),
)
says-where (Some until) reason o firing resolved send_resolved repeat t = (λ is. sym is, λ is. sym is)

pub reasons_are_so : ReasonsAreSo
reasons_are_so config name t past i reason =
    let muted = route_muted config name t in
    let entry = entry_in config name i.0 past in
    let firing = firing_in config name t past in
    let resolved = resolved_in config name t past in
    let repeat = (route_of config name).repeat_interval in
    let both = says-where muted reason entry firing resolved i.1.send_resolved repeat t in
    let chain = ap (λ (r : Reason). reason_where muted (cond (is_empty firing && is_empty resolved) NothingLeft r))
    (reason_by-chain entry firing resolved i.1.send_resolved repeat t) in
    (λ is. chain ∙ both.0 is, λ e. both.1 (sym chain ∙ e))
