-- The alerts of a group under their labels: one is put in, and some are taken out.
use Rattle.std.proofs.Common.{◌≡◌, ℕ, suc, ◌-◌, ◌≤◌, ◌==◌, Bool, true, false, true≢false, cond, not, ◌||◌, List, [], ◌∷◌, length, map, filter, count_by, refl, sym, ap, ◌∙◌, subst, eqb-true, eq-eqb, arith}
use Rattle.std.specs.Prelude.{All}
use Rattle.std.specs.List.{AllByRecursion, list_any}
use Rattle.std.proofs.lemmas.List.{length-map}
use Rattle.std.proofs.lemmas.List.Sums.{length-filter}
use Rattle.am_model.proofs.lists.Alone.{filter-none}
use Rattle.std.specs.Map.{keys_of, values_of}
use Rattle.std.proofs.lemmas.Bool.{false≢true}
use Rattle.std.proofs.lemmas.List.Elements.{All-nil, All-filter, All-head, All-tail}
use Rattle.indexmap.specs.IndexMap.{insert_entry}
use Rattle.am_alerts.specs.AlertData.{is_resolved}
use Rattle.am_alerts.specs.Labels.{same_label_set}
use Rattle.am_alerts.specs.LabelOrder.{same_label_set-decides}
use Rattle.am_alerts.specs.declared.labels.Label.{Label}
use Rattle.am_model.specs.Insert.{same_member}
use Rattle.am_model.specs.Lists.{upsert, without}
use Rattle.am_model.specs.State.{MemberState}
use Rattle.am_model.proofs.lists.Distinct.{all_from, all_to}
use Rattle.am_model.proofs.lists.Removals.{map-without, count-without}
use Rattle.am_model.proofs.lists.Words.{all-upsert}
use Rattle.am_board.specs.Keyed.{AreKeyed}
use Rattle.am_board.specs.Refinement.{member_state}
use Rattle.am_board.specs.Members.{labels_of, AreMembers}
use Rattle.am_board.specs.Order.{AreIndexes, indexes_in_order}
use Rattle.am_board.specs.declared.group.Member.{Member}
use Rattle.am_board.proofs.lemmas.invariant.Keyed.{same_key, length-values, values-filter, upsert-entries, AreKeyed-filter, AreKeyed-insert}

abbrev IsLabelled : (List Label × Member) → Type 0
IsLabelled e = e.0 ≡ labels_of e.1

abbrev IsUnmarked : Member → Type 0
IsUnmarked m = m.leaves ≡ false

abbrev like : Member → Member → Bool
like = same_key same_label_set labels_of

-- no alerts at all
pub are_none : (es : List (List Label × Member)) → es ≡ [] → AreMembers es
are_none es none =
    subst AreMembers (sym none) (record { keyed = All-nil IsLabelled; unmarked = All-nil IsUnmarked })

-- ---- one is put in

states-put : (m : Member) (ms : List Member) → map member_state (upsert like m ms) ≡ upsert same_member (member_state m) (map member_state ms)
states-put m [] = refl
states-put m (n ∷ ms) =
    elim (like m n) as (λ b. map member_state (cond b (m ∷ ms) (n ∷ upsert like m ms)) ≡ cond b (member_state m ∷ map member_state ms) (member_state n ∷ upsert same_member (member_state m) (map member_state ms))) [
      | true ↦ refl
      | false ↦ ap (λ ns. member_state n ∷ ns) (states-put m ms)
    ]

module _ (m : Member) (es : List (List Label × Member)) (h : AreMembers es) where
  values_put : values_of (insert_entry same_label_set es m.alert.labels m) ≡ upsert like m (values_of es)
  values_put = upsert-entries same_label_set labels_of m es h.keyed

  pub are_put : m.leaves ≡ false → AreMembers (insert_entry same_label_set es m.alert.labels m)
  are_put off =
      record {
        keyed = AreKeyed-insert same_label_set labels_of (λ k l. (same_label_set-decides k l).0) m es h.keyed;
        unmarked = subst (All IsUnmarked) (sym values_put) (all_from IsUnmarked (upsert like m (values_of es)) (all-upsert like m IsUnmarked (values_of es) off (all_to IsUnmarked (values_of es) h.unmarked)));
      }

  pub members_put : map member_state (values_of (insert_entry same_label_set es m.alert.labels m)) ≡ upsert same_member (member_state m) (map member_state (values_of es))
  members_put = ap (map member_state) values_put ∙ states-put m (values_of es)

-- ---- some are taken out

module _ (test : MemberState → Bool) (es kept : List (List Label × Member)) (is : kept ≡ filter (λ e. not (test (member_state e.1))) es) where
  left : values_of kept ≡ without (λ m. test (member_state m)) (values_of es)
  left = ap values_of is ∙ values-filter (λ (m : Member). not (test (member_state m))) es

  pub are_left : AreMembers es → AreMembers kept
  are_left h =
      record {
        keyed = subst (AreKeyed labels_of) (sym is) (AreKeyed-filter same_label_set labels_of (λ e. not (test (member_state e.1))) es h.keyed);
        unmarked = subst (All IsUnmarked) (sym left) (All-filter (λ m. not (test (member_state m))) IsUnmarked (values_of es) h.unmarked);
      }

  pub members_left : map member_state (values_of kept) ≡ without test (map member_state (values_of es))
  members_left = ap (map member_state) left ∙ map-without member_state test (values_of es)

  pub members_gone : length es - length kept ≡ count_by test (map member_state (values_of es))
  members_gone =
      let fewer = ap length left in
      let gone = count-without member_state test (values_of es) in
      omega (arith, fewer, gone, length-values es, length-values kept)

-- ---- the order by labels

pub labels_keyed : (es : List (List Label × Member)) → AreKeyed labels_of es → map labels_of (values_of es) ≡ keys_of es
labels_keyed [] h = refl
labels_keyed (e ∷ es) h = λ i. sym (All-head IsLabelled e es h) i ∷ labels_keyed es (All-tail IsLabelled e es h) i

-- the order is that of the same label sets
pub order_kept : (order : List ℕ) (es fs : List (List Label × Member)) → AreKeyed labels_of es → AreKeyed labels_of fs → keys_of fs ≡ keys_of es → AreIndexes order (values_of es) → AreIndexes order (values_of fs)
order_kept order es fs keyed still same h =
    let sets : map labels_of (values_of es) ≡ map labels_of (values_of fs) = labels_keyed es keyed ∙ sym same ∙ sym (labels_keyed fs still) in
    let as_many : length (values_of es) ≡ length (values_of fs) = sym (length-map (values_of es) labels_of) ∙ ap length sets ∙ length-map (values_of fs) labels_of in
    record {
      first = h.first;
      within = let within = h.within in omega (arith, within, as_many);
      sorted = λ whole. h.sorted (whole ∙ sym as_many) ∙ ap indexes_in_order sets;
    }

-- where no entry more is there after one was put in, the keys are the same
pub keys_put : (k : List Label) (m : Member) (es : List (List Label × Member)) → length (insert_entry same_label_set es k m) ≡ length es → keys_of (insert_entry same_label_set es k m) ≡ keys_of es
keys_put k m [] e = absurd (omega (arith, e))
keys_put k m (e ∷ es) same =
    elim (same_label_set k e.0) as (λ b. length (cond b ((e.0, m) ∷ es) (e ∷ insert_entry same_label_set es k m)) ≡ suc (length es) → keys_of (cond b ((e.0, m) ∷ es) (e ∷ insert_entry same_label_set es k m)) ≡ e.0 ∷ keys_of es) [
      | true ↦ λ h. refl
      | false ↦ λ h. ap (λ ks. e.0 ∷ ks) (keys_put k m es (omega (arith, h)))
    ] same

-- no entry goes where one is put in
no_fewer : (k : List Label) (m : Member) (es : List (List Label × Member)) → length es ≤ length (insert_entry same_label_set es k m)
no_fewer k m [] = omega arith
no_fewer k m (e ∷ es) =
    let rest = no_fewer k m es in
    elim (same_label_set k e.0) as (λ b. suc (length es) ≤ length (cond b ((e.0, m) ∷ es) (e ∷ insert_entry same_label_set es k m))) [
      | true ↦ omega arith
      | false ↦ omega (arith, rest)
    ]

-- one was put in: its label set was there, or it is last and its index isn't kept
pub order_put : (order : List ℕ) (m : Member) (es : List (List Label × Member)) → AreMembers es → AreMembers (insert_entry same_label_set es m.alert.labels m)
    → AreIndexes order (values_of es) → AreIndexes order (values_of (insert_entry same_label_set es m.alert.labels m))
order_put order m es before after h = by (length fs == length es) refl
  where
    fs : List (List Label × Member)
    fs = insert_entry same_label_set es m.alert.labels m

    by : (b : Bool) → (length fs == length es) ≡ b → AreIndexes order (values_of fs)
    by true e = order_kept order es fs before.keyed after.keyed (keys_put m.alert.labels m es (eqb-true (length fs) (length es) e)) h
    by false e =
        let differ : (length fs ≡ length es → ⊥) = λ same. true≢false (sym (eq-eqb (length fs) (length es) same) ∙ e) in
        let within = h.within in
        record {
          first = h.first;
          within = omega (arith, within, no_fewer m.alert.labels m es, length-values es, length-values fs);
          sorted = λ whole. absurd (differ (omega (arith, whole, within, no_fewer m.alert.labels m es, length-values es, length-values fs)));
        }

-- ---- none is resolved

module _ (t : ℕ) where
  abbrev is_over : MemberState → Bool
  is_over m = is_resolved m.alert t

  pub all_stay : (ms : List Member) → not (list_any (λ m. is_resolved m.alert t) ms) ≡ true → without is_over (map member_state ms) ≡ map member_state ms
  all_stay [] h = refl
  all_stay (m ∷ ms) h =
      elim (is_resolved m.alert t) as (λ b. not (b || list_any (λ (n : Member). is_resolved n.alert t) ms) ≡ true → cond (not b) (member_state m ∷ without is_over (map member_state ms)) (without is_over (map member_state ms)) ≡ member_state m ∷ map member_state ms) [
        | true ↦ λ e. absurd (false≢true e)
        | false ↦ λ e. ap (λ ss. member_state m ∷ ss) (all_stay ms e)
      ] h

  none_pass : (ms : List Member) → not (list_any (λ m. is_resolved m.alert t) ms) ≡ true → AllByRecursion (λ m. is_over m ≡ false) (map member_state ms)
  none_pass [] h = tt
  none_pass (m ∷ ms) h =
      elim (is_resolved m.alert t) as (λ b. is_resolved m.alert t ≡ b → not (b || list_any (λ (n : Member). is_resolved n.alert t) ms) ≡ true → (is_resolved m.alert t ≡ false) × AllByRecursion (λ n. is_over n ≡ false) (map member_state ms)) [
        | true ↦ λ e f. absurd (false≢true f)
        | false ↦ λ e f. (e, none_pass ms f)
      ] refl h

  pub none_over : (ms : List Member) → not (list_any (λ m. is_resolved m.alert t) ms) ≡ true → count_by is_over (map member_state ms) ≡ 0
  none_over ms h = sym (length-filter is_over (map member_state ms)) ∙ ap length (filter-none is_over (map member_state ms) (none_pass ms h))
