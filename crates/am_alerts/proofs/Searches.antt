-- A search among the routes of a tree, step by step.
use Rattle.std.proofs.Common.{◌≡◌, ℕ, ◌+◌, ◌<◌, ◌≤◌, true, false, cond, List, [], ◌∷◌, ◌++◌, length, get_or, sym, refl, ap, ◌∙◌, subst}
use Rattle.std.proofs.Common.{arith}
use Rattle.std.proofs.lemmas.List.{append_assoc, append-nil, get_or_default}
use Rattle.am_alerts.specs.Forest.{count}
use Rattle.am_alerts.specs.Layout.{planted}
use Rattle.am_alerts.specs.Matcher.{match_all}
use Rattle.am_alerts.specs.RouteLayouts.{IsPreorder, below_in, paired, part}
use Rattle.am_alerts.specs.RoutingTree.{TreeRoute, matching, or_self, plain}
use Rattle.am_alerts.specs.declared.labels.Label.{Label}
use Rattle.am_alerts.specs.declared.route_layout.RouteLayout.{RouteLayout}
use Rattle.am_alerts.specs.declared.route.Child.{Child}
use Rattle.am_alerts.proofs.Layouts.{IsOpened, opened, kept_route, get_or_paired, length_paired, part-none}

module _ (cs : List Child) (ps : List RouteLayout) (at to end : ℕ) (x : Child) (before : at < to) (within : to ≤ length cs)
    (here : x ≡ get_or cs at x) (end-is : end ≡ at + 1 + below_in ps at) (is_preorder : IsPreorder (part at to (paired cs ps))) where
  abbrev ts : List (TreeRoute × ℕ)
  ts = paired cs ps

  -- what is at the layout, below it and after it
  pub opened_here : IsOpened (paired cs ps) at to end (kept_route x ps at)
  opened_here =
      let d : TreeRoute × ℕ = (plain x, 0) in
      let t : get_or (paired cs ps) at d ≡ (kept_route x ps at, below_in ps at) =
      get_or_paired cs ps at x d (omega arith) ∙ ap (λ y. (kept_route y ps at, below_in ps at)) (sym here) in
      subst (λ e. IsOpened (paired cs ps) at to e (kept_route x ps at)) (sym end-is)
      (subst (λ u. IsOpened (paired cs ps) at to (at + 1 + u.1) u.0) t
      (opened (paired cs ps) at to d before (omega (arith, length_paired cs ps)) is_preorder))

  module _ (labels : List Label) where
    abbrev later : List ℕ
    later = matching (end + 1) (planted (part end to (paired cs ps))) labels

    abbrev reached : List ℕ
    reached = or_self (at + 1) (matching (at + 2) (planted (part (at + 1) end (paired cs ps))) labels)

    matching-step : matching (at + 1) (planted (part at to (paired cs ps))) labels
        ≡ cond (match_all x.matchers labels) (reached ++ cond x.continues later []) later
    matching-step =
        let o = opened_here in
        let below = planted (part (at + 1) end (paired cs ps)) in
        let after = planted (part end to (paired cs ps)) in
        let two : at + 1 + 1 ≡ at + 2 = omega arith in
        let next : at + 1 + 1 + count below ≡ end + 1 = omega (arith, o.size) in
        ap (λ f. matching (at + 1) f labels) o.whole
        ∙ ap (λ n. cond (match_all x.matchers labels)
        (or_self (at + 1) (matching n below labels) ++ cond x.continues (matching (at + 1 + 1 + count below) after labels) [])
        (matching (at + 1 + 1 + count below) after labels)) two
        ∙ ap (λ n. cond (match_all x.matchers labels) (reached ++ cond x.continues (matching n after labels) []) (matching n after labels))
        next

    module _ (found whole : List ℕ) (so_far : found ++ matching (at + 1) (planted (part at to (paired cs ps))) labels ≡ whole) where
      -- the route matches and ends the search
      pub matching-ends : match_all x.matchers labels ≡ true → x.continues ≡ false → found ++ reached ≡ whole
      matching-ends matches ends =
          sym (sym so_far ∙ ap (λ r. found ++ r) (matching-step
          ∙ ap (λ b. cond b (reached ++ cond x.continues later []) later) matches ∙ ap (λ b. reached ++ cond b later []) ends
          ∙ append-nil reached))

      -- it matches, and the search goes on
      pub matching-continues : match_all x.matchers labels ≡ true → x.continues ≡ true → (found ++ reached) ++ later ≡ whole
      matching-continues matches on =
          append_assoc found reached later ∙ sym (sym so_far ∙ ap (λ r. found ++ r) (matching-step
          ∙ ap (λ b. cond b (reached ++ cond x.continues later []) later) matches ∙ ap (λ b. reached ++ cond b later []) on))

      -- it doesn't match
      pub matching-passes : match_all x.matchers labels ≡ false → found ++ later ≡ whole
      matching-passes fails =
          sym (sym so_far ∙ ap (λ r. found ++ r) (matching-step ∙ ap (λ b. cond b (reached ++ cond x.continues later []) later) fails))

-- those below a route are in the part
pub ends_within : (cs : List Child) (ps : List RouteLayout) (at to : ℕ) → at < to → to ≤ length cs → IsPreorder (part at to (paired cs ps))
    → at + 1 + below_in ps at ≤ to
ends_within [] ps at to before within is_preorder = absurd (omega arith)
ends_within (c ∷ cs) ps at to before within is_preorder =
    let x = get_or (c ∷ cs) at c in
    let here : x ≡ get_or (c ∷ cs) at x = get_or_default (c ∷ cs) at c x (omega arith) in
    (opened_here (c ∷ cs) ps at to (at + 1 + below_in ps at) x before within here refl is_preorder).ends

-- no route is left
pub matching-all : (cs : List Child) (ps : List RouteLayout) (at to : ℕ) (labels : List Label) (found whole : List ℕ) → to ≤ at
    → found ++ matching (at + 1) (planted (part at to (paired cs ps))) labels ≡ whole → found ≡ whole
matching-all cs ps at to labels found whole past so_far =
    sym (append-nil found) ∙ sym (ap (λ ts. found ++ matching (at + 1) (planted ts) labels) (part-none (paired cs ps) at to past)) ∙ so_far

-- the root is found where no route is
pub or_self-none : (xs found : List ℕ) → xs ≡ [] → found ≡ xs ++ 0 ∷ [] → found ≡ or_self 0 xs
or_self-none [] found none is = is
or_self-none (x ∷ xs) found none is = absurd (cc)

pub or_self-some : (xs found : List ℕ) → (xs ≡ [] → ⊥) → found ≡ xs → found ≡ or_self 0 xs
or_self-some [] found some is = absurd (some refl)
or_self-some (x ∷ xs) found some is = is
