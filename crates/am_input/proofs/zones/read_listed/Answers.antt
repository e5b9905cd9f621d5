use Rattle.std.proofs.Common.{◌≡◌, ◌∙◌, ◌++◌, List, [], ◌∷◌, ap, append_assoc, subst, sym}
use Rattle.std.proofs.lemmas.List.{append-nil}
use Rattle.std.specs.Prelude.{⊤}
use Rattle.serde_json.proofs.Views.{Entry}
use Rattle.serde_json.specs.View.{members_view, view}
use Rattle.serde_json.specs.declared.value.Value.{Value}
use Rattle.am_json.proofs.Decoding.{handed_on, starved}
use Rattle.am_config.specs.declared.hours.NamedZone.{NamedZone}
use Rattle.am_input.proofs.Listed.{listed_more, zone_at, zones_more}
use Rattle.am_input.specs.Clocks.{IsRuled, ListsZones}
use Rattle.am_input.specs.Zones.{AreZones, IsZone}
use Rattle.am_input.proofs.zones.read_listed.Goals as goal

pub loop-name-preserved : goal.loop-name-preserved
loop-name-preserved c =
    let l = c.loop-name in
    let done = l.invariant.0 in
    let e : Entry = (c.in-Some.name.now, c.in-Some.value.now) in
    let left = c.next.new.self in
    let z : NamedZone = record { name = c.in_ok-name.name; zone = c.in_ok-zone.zone } in
    let all : c.args.listed.now.members ≡ done ++ e ∷ left = l.invariant.1 ∙ ap (λ es. done ++ es) c.in-Some.ensures.steps in (
      done ++ e ∷ [],
      all ∙ sym (append_assoc done (e ∷ []) left),
      zones_more done e l.invariant.2 (subst (λ (v : Value). IsZone (view v)) c.member-rule.ensures.value c.in_ok-zone.ensures.decoded),
      subst (λ (zs : List NamedZone). ListsZones (members_view (done ++ e ∷ [])) zs) (sym c.in_ok-push.ensures.items)
          (listed_more done l.zones.items e z l.invariant.3 (c.in_ok-name.ensures ∙ c.as_str-in-loop-name.ensures.value)
          (subst (λ (v : Value). IsRuled (view v) z.zone) c.member-rule.ensures.value c.in_ok-zone.ensures.said)),
    )

pub returns-clause-decoded : goal.returns-clause-decoded
returns-clause-decoded c =
    let l = c.loop-name in
    let done = l.invariant.0 in
    subst (λ (es : List Entry). AreZones (members_view es)) (sym (l.invariant.1 ∙ ap (λ es. done ++ es) c.in-None.ensures.steps.0 ∙ append-nil done)) l.invariant.2

pub returns-clause-said : goal.returns-clause-said
returns-clause-said c =
    let l = c.loop-name in
    let done = l.invariant.0 in
    subst (λ (es : List Entry). ListsZones (members_view es) l.zones.items) (sym (l.invariant.1 ∙ ap (λ es. done ++ es) c.in-None.ensures.steps.0 ∙ append-nil done)) l.invariant.3

-- a member that says no zone
pub returns-in_err-zone-clause-refused : goal.returns-in_err-zone-clause-refused
returns-in_err-zone-clause-refused c =
    let l = c.loop-name in
    let done = l.invariant.0 in
    let e : Entry = (c.in-Some.name.now, c.in-Some.value.now) in
    let left = c.next.new.self in
    let all : c.args.listed.now.members ≡ done ++ e ∷ left = l.invariant.1 ∙ ap (λ es. done ++ es) c.in-Some.ensures.steps in
    handed_on (λ (u : ⊤). AreZones (members_view c.args.listed.now.members)) c.from_residual.result c.in_err-zone.field-0.0 c.from_residual.ensures.1
    (λ refusal u decoded. c.in_err-zone.ensures.refused refusal u (subst (λ (v : Value). IsZone (view v)) (sym c.member-rule.ensures.value)
    (zone_at done e left (subst (λ (es : List Entry). AreZones (members_view es)) all decoded))))

pub returns-in_err-name-clause-refused : goal.returns-in_err-name-clause-refused
returns-in_err-name-clause-refused c =
    starved (λ (u : ⊤). AreZones (members_view c.args.listed.now.members)) c.from_residual-in_err-name.result c.from_residual-in_err-name.ensures.1

pub returns-in_err-push-clause-refused : goal.returns-in_err-push-clause-refused
returns-in_err-push-clause-refused c =
    starved (λ (u : ⊤). AreZones (members_view c.args.listed.now.members)) c.from_residual-in_err-push.result c.from_residual-in_err-push.ensures.1
