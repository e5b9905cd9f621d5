use Rattle.std.proofs.Common.{◌≡◌, ◌∙◌, ◌++◌, List, [], ◌∷◌, ap, append_assoc, subst, sym}
use Rattle.std.proofs.lemmas.List.{append-nil}
use Rattle.serde_json.proofs.Views.{Entry}
use Rattle.serde_json.specs.View.{members_view, view}
use Rattle.serde_json.specs.declared.value.Value.{Value}
use Rattle.am_config.specs.declared.hours.NamedZone.{NamedZone}
use Rattle.am_protocol.proofs.Clocks.{zones_more}
use Rattle.am_protocol.specs.Hours.{AreZones, IsZone}
use Rattle.am_protocol.proofs.hours.read_listed.Goals as goal

pub loop-name-preserved : goal.loop-name-preserved
loop-name-preserved c =
    let l = c.loop-name in
    let done = l.invariant.0 in
    let e : Entry = (c.in-Some.name.now, c.in-Some.value.now) in
    let left = c.next.new.self in
    let z : NamedZone = record { name = c.in_ok-text.text; zone = c.in_ok-zone.zone } in
    let all : c.args.listed.now.members ≡ done ++ e ∷ left = l.invariant.1 ∙ ap (λ es. done ++ es) c.in-Some.ensures.steps in
    let is : IsZone (view e.1) z.zone = subst (λ (v : Value). IsZone (view v) z.zone) c.member-item.ensures.value c.in_ok-zone.ensures in
    let more : AreZones (members_view (done ++ e ∷ [])) (l.zones.items ++ z ∷ []) =
    zones_more done l.zones.items e z l.invariant.2 (c.in_ok-text.ensures ∙ c.as_str-in-loop-name.ensures.value) is in (
      done ++ e ∷ [],
      all ∙ sym (append_assoc done (e ∷ []) left),
      subst (λ (zs : List NamedZone). AreZones (members_view (done ++ e ∷ [])) zs) (sym c.in_ok-push.ensures.items) more,
    )

pub returns : goal.returns
returns c =
    let l = c.loop-name in
    let done = l.invariant.0 in
    subst (λ (es : List Entry). AreZones (members_view es) l.zones.items) (sym (l.invariant.1 ∙ ap (λ es. done ++ es) c.in-None.ensures.steps.0 ∙ append-nil done)) l.invariant.2
