use Rattle.std.proofs.Common.{◌≡◌, ◌++◌, ◌∷◌, ◌∙◌, List, [], true, ap, sym, append_assoc, string_bytes}
use Rattle.std.proofs.lemmas.List.{append-nil}
use Rattle.serde_json.proofs.Views.{Entry}
use Rattle.am_json.specs.Read.{is_one_of}
use Rattle.am_config.proofs.Collecting.{all_named, filled, named_more}
use Rattle.am_config.proofs.collected.only.Goals as goal

pub loop-name-preserved-then-is_one_of : goal.loop-name-preserved-then-is_one_of
loop-name-preserved-then-is_one_of c =
    let l = c.loop-name in
    let done = l.invariant.0 in
    let e : Entry = (c.in-Some.name.now, c.in-Some.value.now) in
    let left = c.next.new.self in
    let names = c.args.names.now in
    let all : c.args.object.now.members ≡ done ++ e ∷ left = l.invariant.1 ∙ ap (λ es. done ++ es) c.in-Some.ensures.steps in
    let named : is_one_of names (string_bytes e.0) ≡ true =
    ap (is_one_of names) (sym c.as_str.ensures.value) ∙ sym c.is_one_of.ensures ∙ c.if-is_one_of.true in (
      done ++ e ∷ [],
      all ∙ sym (append_assoc done (e ∷ []) left),
      named_more names done e c.args.faults.now l.faults l.invariant.2 named,
    )

pub loop-name-preserved : goal.loop-name-preserved
loop-name-preserved c =
    let l = c.loop-name in
    let done = l.invariant.0 in
    let e : Entry = (c.in-Some.name.now, c.in-Some.value.now) in
    let left = c.next.new.self in
    let all : c.args.object.now.members ≡ done ++ e ∷ left = l.invariant.1 ∙ ap (λ es. done ++ es) c.in-Some.ensures.steps in (
      done ++ e ∷ [],
      all ∙ sym (append_assoc done (e ∷ []) left),
      filled c.push.new.self c.in_ok-push.ensures.some,
    )

pub returns : goal.returns
returns c =
    let l = c.loop-name in
    let done = l.invariant.0 in
    let all : c.args.object.now.members ≡ done = l.invariant.1 ∙ ap (λ es. done ++ es) c.in-None.ensures.steps.0 ∙ append-nil done in
    all_named c.args.names.now done c.args.object.now.members c.args.faults.now l.faults all l.invariant.2
