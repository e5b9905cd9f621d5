use Rattle.std.proofs.Common.{◌≡◌, ℕ, List, [], ◌∷◌, ◌++◌, Bor, sym, ap, ◌∙◌, append_assoc}
use Rattle.std.proofs.lemmas.List.{append-nil}
use Rattle.serde_json.proofs.Views.{Entry}
use Rattle.serde_json.specs.Data.{string}
use Rattle.serde_json.specs.Find.{as_str}
use Rattle.serde_json.specs.View.{members_view, view}
use Rattle.am_json.specs.Configured.{text_members}
use Rattle.am_json.proofs.Decoding.{handed_on, starved}
use Rattle.am_json.proofs.Members.{text_more, texts_at}
use Rattle.am_json.proofs.Names.{is_string}
use Rattle.am_json.proofs.reader.Object.texts.Goals as goal

pub loop-name-preserved : goal.loop-name-preserved
loop-name-preserved c =
    let l = c.loop-name in
    let done = l.invariant.0 in
    let e : Entry = (c.in-Some.name.now, c.in-Some.value.now) in
    let left = c.next.new.self in
    let all : c.args.self.now.members ≡ done ++ e ∷ left = l.invariant.1 ∙ ap (λ es. done ++ es) c.in-Some.ensures.steps in
    let text = c.in_ok-text.field-0 in
    let is : view e.1 ≡ string text.now =
    is_string (view e.1) text.now (ap (λ v. as_str (view v)) (sym c.member-member.ensures.value) ∙ sym c.in_ok-text.ensures.text) in (
      done ++ e ∷ [],
      all ∙ sym (append_assoc done (e ∷ []) left),
      text_more done l.texts.items e (c.as_str-in-loop-name.result, text) l.invariant.2 (sym c.as_str-in-loop-name.ensures.value) is
          ∙ ap text_members (sym c.in_ok-push.ensures.items),
    )

pub returns-clause-texts : goal.returns-clause-texts
returns-clause-texts c =
    let l = c.loop-name in
    let done = l.invariant.0 in
    ap members_view (l.invariant.1 ∙ ap (λ es. done ++ es) c.in-None.ensures.steps.0 ∙ append-nil done) ∙ l.invariant.2

-- a member that is no text
pub returns-in_err-text-clause-refused : goal.returns-in_err-text-clause-refused
returns-in_err-text-clause-refused c =
    let l = c.loop-name in
    let done = l.invariant.0 in
    let e : Entry = (c.in-Some.name.now, c.in-Some.value.now) in
    let left = c.next.new.self in
    let all : c.args.self.now.members ≡ done ++ e ∷ left = l.invariant.1 ∙ ap (λ es. done ++ es) c.in-Some.ensures.steps in
    let Decodes = λ (ts : List (Bor (List ℕ) × Bor (List ℕ))). members_view c.args.self.now.members ≡ text_members ts in
    handed_on Decodes c.from_residual.result c.in_err-text.field-0.0 c.from_residual.ensures.1
    (λ refusal ts decoded. texts_at done left e ts (sym (ap members_view all) ∙ decoded)
    (sym (c.in_err-text.ensures.text ∙ ap (λ v. as_str (view v)) c.member-member.ensures.value)))

pub returns-in_err-push-clause-refused : goal.returns-in_err-push-clause-refused
returns-in_err-push-clause-refused c =
    let Decodes = λ (ts : List (Bor (List ℕ) × Bor (List ℕ))). members_view c.args.self.now.members ≡ text_members ts in
    starved Decodes c.from_residual-in_err-push.result c.from_residual-in_err-push.ensures.1
