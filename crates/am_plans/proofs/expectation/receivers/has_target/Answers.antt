use Rattle.std.proofs.Common.{◌≡◌, ◌&&◌, ℕ, Bool, List, sym, ap, ◌∙◌}
use Rattle.std.specs.Prelude.{Option, Some}
use Rattle.std.specs.List.{list_any}
use Rattle.am_model.specs.declared.config.Receiver.{Receiver}
use Rattle.am_plans.proofs.Named.{first_named, none_named, only_named, some_named}
use Rattle.am_plans.specs.Expected.{has_integration, is_named, is_target}
use Rattle.am_terms.specs.declared.expectation.Expectation.{Expectation}
use Rattle.am_plans.proofs.expectation.receivers.has_target.Goals as goal

-- whether a receiver has the integration that an expectation says
abbrev has : Expectation → Receiver → Bool
has x r = has_integration x.kind x.integration r.integrations

-- one of these receivers is the target, where one of this name has the integration
with_name : (x : Expectation) (name : List ℕ) (rs : List Receiver) → x.receiver ≡ Some name → list_any (is_target x) rs ≡ some_named name (has x) rs
with_name x name rs says = ap (λ (n : Option (List ℕ)). list_any (λ r. is_named n r && has_integration x.kind x.integration r.integrations) rs) says

pub returns-in-None-named : goal.returns-in-None-named
returns-in-None-named c =
    let x = c.args.expectation.now in
    let name = c.as_str.result.now in
    let rs = c.args.config.now.receivers in
    sym (with_name x name rs (c.in-Some.is ∙ ap Some (sym c.as_str.ensures)) ∙ none_named name (has x) rs (sym c.in-None-named.ensures))

pub returns-then-has_integration : goal.returns-then-has_integration
returns-then-has_integration c =
    let x = c.args.expectation.now in
    let name = c.as_str.result.now in
    let rs = c.args.config.now.receivers in
    c.if-has_integration.true
    ∙ sym (with_name x name rs (c.in-Some.is ∙ ap Some (sym c.as_str.ensures))
    ∙ first_named name (has x) rs c.in-Some-named.first.now (sym c.in-Some-named.ensures) (sym c.has_integration.ensures ∙ c.if-has_integration.true))

pub returns-else-has_more : goal.returns-else-has_more
returns-else-has_more c =
    let x = c.args.expectation.now in
    let name = c.as_str.result.now in
    let rs = c.args.config.now.receivers in
    c.if-has_more.false
    ∙ sym (with_name x name rs (c.in-Some.is ∙ ap Some (sym c.as_str.ensures))
    ∙ only_named name (has x) rs c.in-Some-named.first.now (sym c.has_twice-has_more.ensures ∙ c.if-has_more.false) (sym c.in-Some-named.ensures)
    (sym c.has_integration.ensures ∙ c.if-has_integration.false))
