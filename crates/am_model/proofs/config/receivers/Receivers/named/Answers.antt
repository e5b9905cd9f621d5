use Rattle.std.proofs.Common.{◌≡◌, ◌∙◌, ℕ, List, find, ap, sym, subst, arith}
use Rattle.std.specs.Prelude.{Option, Some, None, slice_get}
use Rattle.std.specs.Str.{bytes_eq}
use Rattle.am_model.specs.declared.config.Receiver.{Receiver}
use Rattle.am_model.specs.Receivers.{place_from}
use Rattle.am_model.proofs.configuration.Receivers.{IsThere, looked-up, there}
use Rattle.am_model.proofs.config.receivers.Receivers.named.Goals as goal

pub returns-in-None : goal.returns-in-None
returns-in-None c =
    let name = c.args.name.now in
    let rs : List Receiver = c.self.inside.list.items in
    let place : place_from 0 rs name ≡ None = sym (c.self.invariant.0 name) ∙ sym c.in-None.ensures.value in
    let none : find (λ r. bytes_eq r.name name) rs ≡ None = subst (λ (o : Option ℕ). IsThere 0 rs name o) place (there 0 rs name) in
    sym none ∙ ap (find (λ (r : Receiver). bytes_eq r.name name)) c.self.view_is

pub returns-in-Some : goal.returns-in-Some
returns-in-Some c =
    let name = c.args.name.now in
    let rs : List Receiver = c.self.inside.list.items in
    let at : ℕ = c.in-Some.place.now in
    let place : place_from 0 rs name ≡ Some at = sym (c.self.invariant.0 name) ∙ sym c.in-Some.ensures.value in
    let found : IsThere 0 rs name (Some at) = subst (λ (o : Option ℕ). IsThere 0 rs name o) place (there 0 rs name) in
    let same : at ≡ found.0 = omega (arith, found.1) in
    looked-up c.deref.result.now at c.get-in-Some.result c.get-in-Some.ensures.lookup.0 c.get-in-Some.ensures.lookup.1
    ∙ (λ i. slice_get (c.deref.ensures.value i) (same i)) ∙ found.2
    ∙ ap (find (λ (r : Receiver). bytes_eq r.name name)) c.self.view_is
