use Rattle.std.proofs.Common.{◌≡◌, ◌<◌, ◌≤◌, ◌∙◌, List, Option, Some, length, subst, arith}
use Rattle.std.proofs.lemmas.List.{take_all}
use Rattle.serde_json.specs.Find.{as_array}
use Rattle.serde_json.specs.View.{items_view, view}
use Rattle.serde_json.specs.declared.value.Value.{Value}
use Rattle.am_json.specs.Decoding.{DecodeEach, IsObject}
use Rattle.am_config.proofs.Listed.{adds_definition}
use Rattle.am_config.proofs.Timed.{array_decoded, some_is}
use Rattle.am_config.specs.Times.{HasDefinition}
use Rattle.am_config.specs.declared.hours.Hours.{Hours}
use Rattle.am_config.proofs.definitions.Defined.read_list.Goals as goal

pub loop-index-preserved : goal.loop-index-preserved
loop-index-preserved c =
    let l = c.loop-index in
    let values = c.in-Some.items.now in
    let value = c.index-items-index.result in
    let hours : Option Hours = c.args.self.now.hours in
    let same : l.self.hours ≡ hours = l.invariant.hours in
    let here : l.index < length values = omega arith in
    record {
      hours = c.in_ok-read_definition.ensures.hours ∙ same;
      added = λ none.
          let read = c.in_ok-read_definition.ensures.added none in
          let done = l.invariant.added read.0 in
          let d = read.1.0 in (
            done.0,
            adds_definition hours values l.index value d c.args.self.now.named l.self.named c.read_definition.new.self.named here c.index-items-index.is done.1
                read.1.1
                (subst (λ (v : Value). IsObject (HasDefinition hours) (view v) d) c.item-item.ensures.value
                (subst (λ (h : Option Hours). IsObject (HasDefinition h) (view c.item-item.result.value) d) same read.1.2)),
          );
    }

pub returns-clause-added : goal.returns-clause-added
returns-clause-added c = λ none.
    let l = c.loop-index in
    let D = IsObject (HasDefinition c.args.self.now.hours) in
    let value = view c.args.member.now.value in
    let values = c.in-Some.items.now in
    let past : length values ≤ l.index = omega arith in
    let done = l.invariant.added none in
    let is : as_array value ≡ Some (items_view values) =
    some_is (λ s. as_array value ≡ Some (items_view s.now)) c.in_ok-items.field-0 c.in-Some.items c.in-Some.is c.in_ok-items.ensures.items in (
      done.0,
      (
        done.1.0,
        done.1.1,
        array_decoded D value (items_view values) done.1.0 is
            (subst (λ (vs : List Value). DecodeEach D (items_view vs) done.1.0) (take_all l.index values past) done.1.2),
      ),
    )
