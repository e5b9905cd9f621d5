use Rattle.std.proofs.Common.{◌<◌, ◌≤◌, length, subst, arith}
use Rattle.std.specs.Result.{result_ok}
use Rattle.serde_json.specs.Find.{as_array}
use Rattle.serde_json.specs.View.{members_view, view}
use Rattle.serde_json.specs.declared.value.Value.{Value}
use Rattle.am_config.proofs.Matched.{adds_text, array_kept, said_texts}
use Rattle.am_config.specs.Collects.{Adds}
use Rattle.am_config.specs.Matchers.{AreInText}
use Rattle.am_config.specs.Said.{said}
use Rattle.am_config.proofs.matchers.read_texts.Goals as goal

pub loop-index-preserved : goal.loop-index-preserved
loop-index-preserved c = λ none.
    let l = c.loop-index in
    let values = c.in-Some-2.items.now in
    let value = c.index-items-index.result in
    let before = c.args.matchers.now.items in
    let mid = l.matchers.items in
    let after = c.read_text.new.matchers.items in
    let here : l.index < length values = omega arith in
    let read = c.in_ok-read_text.ensures none in
    let so_far = l.invariant read.0 in (
      so_far.0,
      adds_text values l.index value before mid after here c.index-items-index.is so_far.1
          (subst (λ (v : Value). Adds mid after (AreInText (view v))) c.item.ensures.value read.1.1),
    )

pub returns : goal.returns
returns c =
    let l = c.loop-index in
    let values = c.in-Some-2.items in
    let past : length values.now ≤ l.index = omega arith in
    let value = view c.in-Some.member.value in
    said_texts (said c.args.name.now (members_view c.args.object.now.members)) value values.now l.index c.args.matchers.now.items l.matchers.items c.args.faults.now
    l.faults c.in-Some.ensures
    (array_kept (result_ok c.array.result) c.in_ok-items.field-0 values (as_array value) c.in_ok-items.ensures.kept c.in-Some-2.is c.array.ensures.items) past
    l.invariant
