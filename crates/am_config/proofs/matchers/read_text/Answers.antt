use Rattle.std.proofs.Common.{◌≡◌, ◌<◌, ◌≤◌, ◌∙◌, ℕ, Bor, List, Option, Some, ap, length, map, option_map, refl, string_bytes, subst, sym, take, arith}
use Rattle.std.proofs.lemmas.List.{take_all}
use Rattle.std.specs.Prelude.{IsSomeAnd}
use Rattle.serde_json.specs.Find.{as_str}
use Rattle.serde_json.specs.View.{view}
use Rattle.am_config.proofs.Collecting.{ok_kept}
use Rattle.am_config.proofs.Matched.{adds_written}
use Rattle.am_config.specs.Matchers.{AreWritten, IsTranslatedText, matchers_in}
use Rattle.am_config.proofs.matchers.read_text.Goals as goal

pub loop-written-preserved : goal.loop-written-preserved
loop-written-preserved c = λ none.
    let l = c.loop-written in
    let all = c.as_slice-all.result.now in
    let m = c.in-Some-2.matcher in
    let here : l.written-index < length all = omega arith in
    let kept = c.in_ok-matcher.ensures.collects none in
    let capacity = c.in_ok-has_capacity.ensures kept.0 in
    let so_far = l.invariant capacity.0 in
    let read = ok_kept (IsTranslatedText c.as_str.result.now) c.matcher_of_text.result m (sym c.in-Some-2.is ∙ c.in_ok-matcher.ensures.kept) c.matcher_of_text.ensures in (
      so_far.0,
      adds_written all l.written-index c.written-item.result m c.args.matchers.now.items l.matchers.items c.push.new.self.items here c.written-item.is so_far.1
          (subst (λ (text : List ℕ). IsTranslatedText text m) c.as_str.ensures.value read) c.in_ok-push.ensures.items,
    )

pub returns : goal.returns
returns c = λ none.
    let l = c.loop-written in
    let all = c.as_slice-all.result.now in
    let text = c.in-Some.text in
    let past : length all ≤ l.written-index = omega arith in
    let done = l.invariant none in
    let adds = done.1 in
    let is : as_str (view c.args.item.now.value) ≡ Some text.now =
    sym c.text.ensures.text ∙ ap (option_map (λ (t : Bor (List ℕ)). t.now)) (sym c.in_ok-text.ensures.kept ∙ c.in-Some.is) in
    let texts : map string_bytes (take l.written-index all) ≡ matchers_in text.now =
    ap (map string_bytes) (take_all l.written-index all past ∙ c.as_slice-all.ensures.value) ∙ c.in_ok-texts.ensures in (
      done.0,
      (
        refl,
        (
          adds.0,
          adds.1,
          subst (λ (o : Option (List ℕ)). IsSomeAnd o (λ t. AreWritten (matchers_in t) adds.0)) (sym is)
              (subst (λ (ts : List (List ℕ)). AreWritten ts adds.0) texts adds.2),
        ),
      ),
    )
