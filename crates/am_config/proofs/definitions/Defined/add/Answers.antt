use Rattle.std.proofs.Common.{rules, ◌≡◌, ◌∙◌, ◌++◌, ◌∷◌, ℕ, List, [], Some, None, ap, cond, length, map, string_bytes, subst, sym, arith}
use Rattle.std.proofs.lemmas.Map.Text.{hash_map_updates_text}
use Rattle.std.specs.HashMap.{get_by_text}
use Rattle.std.specs.Str.{bytes_eq}
use Rattle.am_alerts.specs.Labels.{has_text_twice}
use Rattle.am_config.proofs.Listed.{found_more, names_once}
use Rattle.am_config.specs.Times.{IsFoundAt, TimesData, named_among}
use Rattle.am_config.specs.declared.definitions.NamedSpans.{NamedSpans}
use Rattle.am_config.proofs.definitions.Defined.add.Goals as goal

pub invariant_of-self-2 : goal.invariant_of-self-2
invariant_of-self-2 c =
    let named : List NamedSpans = c.self.inside.list.items in
    let d : NamedSpans = record { name = c.args.name; spans = c.args.spans } in
    let was = get_by_text c.self.inside.indexes in
    let now = get_by_text c.insert.new.self in
    let items : c.push.new.self.items ≡ named ++ d ∷ [] = c.in_ok-push.ensures.items ∙ ap (λ (ns : List NamedSpans). ns ++ d ∷ []) c.in_ok-reserve.ensures.items in
    let key : string_bytes c.in_ok-key.key ≡ d.name = search rules in
    let size = ap (λ (ns : List NamedSpans). length ns) c.in_ok-reserve.ensures.items in
    let at : c.len.result ≡ length named = omega (arith, c.len.ensures, size, c.reserve.new.self.ok) in
    let put : (name : List ℕ) → now name ≡ cond (bytes_eq d.name name) (Some (length named)) (was name) =
    λ name. hash_map_updates_text (string_bytes c.in_ok-key.key) c.self.inside.indexes c.insert.new.self (Some c.len.result) c.in_ok-insert.ensures.updates name
    ∙ (λ j. cond (bytes_eq (key j) name) (Some (at j)) (was name)) in
    let none : named_among d.name named ≡ None = ap (λ (t : TimesData). named_among d.name t.named) c.self.view_is ∙ c.requires in
    record {
      found = λ name.
          subst (λ (ns : List NamedSpans). IsFoundAt ns name (now name)) (sym items)
          (found_more named d was now none c.self.invariant.found put name);
      once = ap (λ (ns : List NamedSpans). has_text_twice (map (λ (x : NamedSpans). x.name) ns)) items ∙ names_once named d none c.self.invariant.once;
    }
