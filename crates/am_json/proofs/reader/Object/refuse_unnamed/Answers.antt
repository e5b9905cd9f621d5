use Rattle.std.proofs.Common.{◌≡◌, ◌∙◌, ℕ, List, Option, Bor, String, ap, find, is_none, map, not, string_bytes}
use Rattle.std.specs.declared.alloc.Global.{Global}
use Rattle.serde_json.specs.View.{members_view}
use Rattle.serde_json.specs.declared.value.Value.{Value}
use Rattle.am_json.specs.Read.{ObjectData, are_named, is_one_of}
use Rattle.am_json.proofs.Members.{named_in, none_fails}
use Rattle.am_json.proofs.reader.Object.refuse_unnamed.Goals as goal

-- where no name is found that isn't one of these, all of them are
named : (names : List (Bor (List ℕ))) (members : List (String Global × Value)) (object : ObjectData) (found : Option (String Global)) → members ≡ object.members
    → found ≡ find (λ name. not (is_one_of names (string_bytes name))) (map (λ (m : String Global × Value). m.0) members)
    → is_none found ≡ are_named (map (λ (n : Bor (List ℕ)). n.now) names) (members_view object.members)
named names members object found same is =
    ap is_none is ∙ none_fails (λ name. is_one_of names (string_bytes name)) (λ (m : String Global × Value). m.0) members
    ∙ named_in names members ∙ ap (λ ms. are_named (map (λ (n : Bor (List ℕ)). n.now) names) (members_view ms)) same

pub returns-in-None-clause-known : goal.returns-in-None-clause-known
returns-in-None-clause-known c =
    named c.args.names.now c.self.inside.members.now.entries c.args.self.now _ (ap (λ (o : ObjectData). o.members) c.self.view_is) c.in-None.ensures

pub returns-in-Some-clause-known : goal.returns-in-Some-clause-known
returns-in-Some-clause-known c =
    named c.args.names.now c.self.inside.members.now.entries c.args.self.now _ (ap (λ (o : ObjectData). o.members) c.self.view_is) c.in-Some.ensures
