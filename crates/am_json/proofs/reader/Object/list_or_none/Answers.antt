use Rattle.std.proofs.Common.{◌≡◌, List, [], subst, sym}
use Rattle.std.specs.List.{list_all}
use Rattle.std.specs.Prelude.{IsTrue}
use Rattle.serde_json.specs.Find.{get_member}
use Rattle.serde_json.specs.View.{members_view, view}
use Rattle.am_json.specs.Decoding.{HasOr, IsList}
use Rattle.am_json.specs.declared.reader.Mode.{Mode}
use Rattle.am_json.proofs.Decoding.{found, narrowed}
use Rattle.am_json.proofs.reader.Object.list_or_none.Goals as goal

pub returns-in-Some-clause-refused : goal.returns-in-Some-clause-refused
returns-in-Some-clause-refused g c =
    let member = c.in-Some.member in
    let name = c.args.name.now in
    let members = members_view c.args.self.now.members in
    let decodes_to = g.T.FromJson.decodes_to in
    let There = λ (xs : List g.row.T.Denot). IsList (decodes_to member.mode) (view member.value) xs × IsTrue (list_all g.T.FromJson.never_refused xs) in
    let Decodes = λ (xs : List g.row.T.Denot). HasOr (IsList (decodes_to c.args.self.now.mode)) [] name members xs × IsTrue (list_all g.T.FromJson.never_refused xs) in
    narrowed There Decodes
    (λ xs decoded. (
      subst (λ (mode : Mode). IsList (decodes_to mode) (view member.value) xs) (sym c.in-Some.ensures.mode)
          (found (xs ≡ []) (λ v. IsList (decodes_to c.args.self.now.mode) v xs) (view member.value) (get_member name members) c.in-Some.ensures.value decoded.0),
      decoded.1,
    ))
    c.list.result c.list.ensures.refused
