use Rattle.std.proofs.Common.{◌≡◌, [], ◌∷◌, ◌++◌, None, ap, sym, subst, ◌∙◌}
use Rattle.std.specs.Prelude.{OnOk}
use Rattle.std.specs.List.{position}
use Rattle.std.specs.Map.{values_of}
use Rattle.indexmap.specs.IndexMap.{insert_entry}
use Rattle.am_board.specs.Due.{AreDue}
use Rattle.am_board.specs.GroupList.{GroupList, name_of}
use Rattle.am_board.specs.Keyed.{AreKeyed}
use Rattle.am_model.specs.Lists.{upsert}
use Rattle.am_model.specs.State.{same_name}
use Rattle.am_board.specs.declared.group.Group.{Group}
use Rattle.am_model.specs.declared.group.GroupName.{GroupName}
use Rattle.am_board.proofs.lemmas.invariant.DueKeys.{due_push}
use Rattle.am_board.proofs.lemmas.invariant.Keyed.{same_key, upsert-entries, AreKeyed-insert}
use Rattle.am_model.proofs.lists.Indexes.{put_new}
use Rattle.am_board.proofs.lemmas.maintain.Empties.{bare-state, empties, empties-push}
use Rattle.am_board.proofs.groups.Groups.add.Goals as goal
use Rattle.am_board.proofs.groups.Groups.add.Goals.{After-unwrap}
use Rattle.am_model.proofs.states.Alike.{same_name-is}

-- there is capacity, so the entry was made
entered : (c : After-unwrap) → c.insert.new.self.entries ≡ insert_entry same_name c.self.inside.groups.entries c.args.group.name c.args.group
entered c =
    subst (λ r. OnOk r (c.insert.new.self.entries ≡ insert_entry same_name c.self.inside.groups.entries c.args.name c.args.group)) c.unwrap.ensures c.insert.ensures.entries
    ∙ ap (λ n. insert_entry same_name c.self.inside.groups.entries n c.args.group) c.requires.name

keyed : (c : After-unwrap) → AreKeyed name_of c.insert.new.self.entries
keyed c = subst (AreKeyed name_of) (sym (entered c)) (AreKeyed-insert same_name name_of same_name-is c.args.group c.self.inside.groups.entries c.self.invariant.0.keyed)

added : (c : After-unwrap) → values_of c.insert.new.self.entries ≡ c.args.self.now.items ++ c.args.group ∷ []
added c =
    let like = same_key same_name name_of in
    let missing : position (like c.args.group) c.args.self.now.items ≡ None = ap (λ (n : GroupName). position (λ (g : Group). same_name n g.name) c.args.self.now.items) (sym c.requires.name) ∙ c.requires.missing in
    ap values_of (entered c)
    ∙ upsert-entries same_name name_of c.args.group c.self.inside.groups.entries c.self.invariant.0.keyed
    ∙ ap (λ (k : GroupList). upsert like c.args.group k.items) c.self.view_is
    ∙ put_new like c.args.group c.args.self.now.items missing

pub invariant_of-self : goal.invariant_of-self
invariant_of-self c =
    let at = (goal.at.invariant_of-self c).After-unwrap in
    let before = c.self.inside.due in
    let after = c.put.new.self in (
      record {
        keyed = keyed at;
        distinct = c.insert.ensures.unique;
        due = subst (AreDue after) (sym (added at))
            (due_push before after c.args.self.now.items c.args.group (subst (λ (k : GroupList). AreDue before k.items) c.self.view_is c.self.invariant.0.due) c.put.ensures.has c.put.ensures.keeps);
      },
      c.self.invariant.1 ∙ ap (λ (k : GroupList). empties k.items) c.self.view_is ∙ sym (empties-push c.args.self.now.items c.args.group (bare-state c.args.group ∙ c.requires.alerts)) ∙ ap empties (sym (added at)),
    )

pub returns-clause-items : goal.returns-clause-items
returns-clause-items c = added ((goal.at.returns-clause-items c).After-unwrap)
