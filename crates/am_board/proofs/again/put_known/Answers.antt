use Rattle.std.proofs.Common.{◌≡◌, ℕ, ◌+◌, map, length, true, refl, sym, ap, ◌∙◌, subst, arith}
use Rattle.std.specs.Prelude.{All, fold}
use Rattle.am_alerts.specs.AlertData.{AlertData}
use Rattle.am_model.specs.Insert.{names_for, same_alert, put_into_group, inserted}
use Rattle.am_model.specs.Lists.{upsert}
use Rattle.am_model.specs.State.{MemberState, has_group, time}
use Rattle.am_model.specs.declared.config.Config.{Config}
use Rattle.am_board.specs.Group.{AreRouted}
use Rattle.am_board.specs.Inserting.{stamped_alert}
use Rattle.am_board.specs.Refinement.{group_state, state_of}
use Rattle.am_board.specs.declared.state.State as kept
use Rattle.am_board.proofs.lemmas.insert.Again.{is_put, made_none, names_routed}
use Rattle.am_board.proofs.lemmas.insert.Inserting.{makes_few, inserted_is}
use Rattle.am_board.proofs.lemmas.insert.PutAgain.{again_leaves}
use Rattle.am_board.proofs.again.put_known.Goals as goal

pub put_in_each-requires : goal.put_in_each-requires
put_in_each-requires c =
    let config : Config = c.args.config.now in
    subst (AreRouted config.routes) (sym c.requires.names) (names_routed config c.args.arrival.now.alert.labels)

pub returns : goal.returns
returns c =
    let config : Config = c.args.config.now in
    let s : kept.State = c.args.state.now in
    let a : AlertData = c.args.arrival.now.alert in
    let t : ℕ = c.time-t.result in
    let m : MemberState = stamped_alert a (s.inserts + 1) in
    let was = map group_state s.groups.items in
    let put = is_put config t m c.args.names.now s.groups c.put_in_each.new.groups c.in_ok-put_in_each.field-0 c.if-not-branch.false c.in_ok-put_in_each.ensures in
    let there : All (λ name. has_group was name ≡ true) (names_for config a.labels) = subst (All (λ name. has_group was name ≡ true)) c.requires.names put.there in
    let made : 0 ≡ (inserted config (state_of s) a).made = sym (made_none was (names_for config a.labels) there) in
    let now : t ≡ time (state_of s) c.args.arrival.now.time = c.time-t.ensures in
    let new : kept.State = record s { clock = t; inserts = s.inserts + 1; known = c.replace.new.self; groups = c.put_in_each.new.groups; history = c.reserve.new.self } in
    record {
      few = makes_few config s a 0 made (omega (arith, c.requires.few));
      returned = inserted_is config (state_of s) a (length c.args.names.now) 0 (ap length c.requires.names) made;
      state =
          again_leaves config s new (time (state_of s) c.args.arrival.now.time) a now refl (c.replace.ensures ∙ ap (λ (b : AlertData). upsert same_alert b s.known.items) c.in_ok-known.ensures)
          (put.state ∙ ap (fold (put_into_group config t m) was) c.requires.names ∙ ap (λ (n : ℕ). fold (put_into_group config n m) was (names_for config a.labels)) now)
          refl refl refl refl;
      names = put.names;
      marks = put.marks;
      log = refl;
      flushes = refl;
      history = c.in_ok-reserve.ensures.items;
      records = c.in_ok-reserve.ensures.len;
      space = omega (arith, c.in_ok-reserve.ensures.ok, c.in_ok-reserve.ensures.len, c.len.ensures, s.flushes.ok.0);
    }
