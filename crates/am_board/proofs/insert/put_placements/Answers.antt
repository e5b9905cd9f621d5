use Rattle.std.proofs.Common.{◌≡◌, ◌∙◌, ◌≤◌, ◌++◌, ◌∷◌, [], ℕ, suc, List, Some, map, vec_len, arith, refl, sym, ap, subst}
use Rattle.std.specs.Prelude.{fold, reverse, ◌==◌}
use Rattle.std.proofs.lemmas.List.{reverse-append, reverse-reverse}
use Rattle.std.proofs.lemmas.List.Elements.{All-pop}
use Rattle.std.proofs.lemmas.List.Sorted.{All-permutation}
use Rattle.std.proofs.lemmas.Cmp.{nat_eq_equiv}
use Rattle.std.proofs.lemmas.Map.Keys.{IsDistinct-IsPermutation}
use Rattle.am_board.proofs.lemmas.insert.Found.{found_rest, space_rest}
use Rattle.am_model.proofs.lists.Distinct.{IsDistinct-last}
use Rattle.am_alerts.specs.RoutingTree.{last_of}
use Rattle.am_board.specs.declared.insert.Placement.{Placement}
use Rattle.am_board.specs.Group.{names_of, HasSpace}
use Rattle.am_model.specs.Insert.{put_into_group}
use Rattle.am_board.specs.Refinement.{group_state}
use Rattle.am_board.specs.Inserting.{IsEmptyWithSpace, IsFound, AreApart, target_of, IsPlacementOf}
use Rattle.am_board.proofs.lemmas.invariant.GroupNames.{routed_added}
use Rattle.am_board.proofs.insert.put_placements.Goals as goal

pub loop-placement-init : goal.loop-placement-init
loop-placement-init c =
    let moved = All-permutation {X = Placement} in
    let given : List Placement = c.args.placements.items in
    let turned : List Placement = c.reverse.new.self.items in
    let count : vec_len c.reverse.new.self ≡ vec_len c.args.placements = c.reverse.ensures.len in
    record {
      spare = omega (arith, c.requires.spare, count);
      space = moved (λ p. HasSpace 1 p.name c.args.groups.now.items) given turned c.reverse.ensures.permutation c.requires.space;
      ready = moved IsEmptyWithSpace given turned c.reverse.ensures.permutation c.requires.ready;
      found = moved (λ p. IsFound c.args.groups.now.items (target_of p)) given turned c.reverse.ensures.permutation c.requires.found;
      apart = IsDistinct-IsPermutation (λ p q. p.name.route == q.name.route) (λ p q. nat_eq_equiv.symm p.name.route q.name.route) given turned c.reverse.ensures.permutation c.requires.apart;
      routed = λ tree groups placements. (groups, moved (λ p. p.name.route ≤ last_of tree) given turned c.reverse.ensures.permutation placements);
      marks = λ name. refl;
      state = λ config m early are. (
        moved (IsPlacementOf config.routes m) given turned c.reverse.ensures.permutation are,
        ap (λ ps. fold (put_into_group config c.args.t m) (map group_state c.args.groups.now.items) (map (λ (p : Placement). p.name) ps)) (ap reverse c.reverse.ensures.items ∙ reverse-reverse given),
      );
    }

pub put_placement-requires-clause-space : goal.put_placement-requires-clause-space
put_placement-requires-clause-space c =
    (All-pop (λ (p : Placement). HasSpace 1 p.name c.loop-placement.groups.items) c.loop-placement.placements.items c.pop.new.self.items (Some c.in-Some.placement) c.in-Some.ensures.items c.loop-placement.invariant.space).1

pub put_placement-requires-clause-ready : goal.put_placement-requires-clause-ready
put_placement-requires-clause-ready c =
    (All-pop IsEmptyWithSpace c.loop-placement.placements.items c.pop.new.self.items (Some c.in-Some.placement) c.in-Some.ensures.items c.loop-placement.invariant.ready).1

pub put_placement-requires-clause-found : goal.put_placement-requires-clause-found
put_placement-requires-clause-found c =
    (All-pop (λ (p : Placement). IsFound c.loop-placement.groups.items (target_of p)) c.loop-placement.placements.items c.pop.new.self.items (Some c.in-Some.placement) c.in-Some.ensures.items c.loop-placement.invariant.found).1

pub loop-placement-preserved : goal.loop-placement-preserved
loop-placement-preserved c =
    let n : ℕ = vec_len c.pop.new.self in
    let rest : List Placement = c.pop.new.self.items in
    let x : Placement = c.in-Some.placement in
    let popped : c.loop-placement.placements.items ≡ rest ++ x ∷ [] = c.in-Some.ensures.items in
    let counted : vec_len c.loop-placement.placements ≡ suc n = omega (arith, c.in-Some.ensures.len) in
    let spaces = All-pop (λ (p : Placement). HasSpace 1 p.name c.loop-placement.groups.items) c.loop-placement.placements.items rest (Some x) popped c.loop-placement.invariant.space in
    let readies = All-pop IsEmptyWithSpace c.loop-placement.placements.items rest (Some x) popped c.loop-placement.invariant.ready in
    let founds = All-pop (λ (p : Placement). IsFound c.loop-placement.groups.items (target_of p)) c.loop-placement.placements.items rest (Some x) popped c.loop-placement.invariant.found in
    let last = IsDistinct-last (λ (p q : Placement). p.name.route == q.name.route) rest x (subst AreApart popped c.loop-placement.invariant.apart) in
    record {
      found = found_rest x.name c.loop-placement.groups.items c.put_placement.new.groups.items c.put_placement.ensures.names rest last.1 founds.0;
      apart = last.0;
      spare = omega (arith, c.put_placement.ensures.spare, c.loop-placement.invariant.spare, counted);
      space = space_rest x.name c.loop-placement.groups.items c.put_placement.new.groups.items c.put_placement.ensures.others rest last.1 spaces.0;
      ready = readies.0;
      routed = λ tree groups placements.
          let before = c.loop-placement.invariant.routed tree groups placements in
          let parts = All-pop (λ (p : Placement). p.name.route ≤ last_of tree) c.loop-placement.placements.items rest (Some x) popped before.1 in
          (routed_added tree (names_of c.loop-placement.groups.items) x.name (names_of c.put_placement.new.groups.items) before.0 parts.1 c.put_placement.ensures.names, parts.0);
      marks = λ name. c.put_placement.ensures.marks name ∙ c.loop-placement.invariant.marks name;
      state = λ config m early are.
          let before = c.loop-placement.invariant.state config m early are in
          let parts = All-pop (IsPlacementOf config.routes m) c.loop-placement.placements.items rest (Some x) popped before.0 in (
            parts.0,
            ap (λ gs. fold (put_into_group config c.args.t m) gs (map (λ (p : Placement). p.name) (reverse rest))) (c.put_placement.ensures.state config m early parts.1)
                ∙ (ap (λ ps. fold (put_into_group config c.args.t m) (map group_state c.loop-placement.groups.items) (map (λ (p : Placement). p.name) ps)) (sym (ap reverse popped ∙ reverse-append rest (x ∷ [])))
                ∙ before.1),
          );
    }
