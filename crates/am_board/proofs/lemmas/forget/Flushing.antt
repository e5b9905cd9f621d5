-- Which keys a forgetting leaves known: those of the groups whose flush is open.
use Rattle.std.proofs.Common.{◌≡◌, true, ◌||◌, List, [], ◌∷◌, map, ap, ◌∙◌}
use Rattle.std.specs.Prelude.{All}
use Rattle.std.specs.List.{list_any, AllByRecursion}
use Rattle.std.proofs.lemmas.Bool.{or_right}
use Rattle.std.proofs.lemmas.List.Elements.{All-weaker}
use Rattle.am_alerts.specs.declared.labels.Label.{Label}
use Rattle.am_nflog.proofs.CallerLemmas.{is_known-without_unused}
use Rattle.am_nflog.specs.Log.{Slots, without_unused}
use Rattle.am_model.proofs.lists.Distinct.{all_from, all_to, all-both, all-weaker}
use Rattle.am_model.proofs.states.Alike.{same_name_equiv}
use Rattle.am_model.specs.State.{same_name}
use Rattle.am_model.specs.declared.config.Config.{Config}
use Rattle.am_model.specs.declared.group.GroupName.{GroupName}
use Rattle.am_board.specs.declared.flush.OpenFlush.{OpenFlush}
use Rattle.am_board.specs.Refinement.{IsNotified, IsPrepared}

abbrev groups_of : List OpenFlush → List GroupName
groups_of fs = map (λ f. f.group) fs

-- a flush's group is one of these
abbrev IsOfThese : List GroupName → OpenFlush → Type 0
IsOfThese names f = list_any (λ g. same_name g f.group) names ≡ true

themselves : (fs : List OpenFlush) → AllByRecursion (IsOfThese (groups_of fs)) fs
themselves [] = tt
themselves (f ∷ fs) = (
  ap (λ b. b || list_any (λ g. same_name g f.group) (groups_of fs)) (same_name_equiv.refl f.group),
  all-weaker (IsOfThese (groups_of fs)) (IsOfThese (groups_of (f ∷ fs)))
      (λ k h. or_right (same_name f.group k.group) (list_any (λ g. same_name g k.group) (groups_of fs)) h) fs (themselves fs),
)

-- what was prepared stays so
pub prepared-forgotten : (config : Config) (log : Slots GroupName (List Label)) (fs : List OpenFlush) → All (IsPrepared config log) fs → All (IsPrepared config (without_unused same_name (groups_of fs) log)) fs
prepared-forgotten config log fs h =
    let names = groups_of fs in
    let left = without_unused same_name names log in
    all_from (IsPrepared config left) fs
    (all-both (IsOfThese names) (IsPrepared config log) (IsPrepared config left)
    (λ f among k. record {
      kept_for = k.kept_for;
      notified =
          All-weaker (IsNotified log f) (IsNotified left f)
          (λ a j. record {
            group = j.group;
            known = is_known-without_unused same_name log same_name_equiv names a.key (ap (λ n. list_any (λ g. same_name g n) names) j.group ∙ among) j.known;
            sets = j.sets;
          }) f.notified.items k.notified;
    })
    fs (themselves fs) (all_to (IsPrepared config log) fs h))
