use Rattle.std.proofs.Common.{◌≡◌, ◌-◌, Bor, List, ℕ, drop, false, length, map}
use Rattle.std.specs.BTreeSet.{contains}
use Rattle.std.specs.Cmp.Lexicographic.{slice_cmp}
use Rattle.std.specs.Ordering.{nat_cmp}
use Rattle.am_alerts.specs.Labels.{has_text_twice, occurs_in}
use Rattle.am_alerts.proofs.route.has_name_twice.Given as goal

-- the set has the names of the children from here on, and none of them is twice
abbrev pub invariant-loop-i : goal.invariant-loop-i
invariant-loop-i l = record {
  names : (q : Bor (List ℕ)) → contains (λ x y. slice_cmp nat_cmp x.now y.now) l.names q
      ≡ occurs_in q.now (map (λ c. c.route.name) (drop (length l.children - l.i) l.children));
  once : has_text_twice (map (λ c. c.route.name) (drop (length l.children - l.i) l.children)) ≡ false;
}
