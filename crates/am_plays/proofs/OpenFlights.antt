-- The numbers and the groups of the open flushes, a call later.
use Rattle.std.proofs.Common.{◌≡◌, ℕ, zero, suc, max, min, Bool, true, false, true≢false, cond, not, Some, List, [], ◌∷◌, ◌++◌, map, remove, refl, sym, ap, ◌∙◌, subst, if◌then◌else◌}
use Rattle.std.specs.Prelude.{slice_get, ◌==◌}
use Rattle.std.specs.List.{AllByRecursion, IsDistinct}
use Rattle.std.specs.Option.{IsSomeAnd}
use Rattle.std.proofs.lemmas.Bool.{eqb-true}
use Rattle.std.proofs.lemmas.Cmp.{nat_eq_equiv}
use Rattle.std.proofs.lemmas.List.{map-append}
use Rattle.std.proofs.lemmas.Map.Keys.{IsDistinct-head, IsDistinct-tail}
use Rattle.am_alerts.specs.declared.limits.TheConstants.{MAX_TIME}
use Rattle.am_model.specs.declared.config.Config.{Config}
use Rattle.am_model.specs.declared.config.Integration.{Integration}
use Rattle.am_model.specs.declared.group.GroupName.{GroupName}
use Rattle.am_model.specs.declared.record.Call.{Call}
use Rattle.am_model.specs.declared.record.Call.TheVariants.{Insert, Silence, Begin, Finish, Maintain, RemoveEmptyGroups, Forget, Load, Note}
use Rattle.am_model.specs.declared.record.Reply.{Reply}
use Rattle.am_model.specs.declared.record.Reply.TheVariants as reply_is
use Rattle.am_model.specs.Begin.{after_notifying, reply_notifying}
use Rattle.am_model.specs.Laws.{IsConsistent}
use Rattle.am_model.specs.Lists.{without, changed_where}
use Rattle.am_model.specs.Note.{with_note}
use Rattle.am_model.specs.Replay.{reply, after_call}
use Rattle.am_model.specs.State.{FlushState, GroupState, State, flush_numbered}
use Rattle.am_model.proofs.legal.EachCall.{HoldsOfEach, each_call, inside}
use Rattle.am_model.proofs.lists.Distinct.{IsDistinct-map, find-passes}

-- the number and the group of a flush
abbrev pub Key : Type 0
Key = ℕ × GroupName

abbrev pub key_of : FlushState → Key
key_of f = (f.number, f.group)

-- those of the open flushes, in the order of their begins
abbrev pub open_keys : State → List Key
open_keys s = map key_of s.flushes

abbrev pub same_key : Key → Key → Bool
same_key a b = a.0 == b.0

-- ---- a flush that goes

-- where none of these has the number n, all stay
all-stay : (n : ℕ) (ks : List Key) → AllByRecursion (λ k. (n == k.0) ≡ false) ks → without (λ k. k.0 == n) ks ≡ ks
all-stay n [] all = refl
all-stay n (k ∷ ks) all =
    ap (λ b. cond (not b) (k ∷ without (λ j. j.0 == n) ks) (without (λ j. j.0 == n) ks)) (nat_eq_equiv.symm k.0 n ∙ all.0)
    ∙ ap (λ l. k ∷ l) (all-stay n ks all.1)

at-position : (P : Key → Type 0) (ks : List Key) (position : ℕ) (k : Key) → AllByRecursion P ks → slice_get ks position ≡ Some k → P k
at-position P [] position k all is = absurd (cc)
at-position P (j ∷ ks) zero k all is = subst P (inside j k is) all.0
at-position P (j ∷ ks) (suc position) k all is = at-position P ks position k all.1 is

-- of flushes whose numbers differ, the one at a position goes
pub remove-without : (ks : List Key) (position : ℕ) (k : Key) → IsDistinct same_key ks → slice_get ks position ≡ Some k → remove ks position ≡ without (λ j. j.0 == k.0) ks
remove-without [] position k apart is = absurd (cc)
remove-without (j ∷ ks) zero k apart is =
    let same : j ≡ k = inside j k is in
    let rest : without (λ i. i.0 == j.0) ks ≡ ks = all-stay j.0 ks (IsDistinct-head same_key j ks apart) in
    subst (λ i. ks ≡ without (λ h. h.0 == i.0) (j ∷ ks)) same
    (sym (ap (λ b. cond (not b) (j ∷ without (λ i. i.0 == j.0) ks) (without (λ i. i.0 == j.0) ks)) (nat_eq_equiv.refl j.0) ∙ rest))
remove-without (j ∷ ks) (suc position) k apart is =
    let other : (j.0 == k.0) ≡ false = at-position (λ i. same_key j i ≡ false) ks position k (IsDistinct-head same_key j ks apart) is in
    ap (λ l. j ∷ l) (remove-without ks position k (IsDistinct-tail same_key j ks apart) is)
    ∙ sym (ap (λ b. cond (not b) (j ∷ without (λ i. i.0 == k.0) ks) (without (λ i. i.0 == k.0) ks)) other)

-- the numbers of open flushes of a consistent state differ
pub keys-differ : (s : State) → IsConsistent s → IsDistinct same_key (open_keys s)
keys-differ s is = IsDistinct-map key_of same_key s.flushes is.numbers

-- the open flush of a number is found
pub number-found : (fs : List FlushState) (position : ℕ) (k : Key) → slice_get (map key_of fs) position ≡ Some k → IsSomeAnd (flush_numbered fs k.0) (λ f. f.number ≡ k.0)
number-found [] position k is = absurd (cc)
number-found (f ∷ fs) position k is = by (f.number == k.0) refl position is (λ position is. number-found fs position k is)
  where
    by : (b : Bool) → (f.number == k.0) ≡ b → (position : ℕ) → slice_get (map key_of (f ∷ fs)) position ≡ Some k
        → ((i : ℕ) → slice_get (map key_of fs) i ≡ Some k → IsSomeAnd (flush_numbered fs k.0) (λ g. g.number ≡ k.0))
        → IsSomeAnd (if b then Some f else flush_numbered fs k.0) (λ g. g.number ≡ k.0)
    by true e position is later = eqb-true f.number k.0 e
    by false e zero is later =
        let same : f.number ≡ k.0 = ap (λ (i : Key). i.0) (inside (key_of f) k is) in
        absurd (true≢false (sym (subst (λ n. (f.number == n) ≡ true) same (nat_eq_equiv.refl f.number)) ∙ e))
    by false e (suc position) is later = later position is

-- ---- each call

-- the open flushes after a call that returned a reply
abbrev pub keys_after : Call → Reply → List Key → List Key
keys_after (Finish now number outcomes) p ks = without (λ k. k.0 == number) ks
keys_after (Begin now) (reply_is.Flush group opened) ks = ks ++ (opened.number, group) ∷ []
keys_after (Begin now) (reply_is.Inserted inserted) ks = ks
keys_after (Begin now) (reply_is.Silenced silenced) ks = ks
keys_after (Begin now) reply_is.NothingDue ks = ks
keys_after (Begin now) (reply_is.Quiet group removed) ks = ks
keys_after (Begin now) (reply_is.Finished finished) ks = ks
keys_after (Begin now) (reply_is.Maintained maintained) ks = ks
keys_after (Begin now) (reply_is.EmptyGroupsRemoved removed) ks = ks
keys_after (Begin now) (reply_is.Forgotten forgotten) ks = ks
keys_after (Begin now) (reply_is.Loaded loaded) ks = ks
keys_after (Begin now) reply_is.Noted ks = ks
keys_after (Insert now alert) p ks = ks
keys_after (Silence now id matchers start end) p ks = ks
keys_after (Maintain now) p ks = ks
keys_after (RemoveEmptyGroups now) p ks = ks
keys_after (Forget now) p ks = ks
keys_after (Load now row) p ks = ks
keys_after (Note now number integration outcome) p ks = ks

map-without : (number : ℕ) (fs : List FlushState) → map key_of (without (λ f. f.number == number) fs) ≡ without (λ k. k.0 == number) (map key_of fs)
map-without number [] = refl
map-without number (f ∷ fs) = by (f.number == number) (map-without number fs)
  where
    by : (b : Bool) → map key_of (without (λ g. g.number == number) fs) ≡ without (λ k. k.0 == number) (map key_of fs)
        → map key_of (cond (not b) (f ∷ without (λ g. g.number == number) fs) (without (λ g. g.number == number) fs))
        ≡ cond (not b) (key_of f ∷ without (λ k. k.0 == number) (map key_of fs)) (without (λ k. k.0 == number) (map key_of fs))
    by true rest = rest
    by false rest = ap (λ l. key_of f ∷ l) rest

map-noted : (test : FlushState → Bool) (integration : ℕ) (fs : List FlushState) → map key_of (changed_where test (with_note integration) fs) ≡ map key_of fs
map-noted test integration [] = refl
map-noted test integration (f ∷ fs) = λ i. same (test f) i ∷ map-noted test integration fs i
  where
    same : (b : Bool) → key_of (if b then with_note integration f else f) ≡ key_of f
    same true = refl
    same false = refl

module _ (config : Config) (id : ℕ) (s : State) where
  abbrev Keys : Call → State → Reply → Type 0
  Keys c new p = open_keys new ≡ keys_after c p (open_keys s)

  notifying : (now t : ℕ) (g : GroupState) (notified : List (ℕ × Integration)) → Keys (Begin now) (after_notifying config s t g notified) (reply_notifying config id s t g notified)
  notifying now t g [] = refl
  notifying now t g (i ∷ is) = map-append key_of s.flushes _

  each : HoldsOfEach config id s Keys
  each =
      record {
        insert = λ now a. refl;
        silence = λ now number matchers start end. refl;
        nothing = λ now none. refl;
        begin = λ now g is notified are. notifying now (max s.clock (min now MAX_TIME)) g notified;
        finish = λ now number outcomes f is.
            let own : f.number ≡ number = eqb-true f.number number (find-passes (λ (h : FlushState). h.number == number) f s.flushes is) in
            map-without f.number s.flushes ∙ ap (λ n. without (λ k. k.0 == n) (open_keys s)) own;
        maintain = λ now. refl;
        remove_empty_groups = λ now. refl;
        forget = λ now. refl;
        load = λ now row may. refl;
        note = λ now number i outcome f is may. map-noted (λ g. g.number == f.number) i s.flushes;
      }

  pub keys-step : (c : Call) (p : Reply) → reply config id s c ≡ Some p → open_keys (after_call config s c) ≡ keys_after c p (open_keys s)
  keys-step c p returned = each_call config id s Keys each c p returned
