-- A flush of a group that is open before a record and isn't after it is finished by the record; one that is open after it was open before,
-- if the record doesn't begin the group.
use Rattle.std.proofs.Common.{◌≡◌, ℕ, Bool, true, false, cond, not, ◌&&◌, ◌||◌, List, [], ◌∷◌, refl, sym, ap, ◌∙◌}
use Rattle.std.specs.Prelude.{◌==◌}
use Rattle.std.specs.List.{list_any}
use Rattle.std.proofs.lemmas.Bool.{false≢true, or_left, or_right, and_parts}
use Rattle.std.proofs.lemmas.Cmp.{nat_eq_equiv}
use Rattle.am_model.specs.declared.group.GroupName.{GroupName}
use Rattle.am_model.specs.declared.record.Call.{Call}
use Rattle.am_model.specs.declared.record.Call.TheVariants.{Insert, Silence, Begin, Finish, Maintain, RemoveEmptyGroups, Forget, Load, Note}
use Rattle.am_model.specs.declared.record.Record.{Record}
use Rattle.am_model.specs.declared.record.Reply.{Reply}
use Rattle.am_model.specs.declared.record.Reply.TheVariants as reply_is
use Rattle.am_model.specs.State.{same_name}
use Rattle.am_model.specs.look_back.Entry.{begins_group}
use Rattle.am_model.specs.look_back.Laws.{number_in, has_open, IsOneFlushAtATime}
use Rattle.am_model.specs.look_back.Past.{AtEach, is_flush, is_flush_of, is_finish, begin_of, has_begun, has_finished, is_quiet, takes}
use Rattle.am_paging.specs.InTime.{is_finish_of}
use Rattle.am_paging.proofs.OpenFlushes.{neither}

module _ (name : GroupName) where
  -- the flush of a number is the group's, where one of the group has the number
  found-begin : (k : ℕ) (past : List Record) → AtEach IsOneFlushAtATime past → list_any (λ q. is_flush_of name q.reply && (k == number_in q.reply)) past ≡ true → begins_group name (begin_of k past) ≡ true
  found-begin k [] once e = absurd (false≢true e)
  found-begin k (r ∷ past) once e =
      by (is_flush k r.reply) refl (is_flush_of name r.reply && (k == number_in r.reply)) refl e
      (λ e. found-begin k past once.1 e)
    where
      numbered : (p : Reply) → (is_flush_of name p && (k == number_in p)) ≡ true → is_flush k p ≡ true
      numbered (reply_is.Inserted inserted) e = absurd (false≢true e)
      numbered (reply_is.Silenced silenced) e = absurd (false≢true e)
      numbered reply_is.NothingDue e = absurd (false≢true e)
      numbered (reply_is.Quiet group removed) e = absurd (false≢true e)
      numbered (reply_is.Flush group opened) e = nat_eq_equiv.symm opened.number k ∙ (and_parts (same_name name group) (k == opened.number) e).1
      numbered (reply_is.Finished finished) e = absurd (false≢true e)
      numbered (reply_is.Maintained maintained) e = absurd (false≢true e)
      numbered (reply_is.EmptyGroupsRemoved removed) e = absurd (false≢true e)
      numbered (reply_is.Forgotten forgotten) e = absurd (false≢true e)
      numbered (reply_is.Loaded loaded) e = absurd (false≢true e)
      numbered reply_is.Noted e = absurd (false≢true e)

      begun : (qs : List Record) → list_any (λ q. is_flush_of name q.reply && (k == number_in q.reply)) qs ≡ true → has_begun k qs ≡ true
      begun [] e = absurd (false≢true e)
      begun (q ∷ qs) e =
          elim (is_flush_of name q.reply && (k == number_in q.reply)) as (λ b. (is_flush_of name q.reply && (k == number_in q.reply)) ≡ b → (b || list_any (λ q. is_flush_of name q.reply && (k == number_in q.reply)) qs) ≡ true → (is_flush k q.reply || has_begun k qs) ≡ true) [
            | true ↦ λ is _. or_left (is_flush k q.reply) (has_begun k qs) (numbered q.reply is)
            | false ↦ λ _ rest. or_right (is_flush k q.reply) (has_begun k qs) (begun qs rest)
          ] refl e

      by : (a : Bool) → is_flush k r.reply ≡ a → (b : Bool) → (is_flush_of name r.reply && (k == number_in r.reply)) ≡ b
          → (b || list_any (λ q. is_flush_of name q.reply && (k == number_in q.reply)) past) ≡ true
          → (list_any (λ q. is_flush_of name q.reply && (k == number_in q.reply)) past ≡ true → begins_group name (begin_of k past) ≡ true)
          → begins_group name (cond a (r ∷ past) (begin_of k past)) ≡ true
      by true is true own e rest = (and_parts (is_flush_of name r.reply) (k == number_in r.reply) own).0
      by true is false own e rest = absurd (false≢true (sym (once.0.first_begin k is) ∙ begun past e))
      by false is true own e rest = absurd (false≢true (sym is ∙ numbered r.reply own))
      by false is false own e rest = rest e

  -- one that is open, and then isn't, is finished
  pub finished-now : (r : Record) (past : List Record) → AtEach IsOneFlushAtATime past → has_open name past ≡ true → has_open name (r ∷ past) ≡ false → is_finish_of name past r.call ≡ true
  finished-now r past once opens closed = close r.call (both past opens (neither (is_flush_of name r.reply && not (has_finished (number_in r.reply) (r ∷ past))) (list_any (λ q. is_flush_of name q.reply && not (has_finished (number_in q.reply) (r ∷ past))) past) closed).1)
    where
      none : (qs : List Record) → list_any (λ q. is_flush_of name q.reply && false) qs ≡ true → ⊥
      none [] e = false≢true e
      none (q ∷ qs) e = by (is_flush_of name q.reply) e (λ e. none qs e)
        where
          by : (a : Bool) → ((a && false) || list_any (λ q. is_flush_of name q.reply && false) qs) ≡ true → (list_any (λ q. is_flush_of name q.reply && false) qs ≡ true → ⊥) → ⊥
          by true e rest = rest e
          by false e rest = rest e

      both : (qs : List Record) → list_any (λ q. is_flush_of name q.reply && not (has_finished (number_in q.reply) past)) qs ≡ true
          → list_any (λ q. is_flush_of name q.reply && not (is_finish (number_in q.reply) r.call || has_finished (number_in q.reply) past)) qs ≡ false
          → list_any (λ q. is_flush_of name q.reply && is_finish (number_in q.reply) r.call) qs ≡ true
      both [] e f = e
      both (q ∷ qs) e f = by (is_flush_of name q.reply) (is_finish (number_in q.reply) r.call) (has_finished (number_in q.reply) past) e f (λ e f. both qs e f)
        where
          opened : Bool
          opened = list_any (λ q. is_flush_of name q.reply && not (has_finished (number_in q.reply) past)) qs

          left_open : Bool
          left_open = list_any (λ q. is_flush_of name q.reply && not (is_finish (number_in q.reply) r.call || has_finished (number_in q.reply) past)) qs

          ended : Bool
          ended = list_any (λ q. is_flush_of name q.reply && is_finish (number_in q.reply) r.call) qs

          by : (a b c : Bool) → ((a && not c) || opened) ≡ true → ((a && not (b || c)) || left_open) ≡ false → (opened ≡ true → left_open ≡ false → ended ≡ true) → ((a && b) || ended) ≡ true
          by true true c e f rest = refl
          by true false true e f rest = rest e f
          by true false false e f rest = absurd (false≢true (sym f))
          by false b c e f rest = rest e f

      close : (c : Call) → list_any (λ q. is_flush_of name q.reply && is_finish (number_in q.reply) c) past ≡ true → is_finish_of name past c ≡ true
      close (Insert now alert) e = absurd (none past e)
      close (Silence now k matchers start end) e = absurd (none past e)
      close (Begin now) e = absurd (none past e)
      close (Finish now k outcomes) e = found-begin k past once e
      close (Maintain now) e = absurd (none past e)
      close (RemoveEmptyGroups now) e = absurd (none past e)
      close (Forget now) e = absurd (none past e)
      close (Load now row) e = absurd (none past e)
      close (Note now k integration outcome) e = absurd (none past e)

  -- a flush that is open after a record that begins none of the group was open before
  pub open-before : (r : Record) (past : List Record) → takes name r.reply ≡ false → has_open name (r ∷ past) ≡ true → has_open name past ≡ true
  open-before r past other opens = rest past (ap (λ b. (b && not (has_finished (number_in r.reply) (r ∷ past))) || list_any (λ q. is_flush_of name q.reply && not (has_finished (number_in q.reply) (r ∷ past))) past) (sym (none (is_quiet name r.reply) (is_flush_of name r.reply) other)) ∙ opens)
    where
      none : (a b : Bool) → (a || b) ≡ false → b ≡ false
      none true b e = absurd (false≢true (sym e))
      none false b e = e

      one : (a b c : Bool) → (a && not (b || c)) ≡ true → (a && not c) ≡ true
      one true true c e = absurd (false≢true e)
      one true false c e = e
      one false b c e = absurd (false≢true e)

      rest : (qs : List Record) → list_any (λ q. is_flush_of name q.reply && not (has_finished (number_in q.reply) (r ∷ past))) qs ≡ true → list_any (λ q. is_flush_of name q.reply && not (has_finished (number_in q.reply) past)) qs ≡ true
      rest [] e = absurd (false≢true e)
      rest (q ∷ qs) e =
          let later = is_flush_of name q.reply && not (has_finished (number_in q.reply) (r ∷ past)) in
          elim later as (λ b. later ≡ b → (b || list_any (λ q. is_flush_of name q.reply && not (has_finished (number_in q.reply) (r ∷ past))) qs) ≡ true → list_any (λ q. is_flush_of name q.reply && not (has_finished (number_in q.reply) past)) (q ∷ qs) ≡ true) [
            | true ↦ λ is _. or_left (is_flush_of name q.reply && not (has_finished (number_in q.reply) past)) (list_any (λ q. is_flush_of name q.reply && not (has_finished (number_in q.reply) past)) qs) (one (is_flush_of name q.reply) (is_finish (number_in q.reply) r.call) (has_finished (number_in q.reply) past) is)
            | false ↦ λ _ e. or_right (is_flush_of name q.reply && not (has_finished (number_in q.reply) past)) (list_any (λ q. is_flush_of name q.reply && not (has_finished (number_in q.reply) past)) qs) (rest qs e)
          ] refl e
