-- A desk's calls hand no row in, so each row of its log was delivered or had nothing to send.
use Rattle.std.proofs.Common.{◌≡◌, ℕ, Bool, true, false, cond, Option, None, List, [], ◌∷◌, ◌++◌, refl, sym, ap, ◌∙◌, subst, true≢false}
use Rattle.std.specs.Prelude.{IsTrue}
use Rattle.std.specs.List.{AllByRecursion}
use Rattle.std.specs.Option.{option_or}
use Rattle.std.proofs.lemmas.List.Elements.{All-push, All-weaker, recursion_from_All}
use Rattle.std.proofs.lemmas.List.Sorted.{All-permutation, IsPermutation-reverse}
use Rattle.am_model.specs.declared.config.Config.{Config}
use Rattle.am_model.specs.declared.group.GroupName.{GroupName}
use Rattle.am_model.specs.declared.record.Call.{Call}
use Rattle.am_model.specs.declared.record.Call.TheVariants.{Insert, Silence, Begin, Finish, Maintain, RemoveEmptyGroups, Forget, Load, Note}
use Rattle.am_model.specs.declared.record.Record.{Record}
use Rattle.am_model.specs.declared.views.RowView.{RowView}
use Rattle.am_model.specs.look_back.Entry.{logs, row_in, row_put}
use Rattle.am_model.specs.look_back.Laws.{was_delivered, handed_in, UnlessHandedIn}
use Rattle.am_model.specs.look_back.Past.{past_of}
use Rattle.am_model.specs.Replay.{IsLegal, replay}
use Rattle.am_model.proofs.looking_back.rows.RowsDelivered.{rows_were_delivered}
use Rattle.am_desk.specs.History.{may_be, is_desk_call, AreDeskCalls, MayBeCalls}
use Rattle.am_desk.specs.Laws.{EachRowWasDelivered, UnloadedRowsWereDelivered}

none-either : (b : Bool) (o : Option RowView) → o ≡ None → cond b None o ≡ None
none-either true o e = refl
none-either false o e = e

-- nothing was handed in at any key
nothing_handed : (name : GroupName) (i : ℕ) (past : List Record) → AllByRecursion (λ r. row_in r.call ≡ None) past → handed_in name i past ≡ None
nothing_handed name i [] none = refl
nothing_handed name i (r ∷ past) none =
    ap (λ o. cond (logs name i past r.call) None (option_or (row_put name i r.reply o) (handed_in name i past))) none.0
    ∙ none-either (logs name i past r.call) (handed_in name i past) (nothing_handed name i past none.1)

pub unloaded_rows : UnloadedRowsWereDelivered
unloaded_rows config id history legal none =
    let past = past_of history in
    let back : AllByRecursion (λ r. row_in r.call ≡ None) past =
    recursion_from_All (λ r. row_in r.call ≡ None) past (All-permutation (λ r. row_in r.call ≡ None) history past (IsPermutation-reverse history) none)
    in
    All-weaker (λ row. UnlessHandedIn (handed_in row.group row.integration past) row (IsTrue (was_delivered row past))) (λ row. IsTrue (was_delivered row past))
    (λ row said. subst (λ o. UnlessHandedIn o row (IsTrue (was_delivered row past))) (nothing_handed row.group row.integration past back) said)
    (replay config history).rows
    (rows_were_delivered config id history legal)

-- a desk's call hands no row in
no_row : (made : Call) → IsTrue (is_desk_call made) → row_in made ≡ None
no_row (Insert now alert) is = refl
no_row (Silence now id matchers start end) is = refl
no_row (Begin now) is = refl
no_row (Finish now number outcomes) is = refl
no_row (Maintain now) is = refl
no_row (RemoveEmptyGroups now) is = refl
no_row (Forget now) is = refl
no_row (Load now row) is = absurd (true≢false (sym is))
no_row (Note now number integration outcome) is = refl

pub each_row : (config : Config) (id : ℕ) (history : List Record) → IsLegal config id history → AreDeskCalls history → EachRowWasDelivered config history
each_row config id history legal calls =
    unloaded_rows config id history legal (All-weaker (λ r. IsTrue (is_desk_call r.call)) (λ r. row_in r.call ≡ None) (λ r is. no_row r.call is) history calls)

-- one call more
pub calls-snoc : (loads : Bool) (history : List Record) (r : Record) → MayBeCalls loads history → IsTrue (may_be loads r.call) → MayBeCalls loads (history ++ r ∷ [])
calls-snoc loads history r calls is = All-push (λ s. IsTrue (may_be loads s.call)) history r calls is
