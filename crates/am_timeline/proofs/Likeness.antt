-- Previews of two flushes that are alike have the same lines.
use Rattle.std.proofs.Common.{◌≡◌, ◌∙◌, ◌+◌, ◌++◌, ◌&&◌, ◌||◌, ◌==◌, ◌∷◌, [], Bool, ℕ, List, Option, Some, None, true, false, not, ap, codes, refl, sym, length, if◌then◌else◌}
use Rattle.std.specs.Prelude.{IfSome}
use Rattle.std.specs.List.{flat_map, list_all}
use Rattle.std.specs.Option.{IsSomeAnd}
use Rattle.std.proofs.lemmas.Bool.{and_parts}
use Rattle.am_model.specs.declared.config.Config.{Config}
use Rattle.am_model.specs.declared.group.GroupName.{GroupName}
use Rattle.am_model.specs.declared.preview.MutedAlert.{MutedAlert}
use Rattle.am_model.specs.declared.preview.Preview.{Preview}
use Rattle.am_model.specs.declared.reason.Reason.{Reason}
use Rattle.am_model.specs.look_back.Reasons.{notifies}
use Rattle.am_model.specs.Notice.{NoticeData}
use Rattle.am_terms.specs.declared.event.PreviewedBegin.{PreviewedBegin}
use Rattle.am_terms.specs.TimeFormatData.{TimeFormatData}
use Rattle.am_timeline.specs.Alike.{AreAlike, has_no_edge, is_unasked}
use Rattle.am_timeline.specs.Playback.{PlaybackData, notices_at}
use Rattle.am_timeline.specs.Runs.{lines_by, sends_nothing, start_frame}
use Rattle.am_timeline.specs.Timeline.{FrameData, before, begun_lines, edge_of, is_on_edge, is_sent_nothing, next_flush, nothing_left}
use Rattle.am_timeline.specs.Timeline.{remark_line, remark_on, remarks_from, remarks_with}
use Rattle.am_timeline.specs.declared.remark.Edge.{Edge}
use Rattle.am_timeline.specs.declared.remark.Remark.{Remark}
use Rattle.am_timeline.specs.declared.remark.Remark.TheVariants.{NoneLeft, Muted, NoIntegrations, NotAsked, NothingToSend}

-- a preview
abbrev preview_of : ℕ → GroupName → List MutedAlert → List Reason → Preview
preview_of time group muted reasons = record { time = time; group = group; muted = muted; reasons = reasons }

-- where a begin isn't on the edge, it has none
no-edge : (config : Config) (o : Preview) (r : Reason) → not (is_on_edge o.time r) ≡ true → edge_of config o r ≡ None
no-edge config o r h = by (is_on_edge o.time r) h
  where
    here : Option Edge
    here = Some (record { at = o.time; next = next_flush config o })

    by : (b : Bool) → not b ≡ true → (if b then here else None) ≡ None
    by true h = cc
    by false h = refl

-- what is said of an integration that isn't asked is the same at another time, with other notices, where neither time is on the edge
remark_on-timeless : (config : Config) (t u : ℕ) (g : GroupName) (m : List MutedAlert) (rs : List Reason) (some others : List NoticeData)
    (position : ℕ) (r : Reason) → is_unasked r ≡ true → not (is_on_edge t r) ≡ true → not (is_on_edge u r) ≡ true
    → remark_on config (preview_of t g m rs) some position r ≡ remark_on config (preview_of u g m rs) others position r
remark_on-timeless config t u g m rs some others position r h old new = by (notifies r) h
  where
    quiet : Option Edge → Option Remark
    quiet edge = Some (NotAsked position r edge)

    same : quiet (edge_of config (preview_of t g m rs) r) ≡ quiet (edge_of config (preview_of u g m rs) r)
    same = ap quiet (no-edge config (preview_of t g m rs) r old ∙ sym (no-edge config (preview_of u g m rs) r new))

    by : (b : Bool) → not b ≡ true
        → (if b then (if is_sent_nothing some position then Some (NothingToSend position) else None)
        else quiet (edge_of config (preview_of t g m rs) r))
        ≡ (if b then (if is_sent_nothing others position then Some (NothingToSend position) else None)
        else quiet (edge_of config (preview_of u g m rs) r))
    by true h = cc
    by false h = same

-- the same of integrations of which none is asked
remarks_from-timeless : (config : Config) (t u : ℕ) (g : GroupName) (m : List MutedAlert) (rs : List Reason) (some others : List NoticeData)
    (position : ℕ) (reasons : List Reason) → list_all is_unasked reasons ≡ true
    → list_all (λ r. not (is_on_edge t r)) reasons ≡ true → list_all (λ r. not (is_on_edge u r)) reasons ≡ true
    → remarks_from config (preview_of t g m rs) some position reasons ≡ remarks_from config (preview_of u g m rs) others position reasons
remarks_from-timeless config t u g m rs some others position [] h old new = refl
remarks_from-timeless config t u g m rs some others position (r ∷ reasons) h old new =
    let parts = and_parts _ _ h in
    let olds = and_parts _ _ old in
    let news = and_parts _ _ new in
    let first = remark_on-timeless config t u g m rs some others position r parts.0 olds.0 news.0 in
    let rest = remarks_from-timeless config t u g m rs some others (position + 1) reasons parts.1 olds.1 news.1 in
    λ i. before (first i) (rest i)

-- the lines on a flush with this preview and these notices
abbrev shown : Config → TimeFormatData → FrameData → Preview → List NoticeData → List ℕ
shown config times frame o notices = flat_map (remark_line config times frame o) (remarks_with config o notices)

-- they are the same at another time, with other notices, where no integration is asked
shown-timeless : (config : Config) (times : TimeFormatData) (frame : FrameData) (t u : ℕ) (g : GroupName) (m : List MutedAlert) (rs : List Reason)
    (some others : List NoticeData) → list_all is_unasked rs ≡ true → has_no_edge (preview_of t g m rs) ≡ true → has_no_edge (preview_of u g m rs) ≡ true
    → shown config times frame (preview_of t g m rs) some ≡ shown config times frame (preview_of u g m rs) others
shown-timeless config times frame t u g m rs some others h old new =
    ap (λ (said : List Remark). flat_map (remark_line config times frame (preview_of t g m rs))
    (if nothing_left rs then NoneLeft ∷ []
    else (if length m == 0 then (if length rs == 0 then NoIntegrations ∷ [] else said)
    else Muted ∷ (if length rs == 0 then NoIntegrations ∷ [] else said))))
    (remarks_from-timeless config t u g m rs some others 0 rs h old new)

-- they are the same where the previews are alike
shown-alike : (config : Config) (times : TimeFormatData) (frame : FrameData) (o p : Preview) (some others : List NoticeData) → AreAlike o p
    → shown config times frame o some ≡ shown config times frame p others
shown-alike config times frame o p some others alike =
    let likewise : has_no_edge (preview_of p.time o.group o.muted o.reasons) ≡ true =
    ap (λ (rs : List Reason). has_no_edge (preview_of p.time o.group o.muted rs)) alike.0.2 ∙ alike.3 in
    shown-timeless config times frame o.time p.time o.group o.muted o.reasons some others alike.1 alike.2 likewise
    ∙ (λ i. shown config times frame (preview_of p.time (alike.0.0 i) (alike.0.1 i) (alike.0.2 i)) others)

-- begins with previews that are alike are compared by the same lines, where neither sends anything or all have lines
pub lines_by-alike : (all : Bool) (playback : PlaybackData) (times : TimeFormatData) (b c : PreviewedBegin) → AreAlike b.preview c.preview
    → (all || (sends_nothing playback.history b && sends_nothing playback.history c)) ≡ true
    → lines_by all playback times c ≡ lines_by all playback times b
lines_by-alike all playback times b c alike h = by all h
  where
    same : begun_lines playback times start_frame c ≡ begun_lines playback times start_frame b
    same =
        sym (shown-alike playback.config times start_frame b.preview c.preview (notices_at playback.history b.index) (notices_at playback.history c.index) alike)

    quiet : (x y : Bool) → (x && y) ≡ true
        → (if y then begun_lines playback times start_frame c else []) ≡ (if x then begun_lines playback times start_frame b else [])
    quiet true true h = same
    quiet true false h = cc
    quiet false y h = cc

    by : (a : Bool) → (a || (sends_nothing playback.history b && sends_nothing playback.history c)) ≡ true
        → lines_by a playback times c ≡ lines_by a playback times b
    by true h = same
    by false h = quiet (sends_nothing playback.history b) (sends_nothing playback.history c) h

-- what is kept of a begin has the lines of another one
pub lines-kept : {X : Type 0} (f : X → List ℕ) (o : Option X) (kept lines : List ℕ) → IfSome o (λ b. kept ≡ f b) → IsSomeAnd o (λ b. f b ≡ lines) → kept ≡ lines
lines-kept f None kept lines is same = absurd same
lines-kept f (Some b) kept lines is same = is ∙ same
