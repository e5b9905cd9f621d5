-- A record that takes a group: the group that its state gives, its preview among the begins, and what happens there.
use Rattle.std.proofs.Common.{◌≡◌, ◌∙◌, ℕ, ◌+◌, ◌≤◌, Bool, true, false, cond, if◌then◌else◌, ◌||◌, ◌==◌, List, [], ◌∷◌, ◌++◌, length, length-append, append_assoc, append-nil, slice_get, Option, Some, None, refl, sym, ap, arith}
use Rattle.std.specs.List.{AllByRecursion}
use Rattle.std.specs.Option.{option_and_then}
use Rattle.std.proofs.lemmas.Bool.{false≢true, ne_eqb}
use Rattle.std.proofs.lemmas.Cmp.{nat_eq_equiv}
use Rattle.am_model.specs.declared.config.Config.{Config}
use Rattle.am_model.specs.declared.config.Integration.{Integration}
use Rattle.am_model.specs.declared.group.GroupName.{GroupName}
use Rattle.am_model.specs.declared.preview.Preview.{Preview}
use Rattle.am_model.specs.declared.record.Call.{Call}
use Rattle.am_model.specs.declared.record.Call.TheVariants.{Begin}
use Rattle.am_model.specs.declared.record.Record.{Record}
use Rattle.am_model.specs.declared.record.Reply.{Reply}
use Rattle.am_model.specs.declared.record.Reply.TheVariants.{Inserted, Silenced, NothingDue, Quiet, Flush, Finished, Maintained, EmptyGroupsRemoved, Forgotten, Loaded, Noted}
use Rattle.am_model.specs.Begin.{taken, reply_notifying}
use Rattle.am_model.specs.Records.{now_of}
use Rattle.am_model.specs.Replay.{reply}
use Rattle.am_model.specs.State.{GroupState, State, time, same_name}
use Rattle.am_model.specs.look_back.Past.{takes}
use Rattle.am_model.specs.look_back.Preview.{preview}
use Rattle.am_model.proofs.legal.EachCall.{each_call}
use Rattle.am_model.proofs.states.Alike.{same_name-is, same_name_equiv}
use Rattle.am_simulation.specs.Previews.{takes_group, preview_of, preview_where, previews_after, previews_of}
use Rattle.am_simulation.proofs.Reporting.{previews-more}
use Rattle.am_terms.specs.declared.event.PreviewedBegin.{PreviewedBegin}
use Rattle.am_timeline.specs.Playback.{PlaybackData}
use Rattle.am_undelivered.specs.Spans.{Fact, begin_at, facts_at, facts_from, next_begin}

-- ---- the group that a record takes

-- a call that takes a group is a begin, and takes the one that the state gives
pub record TakesGroup (s : State) (c : Call) (p : Reply) : Type 0 where
  pub now : ℕ
  pub group : GroupState
  pub call : c ≡ Begin now
  pub given : taken s (time s now) ≡ Some group
  pub named : (name : GroupName) → takes name p ≡ true → name ≡ group.name
  pub own : takes group.name p ≡ true

takes-given : (config : Config) (id : ℕ) (s : State) (now : ℕ) (g : GroupState) → taken s (time s now) ≡ Some g → (notified : List (ℕ × Integration)) → TakesGroup s (Begin now) (reply_notifying config id s (time s now) g notified)
takes-given config id s now g given [] =
    record {
      now = now;
      group = g;
      call = refl;
      given = given;
      named = λ name e. same_name-is name g.name (quiet (same_name name g.name) e);
      own = ap (λ b. b || false) (same_name_equiv.refl g.name);
    }
  where
    quiet : (b : Bool) → (b || false) ≡ true → b ≡ true
    quiet true e = refl
    quiet false e = e
takes-given config id s now g given (i ∷ is) =
    record { now = now; group = g; call = refl; given = given; named = λ name e. same_name-is name g.name e; own = same_name_equiv.refl g.name }

pub takes-group : (config : Config) (id : ℕ) (s : State) (c : Call) (p : Reply) → reply config id s c ≡ Some p → takes_group p ≡ true → TakesGroup s c p
takes-group config id s c p e =
    each_call config id s (λ c new p. takes_group p ≡ true → TakesGroup s c p)
    (record {
      insert = λ now a no. absurd (false≢true no);
      silence = λ now number matchers start end no. absurd (false≢true no);
      nothing = λ now none no. absurd (false≢true no);
      begin = λ now g given notified are takes. takes-given config id s now g given notified;
      finish = λ now number outcomes f is no. absurd (false≢true no);
      maintain = λ now no. absurd (false≢true no);
      remove_empty_groups = λ now no. absurd (false≢true no);
      forget = λ now no. absurd (false≢true no);
      load = λ now row may no. absurd (false≢true no);
      note = λ now number integration outcome f is may no. absurd (false≢true no);
    }) c p e

-- whoever takes a group of a name takes a group
pub takes-some : (name : GroupName) (p : Reply) → takes name p ≡ true → takes_group p ≡ true
takes-some name (Inserted inserted) e = e
takes-some name (Silenced silenced) e = e
takes-some name NothingDue e = e
takes-some name (Quiet group removed) e = refl
takes-some name (Flush group opened) e = refl
takes-some name (Finished finished) e = e
takes-some name (Maintained maintained) e = e
takes-some name (EmptyGroupsRemoved removed) e = e
takes-some name (Forgotten forgotten) e = e
takes-some name (Loaded loaded) e = e
takes-some name Noted e = e

-- ---- previews, one after another

pub previews-append : (config : Config) (before xs ys : List Record) → previews_after config before (xs ++ ys) ≡ previews_after config before xs ++ previews_after config (before ++ xs) ys
previews-append config before [] ys = ap (λ h. previews_after config h ys) (sym (append-nil before))
previews-append config before (x ∷ xs) ys =
    ap (λ l. preview_of config before x ++ l) (previews-append config (before ++ x ∷ []) xs ys)
    ∙ sym (append_assoc (preview_of config before x) (previews_after config (before ++ x ∷ []) xs) (previews_after config ((before ++ x ∷ []) ++ xs) ys))
    ∙ ap (λ h. (preview_of config before x ++ previews_after config (before ++ x ∷ []) xs) ++ previews_after config h ys) (append_assoc before (x ∷ []) xs)

-- the begins from a record on have its index or a later one
module _ (n : ℕ) where
  abbrev pub IsFrom : PreviewedBegin → Type 0
  IsFrom b = n ≤ b.index

  where-from : (rest : List PreviewedBegin) → AllByRecursion IsFrom rest → (index : ℕ) → n ≤ index → (shown : Bool) (o : Option Preview) → AllByRecursion IsFrom (preview_where shown index o ++ rest)
  where-from rest all index le false o = all
  where-from rest all index le true None = all
  where-from rest all index le true (Some o) = (le, all)

  pub all-from : (config : Config) (before rs : List Record) → n ≤ length before → AllByRecursion IsFrom (previews_after config before rs)
  all-from config before [] le = tt
  all-from config before (r ∷ rs) le =
      let more : length (before ++ r ∷ []) ≡ length before + 1 = length-append before (r ∷ []) in
      where-from (previews_after config (before ++ r ∷ []) rs) (all-from config (before ++ r ∷ []) rs (omega (arith, le, more)))
      (length before) le (takes_group r.reply) (preview config before (now_of r.call))

-- ---- the begin of a record

pub slice_get-seam : {X : Type 0} (xs ys : List X) → slice_get (xs ++ ys) (length xs) ≡ slice_get ys 0
slice_get-seam [] ys = refl
slice_get-seam (x ∷ xs) ys = slice_get-seam xs ys

-- the begin of a record at an index, if it took a group
abbrev pub shown_at : ℕ → Bool → Option Preview → Option PreviewedBegin
shown_at index false o = None
shown_at index true None = None
shown_at index true (Some o) = Some (record { index = index; preview = o })

abbrev here : ℕ → Option PreviewedBegin → Option PreviewedBegin
here index o = option_and_then (λ b. if b.index == index then Some b else None) o

first-shown : (index : ℕ) (rest : List PreviewedBegin) → AllByRecursion (IsFrom (index + 1)) rest → (shown : Bool) (o : Option Preview) → here index (slice_get (preview_where shown index o ++ rest) 0) ≡ shown_at index shown o
first-shown index rest all true (Some o) = ap (λ b. cond b (Some (record { index = index; preview = o })) None) (nat_eq_equiv.refl index)
first-shown index [] all true None = refl
first-shown index (b ∷ rest) all true None = later index b all.0
  where
    later : (index : ℕ) (b : PreviewedBegin) → index + 1 ≤ b.index → (if b.index == index then Some b else None) ≡ None
    later index b le = ap (λ c. cond c (Some b) None) (ne_eqb b.index index (λ e. omega (arith, le, e)))
first-shown index [] all false o = refl
first-shown index (b ∷ rest) all false o = later index b all.0
  where
    later : (index : ℕ) (b : PreviewedBegin) → index + 1 ≤ b.index → (if b.index == index then Some b else None) ≡ None
    later index b le = ap (λ c. cond c (Some b) None) (ne_eqb b.index index (λ e. omega (arith, le, e)))

next-shown : (before : List PreviewedBegin) (index : ℕ) (shown : Bool) (o : Option Preview) → next_begin (length before) (shown_at index shown o) ≡ length (before ++ preview_where shown index o)
next-shown before index true (Some o) = sym (length-append before (record { index = index; preview = o } ∷ []))
next-shown before index true None = ap length (sym (append-nil before))
next-shown before index false o = ap length (sym (append-nil before))

module _ (p : PlaybackData) where
  -- the number of begins of records
  abbrev pub count : List Record → ℕ
  count es = length (previews_of p.config es)

  abbrev pub begin_of_record : List Record → Record → Option PreviewedBegin
  begin_of_record es q = shown_at (length es) (takes_group q.reply) (preview p.config es (now_of q.call))

  module _ (es : List Record) (q : Record) (rest : List Record) (begins : p.begins ≡ previews_of p.config (es ++ q ∷ rest)) where
    parts : p.begins ≡ previews_of p.config es ++ (preview_of p.config es q ++ previews_after p.config (es ++ q ∷ []) rest)
    parts = begins ∙ previews-append p.config [] es (q ∷ rest)

    pub begin-found : begin_at p.begins (length es) (count es) ≡ begin_of_record es q
    begin-found =
        let more : length (es ++ q ∷ []) ≡ length es + 1 = length-append es (q ∷ []) in
        ap (λ bs. here (length es) (slice_get bs (count es))) parts
        ∙ ap (here (length es)) (slice_get-seam (previews_of p.config es) (preview_of p.config es q ++ previews_after p.config (es ++ q ∷ []) rest))
        ∙ first-shown (length es) (previews_after p.config (es ++ q ∷ []) rest) (all-from (length es + 1) p.config (es ++ q ∷ []) rest (omega (arith, more)))
        (takes_group q.reply) (preview p.config es (now_of q.call))

    pub count-next : next_begin (count es) (begin_at p.begins (length es) (count es)) ≡ count (es ++ q ∷ [])
    count-next =
        ap (next_begin (count es)) begin-found
        ∙ next-shown (previews_of p.config es) (length es) (takes_group q.reply) (preview p.config es (now_of q.call))
        ∙ ap length (sym (previews-more p.config es q))

  module _ (part : ℕ) where
    -- what happens from a record on, where these are before it
    abbrev pub facts_after : List Record → List Record → List Fact
    facts_after es rs = facts_from part p (count es) (length es) rs

    -- what happens at a record
    abbrev pub facts_here : List Record → Record → List Fact
    facts_here es q = facts_at part p (count es) (begin_of_record es q) q

    pub facts-next : (es : List Record) (q : Record) (rest later : List Record) → p.begins ≡ previews_of p.config (es ++ q ∷ later) → facts_after es (q ∷ rest) ≡ facts_here es q ++ facts_after (es ++ q ∷ []) rest
    facts-next es q rest later begins =
        let next : length es + 1 ≡ length (es ++ q ∷ []) = sym (length-append es (q ∷ [])) in
        λ j. facts_at part p (count es) (begin-found es q later begins j) q ++ facts_from part p (count-next es q later begins j) (next j) rest

    -- what happens at records, one after another
    pub facts-split : (es xs ys later : List Record) → p.begins ≡ previews_of p.config (es ++ (xs ++ (ys ++ later))) → facts_after es (xs ++ ys) ≡ facts_after es xs ++ facts_after (es ++ xs) ys
    facts-split es [] ys later begins = ap (λ h. facts_after h ys) (sym (append-nil es))
    facts-split es (x ∷ xs) ys later begins =
        facts-next es x (xs ++ ys) (xs ++ (ys ++ later)) begins
        ∙ ap (λ l. facts_here es x ++ l) (facts-split (es ++ x ∷ []) xs ys later (begins ∙ ap (previews_of p.config) (sym (append_assoc es (x ∷ []) (xs ++ (ys ++ later))))))
        ∙ sym (append_assoc (facts_here es x) (facts_after (es ++ x ∷ []) xs) (facts_after ((es ++ x ∷ []) ++ xs) ys))
        ∙ (λ j. sym (facts-next es x xs (xs ++ (ys ++ later)) begins) j ++ facts_after (append_assoc es (x ∷ []) xs j) ys)

    -- what happens at one record more
    pub facts-push : (es : List Record) (q : Record) (later : List Record) → p.begins ≡ previews_of p.config (es ++ q ∷ later) → facts_after [] (es ++ q ∷ []) ≡ facts_after [] es ++ facts_here es q
    facts-push es q later begins =
        facts-split [] es (q ∷ []) later begins
        ∙ ap (λ l. facts_after [] es ++ l) (facts-next es q [] later begins ∙ append-nil (facts_here es q))
