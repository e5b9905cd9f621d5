-- Lines that are answered, one after the other.
use Rattle.std.proofs.Common.{◌≡◌, ◌≢◌, ◌∙◌, ◌<◌, ◌≤◌, ◌+◌, ◌⊎◌, ◌++◌, ◌∷◌, [], ℕ, List, IsTrue, Option, None, Result, Ok, Err, append_assoc, ap, arith, inl, inr, length, refl, subst, sym, take}
use Rattle.std.specs.List.{concat}
use Rattle.std.specs.Result.{IfErr, IsErrAnd, OnOk}
use Rattle.std.proofs.lemmas.List.{append-nil, length-append, length-take-le}
use Rattle.std.proofs.lemmas.List.Folds.{concat-append}
use Rattle.am_json.specs.Bytes.{Breaks}
use Rattle.am_protocol.specs.declared.lines.Line.{Line}
use Rattle.am_protocol.specs.declared.lines.LineRead.{LineRead}
use Rattle.am_protocol.specs.declared.lines.LineRead.TheVariants.{Complete, TooLong, NoMemory, End}
use Rattle.am_protocol.specs.Lines.{Adds, IsKept, IsRead, is_plain, lines_of, whole_lines}
use Rattle.am_protocol.proofs.Splitting.{fed_line, none_whole, plain_join, unfed_line, whole_line}
use Rattle.am_session.specs.Line.{AnswersLine, Serves}
use Rattle.am_session.specs.declared.session.Session.{Session}
use Rattle.am_dispatch.specs.declared.event.Event.{Event}
use Rattle.am_dispatch.specs.Serve.{Answered, BreaksOff, IsPrompt, ReadFails, Sends, ServesAll, Serving, Stops, WriteFails}
use Rattle.am_dispatch.specs.declared.fault.ServeFault.{ServeFault}
use Rattle.am_dispatch.specs.declared.fault.ServeFault.TheVariants.{Unwritable}
use Rattle.am_dispatch.specs.Trail.{Happens, IsReadAs, Since, are_writes, given, taken}
use Rattle.am_dispatch.proofs.Trails.{Gives, Quiet, ended_on, end_given, fault_given, given_on, grows_on, prompt_more, prompt_none, prompt_on, quiet, some_given, taken_on, unread_on, unwritten_on}

-- these lines, and then those
serves_join : (old mid new : Option Session) (lines lines2 texts texts2 : List (List ℕ))
    → Serves old lines texts mid → Serves mid lines2 texts2 new → Serves old (lines ++ lines2) (texts ++ texts2) new
serves_join old mid new [] lines2 [] texts2 first second = subst (λ (s : Option Session). Serves s lines2 texts2 new) first second
serves_join old mid new [] lines2 (text ∷ texts) texts2 first second = absurd first
serves_join old mid new (line ∷ lines) lines2 [] texts2 first second = absurd first
serves_join old mid new (line ∷ lines) lines2 (text ∷ texts) texts2 first second = (first.0, first.1, serves_join first.0 mid new lines lines2 texts texts2 first.2 second)

-- the text of a line, and what was kept of it
pub is_read_line : (read : LineRead) (text kept : List ℕ) → read ≢ End → IsKept read text kept → IsRead read text kept
is_read_line Complete text kept begun is = is
is_read_line TooLong text kept begun is = is
is_read_line NoMemory text kept begun is = tt
is_read_line End text kept begun is = absurd (begun refl)

nothing_kept : (read : LineRead) (text kept : List ℕ) → read ≡ End → IsKept read text kept → text ≡ []
nothing_kept Complete text kept ends is = absurd cc
nothing_kept TooLong text kept ends is = absurd cc
nothing_kept NoMemory text kept ends is = absurd cc
nothing_kept End text kept ends is = is.0

kept_none : (read : LineRead) (kept : List ℕ) → read ≡ End → kept ≡ [] → IsKept read [] kept
kept_none Complete kept ends none = absurd cc
kept_none TooLong kept ends none = absurd cc
kept_none NoMemory kept ends none = absurd cc
kept_none End kept ends none = (refl, none)

-- nothing has happened yet
pub served_none : (first : List Event) (line : Line) → line.read ≡ End → line.text.items ≡ [] → Serving first first 0 None line []
served_none first line ends none =
    record {
      events = [];
      grows = sym (append-nil first);
      many = omega arith;
      lines = [];
      texts = [];
      used = [];
      begun = [];
      gives = refl;
      all = λ later. refl;
      whole = λ later. refl;
      plain = refl;
      is = kept_none line.read line.text.items ends none;
      some = λ begun. absurd (begun ends);
      serves = refl;
      takes = refl;
      prompt = prompt_none;
      ended = refl;
      unread = refl;
      unwritten = refl;
    }

-- where nothing is unused, the lines that were answered are the whole ones
serves_whole : (first old : List Event) (reads : ℕ) (s : Option Session) (line : Line) (serving : Serving first old reads s line [])
    → (xs : List ℕ) → xs ≡ given serving.events → Serves None (whole_lines xs) serving.texts s
serves_whole first old reads s line serving xs same =
    let lines : whole_lines xs ≡ serving.lines =
    ap whole_lines (same ∙ (serving.gives ∙ ap (λ (t : List ℕ). serving.used ++ t) (append-nil serving.begun)))
    ∙ (serving.whole serving.begun
    ∙ (ap (λ (ls : List (List ℕ)). serving.lines ++ ls) (none_whole serving.begun serving.plain) ∙ append-nil serving.lines)) in
    subst (λ (ls : List (List ℕ)). Serves None ls serving.texts s) (sym lines) serving.serves

answered_whole : (first old : List Event) (reads : ℕ) (s : Option Session) (line : Line) (serving : Serving first old reads s line []) → Answered serving.events
answered_whole first old reads s line serving =
    record { session = s; texts = serving.texts; serves = serves_whole first old reads s line serving (given serving.events) refl; takes = serving.takes }

-- what is given behind what was given
given_more : (xs : List Event) (it : Event) (used begun bytes : List ℕ) → given xs ≡ used ++ (begun ++ []) → given (it ∷ []) ≡ bytes
    → given (xs ++ it ∷ []) ≡ used ++ (begun ++ bytes)
given_more xs it used begun bytes first second =
    given_on xs (it ∷ [])
    ∙ (ap (λ (t : List ℕ). t ++ given (it ∷ [])) (first ∙ ap (λ (t : List ℕ). used ++ t) (append-nil begun))
    ∙ (ap (λ (t : List ℕ). (used ++ begun) ++ t) second ∙ append_assoc used begun bytes))

taken_same : (xs ys : List Event) (texts : List ℕ) → taken xs ≡ texts → taken ys ≡ [] → taken (xs ++ ys) ≡ texts
taken_same xs ys texts first second =
    taken_on xs ys ∙ (ap (λ (t : List ℕ). t ++ taken ys) first ∙ (ap (λ (t : List ℕ). texts ++ t) second ∙ append-nil texts))

-- a read gave bytes
pub serving_read : {E : Type 0} (r : Result ℕ E) (count : ℕ) (buffer : List ℕ) (first old new : List Event) (reads : ℕ) (s : Option Session) (line : Line)
    → Serving first old reads s line [] → Happens old new (IsReadAs r buffer) → r ≡ Ok count → 0 < count → count ≤ length buffer
    → Serving first new (reads + 1) s line (take count buffer)
serving_read r count buffer first old new reads s line serving happens same some within =
    let gives : Gives (take count buffer) 0 0 happens.it = some_given r count buffer happens.it same (λ none. omega (arith, none, some)) happens.is in
    let one = happens.it ∷ [] in
    record {
      events = serving.events ++ one;
      grows = grows_on first old new serving.events one serving.grows happens.grows;
      many = omega (
        arith,
        serving.many,
        ap length (given_on serving.events one),
        length-append (given serving.events) (given one),
        ap length gives.gives,
        length-take-le count buffer within,
        some,
      );
      lines = serving.lines;
      texts = serving.texts;
      used = serving.used;
      begun = serving.begun;
      gives = given_more serving.events happens.it serving.used serving.begun (take count buffer) serving.gives gives.gives;
      all = serving.all;
      whole = serving.whole;
      plain = serving.plain;
      is = serving.is;
      some = serving.some;
      serves = serving.serves;
      takes = taken_same serving.events one (concat serving.texts) serving.takes gives.takes;
      prompt = prompt_more serving.events happens.it serving.prompt (λ _. answered_whole first old reads s line serving);
      ended = omega (arith, ended_on serving.events one, serving.ended, gives.ends);
      unread = omega (arith, unread_on serving.events one, serving.unread, gives.fails);
      unwritten = omega (arith, unwritten_on serving.events one, serving.unwritten, gives.fine);
    }

-- a part of a line was added, which is all that there was
pub serving_part : (first old : List Event) (reads : ℕ) (s : Option Session) (line next : Line) (bytes : List ℕ)
    → Serving first old reads s line bytes → Adds bytes line next → (next.read ≢ End → (line.read ≢ End) ⊎ (0 < length bytes))
    → Serving first old reads s next []
serving_part first old reads s line next bytes serving adds begun =
    record {
      events = serving.events;
      grows = serving.grows;
      many = serving.many;
      lines = serving.lines;
      texts = serving.texts;
      used = serving.used;
      begun = serving.begun ++ bytes;
      gives = serving.gives ∙ ap (λ (t : List ℕ). serving.used ++ t) (sym (append-nil (serving.begun ++ bytes)));
      all = serving.all;
      whole = serving.whole;
      plain = plain_join serving.begun bytes serving.plain adds.plain;
      is = adds.keeps serving.begun serving.is;
      some = λ known. elim (begun known) [
        | inl had ↦ omega (arith, serving.some had, length-append serving.begun bytes)
        | inr more ↦ omega (arith, more, length-append serving.begun bytes)
      ];
      serves = serving.serves;
      takes = serving.takes;
      prompt = serving.prompt;
      ended = serving.ended;
      unread = serving.unread;
      unwritten = serving.unwritten;
    }

-- the front of what was given, with a line and its line feed
fed : (used begun part bytes behind : List ℕ) → bytes ≡ part ++ 10 ∷ behind
    → used ++ (begun ++ bytes) ≡ used ++ ((begun ++ part) ++ 10 ∷ behind)
fed used begun part bytes behind same =
    ap (λ (t : List ℕ). used ++ t) (ap (λ (t : List ℕ). begun ++ t) same ∙ sym (append_assoc begun part (10 ∷ behind)))

fed_again : (used text later : List ℕ) → (used ++ (text ++ 10 ∷ [])) ++ later ≡ used ++ (text ++ 10 ∷ later)
fed_again used text later =
    append_assoc used (text ++ 10 ∷ []) later ∙ ap (λ (t : List ℕ). used ++ t) (append_assoc text (10 ∷ []) later)

-- what was given, after writes
given_same : (xs ys : List Event) (bytes : List ℕ) → given xs ≡ bytes → given ys ≡ [] → given (xs ++ ys) ≡ bytes
given_same xs ys bytes first second =
    given_on xs ys ∙ (ap (λ (t : List ℕ). t ++ given ys) first ∙ (ap (λ (t : List ℕ). bytes ++ t) second ∙ append-nil bytes))

-- the text of the line that was added to
text_read : (first old : List Event) (reads : ℕ) (s : Option Session) (line next : Line) (bytes part : List ℕ) (serving : Serving first old reads s line bytes)
    → Adds part line next → next.read ≢ End → IsRead next.read (serving.begun ++ part) next.text.items
text_read first old reads s line next bytes part serving adds known =
    is_read_line next.read (serving.begun ++ part) next.text.items known (adds.keeps serving.begun serving.is)

taken_join : (xs ys : List Event) (texts : List (List ℕ)) → taken xs ≡ concat texts → taken (xs ++ ys) ≡ concat (texts ++ taken ys ∷ [])
taken_join xs ys texts first =
    taken_on xs ys
    ∙ (ap (λ (t : List ℕ). t ++ taken ys) first
    ∙ (ap (λ (t : List ℕ). concat texts ++ t) (sym (append-nil (taken ys))) ∙ sym (concat-append texts (taken ys ∷ []))))

-- a line was answered
pub serving_line : (first old new : List Event) (reads : ℕ) (s t : Option Session) (line next fresh : Line) (bytes part behind : List ℕ)
    → Serving first old reads s line bytes → bytes ≡ part ++ 10 ∷ behind → Adds part line next → next.read ≢ End
    → ((text : List ℕ) → IsRead next.read text next.text.items → Sends (λ answer. AnswersLine s text answer t) old new)
    → fresh.read ≡ End → fresh.text.items ≡ [] → Serving first new reads t fresh behind
serving_line first old new reads s t line next fresh bytes part behind serving same adds known answered ends none =
    let text = serving.begun ++ part in
    let sends = answered text (text_read first old reads s line next bytes part serving adds known) in
    let still : Quiet sends.events = quiet sends.events sends.writes in
    let plain : IsTrue (is_plain text) = plain_join serving.begun part serving.plain adds.plain in
    let before : List ℕ = serving.used ++ (serving.begun ++ bytes) in
    let gives : given (serving.events ++ sends.events) ≡ before = given_same serving.events sends.events before serving.gives still.gives in
    record {
      events = serving.events ++ sends.events;
      grows = grows_on first old new serving.events sends.events serving.grows sends.grows;
      many = omega (arith, serving.many, ap length serving.gives, ap length gives);
      lines = serving.lines ++ text ∷ [];
      texts = serving.texts ++ taken sends.events ∷ [];
      used = serving.used ++ (text ++ 10 ∷ []);
      begun = [];
      gives = gives ∙ (fed serving.used serving.begun part bytes behind same ∙ sym (fed_again serving.used text behind));
      all = λ later. ap lines_of (fed_again serving.used text later)
          ∙ (serving.all (text ++ 10 ∷ later)
          ∙ (ap (λ (ls : List (List ℕ)). serving.lines ++ ls) (fed_line text later plain) ∙ sym (append_assoc serving.lines (text ∷ []) (lines_of later))));
      whole = λ later. ap whole_lines (fed_again serving.used text later)
          ∙ (serving.whole (text ++ 10 ∷ later)
          ∙ (ap (λ (ls : List (List ℕ)). serving.lines ++ ls) (whole_line text later plain) ∙ sym (append_assoc serving.lines (text ∷ []) (whole_lines later))));
      plain = refl;
      is = kept_none fresh.read fresh.text.items ends none;
      some = λ begun. absurd (begun ends);
      serves = serves_join None s t serving.lines (text ∷ []) serving.texts (taken sends.events ∷ []) serving.serves (t, sends.is, refl);
      takes = taken_join serving.events sends.events serving.texts serving.takes;
      prompt = prompt_on serving.events sends.events serving.prompt sends.writes;
      ended = omega (arith, ended_on serving.events sends.events, serving.ended, still.ends);
      unread = omega (arith, unread_on serving.events sends.events, serving.unread, still.reads);
      unwritten = omega (arith, unwritten_on serving.events sends.events, serving.unwritten, sends.unwritten);
    }

-- of the answer to a line the front was written
breaks_on : (xs ys : List Event) (texts : List (List ℕ)) {Q : List ℕ → Type 0} → taken xs ≡ concat texts → Breaks Q [] (taken ys) → Breaks Q (concat texts) (taken (xs ++ ys))
breaks_on xs ys texts first breaks =
    record {
      text = breaks.text;
      is = breaks.is;
      front = breaks.front;
      behind = breaks.behind;
      parts = breaks.parts;
      takes = taken_on xs ys ∙ (ap (λ (t : List ℕ). t ++ taken ys) first ∙ ap (λ (t : List ℕ). concat texts ++ t) breaks.takes);
    }

-- the answer to a line was written in part
pub line_breaks : (f : ServeFault) (first old new : List Event) (reads : ℕ) (s t : Option Session) (line next : Line) (bytes part behind : List ℕ)
    → Serving first old reads s line bytes → bytes ≡ part ++ 10 ∷ behind → Adds part line next → next.read ≢ End
    → ((text : List ℕ) → IsRead next.read text next.text.items → (f ≡ Unwritable) × BreaksOff (λ answer. AnswersLine s text answer t) old new)
    → (f ≡ Unwritable) × Since first new IsPrompt × Since first new WriteFails
line_breaks f first old new reads s t line next bytes part behind serving same adds known broken =
    let text = serving.begun ++ part in
    let breaks = broken text (text_read first old reads s line next bytes part serving adds known) in
    let off = breaks.1 in
    let still : Quiet off.events = quiet off.events off.writes in
    let plain : IsTrue (is_plain text) = plain_join serving.begun part serving.plain adds.plain in
    let before : List ℕ = serving.used ++ (serving.begun ++ bytes) in
    let gives : given (serving.events ++ off.events) ≡ before = given_same serving.events off.events before serving.gives still.gives in
    let grows = grows_on first old new serving.events off.events serving.grows off.grows in (
      breaks.0,
      record { events = serving.events ++ off.events; are = prompt_on serving.events off.events serving.prompt off.writes; grows = grows },
      record {
        events = serving.events ++ off.events;
        are = record {
          mid = s;
          new = t;
          lines = serving.lines;
          line = text;
          behind = lines_of behind;
          texts = serving.texts;
          splits = ap lines_of (gives ∙ fed serving.used serving.begun part bytes behind same)
              ∙ (serving.all (text ++ 10 ∷ behind) ∙ ap (λ (ls : List (List ℕ)). serving.lines ++ ls) (fed_line text behind plain));
          serves = serving.serves;
          breaks = breaks_on serving.events off.events serving.texts serving.takes off.breaks;
          unread = omega (arith, unread_on serving.events off.events, serving.unread, still.reads);
          unwritten = omega (arith, unwritten_on serving.events off.events, serving.unwritten, off.unwritten);
        };
        grows = grows;
      },
    )

-- a read comes after the answers
pub prompt_read : {P : Event → Type 0} (first old new : List Event) (reads : ℕ) (s : Option Session) (line : Line)
    → Serving first old reads s line [] → Happens old new P → Since first new IsPrompt
prompt_read first old new reads s line serving happens =
    record {
      events = serving.events ++ happens.it ∷ [];
      are = prompt_more serving.events happens.it serving.prompt (λ _. answered_whole first old reads s line serving);
      grows = grows_on first old new serving.events (happens.it ∷ []) serving.grows happens.grows;
    }

-- all lines of what was given, where the last has begun
all_lines : (used begun : List ℕ) (lines : List (List ℕ)) → ((later : List ℕ) → lines_of (used ++ later) ≡ lines ++ lines_of later)
    → (xs : List ℕ) → xs ≡ used ++ (begun ++ []) → lines_of xs ≡ lines ++ lines_of begun
all_lines used begun lines all xs same = ap lines_of (same ∙ ap (λ (t : List ℕ). used ++ t) (append-nil begun)) ∙ all begun

-- the input has ended behind a line feed
pub served_all : {E : Type 0} (r : Result ℕ E) (count : ℕ) (buffer : List ℕ) (first old new : List Event) (reads : ℕ) (s : Option Session) (line : Line)
    → Serving first old reads s line [] → Happens old new (IsReadAs r buffer) → r ≡ Ok count → count ≡ 0 → line.read ≡ End
    → Since first new ServesAll
served_all r count buffer first old new reads s line serving happens same none ends =
    let gives : Gives [] 1 0 happens.it = end_given r count buffer happens.it same none happens.is in
    let one = happens.it ∷ [] in
    let begun : serving.begun ≡ [] = nothing_kept line.read serving.begun line.text.items ends serving.is in
    let given_all : given (serving.events ++ one) ≡ serving.used ++ (serving.begun ++ []) =
    given_more serving.events happens.it serving.used serving.begun [] serving.gives gives.gives in
    let lines : lines_of (given (serving.events ++ one)) ≡ serving.lines =
    all_lines serving.used serving.begun serving.lines serving.all (given (serving.events ++ one)) given_all
    ∙ (ap (λ (t : List ℕ). serving.lines ++ lines_of t) begun ∙ append-nil serving.lines) in
    record {
      events = serving.events ++ one;
      are = record {
        last = s;
        texts = serving.texts;
        serves = subst (λ (ls : List (List ℕ)). Serves None ls serving.texts s) (sym lines) serving.serves;
        takes = taken_same serving.events one (concat serving.texts) serving.takes gives.takes;
        ended = omega (arith, ended_on serving.events one, serving.ended, gives.ends);
        unread = omega (arith, unread_on serving.events one, serving.unread, gives.fails);
        unwritten = omega (arith, unwritten_on serving.events one, serving.unwritten, gives.fine);
      };
      grows = grows_on first old new serving.events one serving.grows happens.grows;
    }

-- a read failed
pub read_fails : {E : Type 0} (r : Result ℕ E) (f : E) (buffer : List ℕ) (first old new : List Event) (reads : ℕ) (s : Option Session) (line : Line)
    → Serving first old reads s line [] → Happens old new (IsReadAs r buffer) → r ≡ Err f → Since first new ReadFails
read_fails r f buffer first old new reads s line serving happens same =
    let gives : Gives [] 0 1 happens.it = fault_given r f buffer happens.it same happens.is in
    let one = happens.it ∷ [] in
    let given_all : given (serving.events ++ one) ≡ given serving.events =
    given_on serving.events one ∙ (ap (λ (t : List ℕ). given serving.events ++ t) gives.gives ∙ append-nil (given serving.events)) in
    record {
      events = serving.events ++ one;
      are = record {
        answered = record {
          session = s;
          texts = serving.texts;
          serves = serves_whole first old reads s line serving (given (serving.events ++ one)) given_all;
          takes = taken_same serving.events one (concat serving.texts) serving.takes gives.takes;
        };
        cause = inl (omega (arith, unread_on serving.events one, serving.unread, gives.fails));
        unwritten = omega (arith, unwritten_on serving.events one, serving.unwritten, gives.fine);
      };
      grows = grows_on first old new serving.events one serving.grows happens.grows;
    }

-- as many reads gave something as can't be counted
pub reads_stop : (first new : List Event) (reads : ℕ) (s : Option Session) (line : Line) → Serving first new reads s line [] → 18446744073709551615 ≤ reads
    → Since first new IsPrompt × Since first new ReadFails
reads_stop first new reads s line serving many = (
  record { events = serving.events; are = serving.prompt; grows = serving.grows },
  record {
    events = serving.events;
    are = record {
      answered = answered_whole first new reads s line serving;
      cause = inr (omega (arith, many, serving.many));
      unwritten = serving.unwritten;
    };
    grows = serving.grows;
  },
)

-- the line that the end of the input has cut
pub last_read : (first old : List Event) (reads : ℕ) (s : Option Session) (line : Line) (serving : Serving first old reads s line []) → line.read ≢ End
    → IsRead line.read serving.begun line.text.items
last_read first old reads s line serving known = is_read_line line.read serving.begun line.text.items known serving.is

last_lines : (first old : List Event) (reads : ℕ) (s : Option Session) (line : Line) (serving : Serving first old reads s line []) → line.read ≢ End
    → (it : Event) (xs : List Event) → given (it ∷ []) ≡ [] → given xs ≡ []
    → lines_of (given ((serving.events ++ it ∷ []) ++ xs)) ≡ serving.lines ++ serving.begun ∷ []
last_lines first old reads s line serving known it xs none still =
    let given_all : given (serving.events ++ it ∷ []) ≡ serving.used ++ (serving.begun ++ []) =
    given_more serving.events it serving.used serving.begun [] serving.gives none in
    all_lines serving.used serving.begun serving.lines serving.all (given ((serving.events ++ it ∷ []) ++ xs))
    (given_same (serving.events ++ it ∷ []) xs (serving.used ++ (serving.begun ++ [])) given_all still)
    ∙ ap (λ (ls : List (List ℕ)). serving.lines ++ ls) (unfed_line serving.begun serving.plain (serving.some known))

prompt_end : (first old : List Event) (reads : ℕ) (s : Option Session) (line : Line) (serving : Serving first old reads s line []) (it : Event) (xs : List Event)
    → IsTrue (are_writes xs) → IsPrompt ((serving.events ++ it ∷ []) ++ xs)
prompt_end first old reads s line serving it xs writes =
    prompt_on (serving.events ++ it ∷ []) xs
    (prompt_more serving.events it serving.prompt (λ _. answered_whole first old reads s line serving)) writes

-- that line was answered
served_last : {E : Type 0} (r : Result ℕ E) (count : ℕ) (buffer : List ℕ) (first old mid new : List Event) (reads : ℕ) (s t : Option Session) (line : Line)
    → Serving first old reads s line [] → Happens old mid (IsReadAs r buffer) → r ≡ Ok count → count ≡ 0 → line.read ≢ End
    → ((text : List ℕ) → IsRead line.read text line.text.items → Sends (λ answer. AnswersLine s text answer t) mid new)
    → Since first new IsPrompt × Since first new ServesAll
served_last r count buffer first old mid new reads s t line serving happens same none known answered =
    let gives : Gives [] 1 0 happens.it = end_given r count buffer happens.it same none happens.is in
    let sends = answered serving.begun (last_read first old reads s line serving known) in
    let still : Quiet sends.events = quiet sends.events sends.writes in
    let one = happens.it ∷ [] in
    let events = serving.events ++ one in
    let grows = grows_on first mid new events sends.events (grows_on first old mid serving.events one serving.grows happens.grows) sends.grows in (
      record { events = events ++ sends.events; are = prompt_end first old reads s line serving happens.it sends.events sends.writes; grows = grows },
      record {
        events = events ++ sends.events;
        are = record {
          last = t;
          texts = serving.texts ++ taken sends.events ∷ [];
          serves = subst (λ (ls : List (List ℕ)). Serves None ls (serving.texts ++ taken sends.events ∷ []) t)
              (sym (last_lines first old reads s line serving known happens.it sends.events gives.gives still.gives))
              (serves_join None s t serving.lines (serving.begun ∷ []) serving.texts (taken sends.events ∷ []) serving.serves (t, sends.is, refl));
          takes = taken_join events sends.events serving.texts (taken_same serving.events one (concat serving.texts) serving.takes gives.takes);
          ended = omega (arith, ended_on events sends.events, ended_on serving.events one, serving.ended, gives.ends, still.ends);
          unread = omega (arith, unread_on events sends.events, unread_on serving.events one, serving.unread, gives.fails, still.reads);
          unwritten = omega (arith, unwritten_on events sends.events, unwritten_on serving.events one, serving.unwritten, gives.fine, sends.unwritten);
        };
        grows = grows;
      },
    )

-- the answer to that line was written in part
last_breaks : {E : Type 0} (r : Result ℕ E) (count : ℕ) (buffer : List ℕ) (first old mid new : List Event) (reads : ℕ) (s t : Option Session) (line : Line)
    → Serving first old reads s line [] → Happens old mid (IsReadAs r buffer) → r ≡ Ok count → count ≡ 0 → line.read ≢ End
    → ((text : List ℕ) → IsRead line.read text line.text.items → BreaksOff (λ answer. AnswersLine s text answer t) mid new)
    → Since first new IsPrompt × Since first new WriteFails
last_breaks r count buffer first old mid new reads s t line serving happens same none known broken =
    let gives : Gives [] 1 0 happens.it = end_given r count buffer happens.it same none happens.is in
    let off = broken serving.begun (last_read first old reads s line serving known) in
    let still : Quiet off.events = quiet off.events off.writes in
    let one = happens.it ∷ [] in
    let events = serving.events ++ one in
    let grows = grows_on first mid new events off.events (grows_on first old mid serving.events one serving.grows happens.grows) off.grows in (
      record { events = events ++ off.events; are = prompt_end first old reads s line serving happens.it off.events off.writes; grows = grows },
      record {
        events = events ++ off.events;
        are = record {
          mid = s;
          new = t;
          lines = serving.lines;
          line = serving.begun;
          behind = [];
          texts = serving.texts;
          splits = last_lines first old reads s line serving known happens.it off.events gives.gives still.gives;
          serves = serving.serves;
          breaks = breaks_on events off.events serving.texts (taken_same serving.events one (concat serving.texts) serving.takes gives.takes) off.breaks;
          unread = omega (arith, unread_on events off.events, unread_on serving.events one, serving.unread, gives.fails, still.reads);
          unwritten = omega (arith, unwritten_on events off.events, unwritten_on serving.events one, serving.unwritten, gives.fine, off.unwritten);
        };
        grows = grows;
      },
    )

-- what became of that line
pub last_stops : {T E : Type 0} (a : Result T ServeFault) (r : Result ℕ E) (count : ℕ) (buffer : List ℕ) (first old mid new : List Event) (reads : ℕ) (s t : Option Session) (line : Line)
    → Serving first old reads s line [] → Happens old mid (IsReadAs r buffer) → r ≡ Ok count → count ≡ 0 → line.read ≢ End
    → OnOk a ((text : List ℕ) → IsRead line.read text line.text.items → Sends (λ answer. AnswersLine s text answer t) mid new)
    → IfErr a (λ f. (text : List ℕ) → IsRead line.read text line.text.items → (f ≡ Unwritable) × BreaksOff (λ answer. AnswersLine s text answer t) mid new)
    → Since first new IsPrompt × OnOk a (Since first new ServesAll) × IfErr a (λ f. Since first new (Stops f))
last_stops (Ok x) r count buffer first old mid new reads s t line serving happens same none known answered broken =
    let served = served_last r count buffer first old mid new reads s t line serving happens same none known answered in (served.0, served.1, tt)
last_stops (Err f) r count buffer first old mid new reads s t line serving happens same none known answered broken =
    let breaks = last_breaks r count buffer first old mid new reads s t line serving happens same none known (λ text is. (broken text is).1) in
    let fault = broken serving.begun (last_read first old reads s line serving known) in
    (breaks.0, tt, subst (λ (g : ServeFault). Since first new (Stops g)) (sym fault.0) breaks.1)

-- what is so of a fault that is known
pub known_fault : {T : Type 0} (r : Result T ServeFault) (P : ServeFault → Type 0) (f : ServeFault) → IsErrAnd r (λ g. g ≡ f) → P f → IfErr r P
known_fault (Ok x) P f is p = tt
known_fault (Err g) P f is p = subst P (sym is) p
