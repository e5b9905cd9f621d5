-- Texts that are written, or the front of them.
use Rattle.std.proofs.Common.{◌≡◌, ◌∙◌, ◌++◌, ◌∷◌, [], ℕ, List, Option, true, IsTrue, Result, Ok, Err, append_assoc, ap, arith, refl, subst, sym, take, drop}
use Rattle.std.specs.Result.{IfErr, OnErr, OnOk}
use Rattle.std.proofs.lemmas.List.{append-nil, take-append-drop}
use Rattle.am_json.specs.Bytes.{Breaks}
use Rattle.am_protocol.specs.Lines.{IsRead}
use Rattle.am_protocol.specs.declared.lines.LineRead.{LineRead}
use Rattle.am_protocol.specs.declared.lines.LineRead.TheVariants.{Complete, TooLong, NoMemory, End}
use Rattle.am_session.specs.Line.{AnswersLine, is_remark}
use Rattle.am_session.specs.Line.AnswersLine.{Echoed}
use Rattle.am_session.specs.declared.session.Session.{Session}
use Rattle.am_dispatch.specs.declared.event.Event.{Event}
use Rattle.am_dispatch.specs.declared.fault.ServeFault.{ServeFault}
use Rattle.am_dispatch.specs.declared.fault.ServeFault.TheVariants.{Unwritable}
use Rattle.am_dispatch.specs.Serve.{BreaksOff, Sends}
use Rattle.am_dispatch.specs.Trail.{Happens, IsWrittenAs, are_writes, taken, unwritten}
use Rattle.am_dispatch.proofs.Trails.{Takes, TakesNone, grows_on, none_taken, some_taken, taken_on, unwritten_on, writes_on}

-- the front was written, and the rest is left
pub record Front (bytes rest : List ℕ) (old new : List Event) : Type 0 where
  pub events : List Event
  pub grows : new ≡ old ++ events
  pub writes : IsTrue (are_writes events)
  pub parts : bytes ≡ taken events ++ rest
  pub fine : unwritten events ≡ 0

pub front_none : (bytes : List ℕ) (old : List Event) → Front bytes bytes old old
front_none bytes old = record { events = []; grows = sym (append-nil old); writes = refl; parts = refl; fine = refl }

-- a further part was written
pub front_more : {E : Type 0} (r : Result ℕ E) (count : ℕ) (bytes rest : List ℕ) (old mid new : List Event)
    → Front bytes rest old mid → Happens mid new (IsWrittenAs r rest) → r ≡ Ok count → (count ≡ 0 → ⊥) → Front bytes (drop count rest) old new
front_more r count bytes rest old mid new front happens same some =
    let takes : Takes count rest happens.it = some_taken r count rest happens.it same some happens.is in
    let one = happens.it ∷ [] in
    record {
      events = front.events ++ one;
      grows = grows_on old mid new front.events one front.grows happens.grows;
      writes = writes_on front.events one front.writes takes.writes;
      parts = front.parts
          ∙ (ap (λ (t : List ℕ). taken front.events ++ t) (sym (take-append-drop count rest))
          ∙ (sym (append_assoc (taken front.events) (take count rest) (drop count rest))
          ∙ ap (λ (t : List ℕ). t ++ drop count rest) (ap (λ (t : List ℕ). taken front.events ++ t) (sym takes.takes) ∙ sym (taken_on front.events one))));
      fine = omega (arith, unwritten_on front.events one, front.fine, takes.fine);
    }

-- all was written
pub front_all : (bytes rest : List ℕ) (old new : List Event) → Front bytes rest old new → rest ≡ [] → Sends (λ t. t ≡ bytes) old new
front_all bytes rest old new front none =
    record {
      events = front.events;
      grows = front.grows;
      writes = front.writes;
      is = sym (front.parts ∙ (ap (λ (t : List ℕ). taken front.events ++ t) none ∙ append-nil (taken front.events)));
      unwritten = front.fine;
    }

front_breaks : (bytes rest : List ℕ) (old mid new : List Event) (front : Front bytes rest old mid) (it : Event)
    → new ≡ mid ++ it ∷ [] → TakesNone it → BreaksOff (λ t. t ≡ bytes) old new
front_breaks bytes rest old mid new front it grows none =
    let one = it ∷ [] in
    record {
      events = front.events ++ one;
      grows = grows_on old mid new front.events one front.grows grows;
      writes = writes_on front.events one front.writes none.writes;
      breaks = record {
        text = bytes;
        is = refl;
        front = taken front.events;
        behind = rest;
        parts = front.parts;
        takes = taken_on front.events one ∙ (ap (λ (t : List ℕ). taken front.events ++ t) none.takes ∙ append-nil (taken front.events));
      };
      unwritten = omega (arith, unwritten_on front.events one, front.fine, none.fails);
    }

-- a write failed, or took nothing
pub front_stops : {E : Type 0} (r : Result ℕ E) (bytes rest : List ℕ) (old mid new : List Event)
    → Front bytes rest old mid → Happens mid new (IsWrittenAs r rest) → ((count : ℕ) → r ≡ Ok count → count ≡ 0) → BreaksOff (λ t. t ≡ bytes) old new
front_stops r bytes rest old mid new front happens none =
    front_breaks bytes rest old mid new front happens.it happens.grows (none_taken r rest happens.it none happens.is)

-- what is written, by another name
pub sends_as : {P Q : List ℕ → Type 0} (old new : List Event) → ((t : List ℕ) → P t → Q t) → Sends P old new → Sends Q old new
sends_as old new leads sends =
    record { events = sends.events; grows = sends.grows; writes = sends.writes; is = leads (taken sends.events) sends.is; unwritten = sends.unwritten }

breaks_parts : {P Q : List ℕ → Type 0} (taken taken_to : List ℕ) → ((t : List ℕ) → P t → Q t) → Breaks P taken taken_to → Breaks Q taken taken_to
breaks_parts taken taken_to leads breaks =
    record { text = breaks.text; is = leads breaks.text breaks.is; front = breaks.front; behind = breaks.behind; parts = breaks.parts; takes = breaks.takes }

pub breaks_as : {P Q : List ℕ → Type 0} (old new : List Event) → ((t : List ℕ) → P t → Q t) → BreaksOff P old new → BreaksOff Q old new
breaks_as old new leads breaks =
    record {
      events = breaks.events;
      grows = breaks.grows;
      writes = breaks.writes;
      breaks = breaks_parts [] (taken breaks.events) leads breaks.breaks;
      unwritten = breaks.unwritten;
    }

-- a line was written, and its line feed
pub echo_whole : (line : List ℕ) (old mid new : List Event) → Sends (λ t. t ≡ line) old mid → Sends (λ t. t ≡ 10 ∷ []) mid new
    → Sends (λ t. t ≡ line ++ 10 ∷ []) old new
echo_whole line old mid new first second =
    record {
      events = first.events ++ second.events;
      grows = grows_on old mid new first.events second.events first.grows second.grows;
      writes = writes_on first.events second.events first.writes second.writes;
      is = taken_on first.events second.events
          ∙ (ap (λ (t : List ℕ). t ++ taken second.events) first.is ∙ ap (λ (t : List ℕ). line ++ t) second.is);
      unwritten = omega (arith, unwritten_on first.events second.events, first.unwritten, second.unwritten);
    }

-- a line that is written as it is was written in part
pub echo_begun : (line : List ℕ) (old new : List Event) → BreaksOff (λ t. t ≡ line) old new → BreaksOff (λ t. t ≡ line ++ 10 ∷ []) old new
echo_begun line old new off =
    let breaks = off.breaks in
    record {
      events = off.events;
      grows = off.grows;
      writes = off.writes;
      breaks = record {
        text = line ++ 10 ∷ [];
        is = refl;
        front = breaks.front;
        behind = breaks.behind ++ 10 ∷ [];
        parts = ap (λ (t : List ℕ). t ++ 10 ∷ []) (sym breaks.is ∙ breaks.parts) ∙ append_assoc breaks.front breaks.behind (10 ∷ []);
        takes = breaks.takes;
      };
      unwritten = off.unwritten;
    }

-- it was written, and its line feed wasn't
pub echo_half : (line : List ℕ) (old mid new : List Event) → Sends (λ t. t ≡ line) old mid → BreaksOff (λ t. t ≡ 10 ∷ []) mid new
    → BreaksOff (λ t. t ≡ line ++ 10 ∷ []) old new
echo_half line old mid new sends off =
    let breaks = off.breaks in
    record {
      events = sends.events ++ off.events;
      grows = grows_on old mid new sends.events off.events sends.grows off.grows;
      writes = writes_on sends.events off.events sends.writes off.writes;
      breaks = record {
        text = line ++ 10 ∷ [];
        is = refl;
        front = line ++ breaks.front;
        behind = breaks.behind;
        parts = ap (λ (t : List ℕ). line ++ t) (sym breaks.is ∙ breaks.parts) ∙ sym (append_assoc line breaks.front breaks.behind);
        takes = taken_on sends.events off.events
            ∙ (ap (λ (t : List ℕ). t ++ taken off.events) sends.is ∙ ap (λ (t : List ℕ). line ++ t) breaks.takes);
      };
      unwritten = omega (arith, unwritten_on sends.events off.events, sends.unwritten, off.unwritten);
    }

-- a line that is answered by itself
echoed : (s : Option Session) (read : LineRead) (text kept : List ℕ) → (read ≡ Complete) × (is_remark kept ≡ true) → IsRead read text kept
    → (answer : List ℕ) → answer ≡ kept ++ 10 ∷ [] → AnswersLine s text answer s
echoed s Complete text kept remark is answer same =
    Echoed (subst (λ (k : List ℕ). is_remark k ≡ true) is.0 remark.1) is.1 (same ∙ ap (λ (k : List ℕ). k ++ 10 ∷ []) is.0) refl
echoed s TooLong text kept remark is answer same = absurd (let no : TooLong ≡ Complete = remark.0 in cc)
echoed s NoMemory text kept remark is answer same = absurd (let no : NoMemory ≡ Complete = remark.0 in cc)
echoed s End text kept remark is answer same = absurd is

heard : (read : LineRead) (text kept seen : List ℕ) → seen ≡ kept → IsRead read text kept → IsRead read text seen
heard read text kept seen same is = subst (λ (k : List ℕ). IsRead read text k) (sym same) is

pub answered_echo : {T E : Type 0} (r : Result T E) (s : Option Session) (read : LineRead) (kept seen : List ℕ) (old mid new : List Event) → seen ≡ kept
    → (read ≡ Complete) × (is_remark seen ≡ true) → Sends (λ t. t ≡ seen) old mid → OnOk r (Sends (λ t. t ≡ 10 ∷ []) mid new)
    → OnOk r ((text : List ℕ) → IsRead read text kept → Sends (λ answer. AnswersLine s text answer s) old new)
answered_echo (Ok x) s read kept seen old mid new same remark first second = λ text is.
    sends_as old new (echoed s read text seen remark (heard read text kept seen same is)) (echo_whole seen old mid new first second)
answered_echo (Err e) s read kept seen old mid new same remark first second = tt

pub broken_echo : {T : Type 0} (r : Result T ServeFault) (s : Option Session) (read : LineRead) (kept seen : List ℕ) (old mid new : List Event) → seen ≡ kept
    → (read ≡ Complete) × (is_remark seen ≡ true) → Sends (λ t. t ≡ seen) old mid → OnErr r (BreaksOff (λ t. t ≡ 10 ∷ []) mid new) → IfErr r (λ f. f ≡ Unwritable)
    → IfErr r (λ f. (text : List ℕ) → IsRead read text kept → (f ≡ Unwritable) × BreaksOff (λ answer. AnswersLine s text answer s) old new)
broken_echo (Ok x) s read kept seen old mid new same remark first second fault = tt
broken_echo (Err e) s read kept seen old mid new same remark first second fault = λ text is. (
  fault,
  breaks_as old new (echoed s read text seen remark (heard read text kept seen same is)) (echo_half seen old mid new first second),
)

-- a line that is answered by itself was written in part
pub broken_begun : {T : Type 0} (r : Result T ServeFault) (s : Option Session) (read : LineRead) (kept seen : List ℕ) (old new : List Event) → seen ≡ kept
    → (read ≡ Complete) × (is_remark seen ≡ true) → BreaksOff (λ t. t ≡ seen) old new → IfErr r (λ f. f ≡ Unwritable)
    → IfErr r (λ f. (text : List ℕ) → IsRead read text kept → (f ≡ Unwritable) × BreaksOff (λ answer. AnswersLine s text answer s) old new)
broken_begun (Ok x) s read kept seen old new same remark off fault = tt
broken_begun (Err e) s read kept seen old new same remark off fault = λ text is. (
  fault,
  breaks_as old new (echoed s read text seen remark (heard read text kept seen same is)) (echo_begun seen old new off),
)

-- the answer to a line was written
pub answered_text : {T E : Type 0} (r : Result T E) (s t : Option Session) (read : LineRead) (kept seen sent said : List ℕ) (old new : List Event)
    → seen ≡ kept → sent ≡ said → ((text : List ℕ) → IsRead read text seen → AnswersLine s text said t) → OnOk r (Sends (λ x. x ≡ sent) old new)
    → OnOk r ((text : List ℕ) → IsRead read text kept → Sends (λ answer. AnswersLine s text answer t) old new)
answered_text (Ok x) s t read kept seen sent said old new same says answers sends = λ text is.
    sends_as old new (λ x e. subst (λ (a : List ℕ). AnswersLine s text a t) (sym (e ∙ says)) (answers text (heard read text kept seen same is))) sends
answered_text (Err e) s t read kept seen sent said old new same says answers sends = tt

-- the answer to a line was written in part
pub broken_text : {T : Type 0} (r : Result T ServeFault) (s t : Option Session) (read : LineRead) (kept seen sent said : List ℕ) (old new : List Event)
    → seen ≡ kept → sent ≡ said → ((text : List ℕ) → IsRead read text seen → AnswersLine s text said t)
    → OnErr r (BreaksOff (λ x. x ≡ sent) old new) → IfErr r (λ f. f ≡ Unwritable)
    → IfErr r (λ f. (text : List ℕ) → IsRead read text kept → (f ≡ Unwritable) × BreaksOff (λ answer. AnswersLine s text answer t) old new)
broken_text (Ok x) s t read kept seen sent said old new same says answers off fault = tt
broken_text (Err e) s t read kept seen sent said old new same says answers off fault = λ text is. (
  fault,
  breaks_as old new (λ x e. subst (λ (a : List ℕ). AnswersLine s text a t) (sym (e ∙ says)) (answers text (heard read text kept seen same is))) off,
)
