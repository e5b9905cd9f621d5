-- Runs of like flushes, by a table of the last flush of each group.
use Rattle.std.proofs.Common.{◌≡◌, ◌∙◌, ◌<◌, ◌≤◌, ◌==◌, ◌&&◌, ℕ, suc, ◌+◌, Bool, true, false, not, List, [], ◌∷◌, ◌++◌, Option, Some, None, ap, sym, refl, subst, drop, get_or, length, map, reverse, take, arith, append_assoc, if◌then◌else◌}
use Rattle.std.specs.Prelude.{zero, slice_get}
use Rattle.std.specs.Bool.{one_answer}
use Rattle.std.specs.List.{All}
use Rattle.std.specs.Option.{IfSome, option_map}
use Rattle.std.specs.Str.{bytes_eq}
use Rattle.std.proofs.lemmas.Bool.{and_parts, and_right, eq-eqb, ne_eqb}
use Rattle.std.proofs.lemmas.Slice.Eq.{bytes_eq-Decides}
use Rattle.std.proofs.lemmas.List.{append-nil, drop-map, drop_all, drop_more, get_or-map, length-append, length-map, length-set}
use Rattle.std.proofs.lemmas.List.Elements.{All-get_or, All-push, All-set, All-weaker}
use Rattle.std.proofs.lemmas.Option.{slice_get_read, slice_get_within}
use Rattle.am_model.specs.declared.group.GroupName.{GroupName}
use Rattle.am_model.specs.State.{same_name}
use Rattle.am_model.proofs.states.Alike.{same_name-is, same_name_equiv}
use Rattle.am_terms.specs.declared.event.PreviewedBegin.{PreviewedBegin}
use Rattle.am_terms.specs.TimeFormatData.{TimeFormatData}
use Rattle.am_timeline.specs.Playback.{PlaybackData}
use Rattle.am_timeline.specs.declared.runs.Run.{Run}
use Rattle.am_timeline.proofs.Reversed.{reverse_more}
use Rattle.am_timeline.specs.Runs.{FlushData, HasLines, are_same_lines, folds_of, grown, is_like_last, kept_run, last_time, likes, lines_by, number_with, run_of, runs_begun, runs_with, single, starts_from, starts_with}

-- what a map has from one index on
pub drop_map-at : {X Y : Type 0} (f : X → Y) (xs : List X) (i : ℕ) (x : X) → i < length xs → x ≡ get_or xs i x
    → drop i (map f xs) ≡ f x ∷ drop (i + 1) (map f xs)
drop_map-at {X} {Y} f xs i x inside is =
    drop-map f i xs
    ∙ ap (λ (l : List X). map f l) (drop_more xs i x inside ∙ ap (λ (y : X). y ∷ drop (i + 1) xs) (sym is))
    ∙ ap (λ (l : List Y). f x ∷ l) (sym (drop-map f (i + 1) xs))

-- what is kept of the begin at an index has its lines
pub HasLines-of : (all : Bool) (playback : PlaybackData) (times : TimeFormatData) (index : ℕ) (b : PreviewedBegin) (number : ℕ)
    → index < length playback.begins → b ≡ get_or playback.begins index b
    → HasLines all playback times (index, (lines_by all playback times b, number))
HasLines-of all playback times index b number inside is =
    subst (λ (o : Option PreviewedBegin). IfSome o (λ c. lines_by all playback times b ≡ lines_by all playback times c))
    (sym (slice_get_read playback.begins (length playback.begins) index b refl inside is)) refl

-- a table with one more entry
pub IfSome-if : {X : Type 0} (P : X → Type 0) (n : Bool) (k : X) (old new : Option X) → new ≡ (if n then Some k else old) → P k → IfSome old P
    → IfSome new P
IfSome-if P n k old new is one others = subst (λ o. IfSome o P) (sym is) (by n)
  where
    by : (b : Bool) → IfSome (if b then Some k else old) P
    by true = one
    by false = others

-- what is kept of one more flush, save its index
pub kept_run-if : (n : Bool) (k : ℕ × (List ℕ × ℕ)) (held : Option (ℕ × (List ℕ × ℕ)))
    → kept_run (if n then Some k else held) ≡ (if n then Some k.1 else kept_run held)
kept_run-if true k held = refl
kept_run-if false k held = refl

-- lines are the same either way round
same_lines-symm : (xs ys : List ℕ) → are_same_lines xs ys ≡ are_same_lines ys xs
same_lines-symm xs ys = by (bytes_eq xs ys) refl
  where
    either : bytes_eq xs ys ≡ bytes_eq ys xs
    either =
        let one = bytes_eq-Decides xs ys in
        let other = bytes_eq-Decides ys xs in
        one_answer (bytes_eq xs ys) (bytes_eq ys xs) one (λ h. sym (other.0 h), λ p. other.1 (sym p))

    by : (b : Bool) → bytes_eq xs ys ≡ b → are_same_lines xs ys ≡ are_same_lines ys xs
    by true h =
        ap (λ (l : List ℕ). not (length l == 0) && bytes_eq xs ys) ((bytes_eq-Decides xs ys).0 h)
        ∙ ap (λ (e : Bool). not (length ys == 0) && e) either
    by false h = and_right _ _ h ∙ sym (and_right _ _ (sym either ∙ h))

-- of these flushes, the last of them first, the lines of the first that is of a group
abbrev pub last_lines : GroupName → List FlushData → Option (List ℕ)
last_lines group [] = None
last_lines group (b ∷ before) = if same_name b.group group then Some b.lines else last_lines group before

-- whether there are lines like these
abbrev has_like : List ℕ → Option (List ℕ) → Bool
has_like lines None = false
has_like lines (Some others) = are_same_lines others lines

-- a flush begins its run exactly if the last one of its group before it has other lines
begins-by : (f : FlushData) (before : List FlushData) → ((run_of f before).count == 1) ≡ not (has_like f.lines (last_lines f.group before))
begins-by f [] = refl
begins-by f (g ∷ before) = by (same_name g.group f.group) (are_same_lines f.lines g.lines) refl (begins-by f before)
  where
    by : (n l : Bool) → are_same_lines f.lines g.lines ≡ l
        → ((run_of f before).count == 1) ≡ not (has_like f.lines (last_lines f.group before))
        → (length (if n then (if l then g ∷ likes f.group f.lines before else []) else likes f.group f.lines before) + 1 == 1)
        ≡ not (has_like f.lines (if n then Some g.lines else last_lines f.group before))
    by true true same rest = ne_eqb _ _ (omega arith) ∙ ap not (sym same ∙ same_lines-symm f.lines g.lines)
    by true false same rest = ap not (sym same ∙ same_lines-symm f.lines g.lines)
    by false l same rest = rest

-- the same, by what is kept of the last flush of its group
pub first-by : (f : FlushData) (before : List FlushData) (last : Option (List ℕ × ℕ)) → option_map (λ l. l.0) last ≡ last_lines f.group before
    → ((run_of f before).count == 1) ≡ not (is_like_last f.lines last)
first-by f before last is =
    begins-by f before ∙ ap (λ (o : Option (List ℕ)). not (has_like f.lines o)) (sym is) ∙ by last
  where
    by : (o : Option (List ℕ × ℕ)) → not (has_like f.lines (option_map (λ l. l.0) o)) ≡ not (is_like_last f.lines o)
    by None = refl
    by (Some l) = refl

-- a run with these flushes too
abbrev with_more : Run → List FlushData → Run
with_more r more = record { count = length more + r.count; until = last_time r.until more }

-- the run of a number, which is of a group, with those of the later flushes that are of it too
abbrev completed : Option (List ℕ × ℕ) → ℕ → GroupName → List FlushData → Run → Run
completed None number group later r = r
completed (Some last) number group later r = if last.1 == number then with_more r (likes group last.0 later) else r

-- the runs from a number on, which are of these groups, with the later flushes that are of them too
abbrev pub complete : (GroupName → Option (List ℕ × ℕ)) → List FlushData → ℕ → List GroupName → List Run → List Run
complete table later number [] runs = []
complete table later number (g ∷ groups) [] = []
complete table later number (g ∷ groups) (r ∷ runs) = completed (table g) number g later r ∷ complete table later (number + 1) groups runs

-- no run is longer where no flush is later
pub complete-done : (table : GroupName → Option (List ℕ × ℕ)) (number : ℕ) (groups : List GroupName) (runs : List Run) → length groups ≡ length runs
    → complete table [] number groups runs ≡ runs
complete-done table number [] [] same = refl
complete-done table number [] (r ∷ runs) same = absurd (omega (arith, same))
complete-done table number (g ∷ groups) [] same = absurd (omega (arith, same))
complete-done table number (g ∷ groups) (r ∷ runs) same =
    let rest = complete-done table (number + 1) groups runs (omega (arith, same)) in
    λ i. by (table g) i ∷ rest i
  where
    none : with_more r [] ≡ r
    none =
        let count : 0 + r.count ≡ r.count = omega arith in
        λ i. record { count = count i; until = r.until }

    own : (b : Bool) → (if b then with_more r [] else r) ≡ r
    own true = none
    own false = refl

    by : (o : Option (List ℕ × ℕ)) → completed o number g [] r ≡ r
    by None = refl
    by (Some last) = own (last.1 == number)

-- a table in which the last flush of a group is this one now, in the run of a number
abbrev pub Moves : (GroupName → Option (List ℕ × ℕ)) → (GroupName → Option (List ℕ × ℕ)) → FlushData → ℕ → Type 0
Moves old new f number = (name : GroupName) → new name ≡ (if same_name f.group name then Some (f.lines, number) else old name)

-- no run of the flush's group but the one of a number is longer by it
abbrev IsApart : (GroupName → Option (List ℕ × ℕ)) → FlushData → List FlushData → ℕ → Type 0
IsApart old f later k = (number : ℕ) (r : Run) → (k == number) ≡ false → completed (old f.group) number f.group (f ∷ later) r ≡ r

-- then a run of another number stays as it is
completed-apart : (old new : GroupName → Option (List ℕ × ℕ)) (f : FlushData) (later : List FlushData) (k number : ℕ) (g : GroupName) (r : Run)
    → (k == number) ≡ false → Moves old new f k → IsApart old f later k
    → completed (new g) number g later r ≡ completed (old g) number g (f ∷ later) r
completed-apart old new f later k number g r other moves apart = by (same_name f.group g) refl
  where
    skip : (o : Option (List ℕ × ℕ)) → same_name f.group g ≡ false → completed o number g later r ≡ completed o number g (f ∷ later) r
    skip None h = refl
    skip (Some last) h =
        ap (λ (n : Bool). if last.1 == number then with_more r (if n then (if are_same_lines last.0 f.lines then f ∷ likes g last.0 later else []) else likes g last.0 later) else r) (sym h)

    by : (n : Bool) → same_name f.group g ≡ n → completed (new g) number g later r ≡ completed (old g) number g (f ∷ later) r
    by true h =
        ap (λ (o : Option (List ℕ × ℕ)). completed o number g later r) (moves g ∙ ap (λ (n : Bool). if n then Some (f.lines, k) else old g) h)
        ∙ ap (λ (e : Bool). if e then with_more r (likes g f.lines later) else r) other
        ∙ sym (apart number r other)
        ∙ ap (λ (m : GroupName). completed (old m) number m (f ∷ later) r) (same_name-is f.group g h)
    by false h =
        ap (λ (o : Option (List ℕ × ℕ)). completed o number g later r) (moves g ∙ ap (λ (n : Bool). if n then Some (f.lines, k) else old g) h)
        ∙ skip (old g) h

-- the same of runs of other numbers
complete-apart : (old new : GroupName → Option (List ℕ × ℕ)) (f : FlushData) (later : List FlushData) (k : ℕ) → Moves old new f k → IsApart old f later k
    → (number : ℕ) (groups : List GroupName) (runs : List Run)
    → ((j : ℕ) → number ≤ j → j < number + length groups → (k == j) ≡ false)
    → complete new later number groups runs ≡ complete old (f ∷ later) number groups runs
complete-apart old new f later k moves apart number [] runs others = refl
complete-apart old new f later k moves apart number (g ∷ groups) [] others = refl
complete-apart old new f later k moves apart number (g ∷ groups) (r ∷ runs) others =
    let head = completed-apart old new f later k number g r (others number (omega arith) (omega arith)) moves apart in
    let rest = complete-apart old new f later k moves apart (number + 1) groups runs (λ j low high. others j (omega (arith, low)) (omega (arith, high))) in
    λ i. head i ∷ rest i

-- no other run of its group is longer by a flush that is like the last one of its group
joins-apart : (old : GroupName → Option (List ℕ × ℕ)) (f : FlushData) (later : List FlushData) (k : ℕ) (lines : List ℕ)
    → old f.group ≡ Some (lines, k) → IsApart old f later k
joins-apart old f later k lines found =
    λ number r other.
    ap (λ (o : Option (List ℕ × ℕ)). completed o number f.group (f ∷ later) r) found
    ∙ ap (λ (e : Bool). if e then with_more r (likes f.group lines (f ∷ later)) else r) other

-- a flush that is like the last one of its group makes that one's run longer
complete-join : (old new : GroupName → Option (List ℕ × ℕ)) (f : FlushData) (later : List FlushData) (k : ℕ) (lines : List ℕ)
    → old f.group ≡ Some (lines, k) → are_same_lines lines f.lines ≡ true → Moves old new f k
    → (number n : ℕ) (groups : List GroupName) (runs : List Run) → k ≡ number + n → slice_get groups n ≡ Some f.group
    → complete new later number groups (grown n f.time runs) ≡ complete old (f ∷ later) number groups runs
complete-join old new f later k lines found same moves number n [] runs is named = refl
complete-join old new f later k lines found same moves number zero (g ∷ groups) [] is named = refl
complete-join old new f later k lines found same moves number (suc n) (g ∷ groups) [] is named = refl
complete-join old new f later k lines found same moves number zero (g ∷ groups) (r ∷ runs) is named =
    let own : (k == number) ≡ true = eq-eqb k number (omega (arith, is)) in
    let grew : Run = record { count = r.count + 1; until = f.time } in
    let own_name : g ≡ f.group = cc named in
    let alike : lines ≡ f.lines = (bytes_eq-Decides lines f.lines).0 (and_parts _ _ same).1 in
    let more = likes f.group lines later in
    let count : length more + (r.count + 1) ≡ length (f ∷ more) + r.count = omega arith in
    let here : completed (new f.group) number f.group later grew ≡ completed (old f.group) number f.group (f ∷ later) r =
    ap (λ (o : Option (List ℕ × ℕ)). completed o number f.group later grew)
    (moves f.group ∙ ap (λ (b : Bool). if b then Some (f.lines, k) else old f.group) (same_name_equiv.refl f.group))
    ∙ ap (λ (b : Bool). if b then with_more grew (likes f.group f.lines later) else grew) own
    ∙ ap (λ (l : List ℕ). with_more grew (likes f.group l later)) (sym alike)
    ∙ (λ i. record { count = count i; until = last_time f.time more })
    ∙ ap (λ (b : Bool). with_more r (if b then f ∷ more else [])) (sym same)
    ∙ ap (λ (b : Bool). with_more r (if b then (if are_same_lines lines f.lines then f ∷ more else []) else more)) (sym (same_name_equiv.refl f.group))
    ∙ ap (λ (b : Bool). if b then with_more r (likes f.group lines (f ∷ later)) else r) (sym own)
    ∙ ap (λ (o : Option (List ℕ × ℕ)). completed o number f.group (f ∷ later) r) (sym found) in
    let head : completed (new g) number g later grew ≡ completed (old g) number g (f ∷ later) r =
    subst (λ (m : GroupName). completed (new m) number m later grew ≡ completed (old m) number m (f ∷ later) r) (sym own_name) here in
    let rest = complete-apart old new f later k moves (joins-apart old f later k lines found) (number + 1) groups runs
    (λ j low high. ne_eqb k j (omega (arith, is, low))) in
    λ i. head i ∷ rest i
complete-join old new f later k lines found same moves number (suc n) (g ∷ groups) (r ∷ runs) is named =
    let head = completed-apart old new f later k number g r (ne_eqb k number (omega (arith, is))) moves (joins-apart old f later k lines found) in
    let rest = complete-join old new f later k lines found same moves (number + 1) n groups runs (omega (arith, is)) named in
    λ i. head i ∷ rest i

-- no run is longer by a flush that isn't like the last one of its group
begins-apart : (old : GroupName → Option (List ℕ × ℕ)) (f : FlushData) (later : List FlushData) (k : ℕ)
    → is_like_last f.lines (old f.group) ≡ false → IsApart old f later k
begins-apart old f later k unlike = λ number r other. by number r (old f.group) unlike
  where
    none : (r : Run) → with_more r [] ≡ r
    none r =
        let count : 0 + r.count ≡ r.count = omega arith in
        λ i. record { count = count i; until = r.until }

    own : (r : Run) (b : Bool) → (if b then with_more r [] else r) ≡ r
    own r true = none r
    own r false = refl

    by : (number : ℕ) (r : Run) (o : Option (List ℕ × ℕ)) → is_like_last f.lines o ≡ false → completed o number f.group (f ∷ later) r ≡ r
    by number r None h = refl
    by number r (Some last) h =
        ap (λ (n : Bool). if last.1 == number then with_more r (if n then (if are_same_lines last.0 f.lines then f ∷ likes f.group last.0 later else []) else likes f.group last.0 later) else r)
        (same_name_equiv.refl f.group)
        ∙ ap (λ (l : Bool). if last.1 == number then with_more r (if l then f ∷ likes f.group last.0 later else []) else r) h
        ∙ own r (last.1 == number)

-- one more run
complete-push : (table : GroupName → Option (List ℕ × ℕ)) (later : List FlushData) (number : ℕ) (groups : List GroupName) (runs : List Run) (g : GroupName) (r : Run)
    → length groups ≡ length runs
    → complete table later number (groups ++ g ∷ []) (runs ++ r ∷ []) ≡ complete table later number groups runs ++ completed (table g) (number + length runs) g later r ∷ []
complete-push table later number [] [] g r same =
    let here : number ≡ number + 0 = omega arith in
    ap (λ (n : ℕ). completed (table g) n g later r ∷ []) here
complete-push table later number [] (s ∷ runs) g r same = absurd (omega (arith, same))
complete-push table later number (h ∷ groups) [] g r same = absurd (omega (arith, same))
complete-push table later number (h ∷ groups) (s ∷ runs) g r same =
    let here : number + 1 + length runs ≡ number + length (s ∷ runs) = omega arith in
    ap (λ (l : List Run). completed (table h) number h later s ∷ l)
    (complete-push table later (number + 1) groups runs g r (omega (arith, same))
    ∙ ap (λ (n : ℕ). complete table later (number + 1) groups runs ++ completed (table g) n g later r ∷ []) here)

-- a flush that isn't like the last one of its group begins a run
complete-begin : (old new : GroupName → Option (List ℕ × ℕ)) (f : FlushData) (later : List FlushData) (groups : List GroupName) (runs : List Run)
    → length groups ≡ length runs → is_like_last f.lines (old f.group) ≡ false → Moves old new f (length runs)
    → complete new later 0 (groups ++ f.group ∷ []) (runs ++ single f.time ∷ []) ≡ complete old (f ∷ later) 0 groups runs ++ run_of f later ∷ []
complete-begin old new f later groups runs same unlike moves =
    let kept = complete-apart old new f later (length runs) moves (begins-apart old f later (length runs) unlike) 0 groups runs
    (λ j low high. ne_eqb (length runs) j (omega (arith, same, high))) in
    let own : (length runs == 0 + length runs) ≡ true = eq-eqb (length runs) (0 + length runs) (omega arith) in
    let begun : completed (new f.group) (0 + length runs) f.group later (single f.time) ≡ run_of f later =
    ap (λ (o : Option (List ℕ × ℕ)). completed o (0 + length runs) f.group later (single f.time))
    (moves f.group ∙ ap (λ (b : Bool). if b then Some (f.lines, length runs) else old f.group) (same_name_equiv.refl f.group))
    ∙ ap (λ (b : Bool). if b then with_more (single f.time) (likes f.group f.lines later) else single f.time) own in
    complete-push new later 0 groups runs f.group (single f.time) same ∙ (λ i. kept i ++ begun i ∷ [])

-- the groups of the runs so far, with a flush
abbrev pub groups_with : FlushData → Option (List ℕ × ℕ) → List GroupName → List GroupName
groups_with f last groups = if is_like_last f.lines last then groups else groups ++ f.group ∷ []

-- the runs so far, with a flush, are as long as they were to be, and one more begins if the flush begins it
complete-step : (old new : GroupName → Option (List ℕ × ℕ)) (f : FlushData) (later : List FlushData) (groups : List GroupName) (runs : List Run)
    → length groups ≡ length runs → IfSome (old f.group) (λ l. slice_get groups l.1 ≡ Some f.group)
    → Moves old new f (number_with f.lines (length runs) (old f.group))
    → complete new later 0 (groups_with f (old f.group) groups) (runs_with f.time f.lines (old f.group) runs)
    ≡ (if is_like_last f.lines (old f.group) then complete old (f ∷ later) 0 groups runs else complete old (f ∷ later) 0 groups runs ++ run_of f later ∷ [])
complete-step old new f later groups runs same known moves = by (old f.group) refl known moves
  where
    by : (o : Option (List ℕ × ℕ)) → old f.group ≡ o → IfSome o (λ l. slice_get groups l.1 ≡ Some f.group)
        → Moves old new f (number_with f.lines (length runs) o)
        → complete new later 0 (groups_with f o groups) (runs_with f.time f.lines o runs)
        ≡ (if is_like_last f.lines o then complete old (f ∷ later) 0 groups runs else complete old (f ∷ later) 0 groups runs ++ run_of f later ∷ [])
    by None is known moves = complete-begin old new f later groups runs same (ap (λ (o : Option (List ℕ × ℕ)). is_like_last f.lines o) is) moves
    by (Some last) is known moves = either (are_same_lines last.0 f.lines) refl moves
      where
        either : (l : Bool) → are_same_lines last.0 f.lines ≡ l → Moves old new f (if l then last.1 else length runs)
            → complete new later 0 (if l then groups else groups ++ f.group ∷ []) (if l then grown last.1 f.time runs else runs ++ single f.time ∷ [])
            ≡ (if l then complete old (f ∷ later) 0 groups runs else complete old (f ∷ later) 0 groups runs ++ run_of f later ∷ [])
        either true alike moves = complete-join old new f later last.1 last.0 is alike moves 0 last.1 groups runs (omega arith) known
        either false alike moves =
            complete-begin old new f later groups runs same (ap (λ (o : Option (List ℕ × ℕ)). is_like_last f.lines o) is ∙ alike) moves

-- the runs of the flushes so far, with those that the rest begin
pub runs-step : (old new : GroupName → Option (List ℕ × ℕ)) (f : FlushData) (before later : List FlushData) (groups : List GroupName) (runs whole : List Run)
    → length groups ≡ length runs → IfSome (old f.group) (λ l. slice_get groups l.1 ≡ Some f.group)
    → Moves old new f (number_with f.lines (length runs) (old f.group))
    → option_map (λ l. l.0) (old f.group) ≡ last_lines f.group before
    → complete old (f ∷ later) 0 groups runs ++ runs_begun (folds_of before (f ∷ later)) ≡ whole
    → complete new later 0 (groups_with f (old f.group) groups) (runs_with f.time f.lines (old f.group) runs) ++ runs_begun (folds_of (f ∷ before) later) ≡ whole
runs-step old new f before later groups runs whole same known moves lines so_far =
    ap (λ (l : List Run). l ++ rest) (complete-step old new f later groups runs same known moves)
    ∙ by (is_like_last f.lines (old f.group)) (first-by f before (old f.group) lines)
    ∙ so_far
  where
    rest : List Run
    rest = runs_begun (folds_of (f ∷ before) later)

    done : List Run
    done = complete old (f ∷ later) 0 groups runs

    by : (l : Bool) → ((run_of f before).count == 1) ≡ not l
        → (if l then done else done ++ run_of f later ∷ []) ++ rest ≡ done ++ (if (run_of f before).count == 1 then run_of f later ∷ rest else rest)
    by true first = ap (λ (b : Bool). done ++ (if b then run_of f later ∷ rest else rest)) (sym first)
    by false first =
        append_assoc done (run_of f later ∷ []) rest
        ∙ ap (λ (b : Bool). done ++ (if b then run_of f later ∷ rest else rest)) (sym first)

-- where the runs of the flushes so far begin, with where those of the rest do
pub starts-step : (f : FlushData) (before later : List FlushData) (last : Option (List ℕ × ℕ)) (index : ℕ) (starts whole : List ℕ)
    → option_map (λ l. l.0) last ≡ last_lines f.group before
    → starts ++ starts_from index (folds_of before (f ∷ later)) ≡ whole
    → starts_with index f.lines last starts ++ starts_from (index + 1) (folds_of (f ∷ before) later) ≡ whole
starts-step f before later last index starts whole lines so_far =
    by (is_like_last f.lines last) (first-by f before last lines) ∙ so_far
  where
    rest : List ℕ
    rest = starts_from (index + 1) (folds_of (f ∷ before) later)

    by : (l : Bool) → ((run_of f before).count == 1) ≡ not l
        → (if l then starts else starts ++ index ∷ []) ++ rest ≡ starts ++ (if (run_of f before).count == 1 then index ∷ rest else rest)
    by true first = ap (λ (b : Bool). starts ++ (if b then index ∷ rest else rest)) (sym first)
    by false first =
        append_assoc starts (index ∷ []) rest ∙ ap (λ (b : Bool). starts ++ (if b then index ∷ rest else rest)) (sym first)

-- one more of each
both : (groups : List GroupName) (runs : List Run) (f : FlushData) → length groups ≡ length runs
    → length (groups ++ f.group ∷ []) ≡ length (runs ++ single f.time ∷ [])
both groups runs f same =
    length-append groups (f.group ∷ []) ∙ ap (λ (n : ℕ). n + 1) same ∙ sym (length-append runs (single f.time ∷ []))

-- there is a group for each run
pub groups-step : (f : FlushData) (last : Option (List ℕ × ℕ)) (groups : List GroupName) (runs : List Run) → length groups ≡ length runs
    → length (groups_with f last groups) ≡ length (runs_with f.time f.lines last runs)
groups-step f None groups runs same = both groups runs f same
groups-step f (Some last) groups runs same = by (are_same_lines last.0 f.lines)
  where
    by : (l : Bool) → length (if l then groups else groups ++ f.group ∷ [])
        ≡ length (if l then grown last.1 f.time runs else runs ++ single f.time ∷ [])
    by true = same ∙ sym (length-set runs last.1 _)
    by false = both groups runs f same

-- an element stays where more are added
slice_get-more : {X : Type 0} (xs ys : List X) (n : ℕ) (x : X) → slice_get xs n ≡ Some x → slice_get (xs ++ ys) n ≡ Some x
slice_get-more [] ys n x is = absurd (cc is)
slice_get-more (y ∷ xs) ys zero x is = is
slice_get-more (y ∷ xs) ys (suc n) x is = slice_get-more xs ys n x is

-- the last one added
slice_get-added : {X : Type 0} (xs : List X) (n : ℕ) (x : X) → n ≡ length xs → slice_get (xs ++ x ∷ []) n ≡ Some x
slice_get-added [] zero x is = refl
slice_get-added [] (suc n) x is = absurd (omega (arith, is))
slice_get-added (y ∷ xs) zero x is = absurd (omega (arith, is))
slice_get-added (y ∷ xs) (suc n) x is = slice_get-added xs n x (omega (arith, is))

-- the run of a flush is of its group
number-step : (f : FlushData) (last : Option (List ℕ × ℕ)) (groups : List GroupName) (size : ℕ) → length groups ≡ size
    → IfSome last (λ l. slice_get groups l.1 ≡ Some f.group)
    → slice_get (groups_with f last groups) (number_with f.lines size last) ≡ Some f.group
number-step f None groups size same known = slice_get-added groups size f.group (sym same)
number-step f (Some last) groups size same known = by (are_same_lines last.0 f.lines)
  where
    by : (l : Bool) → slice_get (if l then groups else groups ++ f.group ∷ []) (if l then last.1 else size) ≡ Some f.group
    by true = known
    by false = slice_get-added groups size f.group (sym same)

-- the run of the last flush of each group is of that group
pub known-step : (old new : GroupName → Option (List ℕ × ℕ)) (f : FlushData) (groups : List GroupName) (size : ℕ) → length groups ≡ size
    → ((name : GroupName) → IfSome (old name) (λ l. slice_get groups l.1 ≡ Some name))
    → Moves old new f (number_with f.lines size (old f.group))
    → (name : GroupName) → IfSome (new name) (λ l. slice_get (groups_with f (old f.group) groups) l.1 ≡ Some name)
known-step old new f groups size same known moves name =
    subst (λ (o : Option (List ℕ × ℕ)). IfSome o (λ l. slice_get now l.1 ≡ Some name)) (sym (moves name)) (by (same_name f.group name) refl)
  where
    now : List GroupName
    now = groups_with f (old f.group) groups

    stays : (l : Bool) (n : ℕ) → slice_get groups n ≡ Some name → slice_get (if l then groups else groups ++ f.group ∷ []) n ≡ Some name
    stays true n is = is
    stays false n is = slice_get-more groups (f.group ∷ []) n name is

    others : (o : Option (List ℕ × ℕ)) → IfSome o (λ l. slice_get groups l.1 ≡ Some name) → IfSome o (λ l. slice_get now l.1 ≡ Some name)
    others None is = is
    others (Some last) is = stays (is_like_last f.lines (old f.group)) last.1 is

    by : (b : Bool) → same_name f.group name ≡ b
        → IfSome (if b then Some (f.lines, number_with f.lines size (old f.group)) else old name) (λ l. slice_get now l.1 ≡ Some name)
    by true h = number-step f (old f.group) groups size same (known f.group) ∙ ap Some (same_name-is f.group name h)
    by false h = others (old name) (known name)

-- the lines of the last flush of each group
pub lines-step : (old new : GroupName → Option (List ℕ × ℕ)) (f : FlushData) (before : List FlushData) (number : ℕ)
    → ((name : GroupName) → option_map (λ l. l.0) (old name) ≡ last_lines name before) → Moves old new f number
    → (name : GroupName) → option_map (λ l. l.0) (new name) ≡ last_lines name (f ∷ before)
lines-step old new f before number held moves name =
    ap (λ (o : Option (List ℕ × ℕ)). option_map (λ l. l.0) o) (moves name) ∙ by (same_name f.group name)
  where
    by : (b : Bool) → option_map (λ (l : List ℕ × ℕ). l.0) (if b then Some (f.lines, number) else old name)
        ≡ (if b then Some f.lines else last_lines name before)
    by true = refl
    by false = held name

-- no run has more flushes than there are so far
pub counts-step : (time index : ℕ) (lines : List ℕ) (last : Option (List ℕ × ℕ)) (runs : List Run) → All (λ r. r.count ≤ index) runs
    → IfSome last (λ l. l.1 < length runs)
    → All (λ r. r.count ≤ index + 1) (runs_with time lines last runs)
counts-step time index lines last runs few inside = by last inside
  where
    more : All (λ (r : Run). r.count ≤ index + 1) runs
    more = All-weaker (λ (r : Run). r.count ≤ index) (λ (r : Run). r.count ≤ index + 1) (λ r h. omega (arith, h)) runs few

    begun : All (λ (r : Run). r.count ≤ index + 1) (runs ++ single time ∷ [])
    begun = All-push (λ (r : Run). r.count ≤ index + 1) runs (single time) more (omega arith)

    by : (o : Option (List ℕ × ℕ)) → IfSome o (λ l. l.1 < length runs) → All (λ r. r.count ≤ index + 1) (runs_with time lines o runs)
    by None inside = begun
    by (Some l) inside = either (are_same_lines l.0 lines)
      where
        was : (get_or runs l.1 (single time)).count ≤ index
        was = All-get_or (λ (r : Run). r.count ≤ index) runs l.1 (single time) inside few

        either : (s : Bool) → All (λ (r : Run). r.count ≤ index + 1) (if s then grown l.1 time runs else runs ++ single time ∷ [])
        either true = All-set (λ (r : Run). r.count ≤ index + 1) runs l.1 _ (omega (arith, was)) more
        either false = begun

-- a number that a table has is one of a run
pub inside-held : (last : Option (List ℕ × ℕ)) (groups : List GroupName) (size : ℕ) (name : GroupName) → length groups ≡ size
    → IfSome last (λ l. slice_get groups l.1 ≡ Some name) → IfSome last (λ l. l.1 < size)
inside-held None groups size name same known = known
inside-held (Some l) groups size name same known = let inside = slice_get_within groups l.1 name known in omega (arith, inside, same)

-- the same of what is kept with an index
pub inside-kept : (held : Option (ℕ × (List ℕ × ℕ))) (size : ℕ) → IfSome (kept_run held) (λ l. l.1 < size) → IfSome held (λ h. h.1.1 < size)
inside-kept None size inside = inside
inside-kept (Some h) size inside = inside

-- one more flush before
pub before_more : (f : PreviewedBegin → FlushData) (begins : List PreviewedBegin) (index : ℕ) (b : PreviewedBegin) → index < length begins → b ≡ get_or begins index b
    → reverse (take (index + 1) (map f begins)) ≡ f b ∷ reverse (take index (map f begins))
before_more f begins index b inside is =
    let within : index < length (map f begins) = omega (arith, inside, length-map begins f) in
    let here : get_or (map f begins) index (f b) ≡ f b = get_or-map f begins index b (f b) inside ∙ ap f (sym is) in
    reverse_more (map f begins) index (f b) within ∙ ap (λ (g : FlushData). g ∷ reverse (take index (map f begins))) here

-- where the runs begin, once no flush is left
pub starts-done : (flushes before : List FlushData) (index : ℕ) (starts whole : List ℕ) → length flushes ≤ index
    → starts ++ starts_from index (folds_of before (drop index flushes)) ≡ whole → starts ≡ whole
starts-done flushes before index starts whole past so_far =
    sym (append-nil starts)
    ∙ ap (λ (l : List FlushData). starts ++ starts_from index (folds_of before l)) (sym (drop_all index flushes past))
    ∙ so_far

-- the runs, once no flush is left
pub runs-done : (table : GroupName → Option (List ℕ × ℕ)) (groups : List GroupName) (flushes before : List FlushData) (index : ℕ) (runs whole : List Run)
    → length groups ≡ length runs → length flushes ≤ index
    → complete table (drop index flushes) 0 groups runs ++ runs_begun (folds_of before (drop index flushes)) ≡ whole → runs ≡ whole
runs-done table groups flushes before index runs whole same past so_far =
    sym (complete-done table 0 groups runs same)
    ∙ sym (append-nil (complete table [] 0 groups runs))
    ∙ ap (λ (l : List FlushData). complete table l 0 groups runs ++ runs_begun (folds_of before l)) (sym (drop_all index flushes past))
    ∙ so_far
