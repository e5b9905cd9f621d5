-- The main thread's pass meets those of the lanes.
use Rattle.std.proofs.Common.{◌≡◌, ℕ, ◌+◌, ◌<◌, ◌≤◌, subst, List, [], ◌∷◌, ◌++◌, length, drop, get_or, set, take, map, refl, sym, ap, ◌∙◌, arith}
use mathlib.Core.List.{IsPrefix}
use Rattle.std.specs.List.{AllZip}
use Rattle.std.proofs.lemmas.List.{append-nil, drop-set-lt, drop_more, get_or-map, length-map, map-append, map-set, take_all, take_more, take_more_set}
use Rattle.std.proofs.lemmas.List.Elements.{AllZip-push}
use Rattle.am_model.specs.declared.record.Call.{Call}
use Rattle.am_model.specs.declared.record.Record.{Record}
use Rattle.am_desk.specs.History.{own}
use Rattle.am_desk.specs.Known.{Observes, Seen}
use Rattle.am_desk.specs.declared.word.Terms.{Terms}
use Rattle.am_desk.proofs.Histories.{own_prefix}
use Rattle.am_desk.proofs.Prefixes.{prefix_trans}
use Rattle.am_run.specs.Interleaving.{CalledBetween, Meets, MeetsAll, RanConcurrently}
use Rattle.am_run.specs.Lanes.{call_at}
use Rattle.am_run.specs.LaneStates.{MadeCalls, MadeLanes}
use Rattle.am_run.specs.Steps.{MadeRecords, Notes}
use Rattle.am_run.specs.Turns.{AreNotesUnlessFull}
use Rattle.am_scenario.specs.declared.scenario.Lane.{Lane}
use Rattle.am_run.proofs.lemmas.lanes.Calls.{more_made}
use Rattle.am_run.proofs.lemmas.phases.Steps.{looked_records, more_records, no_records}

-- two passes that met
pub passes_met : (t : Terms) (p q l m : Seen) → Observes t p q × IsPrefix l.log q.log → Observes t l m × IsPrefix q.log m.log → MadeRecords [] p q × Meets p q l m
passes_met t p q l m one other = (
  looked_records t p q one.0,
  (looked_records t l m other.0, prefix_trans p.log q.log m.log one.0.begins other.1, one.1),
)

-- what holds index by index follows from what holds index by index
pub zip_since : {A B : Type 0} (R S : A → B → Type 0) (xs : List A) (ys : List B) → ((x : A) (y : B) → R x y → S x y) → AllZip R xs ys → AllZip S xs ys
zip_since R S [] [] holds all = tt
zip_since R S [] (y ∷ ys) holds all = absurd all
zip_since R S (x ∷ xs) [] holds all = absurd all
zip_since R S (x ∷ xs) (y ∷ ys) holds all = (holds x y all.0, zip_since R S xs ys holds all.1)

zip_through : {A B C : Type 0} (R : A → B → Type 0) (S : B → C → Type 0) (T : A → C → Type 0) (xs : List A) (ys : List B) (zs : List C)
    → ((x : A) (y : B) (z : C) → R x y → S y z → T x z) → AllZip R xs ys → AllZip S ys zs → AllZip T xs zs
zip_through R S T [] [] [] holds first then = tt
zip_through R S T [] [] (z ∷ zs) holds first then = absurd then
zip_through R S T [] (y ∷ ys) zs holds first then = absurd first
zip_through R S T (x ∷ xs) [] zs holds first then = absurd first
zip_through R S T (x ∷ xs) (y ∷ ys) [] holds first then = absurd then
zip_through R S T (x ∷ xs) (y ∷ ys) (z ∷ zs) holds first then = (holds x y z first.0 then.0, zip_through R S T xs ys zs holds first.1 then.1)

-- a pass met the first n of these, and the others are as they were
pub record MetSoFar (n : ℕ) (p q : Seen) (ls ms : List Seen) : Type 0 where
  pub quiet : MadeRecords [] p q
  pub each : AllZip (Meets p q) (take n ls) (take n ms)
  pub others : drop n ms ≡ drop n ls

pub none_met : (p : Seen) (ls : List Seen) → MetSoFar 0 p p ls ls
none_met p ls = record { quiet = no_records p; each = tt; others = refl }

-- it met one more
met_more : (n : ℕ) (p q r : Seen) (ls ms : List Seen) (l m : Seen) → n < length ls → n < length ms → l ≡ get_or ms n l → MetSoFar n p q ls ms
    → MadeRecords [] q r → Meets q r l m → MetSoFar (n + 1) p r ls (set ms n m)
met_more n p q r ls ms l m in_ls in_ms is so_far quiet met =
    let e : get_or ms n l ∷ drop (n + 1) ms ≡ get_or ls n l ∷ drop (n + 1) ls = sym (drop_more ms n l in_ms) ∙ (so_far.others ∙ drop_more ls n l in_ls) in
    let same : get_or ms n l ≡ get_or ls n l = cc e in
    let rest : drop (n + 1) ms ≡ drop (n + 1) ls = cc e in
    let here : Meets p r (get_or ls n l) m =
    subst (λ (x : Seen). Meets p r x m) (is ∙ same) (met.0, prefix_trans p.log q.log m.log so_far.quiet.2 met.1, met.2)
    in
    let before : AllZip (Meets p r) (take n ls) (take n ms) =
    zip_since (Meets p q) (Meets p r) (take n ls) (take n ms) (λ x y z. (z.0, z.1, prefix_trans x.log q.log r.log z.2 quiet.2)) so_far.each
    in
    record {
      quiet = more_records [] [] p q r so_far.quiet quiet;
      each =
          subst (λ (xs : List Seen). AllZip (Meets p r) xs (take (n + 1) (set ms n m))) (sym (take_more ls n l in_ls))
          (subst (λ (ys : List Seen). AllZip (Meets p r) (take n ls ++ get_or ls n l ∷ []) ys) (sym (take_more_set ms n m in_ms))
          (AllZip-push (Meets p r) (take n ls) (take n ms) (get_or ls n l) m before here));
      others = drop-set-lt (n + 1) ms n m (omega arith) ∙ rest;
    }

-- the same, of what has a pass
pub seat_met : {S : Type 0} (f : S → Seen) (n : ℕ) (p q r : Seen) (ls : List Seen) (ss : List S) (s t : S) → n < length ls → n < length ss → s ≡ get_or ss n s
    → MetSoFar n p q ls (map f ss) → MadeRecords [] q r → Meets q r (f s) (f t) → MetSoFar (n + 1) p r ls (map f (set ss n t))
seat_met f n p q r ls ss s t in_ls in_ss is so_far quiet met =
    subst (λ (xs : List Seen). MetSoFar (n + 1) p r ls xs) (sym (map-set f ss n t))
    (met_more n p q r ls (map f ss) (f s) (f t) in_ls (omega (arith, in_ss, length-map ss f)) (ap f is ∙ sym (get_or-map f ss n s (f s) in_ss)) so_far quiet met)

-- it met all
pub all_met : (n : ℕ) (p q : Seen) (ls ms : List Seen) → length ls ≤ n → length ms ≤ n → MetSoFar n p q ls ms → MeetsAll p q ls ms
all_met n p q ls ms short few met =
    record {
      quiet = met.quiet;
      each =
          subst (λ (xs : List Seen). AllZip (Meets p q) xs ms) (take_all n ls short)
          (subst (λ (ys : List Seen). AllZip (Meets p q) (take n ls) ys) (take_all n ms few) met.each);
    }

-- a pass that made no record made no call
pub no_calls : (l m : Seen) → MadeRecords [] l m → MadeCalls [] l m
no_calls l m quiet =
    (quiet.0, ap (map (λ (r : Record). r.call)) quiet.1 ∙ map-append (λ (r : Record). r.call) (own l.number l.log) [])

-- calls that were made between two meetings
lanes_through : (at : ℕ) (xs : List Lane) (ks ls ms ns : List Seen) → AllZip (MadeCalls []) ks ls → MadeLanes at xs ls ms → AllZip (MadeCalls []) ms ns → MadeLanes at xs ks ns
lanes_through at [] ks ls ms ns first made last =
    zip_through (MadeCalls []) (MadeCalls []) (MadeCalls []) ks ms ns (λ k m n one other. more_made [] [] k m n one other)
    (zip_through (MadeCalls []) (MadeCalls []) (MadeCalls []) ks ls ms (λ k l m one other. more_made [] [] k l m one other) first made) last
lanes_through at (x ∷ xs) [] [] ms ns first made last = absurd made
lanes_through at (x ∷ xs) [] (l ∷ ls) ms ns first made last = absurd first
lanes_through at (x ∷ xs) (k ∷ ks) [] ms ns first made last = absurd first
lanes_through at (x ∷ xs) (k ∷ ks) (l ∷ ls) [] ns first made last = absurd made
lanes_through at (x ∷ xs) (k ∷ ks) (l ∷ ls) (m ∷ ms) [] first made last = absurd last
lanes_through at (x ∷ xs) (k ∷ ks) (l ∷ ls) (m ∷ ms) (n ∷ ns) first made last =
    let calls = map (call_at at) x.calls.items in (
      subst (λ (cs : List Call). MadeCalls cs k n) (append-nil calls) (more_made calls [] k m n (more_made [] calls k l m first.0 made.0) last.0),
      lanes_through at xs ks ls ms ns first.1 made.1 last.1,
    )

pub between_meetings : (at : ℕ) (xs : List Lane) (p q r : Seen) (ks ls ms ns : List Seen) → MeetsAll p q ks ls → MadeLanes at xs ls ms → MeetsAll q r ms ns → MadeLanes at xs ks ns
between_meetings at xs p q r ks ls ms ns first made last =
    lanes_through at xs ks ls ms ns (zip_since (Meets p q) (MadeCalls []) ks ls (λ k l met. no_calls k l met.0) first.each) made
    (zip_since (Meets q r) (MadeCalls []) ms ns (λ m n met. no_calls m n met.0) last.each)

-- the passes of lanes have the same numbers
abbrev pub SameNumber : Seen → Seen → Type 0
SameNumber l m = m.number ≡ l.number

lanes_numbers : (at : ℕ) (xs : List Lane) (ls ms : List Seen) → MadeLanes at xs ls ms → AllZip SameNumber ls ms
lanes_numbers at [] ls ms made = zip_since (MadeCalls []) SameNumber ls ms (λ l m calls. calls.0) made
lanes_numbers at (x ∷ xs) [] ms made = absurd made
lanes_numbers at (x ∷ xs) (l ∷ ls) [] made = absurd made
lanes_numbers at (x ∷ xs) (l ∷ ls) (m ∷ ms) made = (made.0.0, lanes_numbers at xs ls ms made.1)

-- before its call a pass met another, and so it did afterwards
abbrev Starts : Seen → Seen → Seen → Type 0
Starts p k m = (m.number ≡ k.number) × IsPrefix (own k.number p.log) (own k.number k.log)

starts : (p q k l m : Seen) → Meets p q k l → SameNumber l m → Starts p k m
starts p q k l m met same = (
  same ∙ met.0.0,
  subst (λ (rs : List Record). IsPrefix (own k.number p.log) rs) (met.0.1 ∙ append-nil (own k.number k.log)) (own_prefix k.number p.log l.log met.1),
)

made_between : (p q r k m n : Seen) → Starts p k m → Meets q r m n → CalledBetween p.log r.log k n
made_between p q r k m n start met =
    let own_is : own m.number m.log ≡ own m.number n.log = sym (met.0.1 ∙ append-nil (own m.number m.log)) in
    record {
      number = met.0.0 ∙ start.0;
      starts = start.1;
      ends =
          subst (λ (j : ℕ). IsPrefix (own j n.log) (own j r.log)) (sym met.0.0)
          (subst (λ (rs : List Record). IsPrefix rs (own m.number r.log)) own_is (own_prefix m.number m.log r.log met.2));
    }

-- passes that made calls between two meetings
pub ran_between : (p q r : Seen) (ks ls ms ns : List Seen) → MeetsAll p q ks ls → AllZip SameNumber ls ms → MeetsAll q r ms ns → RanConcurrently p r ks ns
ran_between p q r ks ls ms ns first same last =
    record {
      quiet = more_records [] [] p q r first.quiet last.quiet;
      each =
          zip_through (Starts p) (Meets q r) (CalledBetween p.log r.log) ks ms ns (λ k m n start met. made_between p q r k m n start met)
          (zip_through (Meets p q) SameNumber (Starts p) ks ls ms (λ k l m met same. starts p q k l m met same) first.each same) last.each;
    }

-- lanes that were run between two meetings
pub ran_concurrent : (at : ℕ) (xs : List Lane) (p q r : Seen) (ks ls ms ns : List Seen) → MeetsAll p q ks ls → MadeLanes at xs ls ms → MeetsAll q r ms ns → RanConcurrently p r ks ns
ran_concurrent at xs p q r ks ls ms ns first made last = ran_between p q r ks ls ms ns first (lanes_numbers at xs ls ms made) last

-- notes that were made after a meeting
pub quiet_first : (t : Terms) (calls : List Call) (p q r : Seen) → MadeRecords [] p q → Notes t calls q r → Notes t calls p r
quiet_first t calls p q r quiet notes =
    let same : own p.number q.log ≡ own p.number p.log = quiet.1 ∙ append-nil (own p.number p.log) in
    record {
      records = notes.records;
      made = more_records [] notes.records p q r quiet notes.made;
      noted =
          subst (λ (xs : List Record). AreNotesUnlessFull t p.number r.log xs calls notes.records) same
          (subst (λ (n : ℕ). AreNotesUnlessFull t n r.log (own n q.log) calls notes.records) quiet.0 notes.noted);
    }
