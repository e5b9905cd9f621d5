-- Files that are read one after another.
use Rattle.std.proofs.Common.{◌≡◌, ℕ, ◌+◌, ◌<◌, ◌≤◌, List, [], ◌∷◌, ◌++◌, length, map, take, take_all, get_or, sym, ap, subst, ◌∙◌, refl, append_assoc}
use Rattle.std.proofs.lemmas.List.{append-nil, map-append, take_more}
use Rattle.am_command_line.specs.declared.exit_status.ExitStatus.{ExitStatus}
use Rattle.am_command_line.specs.declared.exit_status.ExitStatus.TheVariants as status
use Rattle.am_commands.specs.JsonLines.{EndFiles, EndsFile, first_fault}
use Rattle.am_commands.specs.Lines.{Adds}

-- the first of three statuses
first_of_three : (a b c : ExitStatus) → first_fault (first_fault a b) c ≡ first_fault a (first_fault b c)
first_of_three status.Done b c = refl
first_of_three status.Unreadable b c = refl
first_of_three status.Rejected b c = refl
first_of_three status.NoMemory b c = refl
first_of_three status.Unwritable b c = refl
first_of_three status.Unmet b c = refl
first_of_three status.Differs b c = refl

-- `Done` behind a status
first_or_done : (a : ExitStatus) → a ≡ first_fault a status.Done
first_or_done status.Done = refl
first_or_done status.Unreadable = refl
first_or_done status.Rejected = refl
first_or_done status.NoMemory = refl
first_or_done status.Unwritable = refl
first_or_done status.Unmet = refl
first_or_done status.Differs = refl

-- one more file
more_files : (paths : List (List ℕ)) (path given_before between given : List ℕ) (end last : ExitStatus) (text line : List ℕ)
    → EndFiles paths given_before between end text → EndsFile path between given last line
    → EndFiles (paths ++ path ∷ []) given_before given (first_fault end last) (text ++ line)
more_files [] path gb g gs end last text line are is = (
  gs,
  line,
  [],
  last,
  status.Done,
  ap (λ (t : List ℕ). t ++ line) are.2 ∙ sym (append-nil line),
  ap (λ (e : ExitStatus). first_fault e last) are.1 ∙ first_or_done last,
  subst (λ (b : List ℕ). EndsFile path b gs last line) are.0 is,
  (refl, refl, refl),
)
more_files (p ∷ ps) path gb g gs end last text line are is = (
  are.0,
  are.1,
  are.2 ++ line,
  are.3,
  first_fault are.4 last,
  ap (λ (t : List ℕ). t ++ line) are.5 ∙ append_assoc are.1 are.2 line,
  ap (λ (e : ExitStatus). first_fault e last) are.6 ∙ first_of_three are.3 are.4 last,
  are.7,
  more_files ps path are.0 g gs are.4 last are.2 line are.8 is,
)

module _ {X : Type 0} (f : X → List ℕ) (xs : List X) (i : ℕ) (d : X) (given_before between given : List ℕ) (end last : ExitStatus)
    (before so_far after : List ℕ) where
  -- the next of some files
  pub next_file : i < length xs → Adds (EndFiles (map f (take i xs)) given_before between end) before so_far
      → Adds (EndsFile (f (get_or xs i d)) between given last) so_far after
      → Adds (EndFiles (map f (take (i + 1) xs)) given_before given (first_fault end last)) before after
  next_file within are next = (
    are.0 ++ next.0,
    next.1 ∙ ap (λ (t : List ℕ). t ++ next.0) are.1 ∙ append_assoc before are.0 next.0,
    subst (λ (paths : List (List ℕ)). EndFiles paths given_before given (first_fault end last) (are.0 ++ next.0))
        (sym (ap (map f) (take_more xs i d within) ∙ map-append f (take i xs) (get_or xs i d ∷ [])))
        (more_files (map f (take i xs)) (f (get_or xs i d)) given_before between given end last are.0 next.0 are.2 next.2),
  )

-- all of them, where what they come to is written
pub all_files : {X : Type 0} (f : X → List ℕ) (xs : List X) (i : ℕ) (given_before given last : List ℕ) (end wanted : ExitStatus)
    (before lines after : List ℕ) → length xs ≤ i → Adds (EndFiles (map f (take i xs)) given_before given end) [] lines → last ≡ given
    → after ≡ before ++ lines → end ≡ wanted → Adds (EndFiles (map f xs) given_before last wanted) before after
all_files {X = X} f xs i gb g last end wanted before lines after past so same written is = (
  so.0,
  written ∙ ap (λ (t : List ℕ). before ++ t) so.1,
  subst (λ (ys : List X). EndFiles (map f ys) gb last wanted so.0) (take_all i xs past)
      (subst (λ (gs : List ℕ). EndFiles (map f (take i xs)) gb gs wanted so.0) (sym same)
      (subst (λ (e : ExitStatus). EndFiles (map f (take i xs)) gb g e so.0) is so.2)),
)
