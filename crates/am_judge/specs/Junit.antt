-- Junit: the report on expectations as a test suite of JUnit.
use Rattle.std.specs.Prelude.{ℕ, ◌+◌, ◌==◌, List, [], ◌∷◌, ◌++◌, length, codes, decimal, Option, Some, None, if◌then◌else◌}
use Rattle.am_terms.specs.declared.expectation.Expectation.{Expectation}
use Rattle.am_judge.specs.Expectation.{is_met, unmet_from}
use Rattle.am_judge.specs.ExpectationReport.{answer_text, edges_text}
use Rattle.am_timeline.specs.Playback.{PlaybackData}
use Rattle.am_terms.specs.TimeFormatData.{TimeFormatData}
use Rattle.am_timeline.specs.Escaped.{escaped}

-- how many cases of a suite fail
abbrev pub failures_text : ℕ → List ℕ
failures_text failures = codes "\" failures=\"" ++ decimal failures ++ codes "\">\n"

-- how many cases a suite has, and how many of them fail
abbrev pub suite_counts : ℕ → ℕ → List ℕ
suite_counts cases failures = decimal cases ++ failures_text failures

-- the start of a suite of so many cases, of which so many fail
abbrev pub suite_head : ℕ → ℕ → List ℕ
suite_head cases failures =
    codes "<?xml version=\"1.0\" encoding=\"UTF-8\"?>\n<testsuite name=\"am-rehearse\" tests=\"" ++ suite_counts cases failures

-- a name; nothing where there is none
abbrev pub name_escaped : Option (List ℕ) → List ℕ
name_escaped None = []
name_escaped (Some name) = codes ": " ++ escaped name

-- the number of an expectation, and its name
unfoldable pub case_name : ℕ → Expectation → List ℕ
case_name number x = codes "expect " ++ decimal number ++ name_escaped x.name

-- a failure with a text
abbrev pub failure_with : List ℕ → List ℕ
failure_with text = codes "><failure message=\"not met\">\n" ++ escaped text ++ codes "</failure></testcase>\n"

-- what was expected, and what came
unfoldable pub failure_text : List PlaybackData → TimeFormatData → Expectation → List ℕ
failure_text playbacks times x = failure_with (answer_text playbacks times x)

-- the end of a case with an output
abbrev pub output_text : List ℕ → List ℕ
output_text text = codes "><system-out>\n" ++ escaped text ++ codes "</system-out></testcase>\n"

-- the end of a case that is met, with a text if there is one
abbrev pub passed_with : List ℕ → List ℕ
passed_with text = if length text == 0 then codes "/>\n" else output_text text

-- the end of a case that is met, with the repeats on the edge on which that depends
unfoldable pub passed_text : List PlaybackData → TimeFormatData → Expectation → List ℕ
passed_text playbacks times x = passed_with (edges_text playbacks times x)

-- the end of a case: its failure, if the expectation isn't met
abbrev pub outcome_text : List PlaybackData → TimeFormatData → Expectation → List ℕ
outcome_text playbacks times x = if is_met playbacks x then passed_text playbacks times x else failure_text playbacks times x

-- the case of an expectation
unfoldable pub case_text : List PlaybackData → TimeFormatData → ℕ → Expectation → List ℕ
case_text playbacks times number x =
    codes "<testcase classname=\"expect\" name=\"" ++ case_name number x ++ codes "\"" ++ outcome_text playbacks times x

-- the cases of expectations, numbered from n on
abbrev pub cases_text : List PlaybackData → TimeFormatData → ℕ → List Expectation → List ℕ
cases_text playbacks times n [] = []
cases_text playbacks times n (x ∷ xs) = case_text playbacks times n x ++ cases_text playbacks times (n + 1) xs

-- a suite with a case for each expectation
abbrev pub junit_text : List PlaybackData → TimeFormatData → List Expectation → List ℕ
junit_text playbacks times xs =
    suite_head (length xs) (length (unmet_from playbacks 0 xs)) ++ cases_text playbacks times 0 xs ++ codes "</testsuite>\n"
