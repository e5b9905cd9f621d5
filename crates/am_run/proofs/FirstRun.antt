-- The first worked run: the definitions, run on it.
use Rattle.std.proofs.Common.{refl}
use Rattle.std.specs.Fmt.{digits}
use Rattle.am_run.specs.FirstRun.{FirstIsLegal, FirstRunReportIs}

pub first_is_legal : FirstIsLegal
first_is_legal = (refl, (refl, (refl, (refl, (refl, tt)))))

pub first_run_is : FirstRunReportIs
unfolding digits
first_run_is = refl
