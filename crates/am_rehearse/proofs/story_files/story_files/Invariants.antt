use Rattle.std.proofs.Common.{◌<◌, vec_len}
use Rattle.am_rehearse.proofs.story_files.story_files.Given as goal

-- each story so far has a file
abbrev pub invariant-loop-story : goal.invariant-loop-story
invariant-loop-story g l = l.story-index < vec_len l.files
