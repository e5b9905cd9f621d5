-- What a command line asks for.
use Rattle.std.specs.Prelude.{◌≡◌, false, None, codes, []}
use Rattle.am_command_line.specs.declared.request.PlayRequest.{PlayRequest}
use Rattle.am_command_line.specs.declared.request.Request.{Request}
use Rattle.am_command_line.specs.declared.request.Selection.{Selection}
use Rattle.am_command_line.specs.declared.request.Request.TheVariants.{Play, Compare, Story, Check, Routes, Json, Manual, Completions}

-- all lines are printed
pub record IsWhole (selection : Selection) : Type 0 where
  pub receiver : selection.receiver ≡ None
  pub group : selection.group ≡ None
  pub alerts : selection.alerts.items ≡ []
  pub changes : selection.changes ≡ false

-- to play the story on standard input, as it is
pub record IsPlain (play : PlayRequest) : Type 0 where
  pub story : play.story.now ≡ codes "-"
  pub others : play.others.items ≡ []
  pub config : play.config ≡ None
  pub output : play.output ≡ None
  pub until : play.until ≡ None
  pub no_failures : play.no_failures ≡ false
  pub all : play.all ≡ false
  pub selection : IsWhole play.selection
  pub junit : play.junit ≡ None

-- the request is to play the story on standard input, as it is
abbrev pub IsPlainPlay : Request → Type 0
IsPlainPlay (Play play) = IsPlain play
IsPlainPlay (Compare request) = ⊥
IsPlainPlay (Story request) = ⊥
IsPlainPlay (Check files config style) = ⊥
IsPlainPlay (Routes file labels verify style) = ⊥
IsPlainPlay (Json files style) = ⊥
IsPlainPlay Manual = ⊥
IsPlainPlay Completions = ⊥
