-- What a line is told at the end of its stages.
use Rattle.std.specs.Prelude.{ℕ, List}
use Rattle.hfs_language.specs.declared.refusal.Refusal.TheVariants as refusal
use Rattle.hfs_language.specs.declared.reply.Reply.{Reply}
use Rattle.hfs_language.specs.declared.reply.Reply.TheVariants as reply
use Rattle.open_files.specs.declared.act.OpenFile.{OpenFile}
use Rattle.open_files.specs.declared.act.SessionReply.{SessionReply}
use Rattle.open_files.specs.declared.act.SessionReply.TheVariants as told
use Rattle.open_files.specs.declared.table.Opened.{Opened}
use Rattle.open_files.specs.declared.table.Opened.TheVariants as opened
use Rattle.open_files.specs.Handles.{Opens}
use Rattle.session_lines.specs.declared.stages.Stage.{Stage}
use Rattle.session_lines.specs.declared.stages.Stage.TheVariants as stage

-- of a file that was to be opened
abbrev pub opened_says : Opened → SessionReply
opened_says (opened.Handle handle) = told.Opened handle
opened_says opened.TooManyOpen = told.TooManyOpen

-- At a last stage a line is told this, and these handles are open behind it: what the stage says, or whether its file was opened; or memory was missing,
-- and nothing is open that wasn't.
pub data AnswersEnd (session : ℕ) (old : List OpenFile) : Stage → SessionReply → List OpenFile → Type 0 where
  says_so : (said : Reply) → AnswersEnd session old (stage.Says said) (told.Plain said) old
  opens_so : (id : ℕ) (answer : Opened) (new : List OpenFile) → Opens old session id answer new → AnswersEnd session old (stage.Opens id) (opened_says answer) new
  short_so : (end : Stage) → AnswersEnd session old end (told.Plain (reply.No refusal.OutOfMemory)) old
