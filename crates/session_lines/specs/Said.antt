-- What a line is told of its reply.
use Rattle.std.specs.Prelude.{[], Bool, true, false}
use Rattle.hfs_language.specs.declared.refusal.Refusal.TheVariants as refusal
use Rattle.hfs_language.specs.declared.reply.Reply.TheVariants as reply
use Rattle.hfs_serving.specs.declared.volume.ToTell.{ToTell}
use Rattle.open_files.specs.declared.act.SessionReply.{SessionReply}
use Rattle.open_files.specs.declared.act.SessionReply.TheVariants as told
use Rattle.open_files.specs.Lines.{session_text}

-- the reply, or that memory was missing to tell it
abbrev pub told_if : Bool → SessionReply → SessionReply
told_if true said = said
told_if false said = told.Plain (reply.No refusal.OutOfMemory)

-- what is to be told of it
abbrev pub text_told : SessionReply → ToTell
text_told said = record { replies = session_text said; changes = [] }
