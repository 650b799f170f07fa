use Rattle.std.proofs.Common.{Bool, ◌∙◌, ap}
use Rattle.hfs_language.specs.declared.refusal.Refusal.TheVariants as refusal
use Rattle.hfs_language.specs.declared.reply.Reply.TheVariants as reply
use Rattle.hfs_serving.specs.Said.{joined}
use Rattle.open_files.specs.declared.act.SessionReply.TheVariants as told
use Rattle.session_lines.specs.Said.{text_told, told_if}
use Rattle.session_lines.proofs.AskedLines.{many_end, memory_end, opened_end, opens_is, short_end}
use Rattle.session_lines.proofs.asking.open.Goals as goal

pub returns-then-branch-clause-told : goal.returns-then-branch-clause-told
returns-then-branch-clause-told c = (
  told.Opened c.in-Ok-Handle.handle,
  opened_end c.args.session c.args.id c.in-Ok-Handle.handle c.args.table.now c.open_file.new.self (opens_is c.args.table.now c.open_file.new.self c.args.session c.args.id _ _ c.in-Ok-Handle.field-0-is c.in-Ok-Handle.ensures.opened),
  c.in_ok-tell-in-Ok-Handle.ensures.told ∙ ap (λ (whole : Bool). joined c.args.told.now (text_told (told_if whole (told.Opened c.in-Ok-Handle.handle)))) c.if-branch.true,
)

pub returns-else-branch-clause-told : goal.returns-else-branch-clause-told
returns-else-branch-clause-told c = (
  told.Plain (reply.No refusal.OutOfMemory),
  short_end c.args.session c.args.id c.in-Ok-Handle.handle c.args.table.now c.open_file.new.self c.close.new.self (opens_is c.args.table.now c.open_file.new.self c.args.session c.args.id _ _ c.in-Ok-Handle.field-0-is c.in-Ok-Handle.ensures.opened) c.close.ensures.left,
  c.in_ok-tell-in-Ok-Handle.ensures.told ∙ ap (λ (whole : Bool). joined c.args.told.now (text_told (told_if whole (told.Opened c.in-Ok-Handle.handle)))) c.if-branch.false,
)

pub returns-in_ok-tell-in-Ok-TooManyOpen-clause-told : goal.returns-in_ok-tell-in-Ok-TooManyOpen-clause-told
returns-in_ok-tell-in-Ok-TooManyOpen-clause-told c = (_, many_end c.args.session c.args.id c.args.table.now c.open_file.new.self (opens_is c.args.table.now c.open_file.new.self c.args.session c.args.id _ _ c.in-Ok-TooManyOpen.field-0-is c.in-Ok-TooManyOpen.ensures.opened) c.in_ok-tell-in-Ok-TooManyOpen.field-0, c.in_ok-tell-in-Ok-TooManyOpen.ensures.told)

pub returns-in_ok-tell-in-Err-clause-told : goal.returns-in_ok-tell-in-Err-clause-told
returns-in_ok-tell-in-Err-clause-told c = (_, memory_end c.args.session c.args.id c.args.table.now c.open_file.new.self c.in-Err.ensures.kept c.in_ok-tell-in-Err.field-0, c.in_ok-tell-in-Err.ensures.told)
