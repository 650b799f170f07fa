-- `trunc` where it puts no data: to the size that a file has, or to a smaller one.
use Rattle.std.specs.Prelude.{ℕ, List, Option, None, Some, Ok, if◌then◌else◌}
use Rattle.hfs_language.specs.declared.command.Command.TheVariants as command
use Rattle.hfs_language.specs.declared.reply.Reply.{Reply}
use Rattle.hfs_model.specs.declared.plain.PlainTree.{PlainTree}
use Rattle.volume_runs.specs.Run.{is_ok, or_before, shrunk_by}

-- the file that was shrunk last, after `trunc` was answered so; nothing is answered where the file would grow
abbrev pub shrunk_then : PlainTree → List (List ℕ) → ℕ → Option Reply → Option ℕ → Option ℕ
shrunk_then tree path size None before = before
shrunk_then tree path size (Some reply) before = if is_ok reply then or_before (shrunk_by tree (Ok (command.Trunc path size))) before else before
