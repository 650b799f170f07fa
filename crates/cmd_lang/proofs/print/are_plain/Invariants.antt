use Rattle.std.proofs.Common.{◌≡◌, ◌&&◌, drop}
use Rattle.std.specs.List.{list_all}
use Rattle.hfs_language.specs.Text as spec
use Rattle.cmd_lang.proofs.print.are_plain.Given as goal

abbrev pub invariant-loop-byte : goal.invariant-loop-byte
invariant-loop-byte l = (l.plain && list_all spec.is_plain (drop l.byte-index l.bytes)) ≡ list_all spec.is_plain l.bytes
