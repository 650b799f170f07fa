-- Names that are spelled in ASCII without a percent sign.
use Rattle.std.specs.Prelude.{ℕ, Bool, not, ◌==◌, ◌&&◌, nat_lt}
use Rattle.name_text.specs.Spelling.{percent}

-- a byte that stands for itself: ASCII, and no percent sign
abbrev pub stands_for_itself : ℕ → Bool
stands_for_itself byte = nat_lt byte 128 && not (byte == percent)
