-- The dialects of the journal: how large the header of a list may be, and where a text may end.
use Rattle.std.specs.Prelude.{ℕ, Bool, true}
use Rattle.jnl_format.specs.declared.dialect.Dialect.{Dialect}
use Rattle.jnl_format.specs.declared.dialect.Dialect.TheVariants.{Plain, Wide}

-- how many bytes the header of a list fills at most
abbrev pub most_blhdr : Dialect → ℕ
most_blhdr Plain = 65536
most_blhdr Wide = 1048576

-- A text may end behind a list: in the plain dialect behind the last of a transaction alone, and in the wide one,
-- which has a number of the transaction in place of what tells the last, behind each.
abbrev pub may_end : Dialect → Bool → Bool
may_end Plain last = last
may_end Wide last = true
