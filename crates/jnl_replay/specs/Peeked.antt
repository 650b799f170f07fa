-- What calls through a peek leave: the same peek, and a disk of which nothing was written.
use Rattle.std.specs.Prelude.{◌≡◌, refl}
use Rattle.std.proofs.Common.{◌∙◌}
use Rattle.sector_disk.specs.Disk.{State, OnlyReads}
use Rattle.sector_disk.proofs.Writing.{reads_none, reads_both}
use Rattle.jnl_replay.specs.declared.index.Peek.{Peek}

-- Calls through a peek left it as it was, and only read its disk.
pub record PeeksOn (before after : Peek) (old new : State) : Type 0 where
  pub peek : after ≡ before
  pub reads : OnlyReads old new

pub peeks_none : (peek : Peek) (disk : State) → PeeksOn peek peek disk disk
peeks_none peek disk = record { peek = refl; reads = reads_none disk }

pub peeks_both : (a b c : Peek) (x y z : State) → PeeksOn a b x y → PeeksOn b c y z → PeeksOn a c x z
peeks_both a b c x y z first second = record { peek = second.peek ∙ first.peek; reads = reads_both x y z first.reads second.reads }
