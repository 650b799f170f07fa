-- What stays of a space while it is read.
use Rattle.std.proofs.Common.{◌≤◌, IsTrue, refl, ◌∙◌, arith}
use Rattle.sector_disk.specs.Clock.{TimePasses}
use Rattle.sector_disk.specs.Space.{Space, SameSpace, SameRoom, SameSectors, LeavesDurable}
use Rattle.sector_disk.proofs.Passing.{none_passes}
use Rattle.file_io.specs.Touching.{IsOnlyRead}
use Rattle.sector_disk.proofs.SpaceLaws.{space_none, space_both, room_both, iff_none, sectors_both, time_both}

pub read_none : (space : Space) → IsOnlyRead space space
read_none space = record {
  sectors = λ tells. record { content = refl; durable = refl; spilled = λ k. iff_none (space.spilled k); live = λ k. iff_none (space.live k); closed = λ k. iff_none (space.closed k) };
  time = λ tells. none_passes space.clock (LeavesDurable space);
  room = record { put = λ k. refl; spare = refl };
  same = space_none space;
  later = omega arith;
}

pub read_on : (old now new : Space) → IsOnlyRead old now → (IsTrue now.tells → SameSectors now new) → (IsTrue now.tells → TimePasses now.clock new.clock (LeavesDurable new)) → SameRoom now new → SameSpace now new → now.faults ≤ new.faults → IsOnlyRead old new
read_on old now new r sectors time room same later = record {
  sectors = λ tells. sectors_both old now new (r.sectors tells) (sectors (r.same.tells ∙ tells));
  time = λ tells. time_both old now new (sectors (r.same.tells ∙ tells)) same (r.time tells) (time (r.same.tells ∙ tells));
  room = room_both old now new r.room room;
  same = space_both old now new r.same same;
  later = omega (arith, r.later, later);
}
