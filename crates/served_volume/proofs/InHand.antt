-- A growth in hand, over spaces that tell nothing too.
use Rattle.std.proofs.Common.{ℕ, sym}
use Rattle.std.specs.Prelude.{IsTrue}
use Rattle.std.proofs.lemmas.Bool.{true≢false}
use Rattle.alloc_bitmap.specs.Untold.{told_none}
use Rattle.sector_disk.specs.Space.{Space}
use Rattle.volume_base.specs.declared.volume.Volume.{Volume}
use Rattle.volume_space.specs.Zeroing.{HasFilled}
use Rattle.served_volume.specs.Knowing.{TakesItsBlocks}

-- its blocks hold zeros as it says, where a space that tells what it holds knows that
pub filled_there : (v : Volume) (sectors : ℕ) (a : Space) → TakesItsBlocks v sectors → (IsTrue a.tells → HasFilled v a) → HasFilled v a
filled_there v sectors a takes known it is =
    let here = takes it is in
    record { blocks = here.blocks; enough = here.enough; place = here.place; zeros = λ tells. (known tells it is).zeros tells }

-- it takes its blocks wherever it is filled
pub takes_blocks : (v : Volume) (sectors : ℕ) (a : Space) → HasFilled v a → TakesItsBlocks v sectors
takes_blocks v sectors a filled it is =
    let here = filled it is in
    record { blocks = here.blocks; enough = here.enough; place = here.place; zeros = λ told. absurd (true≢false (sym told)) }
