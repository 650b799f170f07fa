-- What the exit status of an adoption says of the disk.
use Rattle.std.specs.Prelude.{◌≡◌, IsTrue}
use Rattle.sector_disk.specs.Disk.{OnlyReads, State, content}
use Rattle.image_adopt.specs.Adopting.{IsAdoptedAs, RefusesAdoption}
use Rattle.image_adopt.specs.declared.answers.Adopted.{Adopted}
use Rattle.image_adopt.specs.declared.answers.Adopted.TheVariants.{Already}
use Rattle.image_adopt.specs.declared.answers.AdoptRefusal.{AdoptRefusal}

-- the disk holds an adopted image: one that was read before is as it was, and nothing was written
pub record AdoptsSo (old new : State) : Type 0 where
  pub how : Adopted
  pub adopted : IsTrue old.tells → IsAdoptedAs (content old) (content new) how
  pub already : how ≡ Already → OnlyReads old new

-- the image is refused, and nothing was written
pub record IsRefusedSo (old new : State) : Type 0 where
  pub why : AdoptRefusal
  pub refused : IsTrue old.tells → RefusesAdoption (content old) why
  pub unwritten : OnlyReads old new
