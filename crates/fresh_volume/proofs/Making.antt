-- What a disk has behind a call that made a volume on it.
use Rattle.std.proofs.Common.{◌≡◌, ℕ, ◌^◌, ◌<◌, List, IsTrue, OnOk, Result, Ok, Err, sym}
use Rattle.std.specs.List.{AllByRecursion}
use Rattle.sector_disk.specs.Disk.{State, IsDisk, content}
use Rattle.hfs_volume.specs.declared.summary.Summary.{Summary}
use Rattle.volume_make.specs.declared.fault.FormatFault.{FormatFault}
use Rattle.volume_make.specs.Layout.{layout_of}
use Rattle.volume_make.specs.Refusal.{format_refusal, refusal_in}
use Rattle.volume_make.specs.Written.{IsFormatted}
use Rattle.volume_make.proofs.Results.{IsAccepted, accepted}
use Rattle.volume_make.proofs.Writes.{size_of}
use Rattle.fresh_volume.specs.Fresh.{IsFreshVolume}
use Rattle.fresh_volume.proofs.Mounting.{is_fresh_volume}

pub fresh_where_made : (old new : State) (block journal : ℕ) (name : List ℕ) (result : Result Summary FormatFault) → IsDisk old → IsTrue old.tells → AllByRecursion (λ unit. unit < 2 ^ 16) name
    → refusal_in result ≡ format_refusal old.sectors block journal name → OnOk result (IsFormatted (layout_of old.sectors block journal) name (content old) (content new)) → OnOk result (IsFreshVolume (content new))
fresh_where_made old new block journal name (Ok summary) good tells units refused made =
    let sizes : IsAccepted old.sectors block journal name = accepted old.sectors block journal name (sym refused) in
    is_fresh_volume old.sectors block journal name (content old) (content new) (size_of old good tells) sizes.sizes sizes.name_fits units made
fresh_where_made old new block journal name (Err fault) good tells units refused made = tt
