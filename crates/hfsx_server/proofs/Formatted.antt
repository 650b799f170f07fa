-- A volume that was made.
use Rattle.std.proofs.Common.{◌≡◌, sym, ◌∙◌, ap, subst}
use Rattle.sector_disk.specs.Disk.{State, content, content_of, only}
use Rattle.volume_make.specs.Written.{IsFormatted}
use Rattle.fresh_volume.specs.Fresh.{IsFreshVolume}
use Rattle.hfsx_server.specs.Made.{IsMade, made_layout, made_name}

-- it stays so where nothing but the sink is touched
pub made_told : (old mid new : State) → new.candidates ≡ mid.candidates → IsMade old mid → IsMade old new
made_told old mid new same made = record {
  parts = subst (IsFormatted (made_layout old.sectors) made_name (content old)) (sym (ap content_of same)) made.parts;
  settled = same ∙ made.settled ∙ ap only (sym (ap content_of same));
  fresh = subst IsFreshVolume (sym (ap content_of same)) made.fresh;
}
