-- What an image stands for, and what of it are the image's own sectors.
use Rattle.std.proofs.Common.{◌≡◌, ◌≢◌, ℕ, List, length, refl, sym, ◌∙◌, ap, subst}
use Rattle.std.specs.Prelude.{None, Ok}
use Rattle.volume_header.specs.Refusal.{header_refusal}
use Rattle.jnl_format.specs.Info.{unless_fault}
use Rattle.jnl_format.specs.Recovery.{Content, sector, Journal, header_of_volume, info_sector_of, journal_in, text_of, volume_of, text_fault, homes_of, replayed, recovery, recovery_at_as}
use Rattle.jnl_format.specs.declared.blocks.Home.{Home}
use Rattle.jnl_format.specs.declared.blocks.Volume.{Volume}
use Rattle.jnl_format.proofs.Alike.{good_homes, not_home, stands_alike}
use Rattle.jnl_format.specs.Keeping.{KeepsHeader}
use Rattle.jnl_format.specs.Named.{IsGoodHome, Each}
use Rattle.jnl_format.proofs.Mixing.{mixes_with_homes}
use Rattle.jnl_format.specs.Named.{MixesHomes}
use Rattle.jnl_format.proofs.Recovering.{then_parts, unless_parts}
use Rattle.hfs_volume.specs.Mount.{HasJournal}

-- an image and what it stands for: as many sectors, the journal is found in it, and its info block is the image's own
pub record HasRecovered (image recovered : Content) : Type 0 where
  pub journal : Journal
  pub found : HasJournal image journal
  pub size : length recovered ≡ length image
  pub info : sector recovered (info_sector_of (header_of_volume image)) ≡ sector image (info_sector_of (header_of_volume image))
  pub header : header_refusal (header_of_volume image) (length image) ≡ None → KeepsHeader image recovered

never_info : (volume : Volume) (text : List ℕ) (s : ℕ) (home : Home) → s ≡ volume.info_sector → IsGoodHome volume text home → home.sector ≢ s
never_info volume text s home is good same = good.no_info (same ∙ is)

pub recovery_parts : (image recovered : Content) → recovery image ≡ Ok recovered → HasRecovered image recovered
unfolding recovery_at_as
recovery_parts image recovered is =
    let at = info_sector_of (header_of_volume image) in
    let version = (header_of_volume image).last_mounted_version in
    let p = then_parts (journal_in at image) (λ (j : Journal). unless_fault (text_fault at version j image) (replayed j image)) recovered is in
    let j = p.0 in
    let q = unless_parts (text_fault at version j image) (replayed j image) recovered p.2 in
    let volume = volume_of at j image in
    let text = text_of j image in
    let homes = homes_of j image in
    let all : Each (IsGoodHome volume text) homes = good_homes at version j image q.0 in
    let m : MixesHomes text homes image (replayed j image) = mixes_with_homes text homes image in
    let kept : (s : ℕ) → ((home : Home) → IsGoodHome volume text home → home.sector ≢ s) → sector recovered s ≡ sector image s =
    λ s never. subst (λ (d : Content). sector d s ≡ sector image s) q.1 (not_home volume text homes image (replayed j image) s all never (m.each s)) in
    record {
      journal = j;
      found = p.1;
      size = ap (λ (d : Content). length d) (sym q.1) ∙ m.size;
      info = kept at (λ home good. never_info volume text at home refl good);
      header = λ accepted. subst (KeepsHeader image) q.1 (stands_alike at version j image (replayed j image) p.1 q.0 accepted m).header;
    }
