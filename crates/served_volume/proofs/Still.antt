-- A volume over a space in which nothing was changed that it knows.
use Rattle.std.proofs.Common.{◌≡◌, ◌⊎◌, ◌≤◌, ◌<◌, ◌-◌, ◌*◌, ◌/◌, ℕ, length, sym, ◌∙◌, subst}
use Rattle.std.specs.Prelude.{IsTrue, Option}
use Rattle.jnl_format.specs.Recovery.{info_sector_of}
use Rattle.sector_disk.specs.Lists.{Content}
use Rattle.sector_disk.specs.Space.{Space}
use Rattle.volume_base.specs.Standing.{AreWhole, HoldsTrees, HasItsForks, IsStanding, IsSettled, StandsOver, blocks_end}
use Rattle.file_io.specs.Bytes.{HoldZeros, sectors_in}
use Rattle.volume_base.specs.declared.volume.Volume.{Volume}
use Rattle.volume_space.specs.Zeroing.{HasFilled}
use Rattle.served_volume.specs.Knowing.{IsAlike, Knows}
use Rattle.served_volume.proofs.Service.{service_on}

-- the content is the same, and so are the sectors; no more are closed or live
pub record IsSame (a b : Space) : Type 0 where
  pub tells : b.tells ≡ a.tells
  pub sectors : b.sectors ≡ a.sectors
  pub content : b.content ≡ a.content
  pub closed : (s : ℕ) → b.closed s → a.closed s
  pub live : (s : ℕ) → b.live s → a.live s

module _ (v : Volume) (a b : Space) (same : IsSame a b) where
  standing_same : IsStanding v a → IsStanding v b
  standing_same was = record {
    trees = subst (λ (c : Content). HoldsTrees v c) (sym same.content) was.trees;
    forks = subst (λ (c : Content). HasItsForks v c) (sym same.content) was.forks;
    whole = subst (λ (c : Content). AreWhole c) (sym same.content) was.whole;
    apart = was.apart;
    blocks = was.blocks;
    closed = λ s shut has. was.closed s (same.closed s shut) has;
    aside = λ s is has. was.aside s (subst (λ (c : Content). (s ≡ length c - 2) ⊎ (s ≡ info_sector_of v.header)) same.content is) has;
    large = subst (λ (c : Content). 2 < length c) (sym same.content) was.large;
    inside = was.inside;
    fit = subst (λ (c : Content). blocks_end v ≤ length c) (sym same.content) was.fit;
    live = λ s l. was.live s (same.live s l);
  }

  filled_same : HasFilled v a → HasFilled v b
  filled_same was it is =
      let old = was it is in
      record {
        blocks = old.blocks;
        enough = old.enough;
        place = old.place;
        zeros = λ tells. subst (λ (c : Content). HoldZeros c (sectors_in v.header.block_size it.blocks) (it.place * (v.header.block_size / 512)) (it.done * (v.header.block_size / 512))) (sym same.content) (old.zeros (sym same.tells ∙ tells));
      }

  pub stands_same : StandsOver v a → StandsOver v b
  stands_same was = record { service = service_on v a b same.sectors was.service; stands = λ tells. standing_same (was.stands (sym same.tells ∙ tells)) }

  pub knows_same : (capacity : ℕ) (committed now : Content) (shrunk : Option ℕ) → Knows v capacity committed now shrunk a → Knows v capacity committed now shrunk b
  knows_same capacity committed now shrunk was = record {
    stands = stands_same was.stands;
    settled = subst (λ (c : Content). IsSettled v c) (sym same.content) was.settled;
    filled = filled_same was.filled;
    holds = was.holds;
    laid_out = was.laid_out;
    was_sound = was.was_sound;
    capacity_is = was.capacity_is;
    shrunk_is = was.shrunk_is;
    alike = subst (λ (c : Content). IsAlike now c) (sym same.content) was.alike;
  }
