-- The content that was committed last has the volume's blocks: no command changes the header's geometry.
use Rattle.std.proofs.Common.{◌≡◌, ℕ, List, length, sym, ◌∙◌, ap, arith}
use Rattle.jnl_format.specs.Keeping.{IsSame}
use Rattle.jnl_format.specs.Recovery.{Content, header_of_volume}
use Rattle.volume_header.specs.declared.header.VolumeHeader.{VolumeHeader}
use Rattle.hfs_volume.specs.Content.{VolumeState, volume_of}
use Rattle.volume_base.specs.Holding.{IsLaidOutAs}
use Rattle.volume_base.specs.Standing.{IsSettled}
use Rattle.volume_base.specs.declared.volume.Volume.{Volume}
use Rattle.served_volume.proofs.Heading.{head_is}

-- the header of a volume is that of its content
header_is : (v : Volume) (content : Content) → IsSettled v content → header_of_volume content ≡ v.header
header_is v content settled = sym (head_is content) ∙ ap (λ (l : VolumeState). l.head) settled.lists

-- a content with the lists that the volume stands for
pub laid_out : (v : Volume) (content now : Content) → volume_of now ≡ volume_of content → IsSettled v content → IsLaidOutAs now v
laid_out v content now lists settled =
    let same : header_of_volume now ≡ v.header = sym (head_is now) ∙ ap (λ (l : VolumeState). l.head) lists ∙ head_is content ∙ header_is v content settled in
    record {
      block = ap (λ (h : VolumeHeader). h.block_size) same;
      total = omega (arith, ap (λ (h : VolumeHeader). h.total_blocks) same, settled.blocks);
    }

-- behind a call that left the header's geometry
pub laid_then : (committed : Content) (v w : Volume) (before after : Content) → IsLaidOutAs committed v → IsSettled v before → IsSettled w after → IsSame (header_of_volume before) (header_of_volume after) → IsLaidOutAs committed w
laid_then committed v w before after was settled then_ same =
    let old = header_is v before settled in
    let new = header_is w after then_ in
    record {
      block = omega (arith, was.block, ap (λ (h : VolumeHeader). h.block_size) old, ap (λ (h : VolumeHeader). h.block_size) new, same.block_size);
      total = omega (arith, was.total, settled.blocks, then_.blocks, ap (λ (h : VolumeHeader). h.total_blocks) old, ap (λ (h : VolumeHeader). h.total_blocks) new, same.total_blocks);
    }
