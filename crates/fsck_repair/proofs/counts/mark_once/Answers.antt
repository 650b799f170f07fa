use Rattle.std.proofs.Common.{◌≡◌, ◌≤◌, ℕ, List, false, replicate, ◌∙◌, ap, sym, arith}
use Rattle.std.specs.Prelude.{All}
use Rattle.std.proofs.lemmas.Bool.{true≢false}
use Rattle.alloc_bitmap.specs.Apart.{times}
use Rattle.volume_header.specs.declared.header.VolumeHeader.{VolumeHeader}
use Rattle.hfs_volume.specs.Blocks.{used_in}
use Rattle.hfs_volume.specs.Forks.{all_forks}
use Rattle.hfs_volume.specs.Records.{placed_in}
use Rattle.hfs_volume.proofs.Members.{all_of}
use Rattle.fsck_core.specs.Owners.{owned_all}
use Rattle.fsck_core.specs.declared.follow.OwnedFork.{OwnedFork}
use Rattle.fsck_core.proofs.UsedLaws.{marks_fit}
use Rattle.volume_repair.specs.Repair.{blocks_written}
use Rattle.fsck_repair.proofs.AllLaws.{total_few}
use Rattle.fsck_repair.proofs.CountTelling.{once_told}
use Rattle.fsck_repair.proofs.counts.mark_once.Goals as goal

pub mark_used-requires : goal.mark_used-requires
mark_used-requires c = marks_fit c.in_ok-used.used c.args.head.now.total_blocks (omega (arith, total_few c.args.sectors c.args.head.now c.requires.good)) c.in_ok-used.ensures

pub returns-then-apart : goal.returns-then-apart
returns-then-apart c volume sectors head overflow catalog attributes =
    let forks = ap (λ (l : List OwnedFork). owned_all l) c.deref.ensures.value ∙ c.in_ok-forks.ensures ∙ (λ i. all_forks (head i) (placed_in (catalog i))) in
    let used = c.in_ok-extents.ensures volume sectors head overflow forks attributes in
    let none = c.in_ok-used.ensures ∙ ap (λ (h : VolumeHeader). replicate h.total_blocks false) head in
    let apart = (c.in_ok-apart.ensures.apart volume used none).0 c.if-apart.true in (
      all_of (λ block. times block (used_in volume) ≤ 1) (blocks_written volume) (λ block stands. apart block),
      c.in_ok-apart.ensures.marks volume used none,
    )

pub returns-then-not-once : goal.returns-then-not-once
returns-then-not-once c volume sectors head overflow catalog attributes has =
    let forks = ap (λ (l : List OwnedFork). owned_all l) c.deref.ensures.value ∙ c.in_ok-forks.ensures ∙ (λ i. all_forks (head i) (placed_in (catalog i))) in
    let used = c.in_ok-extents.ensures volume sectors head overflow forks attributes in
    let writes = c.in_ok-written.ensures volume sectors head overflow in
    true≢false (sym ((once_told volume c.in_ok-extents.extents c.in_ok-written.written c.in_ok-once.once used writes c.in_ok-once.ensures).1 has) ∙ c.if-not-once.true)

pub returns : goal.returns
returns c volume sectors head overflow catalog attributes =
    let forks = ap (λ (l : List OwnedFork). owned_all l) c.deref.ensures.value ∙ c.in_ok-forks.ensures ∙ (λ i. all_forks (head i) (placed_in (catalog i))) in
    let used = c.in_ok-extents.ensures volume sectors head overflow forks attributes in
    let none = c.in_ok-used.ensures ∙ ap (λ (h : VolumeHeader). replicate h.total_blocks false) head in
    let writes = c.in_ok-written.ensures volume sectors head overflow in (
      (once_told volume c.in_ok-extents.extents c.in_ok-written.written c.in_ok-once.once used writes c.in_ok-once.ensures).0 c.if-not-once.false,
      c.in_ok-apart.ensures.marks volume used none,
    )
