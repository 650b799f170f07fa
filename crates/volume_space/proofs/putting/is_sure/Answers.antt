use Rattle.std.proofs.Common.{◌≡◌, ◌<◌, ◌≤◌, ℕ, ◌+◌, ◌*◌, ◌/◌, true, List, length, sym, ◌∙◌, ap, subst, arith}
use Rattle.std.specs.Prelude.{Contains}
use Rattle.std.specs.List.{list_all}
use Rattle.std.proofs.Math.Nat.{mul_assoc}
use Rattle.hx_bytes.specs.declared.extents.Extent.{Extent}
use Rattle.alloc_bitmap.specs.Apart.{AreApart}
use Rattle.btree_file.proofs.Refreshed.{length_sectors}
use Rattle.flag_rows.specs.Marks.{Fit}
use Rattle.file_io.specs.Places.{AreUsed}
use Rattle.fork_map.specs.Blocks.{blocks_of, sectors_of}
use Rattle.hfs_volume.proofs.Members.{all_of}
use Rattle.sector_disk.specs.Space.{Space}
use Rattle.volume_base.specs.Opening.{ends_inside}
use Rattle.volume_space.specs.Writing.{AreHad, are_apart}
use Rattle.volume_space.proofs.PutSure.{blocks_apart, had_fit, had_used}
use Rattle.volume_base.proofs.SoundForks.{sectors_inside}
use Rattle.volume_space.proofs.putting.is_sure.Goals as goal

-- the bytes of so many blocks
in_bytes : (count per block : ℕ) → block ≡ per * 512 → count * per * 512 ≡ count * block
in_bytes count per block is = mul_assoc count per 512 ∙ ap (λ n. count * n) (sym is)

pub returns : goal.returns
returns g c used =
    let v = c.args.volume.now in
    let a : Space = g.P.SectorView.space c.args.space.now in
    let list = c.args.list.now in
    let per : ℕ = v.header.block_size / 512 in
    let whole = c.is_whole.ensures c.if-not-is_whole.false in
    let all : list_all (ends_inside (v.header.block_size / 512) a.sectors) c.args.list.now ≡ true =
    subst (λ n. list_all (ends_inside (v.header.block_size / 512) n) c.args.list.now ≡ true) c.sectors-sectors.ensures
    (ap (λ (l : List Extent). list_all (ends_inside (v.header.block_size / 512) c.sectors-sectors.result) l) (sym c.as_slice-extents.ensures) ∙ sym c.all_inside.ensures ∙ c.if-not-all_inside.false) in
    let had : AreHad v.map c.args.list.now = subst (λ (l : List Extent). AreHad v.map l) c.as_slice-extents.ensures (c.are_used.ensures used) in
    record {
      block = record { least = c.requires.service.least; most = c.requires.service.most; whole = whole };
      fits = subst (λ n. n * (v.header.block_size / 512) ≤ a.sectors) c.total.ensures (omega (arith, c.is_inside.ensures c.if-not-is_inside.false, c.sectors-sectors.ensures));
      header = (c.have.ensures.0 c.if-not-have.false).each (2 / (v.header.block_size / 512)) (omega arith) (omega arith);
      inside = all_of (λ at. at < a.sectors) (sectors_of (v.header.block_size / 512) (blocks_of c.args.list.now)) (λ at has. sectors_inside (v.header.block_size / 512) a.sectors c.args.list.now (omega (arith, c.requires.service.least)) all at has);
      holds = omega (
        arith,
        c.size_held-held.ensures.held,
        c.is_same.ensures c.if-not-is_same.false,
        ap (λ n. n * 512) (length_sectors (v.header.block_size / 512) (blocks_of c.args.list.now)),
        in_bytes (length (blocks_of c.args.list.now)) (v.header.block_size / 512) v.header.block_size (omega (arith, whole)),
      );
      used = had_used v.map c.args.list.now had;
      apart = blocks_apart c.args.list.now (ap (λ (l : List Extent). are_apart l) (sym c.as_slice-extents.ensures) ∙ c.are_apart.ensures c.if-not-are_apart.false);
      fit = had_fit v.map c.args.list.now had;
    }
