use Rattle.std.proofs.Common.{◌≡◌, List, length, sym, ◌∙◌, ap}
use Rattle.hx_bytes.specs.declared.extents.Extent.{Extent}
use Rattle.hfs_volume.specs.Cost.{overflow_records}
use Rattle.volume_space.proofs.HeldRecords.{held_is}
use Rattle.volume_base.specs.Cutting.{kind_of}
use Rattle.volume_base.proofs.ForkKinds.{kind_is}
use Rattle.volume_space.proofs.putting.find_fork.Goals as goal

pub fork_extents-requires-clause-there : goal.fork_extents-requires-clause-there
fork_extents-requires-clause-there g c tells = let of = c.requires.told tells in record { entry = of.entry; stands = of.stands; value = of.value }

pub returns-clause-counted : goal.returns-clause-counted
returns-clause-counted g c tells =
    let of = c.requires.told tells in
    c.count_records-records.ensures
    ∙ ap overflow_records (c.len.ensures ∙ ap (λ (l : List Extent). length l) (c.in_ok-list.ensures.found tells))
    ∙ sym (held_is (kind_of c.args.kind) (kind_is c.args.kind) c.args.volume.now (g.P.SectorView.space c.args.space.now).content (c.requires.serves.settled tells) c.args.file.now (record { entry = of.entry; stands = of.stands; value = of.value }))
