use Rattle.std.proofs.Common.{sym, ◌∙◌, ap}
use Rattle.std.specs.Prelude.{take, if◌then◌else◌}
use Rattle.hfs_model.specs.declared.kinds.Sight.TheVariants as sight
use Rattle.hfs_volume.specs.TreeOf.{file_bytes}
use Rattle.volume_base.specs.Sighting.{sight_of}
use Rattle.volume_base.specs.declared.nodes.Node.{Node}
use Rattle.volume_base.proofs.Looked.{looked_none}
use Rattle.volume_base.proofs.volume.Volume.sight_of.Goals as goal

pub returns-then-not-is_link-clause-looked : goal.returns-then-not-is_link-clause-looked
returns-then-not-is_link-clause-looked g c = looked_none g.met.P.SectorView.follows_refl c.requires.serves.stands

pub returns-in-Folder-clause-looked : goal.returns-in-Folder-clause-looked
returns-in-Folder-clause-looked g c = looked_none g.met.P.SectorView.follows_refl c.requires.serves.stands

pub returns-in_ok-bytes-in-File-clause-sight : goal.returns-in_ok-bytes-in-File-clause-sight
returns-in_ok-bytes-in-File-clause-sight g c tells =
    let old = g.P.SectorView.space c.args.space.now in
    ap sight.Link (c.in_ok-bytes-in-File.ensures.bytes tells)
    ∙ sym (ap (λ (n : Node). sight_of old.content n) c.in-File.is ∙ ap (λ b. if b then sight.Link (take 1024 (file_bytes old.content c.in-File.file).data_bytes) else sight.File) (sym c.is_link.ensures ∙ c.if-not-is_link.false))
