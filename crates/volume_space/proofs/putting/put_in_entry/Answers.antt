use Rattle.std.proofs.Common.{◌≡◌, ◌⊎◌, inl, ◌≤◌, ◌+◌, false, length, refl, sym, ◌∙◌, ap, subst, arith}
use Rattle.std.specs.Prelude.{IfOk, IsTrue}
use Rattle.cat_records.specs.Fits.{FitsRecord}
use Rattle.cat_records.specs.declared.record.FileRecord.{FileRecord}
use Rattle.hfs_volume.specs.Records.{is_thread}
use Rattle.file_io.specs.Places.{blocks_for}
use Rattle.hfs_volume.specs.Content.{volume_of}
use Rattle.volume_space.specs.Recording.{records_in}
use Rattle.volume_space.specs.Writing.{PutsValue, can_put, extents_in, has_more, is_put_met, put_load, spread_put_load}
use Rattle.volume_base.proofs.Commanding.{touches_none}
use Rattle.volume_space.proofs.PutFile.{not_folder, not_thread, same_file}
use Rattle.volume_base.specs.Cutting.{fork_at, kind_of}
use Rattle.volume_space.proofs.putting.put_in_entry.Goals as goal

pub put_in_file-requires-clause-kind : goal.put_in_file-requires-clause-kind
put_in_file-requires-clause-kind g c = c.in-File.is

pub put_in_file-requires-clause-fits : goal.put_in_file-requires-clause-fits
put_in_file-requires-clause-fits g c = subst FitsRecord c.in-File.is (c.requires.fits (ap is_thread c.in-File.is))

pub put_in_file-requires-clause-told : goal.put_in_file-requires-clause-told
put_in_file-requires-clause-told g c tells = c.requires.told tells c.in-File.file c.in-File.is

pub returns-in-File-clause-exactly : goal.returns-in-File-clause-exactly
returns-in-File-clause-exactly g c tells file is =
    subst (λ (f : FileRecord). IfOk c.put_in_file.result (λ put. put ≡ false → can_put c.args.volume.now (g.P.SectorView.space c.args.space.now).spare (length (extents_in (kind_of c.args.kind) (g.P.SectorView.space c.args.space.now).content f)) (fork_at (kind_of c.args.kind) f).total_blocks (fork_at (kind_of c.args.kind) f).logical_size c.args.from (length c.args.value.now) ≡ false)) (same_file c.in-File.file file (sym c.in-File.is ∙ is)) (c.put_in_file.ensures.exactly tells)

pub returns-in-File-clause-puts : goal.returns-in-File-clause-puts
returns-in-File-clause-puts g c tells file is =
    subst (λ (f : FileRecord). IfOk c.put_in_file.result (λ put. IsTrue put → PutsValue (kind_of c.args.kind) f c.args.from c.args.value.now c.args.volume.now c.put_in_file.new.volume (g.P.SectorView.space c.args.space.now).content (g.P.SectorView.space c.put_in_file.new.space).content)) (same_file c.in-File.file file (sym c.in-File.is ∙ is)) (c.put_in_file.ensures.puts tells)

pub returns-in-File-clause-spent : goal.returns-in-File-clause-spent
returns-in-File-clause-spent g c tells file is =
    subst (λ (f : FileRecord). ((g.P.SectorView.space c.args.space.now).spare ≤ (g.P.SectorView.space c.put_in_file.new.space).spare) ⊎ ((has_more (fork_at (kind_of c.args.kind) f).logical_size (c.args.from + length c.args.value.now) (blocks_for c.args.volume.now.header.block_size (fork_at (kind_of c.args.kind) f).logical_size) (fork_at (kind_of c.args.kind) f).total_blocks ≡ false)
    × ((g.P.SectorView.space c.args.space.now).spare ≤ (g.P.SectorView.space c.put_in_file.new.space).spare + put_load c.args.volume.now (fork_at (kind_of c.args.kind) f).logical_size c.args.from (length c.args.value.now)
    + spread_put_load c.args.volume.now (records_in (kind_of c.args.kind) (volume_of (g.P.SectorView.space c.args.space.now).content) f.fields.id) (length (extents_in (kind_of c.args.kind) (g.P.SectorView.space c.args.space.now).content f)) (fork_at (kind_of c.args.kind) f).logical_size c.args.from (length c.args.value.now)))) (same_file c.in-File.file file (sym c.in-File.is ∙ is)) (c.put_in_file.ensures.spent tells)

pub returns-in-File-clause-met : goal.returns-in-File-clause-met
returns-in-File-clause-met g c tells file is =
    subst (λ (f : FileRecord). IfOk c.put_in_file.result (λ put. put ≡ false → is_put_met c.args.volume.now (volume_of (g.P.SectorView.space c.args.space.now).content) (g.P.SectorView.space c.args.space.now).spare (records_in (kind_of c.args.kind) (volume_of (g.P.SectorView.space c.args.space.now).content) f.fields.id) (length (extents_in (kind_of c.args.kind) (g.P.SectorView.space c.args.space.now).content f)) (fork_at (kind_of c.args.kind) f).total_blocks (fork_at (kind_of c.args.kind) f).logical_size c.args.from (length c.args.value.now) ≡ false)) (same_file c.in-File.file file (sym c.in-File.is ∙ is)) (c.put_in_file.ensures.met tells)

pub returns-in-Folder-clause-met : goal.returns-in-Folder-clause-met
returns-in-Folder-clause-met g c tells file is = absurd (not_folder c.in-Folder._folder file (sym c.in-Folder.is ∙ is))

pub returns-in-Thread-clause-met : goal.returns-in-Thread-clause-met
returns-in-Thread-clause-met g c tells file is = absurd (not_thread c.in-Thread._thread file (sym c.in-Thread.is ∙ is))

pub returns-in-Folder-clause-exactly : goal.returns-in-Folder-clause-exactly
returns-in-Folder-clause-exactly g c tells file is = absurd (not_folder c.in-Folder._folder file (sym c.in-Folder.is ∙ is))

pub returns-in-Folder-clause-puts : goal.returns-in-Folder-clause-puts
returns-in-Folder-clause-puts g c tells file is = absurd (not_folder c.in-Folder._folder file (sym c.in-Folder.is ∙ is))

pub returns-in-Folder-clause-waits : goal.returns-in-Folder-clause-waits
returns-in-Folder-clause-waits g c tells other = (c.requires.settled tells, refl)

pub returns-in-Folder-clause-spent : goal.returns-in-Folder-clause-spent
returns-in-Folder-clause-spent g c tells file is = inl (omega arith)

pub returns-in-Folder-clause-commit : goal.returns-in-Folder-clause-commit
returns-in-Folder-clause-commit g c committed holds alike = touches_none committed _ (g.P.SectorView.space c.args.space.now)

pub returns-in-Folder-clause-service : goal.returns-in-Folder-clause-service
returns-in-Folder-clause-service g c = c.requires.stands.service

pub returns-in-Folder-clause-cause : goal.returns-in-Folder-clause-cause
returns-in-Folder-clause-cause g c = record { later = omega arith; failed = tt }

pub returns-in-Thread-clause-exactly : goal.returns-in-Thread-clause-exactly
returns-in-Thread-clause-exactly g c tells file is = absurd (not_thread c.in-Thread._thread file (sym c.in-Thread.is ∙ is))

pub returns-in-Thread-clause-puts : goal.returns-in-Thread-clause-puts
returns-in-Thread-clause-puts g c tells file is = absurd (not_thread c.in-Thread._thread file (sym c.in-Thread.is ∙ is))

pub returns-in-Thread-clause-waits : goal.returns-in-Thread-clause-waits
returns-in-Thread-clause-waits g c tells other = (c.requires.settled tells, refl)

pub returns-in-Thread-clause-spent : goal.returns-in-Thread-clause-spent
returns-in-Thread-clause-spent g c tells file is = inl (omega arith)

pub returns-in-Thread-clause-commit : goal.returns-in-Thread-clause-commit
returns-in-Thread-clause-commit g c committed holds alike = touches_none committed _ (g.P.SectorView.space c.args.space.now)

pub returns-in-Thread-clause-service : goal.returns-in-Thread-clause-service
returns-in-Thread-clause-service g c = c.requires.stands.service

pub returns-in-Thread-clause-cause : goal.returns-in-Thread-clause-cause
returns-in-Thread-clause-cause g c = record { later = omega arith; failed = tt }

pub returns-in-File-clause-no_cut : goal.returns-in-File-clause-no_cut
returns-in-File-clause-no_cut g c tells file is =
    subst (λ (f : FileRecord). IfOk c.put_in_file.result (λ put. IsTrue put → has_more (fork_at (kind_of c.args.kind) f).logical_size (c.args.from + length c.args.value.now) (blocks_for c.args.volume.now.header.block_size (fork_at (kind_of c.args.kind) f).logical_size) (fork_at (kind_of c.args.kind) f).total_blocks ≡ false)) (same_file c.in-File.file file (sym c.in-File.is ∙ is)) (c.put_in_file.ensures.no_cut tells)

pub returns-in-Folder-clause-no_cut : goal.returns-in-Folder-clause-no_cut
returns-in-Folder-clause-no_cut g c tells file is = absurd (not_folder c.in-Folder._folder file (sym c.in-Folder.is ∙ is))

pub returns-in-Thread-clause-no_cut : goal.returns-in-Thread-clause-no_cut
returns-in-Thread-clause-no_cut g c tells file is = absurd (not_thread c.in-Thread._thread file (sym c.in-Thread.is ∙ is))
