use Rattle.std.proofs.Common.{sym, ◌∙◌, ap, subst, ℕ}
use Rattle.std.specs.Prelude.{Option, Some, option_map}
use Rattle.sector_disk.specs.Disk.{content}
use Rattle.jnl_format.specs.Ring.{offset_after}
use Rattle.jnl_format.specs.declared.structures.JnlRefusal.TheVariants.{BadList}
use Rattle.jnl_replay.specs.Plan.{FitsAny}
use Rattle.jnl_replay.specs.declared.text.Text.{Text}
use Rattle.jnl_replay.proofs.Checks.{lists_checked, length-content}
use Rattle.jnl_replay.proofs.Fits.{fits_any}
use Rattle.sector_disk.proofs.Writing.{reads_both}
use Rattle.jnl_replay.proofs.ReadOn.{same_content, tells_then}
use Rattle.jnl_replay.proofs.checking.check_lists.Goals as goal

pub returns-in-None-clause-reads : goal.returns-in-None-clause-reads
returns-in-None-clause-reads g c =
    reads_both (g.D.SectorDisk.state c.args.disk.now) (g.D.SectorDisk.state c.read_volume.new.disk) (g.D.SectorDisk.state c.first_bad_list.new.disk) c.read_volume.ensures.reads c.first_bad_list.ensures.reads

pub returns-in-Some-clause-reads : goal.returns-in-Some-clause-reads
returns-in-Some-clause-reads g c =
    reads_both (g.D.SectorDisk.state c.args.disk.now) (g.D.SectorDisk.state c.read_volume.new.disk) (g.D.SectorDisk.state c.first_bad_list.new.disk) c.read_volume.ensures.reads c.first_bad_list.ensures.reads

pub returns-in-None-clause-sound : goal.returns-in-None-clause-sound
returns-in-None-clause-sound g c tells =
    let s0 = g.D.SectorDisk.state c.args.disk.now in
    let s1 = g.D.SectorDisk.state c.read_volume.new.disk in
    let reads = c.read_volume.ensures.reads in
    let plan = c.args.plan.now in
    lists_checked c.args.dialect (content s0) (content s1) plan c.sectors-sectors.result c.in-Ok.header c.text_of-text.result c.in_ok-first_bad_list.field-0 (same_content s0 s1 reads)
    (c.sectors-sectors.ensures ∙ sym (length-content s0 (g.met.D.SectorDisk.well_formed c.args.disk.now) tells))
    (c.in-Ok.ensures.header tells)
    c.text_of-text.ensures.is (c.in_ok-first_bad_list.ensures.value (tells_then s0 s1 reads tells))
    ∙ ap (λ (o : Option ℕ). option_map (λ place. BadList (offset_after plan.info.size plan.header.start place)) o) c.in-None.is

pub returns-in-Some-clause-refused : goal.returns-in-Some-clause-refused
returns-in-Some-clause-refused g c tells =
    let s0 = g.D.SectorDisk.state c.args.disk.now in
    let s1 = g.D.SectorDisk.state c.read_volume.new.disk in
    let reads = c.read_volume.ensures.reads in
    let plan = c.args.plan.now in
    lists_checked c.args.dialect (content s0) (content s1) plan c.sectors-sectors.result c.in-Ok.header c.text_of-text.result c.in_ok-first_bad_list.field-0 (same_content s0 s1 reads)
    (c.sectors-sectors.ensures ∙ sym (length-content s0 (g.met.D.SectorDisk.well_formed c.args.disk.now) tells))
    (c.in-Ok.ensures.header tells)
    c.text_of-text.ensures.is (c.in_ok-first_bad_list.ensures.value (tells_then s0 s1 reads tells))
    ∙ ap (λ (o : Option ℕ). option_map (λ place. BadList (offset_after plan.info.size plan.header.start place)) o) c.in-Some.is
    ∙ ap (λ n. Some (BadList n)) (ap (λ (t : Text). offset_after t.span.size t.start c.in-Some.at) (sym c.text_of-text.ensures.is) ∙ sym c.advance-offset.ensures.after)

pub text_of-text-requires : goal.text_of-text-requires
text_of-text-requires g c =
    let fits : FitsAny (g.D.SectorDisk.state c.args.disk.now).sectors c.args.plan.now = fits_any (g.D.SectorDisk.state c.args.disk.now).sectors c.args.plan.now c.requires.fits in
    subst (λ n. FitsAny n c.args.plan.now) (sym c.sectors-sectors.ensures) fits
