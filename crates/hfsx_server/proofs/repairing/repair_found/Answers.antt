use Rattle.std.proofs.Common.{◌≡◌, ◌++◌, ℕ, List, length, sym, ◌∙◌, ap, subst}
use Rattle.std.specs.Prelude.{IsTrue}
use Rattle.sector_disk.specs.Disk.{content}
use Rattle.jnl_format.specs.Recovery.{replayed}
use Rattle.jnl_replay.specs.Plan.{journal_of}
use Rattle.jnl_replay.proofs.Checks.{length-content}
use Rattle.hfs_volume.specs.Sound.{IsSound}
use Rattle.hfs_serving.specs.Outside.{outside_of}
use Rattle.image_repair.specs.Mending.{StandsEither}
use Rattle.image_repair.proofs.Found.{finds_either, finds_repair}
use Rattle.image_repair.proofs.Showing.{none_leaves, start_bytes}
use Rattle.image_repair.proofs.Sizes.{start_whole}
use Rattle.fsck_repair.specs.Overlay.{overlaid}
use Rattle.hfsx_server.specs.Repairing.{KeepsImage, ToldRepaired, repaired_text}
use Rattle.hfsx_server.proofs.Judging.{has_sound}
use Rattle.hfsx_server.proofs.Repaired.{keeps_read, keeps_told, keeps_untold, no_done, opens_one, same_opened, starts, told_repaired}
use Rattle.jnl_store.proofs.SpacedTime.{found_live}
use Rattle.hfsx_server.proofs.repairing.repair_found.Goals as goal

pub returns-in_default-clause-keeps : goal.returns-in_default-clause-keeps
returns-in_default-clause-keeps g c tells settled first reads capacity other mendable =
    let s0 = g.R.SectorDisk.state c.args.rig.now in
    let wf = g.met.R.SectorDisk.well_formed c.args.rig.now in
    let plan = c.args.found.plan in
    let start = replayed (journal_of plan) (content s0) in
    let is = c.requires.found tells in
    let bytes = start_bytes plan s0 wf tells c.requires.fits is.opened.opens.0.recovers in
    let either = finds_either c.header_round_trip.ensures.read_back c.repair_keeps_size.ensures c.aside_is_free.ensures (content s0) plan s0.sectors c.requires.fits (length-content s0 wf tells) is.opened bytes in
    let is_start = found_live plan (content s0) is.opened.plan_is in
    let most = is.opened.capacity in
    same_opened (content s0) most capacity start other is.opened.opens mendable.opens (λ n x. KeepsImage n x (g.R.SectorDisk.state first) s0)
    (keeps_read plan start most (g.R.SectorDisk.state first) s0 settled reads (g.met.R.SectorDisk.only_now first) is_start either (none_leaves (StandsEither start) (outside_of plan s0) (starts plan start most (g.R.SectorDisk.state first) s0 settled reads (g.met.R.SectorDisk.only_now first) is_start either)))

pub mend_image-requires-clause-found : goal.mend_image-requires-clause-found
mend_image-requires-clause-found g c tells = (c.requires.found tells).repair

pub mend_image-requires-clause-plan : goal.mend_image-requires-clause-plan
mend_image-requires-clause-plan g c tells = (c.requires.found tells).opened.plan_is

pub mend_image-requires-clause-recovers : goal.mend_image-requires-clause-recovers
mend_image-requires-clause-recovers g c tells = (c.requires.found tells).opened.opens.0.recovers

pub returns-in-Ok-tell_whole-clause-keeps : goal.returns-in-Ok-tell_whole-clause-keeps
returns-in-Ok-tell_whole-clause-keeps g c tells settled first reads capacity other mendable =
    let s0 = g.R.SectorDisk.state c.args.rig.now in
    let wf = g.met.R.SectorDisk.well_formed c.args.rig.now in
    let plan = c.args.found.plan in
    let start = replayed (journal_of plan) (content s0) in
    let is = c.requires.found tells in
    let bytes = start_bytes plan s0 wf tells c.requires.fits is.opened.opens.0.recovers in
    let either = finds_either c.header_round_trip.ensures.read_back c.repair_keeps_size.ensures c.aside_is_free.ensures (content s0) plan s0.sectors c.requires.fits (length-content s0 wf tells) is.opened bytes in
    let is_start = found_live plan (content s0) is.opened.plan_is in
    let most = is.opened.capacity in
    let s1 = g.R.SectorDisk.state c.mend_image.new.rig in
    let may = c.mend_image.ensures.leaves tells settled in
    let s2 = g.R.SectorDisk.state c.tell_whole.new.rig in
    let tells1 = subst (λ t. IsTrue t) (sym c.mend_image.ensures.same.tells) tells in
    let repaired = finds_repair c.header_round_trip.ensures.read_back c.repair_keeps_size.ensures c.aside_is_free.ensures (content s0) plan s0.sectors c.requires.fits (length-content s0 wf tells) is.opened bytes in
    same_opened (content s0) most capacity start other is.opened.opens mendable.opens (λ n x. KeepsImage n x (g.R.SectorDisk.state first) s2)
    (keeps_told plan start most (g.R.SectorDisk.state first) s0 settled reads (g.met.R.SectorDisk.only_now first) is_start either s1 may s2 c.as_slice.result.now (c.tell_whole.ensures.time tells1) c.tell_whole.ensures.candidates repaired (c.in-Ok-mend_image.ensures.stands tells))

pub returns-in-Ok-mend_image-clause-keeps : goal.returns-in-Ok-mend_image-clause-keeps
returns-in-Ok-mend_image-clause-keeps g c tells settled first reads capacity other mendable =
    let s0 = g.R.SectorDisk.state c.args.rig.now in
    let wf = g.met.R.SectorDisk.well_formed c.args.rig.now in
    let plan = c.args.found.plan in
    let start = replayed (journal_of plan) (content s0) in
    let is = c.requires.found tells in
    let bytes = start_bytes plan s0 wf tells c.requires.fits is.opened.opens.0.recovers in
    let either = finds_either c.header_round_trip.ensures.read_back c.repair_keeps_size.ensures c.aside_is_free.ensures (content s0) plan s0.sectors c.requires.fits (length-content s0 wf tells) is.opened bytes in
    let is_start = found_live plan (content s0) is.opened.plan_is in
    let most = is.opened.capacity in
    let s1 = g.R.SectorDisk.state c.mend_image.new.rig in
    let may = c.mend_image.ensures.leaves tells settled in
    let s2 = g.R.SectorDisk.state c.tell_whole.new.rig in
    let tells1 = subst (λ t. IsTrue t) (sym c.mend_image.ensures.same.tells) tells in
    let repaired = finds_repair c.header_round_trip.ensures.read_back c.repair_keeps_size.ensures c.aside_is_free.ensures (content s0) plan s0.sectors c.requires.fits (length-content s0 wf tells) is.opened bytes in
    same_opened (content s0) most capacity start other is.opened.opens mendable.opens (λ n x. KeepsImage n x (g.R.SectorDisk.state first) s2)
    (keeps_told plan start most (g.R.SectorDisk.state first) s0 settled reads (g.met.R.SectorDisk.only_now first) is_start either s1 may s2 c.as_slice.result.now (c.tell_whole.ensures.time tells1) c.tell_whole.ensures.candidates repaired (c.in-Ok-mend_image.ensures.stands tells))

pub returns-clause-keeps : goal.returns-clause-keeps
returns-clause-keeps g c tells settled first reads capacity other mendable =
    let s0 = g.R.SectorDisk.state c.args.rig.now in
    let wf = g.met.R.SectorDisk.well_formed c.args.rig.now in
    let plan = c.args.found.plan in
    let start = replayed (journal_of plan) (content s0) in
    let is = c.requires.found tells in
    let bytes = start_bytes plan s0 wf tells c.requires.fits is.opened.opens.0.recovers in
    let either = finds_either c.header_round_trip.ensures.read_back c.repair_keeps_size.ensures c.aside_is_free.ensures (content s0) plan s0.sectors c.requires.fits (length-content s0 wf tells) is.opened bytes in
    let is_start = found_live plan (content s0) is.opened.plan_is in
    let most = is.opened.capacity in
    let s1 = g.R.SectorDisk.state c.mend_image.new.rig in
    let may = c.mend_image.ensures.leaves tells settled in
    same_opened (content s0) most capacity start other is.opened.opens mendable.opens (λ n x. KeepsImage n x (g.R.SectorDisk.state first) s1)
    (keeps_untold plan start most (g.R.SectorDisk.state first) s0 settled reads (g.met.R.SectorDisk.only_now first) is_start either s1 may)

pub returns-in-Ok-tell_whole-clause-done : goal.returns-in-Ok-tell_whole-clause-done
returns-in-Ok-tell_whole-clause-done g c tells settled capacity other mendable ended =
    let s0 = g.R.SectorDisk.state c.args.rig.now in
    let wf = g.met.R.SectorDisk.well_formed c.args.rig.now in
    let plan = c.args.found.plan in
    let start = replayed (journal_of plan) (content s0) in
    let is = c.requires.found tells in
    let bytes = start_bytes plan s0 wf tells c.requires.fits is.opened.opens.0.recovers in
    let either = finds_either c.header_round_trip.ensures.read_back c.repair_keeps_size.ensures c.aside_is_free.ensures (content s0) plan s0.sectors c.requires.fits (length-content s0 wf tells) is.opened bytes in
    let is_start = found_live plan (content s0) is.opened.plan_is in
    let most = is.opened.capacity in
    let s1 = g.R.SectorDisk.state c.mend_image.new.rig in
    let may = c.mend_image.ensures.leaves tells settled in
    let s2 = g.R.SectorDisk.state c.tell_whole.new.rig in
    let tells1 = subst (λ t. IsTrue t) (sym c.mend_image.ensures.same.tells) tells in
    let repaired = finds_repair c.header_round_trip.ensures.read_back c.repair_keeps_size.ensures c.aside_is_free.ensures (content s0) plan s0.sectors c.requires.fits (length-content s0 wf tells) is.opened bytes in
    let text : c.as_slice.result.now ≡ repaired_text (length c.args.found.mend.changes.items) = c.as_slice.ensures.value ∙ c.in-Ok.ensures ∙ ap repaired_text c.sectors.ensures in
    let told = told_repaired plan start most (length c.args.found.mend.changes.items) s0 s1 s2 (has_sound start c.args.found.mend.changes.items is.repair) may.told (c.in-Ok-tell_whole.ensures.told tells1 ∙ ap (λ (l : List ℕ). s1.told ++ l) text) c.tell_whole.ensures.candidates (c.in-Ok-mend_image.ensures.done tells) repaired (c.in-Ok-mend_image.ensures.stands tells) in
    same_opened (content s0) most capacity start other is.opened.opens mendable.opens (λ n x. ToldRepaired n x s0 s2) told

pub returns-in-Ok-tell_whole-clause-sound : goal.returns-in-Ok-tell_whole-clause-sound
returns-in-Ok-tell_whole-clause-sound g c tells settled capacity other mendable sound ended =
    let s0 = g.R.SectorDisk.state c.args.rig.now in
    let wf = g.met.R.SectorDisk.well_formed c.args.rig.now in
    let plan = c.args.found.plan in
    let start = replayed (journal_of plan) (content s0) in
    let is = c.requires.found tells in
    let bytes = start_bytes plan s0 wf tells c.requires.fits is.opened.opens.0.recovers in
    let either = finds_either c.header_round_trip.ensures.read_back c.repair_keeps_size.ensures c.aside_is_free.ensures (content s0) plan s0.sectors c.requires.fits (length-content s0 wf tells) is.opened bytes in
    let is_start = found_live plan (content s0) is.opened.plan_is in
    let most = is.opened.capacity in
    let s1 = g.R.SectorDisk.state c.mend_image.new.rig in
    let may = c.mend_image.ensures.leaves tells settled in
    let s2 = g.R.SectorDisk.state c.tell_whole.new.rig in
    let tells1 = subst (λ t. IsTrue t) (sym c.mend_image.ensures.same.tells) tells in
    let repaired = finds_repair c.header_round_trip.ensures.read_back c.repair_keeps_size.ensures c.aside_is_free.ensures (content s0) plan s0.sectors c.requires.fits (length-content s0 wf tells) is.opened bytes in
    let text : c.as_slice.result.now ≡ repaired_text (length c.args.found.mend.changes.items) = c.as_slice.ensures.value ∙ c.in-Ok.ensures ∙ ap repaired_text c.sectors.ensures in
    let here : IsSound start = subst IsSound (sym (opens_one (content s0) most capacity start other is.opened.opens mendable.opens).1) sound in
    let none = (c.sound_is_own_repair.ensures start (overlaid c.args.found.mend.changes.items start) bytes.bytes (start_whole plan s0 wf is.opened.opens.0.recovers) here is.repair.repair).1 in
    c.in-Ok-tell_whole.ensures.told tells1 ∙ ap (λ (l : List ℕ). s1.told ++ l) text ∙ ap (λ (l : List ℕ). l ++ repaired_text (length c.args.found.mend.changes.items)) may.told ∙ ap (λ n. s0.told ++ repaired_text n) (is.repair.count ∙ none)

pub returns-clause-done : goal.returns-clause-done
returns-clause-done g c tells settled capacity other mendable ended = absurd (no_done c.in-Err.trouble (sym c.trouble_status.ensures ∙ ended))

pub returns-clause-sound : goal.returns-clause-sound
returns-clause-sound g c tells settled capacity other mendable sound ended = absurd (no_done c.in-Err.trouble (sym c.trouble_status.ensures ∙ ended))
