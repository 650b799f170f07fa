use Rattle.std.proofs.Common.{◌++◌, ℕ, codes, refl}
use Rattle.std.proofs.lemmas.Result.{err_from_is_err_and}
use Rattle.hfs_language.specs.Text.{field}
use Rattle.hfsx_server.proofs.Telling.{telling_both, telling_failed}
use Rattle.hfsx_server.proofs.reports.tell_clean.Goals as goal

pub returns-in_err-tell_count : goal.returns-in_err-tell_count
returns-in_err-tell_count g c =
    let s0 = g.R.SectorDisk.state c.args.rig.now in
    let s1 = g.R.SectorDisk.state c.tell_count.new.rig in
    let files = codes "clean files" ++ field c.args.summary.files in
    let folders = codes " folders" ++ field c.args.summary.folders in
    let blocks = codes " blocks" ++ field c.args.summary.blocks in
    let free = codes " free" ++ field c.args.summary.free ++ codes "\n" in
    let p = err_from_is_err_and c.from_residual.result c.from_residual.ensures.1 in
    telling_failed {T = ℕ} s0 s1 (files ++ folders ++ blocks) free _ c.from_residual.result _ p.0 refl p.1
    (telling_failed {T = ℕ} {U = ℕ} s0 s1 (files ++ folders) blocks _ _ _ _ refl refl (telling_failed {U = ℕ} s0 s1 files folders _ _ _ _ refl refl c.in_err-tell_count.ensures))

pub returns-in_err-tell_count-2 : goal.returns-in_err-tell_count-2
returns-in_err-tell_count-2 g c =
    let s0 = g.R.SectorDisk.state c.args.rig.now in
    let s1 = g.R.SectorDisk.state c.tell_count.new.rig in
    let s2 = g.R.SectorDisk.state c.tell_count-2.new.rig in
    let files = codes "clean files" ++ field c.args.summary.files in
    let folders = codes " folders" ++ field c.args.summary.folders in
    let blocks = codes " blocks" ++ field c.args.summary.blocks in
    let free = codes " free" ++ field c.args.summary.free ++ codes "\n" in
    let r = c.from_residual-in_err-tell_count-2.result in
    let p = err_from_is_err_and r c.from_residual-in_err-tell_count-2.ensures.1 in
    telling_failed {T = ℕ} s0 s2 (files ++ folders ++ blocks) free _ r _ p.0 refl p.1
    (telling_failed {U = ℕ} s0 s2 (files ++ folders) blocks _ _ _ _ refl refl (telling_both s0 s1 s2 files folders _ _ _ refl c.in_ok-tell_count.ensures c.in_err-tell_count-2.ensures))

pub returns-in_err-tell_count-3 : goal.returns-in_err-tell_count-3
returns-in_err-tell_count-3 g c =
    let s0 = g.R.SectorDisk.state c.args.rig.now in
    let s1 = g.R.SectorDisk.state c.tell_count.new.rig in
    let s2 = g.R.SectorDisk.state c.tell_count-2.new.rig in
    let s3 = g.R.SectorDisk.state c.tell_count-3.new.rig in
    let files = codes "clean files" ++ field c.args.summary.files in
    let folders = codes " folders" ++ field c.args.summary.folders in
    let blocks = codes " blocks" ++ field c.args.summary.blocks in
    let free = codes " free" ++ field c.args.summary.free ++ codes "\n" in
    let r = c.from_residual-in_err-tell_count-3.result in
    let p = err_from_is_err_and r c.from_residual-in_err-tell_count-3.ensures.1 in
    let so_far = telling_both s0 s1 s2 files folders _ _ _ refl c.in_ok-tell_count.ensures c.in_ok-tell_count-2.ensures in
    telling_failed s0 s3 (files ++ folders ++ blocks) free _ r _ p.0 refl p.1 (telling_both s0 s2 s3 (files ++ folders) blocks _ _ _ refl so_far c.in_err-tell_count-3.ensures)

pub returns : goal.returns
returns g c =
    let s0 = g.R.SectorDisk.state c.args.rig.now in
    let s1 = g.R.SectorDisk.state c.tell_count.new.rig in
    let s2 = g.R.SectorDisk.state c.tell_count-2.new.rig in
    let s3 = g.R.SectorDisk.state c.tell_count-3.new.rig in
    let s4 = g.R.SectorDisk.state c.tell_last.new.rig in
    let files = codes "clean files" ++ field c.args.summary.files in
    let folders = codes " folders" ++ field c.args.summary.folders in
    let blocks = codes " blocks" ++ field c.args.summary.blocks in
    let free = codes " free" ++ field c.args.summary.free ++ codes "\n" in
    let two = telling_both s0 s1 s2 files folders _ _ _ refl c.in_ok-tell_count.ensures c.in_ok-tell_count-2.ensures in
    let three = telling_both s0 s2 s3 (files ++ folders) blocks _ _ _ refl two c.in_ok-tell_count-3.ensures in
    telling_both s0 s3 s4 (files ++ folders ++ blocks) free _ c.tell_last.result _ refl three c.tell_last.ensures
