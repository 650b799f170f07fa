use Rattle.std.proofs.Common.{◌∙◌, List, sym, ap, subst, arith}
use Rattle.sector_disk.specs.Space.{Space}
use Rattle.btree_file.specs.FrameLaws.{reads_both}
use Rattle.hfs_volume.specs.Blocks.{IsGoodHeader}
use Rattle.fsck_core.specs.declared.overflow.OverflowRow.{OverflowRow}
use Rattle.fsck_core.specs.Overflows.{overflows_in}
use Rattle.fsck_core.specs.Shown.{IsEarly}
use Rattle.fsck_core.proofs.ListJoins.{nothing}
use Rattle.fsck_core.proofs.ShownLaws.{shows_still, good_still, still_early, lists_there, bits_fit}
use Rattle.fsck_core.proofs.volume.read_files.Goals as goal

pub read_info_block-requires : goal.read_info_block-requires
read_info_block-requires g c = record { good = good_still (g.V.SectorView.space c.args.view.now) (g.V.SectorView.space c.read_specials.new.view) c.args.head.now c.read_specials.ensures.reads c.requires.good }

pub read_bits-requires : goal.read_bits-requires
read_bits-requires g c =
    let old : Space = g.V.SectorView.space c.args.view.now in
    let first : Space = g.V.SectorView.space c.read_specials.new.view in
    let second : Space = g.V.SectorView.space c.read_info_block.new.view in
    record { good = good_still old second c.args.head.now (reads_both old first second c.read_specials.ensures.reads c.read_info_block.ensures.reads) c.requires.good }

pub returns-then-len-gt0-clause-found : goal.returns-then-len-gt0-clause-found
returns-then-len-gt0-clause-found g c content shows head trees = omega (arith, c.len.ensures.count, c.if-len-gt0.true)

pub returns-then-len-gt0-clause-each : goal.returns-then-len-gt0-clause-each
returns-then-len-gt0-clause-each g c content shows head trees =
    let rows = ap (λ (l : List OverflowRow). overflows_in l) c.deref.ensures.value ∙ trees.of_extents.rows_are in
    let passed = c.in_ok-judge_specials.ensures content (c.in_ok-files.ensures.heads content shows head rows) (c.in_ok-files.ensures.behind content shows head rows) in
    still_early content (IsEarly content) c.args.out.now c.judge_specials.new.out c.requires.none (λ f early. early) passed.each

pub returns-clause-good : goal.returns-clause-good
returns-clause-good g c =
    let old : Space = g.V.SectorView.space c.args.view.now in
    let first : Space = g.V.SectorView.space c.read_specials.new.view in
    let second : Space = g.V.SectorView.space c.read_info_block.new.view in
    let third : Space = g.V.SectorView.space c.read_bits.new.view in
    let reads = reads_both old second third (reads_both old first second c.read_specials.ensures.reads c.read_info_block.ensures.reads) c.read_bits.ensures.reads in
    (subst (λ n. IsGoodHeader n c.args.head.now) (sym c.sectors.ensures) (good_still old third c.args.head.now reads c.requires.good), nothing c.judge_specials.new.out (omega (arith, c.len.ensures.count, c.if-len-gt0.false)))

pub returns-clause-found : goal.returns-clause-found
returns-clause-found g c content shows head trees =
    let old : Space = g.V.SectorView.space c.args.view.now in
    let first : Space = g.V.SectorView.space c.read_specials.new.view in
    let second : Space = g.V.SectorView.space c.read_info_block.new.view in
    let third : Space = g.V.SectorView.space c.read_bits.new.view in
    let rows = ap (λ (l : List OverflowRow). overflows_in l) c.deref.ensures.value ∙ trees.of_extents.rows_are in
    let also = ap (λ (l : List OverflowRow). overflows_in l) c.deref-2.ensures.value ∙ trees.of_extents.rows_are in
    let passed = c.in_ok-judge_specials.ensures content (c.in_ok-files.ensures.heads content shows head rows) (c.in_ok-files.ensures.behind content shows head rows) in
    let holds = passed.holds (omega (arith, c.len.ensures.count, c.if-len-gt0.false)) in
    let after = shows_still old first content shows c.read_specials.ensures.reads in
    let later = shows_still old second content shows (reads_both old first second c.read_specials.ensures.reads c.read_info_block.ensures.reads) in
    let last = shows_still second third content later c.read_bits.ensures.reads in
    (lists_there content _ trees (c.sectors.ensures ∙ last.size) head (c.in_ok-info.ensures.value content after head) (c.in_ok-flags.ensures.bits content later head also (bits_fit content c.args.head.now head holds.0)), holds)

pub returns-clause-each : goal.returns-clause-each
returns-clause-each g c content shows head trees =
    let rows = ap (λ (l : List OverflowRow). overflows_in l) c.deref.ensures.value ∙ trees.of_extents.rows_are in
    let passed = c.in_ok-judge_specials.ensures content (c.in_ok-files.ensures.heads content shows head rows) (c.in_ok-files.ensures.behind content shows head rows) in
    still_early content (IsEarly content) c.args.out.now c.judge_specials.new.out c.requires.none (λ f early. early) passed.each

pub returns-in_err-flags-clause-below : goal.returns-in_err-flags-clause-below
returns-in_err-flags-clause-below g c =
    g.met.V.SectorView.follows_trans c.args.view.now c.read_info_block.new.view c.read_bits.new.view
    (g.met.V.SectorView.follows_trans c.args.view.now c.read_specials.new.view c.read_info_block.new.view c.read_specials.ensures.below c.read_info_block.ensures.below) c.read_bits.ensures.below

pub returns-clause-below : goal.returns-clause-below
returns-clause-below g c =
    g.met.V.SectorView.follows_trans c.args.view.now c.read_info_block.new.view c.read_bits.new.view
    (g.met.V.SectorView.follows_trans c.args.view.now c.read_specials.new.view c.read_info_block.new.view c.read_specials.ensures.below c.read_info_block.ensures.below) c.read_bits.ensures.below

pub returns-clause-reads : goal.returns-clause-reads
returns-clause-reads g c =
    let old : Space = g.V.SectorView.space c.args.view.now in
    let first : Space = g.V.SectorView.space c.read_specials.new.view in
    let second : Space = g.V.SectorView.space c.read_info_block.new.view in
    let third : Space = g.V.SectorView.space c.read_bits.new.view in
    reads_both old second third (reads_both old first second c.read_specials.ensures.reads c.read_info_block.ensures.reads) c.read_bits.ensures.reads
