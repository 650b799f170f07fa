use Rattle.std.proofs.Common.{◌≡◌, ℕ, List, [], arith, map, sym, ◌∙◌, ap, subst}
use Rattle.std.specs.Prelude.{Contains, IsTrue}
use Rattle.hx_bytes.specs.declared.extents.Extent.{Extent}
use Rattle.btree_node.specs.Keys.{IsExtentKey, extent_cmp, is_eight_extents}
use Rattle.btree_node.specs.Levels.{Pair}
use Rattle.btree_node.specs.TreeFile.{extents_form}
use Rattle.btree_file.specs.State.{state_of}
use Rattle.btree_file.proofs.StandingLaws.{pairs_held}
use Rattle.cat_records.specs.declared.record.CatRecord.TheVariants.{File}
use Rattle.catalog.specs.Pairs.{value_at}
use Rattle.hfs_volume.specs.Changes.{with_fork}
use Rattle.hfs_volume.specs.Content.{VolumeState}
use Rattle.hfs_volume.specs.Entries.{AreSpelled}
use Rattle.hfs_volume.specs.Records.{id_in, overflow_of}
use Rattle.volume_base.specs.Changing.{ReplacesRecord, catalog_node}
use Rattle.volume_space.specs.Cutting.{CutsOne, PutsGiven}
use Rattle.volume_base.specs.Cutting.{kind_of}
use Rattle.volume_base.specs.Cutting.{cut_fork_of, fork_at}
use Rattle.volume_base.specs.Lists.{lists_of}
use Rattle.volume_space.specs.Spreading.{StoresExtents}
use Rattle.volume_base.specs.Standing.{IsSettled, StandsOver, own_sectors}
use Rattle.volume_base.specs.Touching.{Touches}
use Rattle.volume_base.specs.declared.volume.Volume.{Volume}
use Rattle.volume_base.proofs.Besides.{blocks_edit}
use Rattle.volume_base.proofs.Commanding.{touches_both}
use Rattle.volume_space.proofs.CutWhole.{cut_whole}
use Rattle.volume_base.proofs.FoundEntry.{ok_both, settled_spelled}
use Rattle.volume_base.proofs.KeptUsed.{used_blocks, used_both}
use Rattle.volume_base.proofs.Seeing.{cause_since}
use Rattle.volume_space.proofs.SpreadFile.{blocks_stored, eight_in, few_stay, has_extents, has_file, stays_in_use, store_room}
use Rattle.volume_space.proofs.StoreRoom.{store_spent}
use Rattle.volume_space.proofs.cutting.cut_fork.Goals as goal

-- ---- the overflow records

pub store_extents-requires-clause-has : goal.store_extents-requires-clause-has
store_extents-requires-clause-has g c tells =
    let before : IsTrue (g.P.SectorView.space c.args.space.now).tells = sym (c.put_back.ensures.touches []).same.tells ∙ tells in
    has_extents c.args.volume.now (g.P.SectorView.space c.args.space.now).content (c.requires.settled before) c.args.kind c.args.file.now
    (has_file c.args.volume.now (g.P.SectorView.space c.args.space.now).content (c.requires.settled before) c.args.entry.now c.args.file.now (c.requires.there before) c.requires.is) (eight_in c.args.kind c.args.file.now c.requires.fits) c.args.list.now (c.requires.list before)
    (map overflow_of (lists_of c.put_back.new.volume (g.P.SectorView.space c.put_back.new.space).content).overflow_pairs) c.number_of.result c.number_of.ensures.same
    (ap (λ (l : VolumeState). map overflow_of l.overflow_pairs) (c.in_ok-put_back.ensures.puts before).lists
    ∙ ap (λ (x : Volume). map overflow_of (lists_of x (g.P.SectorView.space c.args.space.now).content).overflow_pairs) c.in_ok-put_back.ensures.gives
    ∙ sym (ap (λ (l : VolumeState). map overflow_of l.overflow_pairs) (c.requires.settled before).lists))

pub store_extents-requires-clause-few : goal.store_extents-requires-clause-few
store_extents-requires-clause-few g c = few_stay c.args._keep c.args.list.now c.args.cut.now c.args.kind c.args.file.now c.requires.fits c.requires.cut

pub store_extents-requires-clause-room : goal.store_extents-requires-clause-room
store_extents-requires-clause-room g c names tells =
    let before : IsTrue (g.P.SectorView.space c.args.space.now).tells = sym (c.put_back.ensures.touches []).same.tells ∙ tells in
    let holds = (c.in_ok-put_back.ensures.stands.stands tells).trees.extents in
    store_room c.args.volume.now (g.P.SectorView.space c.args.space.now).content (c.requires.settled before) c.args.kind c.args.file.now
    (has_file c.args.volume.now (g.P.SectorView.space c.args.space.now).content (c.requires.settled before) c.args.entry.now c.args.file.now (c.requires.there before) c.requires.is) (eight_in c.args.kind c.args.file.now c.requires.fits) c.args.list.now (c.requires.list before)
    c.args._keep c.args.cut.now c.requires.cut.last (state_of names c.put_back.new.volume.extents.file (g.P.SectorView.space c.put_back.new.space)) c.number_of.result c.number_of.ensures.same
    (ap (map overflow_of) (pairs_held extents_form IsExtentKey is_eight_extents extent_cmp names c.put_back.new.volume.extents.file (g.P.SectorView.space c.put_back.new.space) holds)
    ∙ ap (λ (l : VolumeState). map overflow_of l.overflow_pairs) (c.in_ok-put_back.ensures.puts before).lists
    ∙ ap (λ (x : Volume). map overflow_of (lists_of x (g.P.SectorView.space c.args.space.now).content).overflow_pairs) c.in_ok-put_back.ensures.gives
    ∙ sym (ap (λ (l : VolumeState). map overflow_of l.overflow_pairs) (c.requires.settled before).lists))
    c.requires.number (c.fits_spread.ensures c.if-not-fits_spread.false names)

-- ---- the file's record

pub put_shorter-requires-clause-ready : goal.put_shorter-requires-clause-ready
put_shorter-requires-clause-ready g c = record {
  stands = c.in_ok-store_extents.ensures.stands;
  spelled = λ tells.
      let between : IsTrue (g.P.SectorView.space c.put_back.new.space).tells = sym (c.store_extents.ensures.touches []).same.tells ∙ tells in
      let before : IsTrue (g.P.SectorView.space c.args.space.now).tells = sym (c.put_back.ensures.touches []).same.tells ∙ between in
      subst AreSpelled (sym (ap (λ (l : VolumeState). l.catalog_pairs) (c.in_ok-store_extents.ensures.stores between).lists ∙ ap (λ (l : VolumeState). l.catalog_pairs) (c.in_ok-put_back.ensures.puts before).lists
      ∙ ap (λ (x : Volume). (lists_of x (g.P.SectorView.space c.args.space.now).content).catalog_pairs) c.in_ok-put_back.ensures.gives)) (settled_spelled c.args.volume.now (g.P.SectorView.space c.args.space.now).content (c.requires.settled before));
  name = c.requires.name;
  there = λ tells.
      let between : IsTrue (g.P.SectorView.space c.put_back.new.space).tells = sym (c.store_extents.ensures.touches []).same.tells ∙ tells in
      let before : IsTrue (g.P.SectorView.space c.args.space.now).tells = sym (c.put_back.ensures.touches []).same.tells ∙ between in
      ap (λ (l : List Pair). value_at l c.args.entry.now.parent c.args.entry.now.name) (ap (λ (l : VolumeState). l.catalog_pairs) (c.in_ok-store_extents.ensures.stores between).lists ∙ ap (λ (l : VolumeState). l.catalog_pairs) (c.in_ok-put_back.ensures.puts before).lists
      ∙ ap (λ (x : Volume). (lists_of x (g.P.SectorView.space c.args.space.now).content).catalog_pairs) c.in_ok-put_back.ensures.gives) ∙ c.requires.there before;
  room = c.fits_update.ensures.room c.if-not-fits_update.false;
}

pub put_shorter-requires-clause-less : goal.put_shorter-requires-clause-less
put_shorter-requires-clause-less g c = omega (arith, c.requires.cut.blocks, c.requires.cut.last.sum)

-- ---- all of it

pub returns-clause-cuts : goal.returns-clause-cuts
returns-clause-cuts g c tells =
    let between = (c.put_back.ensures.touches []).same.tells ∙ tells in
    let told = (c.store_extents.ensures.touches []).same.tells ∙ between in
    ok_both (StandsOver c.put_shorter.new.volume (g.P.SectorView.space c.put_shorter.new.space)) (ReplacesRecord c.args.entry.now (File (with_fork (kind_of c.args.kind) (cut_fork_of c.store_extents.new.volume.header.block_size (fork_at (kind_of c.args.kind) c.args.file.now) c.args.cut.now) c.args.file.now)) c.store_extents.new.volume c.put_shorter.new.volume (g.P.SectorView.space c.store_extents.new.space).content (g.P.SectorView.space c.put_shorter.new.space).content)
    (IsSettled c.put_shorter.new.volume (g.P.SectorView.space c.put_shorter.new.space).content × CutsOne (id_in c.args.entry.now.rec) (kind_of c.args.kind) c.args._keep (g.P.SectorView.space c.args.space.now).content (g.P.SectorView.space c.put_shorter.new.space).content) c.put_shorter.result c.put_shorter.ensures.edits.ran.stands (c.put_shorter.ensures.replaces told)
    (λ stands replaces. cut_whole c.args.volume.now c.store_extents.new.volume c.put_shorter.new.volume (g.P.SectorView.space c.args.space.now) (g.P.SectorView.space c.put_back.new.space) (g.P.SectorView.space c.store_extents.new.space) (g.P.SectorView.space c.put_shorter.new.space) (c.requires.stands.stands tells) (c.requires.settled tells) c.args.entry.now c.args.file.now c.args.list.now c.args.kind c.args._keep c.args.cut.now c.requires.gives c.requires.unchanged
    (c.requires.list tells) c.requires.cut c.requires.no_link (c.requires.there tells) c.requires.is
    (subst (λ (x : Volume). PutsGiven x (g.P.SectorView.space c.args.space.now).content (g.P.SectorView.space c.put_back.new.space).content) c.in_ok-put_back.ensures.gives (c.in_ok-put_back.ensures.puts tells))
    (subst (λ (k : ℕ × List Extent × Volume). StoresExtents c.args.file.now.fields.id k.0 k.1 k.2 c.store_extents.new.volume (g.P.SectorView.space c.put_back.new.space).content (g.P.SectorView.space c.store_extents.new.space).content)
    (λ i. (c.number_of.ensures.same i, stays_in_use c.args._keep c.args.list.now c.args.cut.now (kind_of c.args.kind) c.args.file.now (g.P.SectorView.space c.args.space.now).content c.requires.cut.last (c.requires.list tells) i, c.in_ok-put_back.ensures.gives i)) (c.in_ok-store_extents.ensures.stores between))
    (subst (λ n. ReplacesRecord c.args.entry.now (File (with_fork (kind_of c.args.kind) (cut_fork_of n (fork_at (kind_of c.args.kind) c.args.file.now) c.args.cut.now) c.args.file.now)) c.store_extents.new.volume c.put_shorter.new.volume (g.P.SectorView.space c.store_extents.new.space).content (g.P.SectorView.space c.put_shorter.new.space).content)
    (ap (λ (x : Volume). x.header.block_size) c.store_extents.ensures.rest ∙ ap (λ (x : Volume). x.header.block_size) c.in_ok-put_back.ensures.gives) replaces)
    (stands.stands ((c.put_shorter.ensures.edits.ran.touches []).same.tells ∙ told)) c.cut_of_a_shrunk_file_keeps_the_tree.ensures c.cut_of_an_orphan_keeps_the_tree.ensures c.other_files_keep_their_bytes.ensures c.requires.user (c.requires.may tells))

pub returns-clause-used : goal.returns-clause-used
returns-clause-used g c =
    used_both c.args.volume.now c.put_back.new.volume c.put_shorter.new.volume c.put_back.ensures.used
    (used_both c.put_back.new.volume c.store_extents.new.volume c.put_shorter.new.volume (used_blocks c.put_back.new.volume c.store_extents.new.volume (blocks_stored c.put_back.new.volume c.store_extents.new.volume c.store_extents.ensures.rest))
    (used_blocks c.store_extents.new.volume c.put_shorter.new.volume (blocks_edit c.store_extents.new.volume c.put_shorter.new.volume c.put_shorter.ensures.rest)))

pub returns-clause-touches : goal.returns-clause-touches
returns-clause-touches g c committed = touches_both committed (λ s. Contains (own_sectors c.args.volume.now) s) (g.P.SectorView.space c.args.space.now) (g.P.SectorView.space c.put_back.new.space) (g.P.SectorView.space c.put_shorter.new.space) (c.put_back.ensures.touches committed)
    (subst (λ (l : List ℕ). Touches committed (λ s. Contains l s) (g.P.SectorView.space c.put_back.new.space) (g.P.SectorView.space c.put_shorter.new.space)) (ap (λ (x : Volume). own_sectors x) c.in_ok-put_back.ensures.gives)
    (touches_both committed (λ s. Contains (own_sectors c.put_back.new.volume) s) (g.P.SectorView.space c.put_back.new.space) (g.P.SectorView.space c.store_extents.new.space) (g.P.SectorView.space c.put_shorter.new.space) (c.store_extents.ensures.touches committed)
    (subst (λ (l : List ℕ). Touches committed (λ s. Contains l s) (g.P.SectorView.space c.store_extents.new.space) (g.P.SectorView.space c.put_shorter.new.space)) c.store_extents.ensures.own (c.put_shorter.ensures.edits.ran.touches committed))))

pub returns-clause-below : goal.returns-clause-below
returns-clause-below g c = g.met.P.SectorView.follows_trans c.args.space.now c.store_extents.new.space c.put_shorter.new.space (g.met.P.SectorView.follows_trans c.args.space.now c.put_back.new.space c.store_extents.new.space c.put_back.ensures.below c.store_extents.ensures.below) c.put_shorter.ensures.edits.ran.below

pub returns-clause-cause : goal.returns-clause-cause
returns-clause-cause g c =
    cause_since (g.P.SectorView.space c.args.space.now).faults (g.P.SectorView.space c.store_extents.new.space).faults (g.P.SectorView.space c.put_shorter.new.space).faults c.put_shorter.result (omega (arith, (c.put_back.ensures.touches []).faults, (c.store_extents.ensures.touches []).faults)) c.put_shorter.ensures.edits.ran.cause

-- ---- where there is no room

pub returns-then-not-fits_update-clause-used : goal.returns-then-not-fits_update-clause-used
returns-then-not-fits_update-clause-used g c =
    used_both c.args.volume.now c.put_back.new.volume c.store_extents.new.volume c.put_back.ensures.used (used_blocks c.put_back.new.volume c.store_extents.new.volume (blocks_stored c.put_back.new.volume c.store_extents.new.volume c.store_extents.ensures.rest))

pub returns-then-not-fits_update-clause-touches : goal.returns-then-not-fits_update-clause-touches
returns-then-not-fits_update-clause-touches g c committed = touches_both committed (λ s. Contains (own_sectors c.args.volume.now) s) (g.P.SectorView.space c.args.space.now) (g.P.SectorView.space c.put_back.new.space) (g.P.SectorView.space c.store_extents.new.space) (c.put_back.ensures.touches committed)
    (subst (λ (l : List ℕ). Touches committed (λ s. Contains l s) (g.P.SectorView.space c.put_back.new.space) (g.P.SectorView.space c.store_extents.new.space)) (ap (λ (x : Volume). own_sectors x) c.in_ok-put_back.ensures.gives) (c.store_extents.ensures.touches committed))

pub returns-then-not-fits_update-clause-below : goal.returns-then-not-fits_update-clause-below
returns-then-not-fits_update-clause-below g c = g.met.P.SectorView.follows_trans c.args.space.now c.put_back.new.space c.store_extents.new.space c.put_back.ensures.below c.store_extents.ensures.below

pub returns-then-not-fits_update-clause-cause : goal.returns-then-not-fits_update-clause-cause
returns-then-not-fits_update-clause-cause g c = record { later = omega (arith, (c.put_back.ensures.touches []).faults, (c.store_extents.ensures.touches []).faults); failed = tt }

pub returns-then-not-fits_spread-clause-cause : goal.returns-then-not-fits_spread-clause-cause
returns-then-not-fits_spread-clause-cause g c = record { later = omega (arith, (c.put_back.ensures.touches []).faults); failed = tt }

pub returns-in_err-store_extents-clause-used : goal.returns-in_err-store_extents-clause-used
returns-in_err-store_extents-clause-used g c =
    used_both c.args.volume.now c.put_back.new.volume c.store_extents.new.volume c.put_back.ensures.used (used_blocks c.put_back.new.volume c.store_extents.new.volume (blocks_stored c.put_back.new.volume c.store_extents.new.volume c.store_extents.ensures.rest))

pub returns-in_err-store_extents-clause-touches : goal.returns-in_err-store_extents-clause-touches
returns-in_err-store_extents-clause-touches g c committed = touches_both committed (λ s. Contains (own_sectors c.args.volume.now) s) (g.P.SectorView.space c.args.space.now) (g.P.SectorView.space c.put_back.new.space) (g.P.SectorView.space c.store_extents.new.space) (c.put_back.ensures.touches committed)
    (subst (λ (l : List ℕ). Touches committed (λ s. Contains l s) (g.P.SectorView.space c.put_back.new.space) (g.P.SectorView.space c.store_extents.new.space)) (ap (λ (x : Volume). own_sectors x) c.in_ok-put_back.ensures.gives) (c.store_extents.ensures.touches committed))

pub returns-in_err-store_extents-clause-below : goal.returns-in_err-store_extents-clause-below
returns-in_err-store_extents-clause-below g c = g.met.P.SectorView.follows_trans c.args.space.now c.put_back.new.space c.store_extents.new.space c.put_back.ensures.below c.store_extents.ensures.below

-- ---- what it puts

pub returns-in_err-put_back-clause-spent : goal.returns-in_err-put_back-clause-spent
returns-in_err-put_back-clause-spent g c tells = omega (arith, c.put_back.ensures.spent)

pub returns-then-not-fits_spread-clause-spent : goal.returns-then-not-fits_spread-clause-spent
returns-then-not-fits_spread-clause-spent g c tells = omega (arith, c.put_back.ensures.spent)

pub returns-in_err-store_extents-clause-spent : goal.returns-in_err-store_extents-clause-spent
returns-in_err-store_extents-clause-spent g c tells =
    let between = (c.put_back.ensures.touches []).same.tells ∙ tells in
    let file_is = has_file c.args.volume.now (g.P.SectorView.space c.args.space.now).content (c.requires.settled tells) c.args.entry.now c.args.file.now (c.requires.there tells) c.requires.is in
    let stored = store_spent c.args.volume.now (g.P.SectorView.space c.args.space.now).content (c.requires.settled tells) c.args.kind c.args.file.now file_is (eight_in c.args.kind c.args.file.now c.requires.fits) c.args.list.now (c.requires.list tells)
    c.args._keep c.args.cut.now c.requires.cut.last c.put_back.new.volume (g.P.SectorView.space c.put_back.new.space) (c.in_ok-put_back.ensures.stands.stands between).trees.extents c.in_ok-put_back.ensures.gives (c.in_ok-put_back.ensures.puts tells)
    c.number_of.result c.number_of.ensures.same c.requires.number (g.P.SectorView.space c.store_extents.new.space).spare (c.store_extents.ensures.light between) in
    omega (arith, c.put_back.ensures.spent, stored)

pub returns-then-not-fits_update-clause-spent : goal.returns-then-not-fits_update-clause-spent
returns-then-not-fits_update-clause-spent g c tells =
    let between = (c.put_back.ensures.touches []).same.tells ∙ tells in
    let file_is = has_file c.args.volume.now (g.P.SectorView.space c.args.space.now).content (c.requires.settled tells) c.args.entry.now c.args.file.now (c.requires.there tells) c.requires.is in
    let stored = store_spent c.args.volume.now (g.P.SectorView.space c.args.space.now).content (c.requires.settled tells) c.args.kind c.args.file.now file_is (eight_in c.args.kind c.args.file.now c.requires.fits) c.args.list.now (c.requires.list tells)
    c.args._keep c.args.cut.now c.requires.cut.last c.put_back.new.volume (g.P.SectorView.space c.put_back.new.space) (c.in_ok-put_back.ensures.stands.stands between).trees.extents c.in_ok-put_back.ensures.gives (c.in_ok-put_back.ensures.puts tells)
    c.number_of.result c.number_of.ensures.same c.requires.number (g.P.SectorView.space c.store_extents.new.space).spare (c.store_extents.ensures.light between) in
    omega (arith, c.put_back.ensures.spent, stored)

pub returns-clause-spent : goal.returns-clause-spent
returns-clause-spent g c tells =
    let between = (c.put_back.ensures.touches []).same.tells ∙ tells in
    let file_is = has_file c.args.volume.now (g.P.SectorView.space c.args.space.now).content (c.requires.settled tells) c.args.entry.now c.args.file.now (c.requires.there tells) c.requires.is in
    let stored = store_spent c.args.volume.now (g.P.SectorView.space c.args.space.now).content (c.requires.settled tells) c.args.kind c.args.file.now file_is (eight_in c.args.kind c.args.file.now c.requires.fits) c.args.list.now (c.requires.list tells)
    c.args._keep c.args.cut.now c.requires.cut.last c.put_back.new.volume (g.P.SectorView.space c.put_back.new.space) (c.in_ok-put_back.ensures.stands.stands between).trees.extents c.in_ok-put_back.ensures.gives (c.in_ok-put_back.ensures.puts tells)
    c.number_of.result c.number_of.ensures.same c.requires.number (g.P.SectorView.space c.store_extents.new.space).spare (c.store_extents.ensures.light between) in
    let node : catalog_node c.store_extents.new.volume ≡ catalog_node c.args.volume.now = ap (λ (x : Volume). catalog_node x) c.store_extents.ensures.rest ∙ ap (λ (x : Volume). catalog_node x) c.in_ok-put_back.ensures.gives in
    omega (arith, c.put_back.ensures.spent, stored, c.put_shorter.ensures.edits.ran.spent ((c.store_extents.ensures.touches []).same.tells ∙ between), node)
