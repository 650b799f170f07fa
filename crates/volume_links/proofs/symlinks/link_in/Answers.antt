use Rattle.std.proofs.Common.{◌≡◌, ◌/◌, [], length, sym, ◌∙◌, ap, arith}
use Rattle.alloc_bitmap.specs.Map.{BlockMap}
use Rattle.btree_node.specs.declared.store.TreeShape.{TreeShape}
use Rattle.file_io.specs.Places.{taken}
use Rattle.hfs_model.specs.Kinds.{made_link}
use Rattle.hfs_volume.specs.Content.{volume_of}
use Rattle.hfs_volume.specs.Forks.{parts_for}
use Rattle.hfs_volume.specs.TreeOf.{tree_of}
use Rattle.volume_base.specs.Changing.{TouchesFolder}
use Rattle.volume_base.specs.Making.{free_place, make_load}
use Rattle.volume_base.specs.Standing.{IsSettled, StandsOver}
use Rattle.volume_base.specs.declared.volume.Volume.{Volume}
use Rattle.volume_base.proofs.FoundEntry.{ok_both}
use Rattle.volume_base.proofs.Framed.{edits_spent}
use Rattle.volume_base.proofs.Joined.{edits_both}
use Rattle.volume_base.proofs.KeptUsed.{used_blocks}
use Rattle.volume_base.proofs.Replaced.{node_large}
use Rattle.volume_space.proofs.PutHeld.{holds_put}
use Rattle.volume_space.proofs.PutPlaced.{stands_free, with_free_blocks}
use Rattle.volume_values.proofs.Placing.{outside_of}
use Rattle.volume_values.proofs.Spilling.{spills_err, spills_fewer, spills_none, spills_ran, spills_then}
use Rattle.volume_links.specs.Links.{LeavesLink, link_bits}
use Rattle.volume_links.proofs.LinkPut.{done, few_put, folder_put, large_still, load_still, make_room, map_spills, still_counts, still_free, still_unused, threads_put, unchanged_put}
use Rattle.volume_links.proofs.symlinks.link_in.Goals as goal

pub spill_value-requires-clause-some : goal.spill_value-requires-clause-some
spill_value-requires-clause-some g c = c.requires.room.some

pub spill_value-requires-clause-small : goal.spill_value-requires-clause-small
spill_value-requires-clause-small g c = omega (arith, c.requires.room.short)

pub spill_value-requires-clause-free : goal.spill_value-requires-clause-free
spill_value-requires-clause-free g c = omega (arith, c.requires.room.free, c.requires.room.many)

pub put_map-requires-clause-unchanged : goal.put_map-requires-clause-unchanged
put_map-requires-clause-unchanged g c told =
    let tells = sym c.in_ok-list.ensures.same.tells ∙ told in
    unchanged_put c.args.volume.now c.spill_value.new.volume (g.P.SectorView.space c.args.space.now) (g.P.SectorView.space c.spill_value.new.space) (λ t. c.requires.serves.stands.stands t) (λ t. c.requires.serves.settled t) c.args.blocks c.requires.room.free (c.in_ok-list.ensures.rest ∙ ap (λ (m : BlockMap). record c.args.volume.now { map = m }) (c.in_ok-list.ensures.map ∙ ap (λ k. taken k c.args.volume.now.map) (sym c.requires.room.many))) tells c.requires.serves.stands.service.marks
    (outside_of c.args.volume.now (g.P.SectorView.space c.args.space.now).content (g.P.SectorView.space c.spill_value.new.space).content (parts_for (length c.args.target.now) c.args.volume.now.header.block_size) c.args.blocks (sym c.requires.room.many) (c.in_ok-list.ensures.touches tells).content)

pub put_map-requires-clause-room : goal.put_map-requires-clause-room
put_map-requires-clause-room g c = omega (arith, few_put c.args.volume.now c.spill_value.new.volume (g.P.SectorView.space c.args.space.now) (g.P.SectorView.space c.spill_value.new.space) (λ t. c.requires.serves.stands.stands t) (λ t. c.requires.serves.settled t) c.args.blocks c.requires.room.free (c.in_ok-list.ensures.rest ∙ ap (λ (m : BlockMap). record c.args.volume.now { map = m }) (c.in_ok-list.ensures.map ∙ ap (λ k. taken k c.args.volume.now.map) (sym c.requires.room.many))) c.requires.unchanged (g.P.SectorView.space c.spill_value.new.space).put, c.in_ok-list.ensures.room.spare, c.requires.room.spare)

pub add_record-requires-clause-stands : goal.add_record-requires-clause-stands
add_record-requires-clause-stands g c = stands_free c.saturating_sub-free.result c.spill_value.new.volume (g.P.SectorView.space c.put_map.new.space) (omega (arith, c.saturating_sub-free.ensures, c.requires.serves.stands.service.fits.free_blocks)) c.put_map.ensures.stands

pub add_record-requires-clause-unused : goal.add_record-requires-clause-unused
add_record-requires-clause-unused g c told =
    let told1 = sym c.put_map.ensures.within.same.tells ∙ told in
    let tells = sym c.in_ok-list.ensures.same.tells ∙ told1 in
    still_unused c.args.volume.now c.spill_value.new.volume c.in_ok-list.ensures.rest c.saturating_sub-free.result (g.P.SectorView.space c.args.space.now) (g.P.SectorView.space c.spill_value.new.space) (g.P.SectorView.space c.put_map.new.space) (c.requires.serves.settled tells) (c.in_ok-list.ensures.lists tells) (c.put_map.ensures.put told1).lists

pub add_record-requires-clause-counts : goal.add_record-requires-clause-counts
add_record-requires-clause-counts g c told =
    let told1 = sym c.put_map.ensures.within.same.tells ∙ told in
    let tells = sym c.in_ok-list.ensures.same.tells ∙ told1 in
    still_counts c.args.volume.now c.spill_value.new.volume c.in_ok-list.ensures.rest c.saturating_sub-free.result (g.P.SectorView.space c.args.space.now) (g.P.SectorView.space c.spill_value.new.space) (g.P.SectorView.space c.put_map.new.space) (c.requires.serves.settled tells) (c.in_ok-list.ensures.lists tells) (c.put_map.ensures.put told1).lists c.requires.room.ids

pub add_record-requires-clause-size : goal.add_record-requires-clause-size
add_record-requires-clause-size g c = large_still c.args.volume.now c.spill_value.new.volume c.in_ok-list.ensures.rest c.saturating_sub-free.result (omega (arith, c.if-shape-lt4096.false, ap (λ (s : TreeShape). s.node_size) c.shape.ensures))

pub add_record-requires-clause-free : goal.add_record-requires-clause-free
add_record-requires-clause-free g c told =
    let told1 = sym c.put_map.ensures.within.same.tells ∙ told in
    let tells = sym c.in_ok-list.ensures.same.tells ∙ told1 in
    still_free c.args.volume.now c.spill_value.new.volume c.in_ok-list.ensures.rest c.saturating_sub-free.result (g.P.SectorView.space c.args.space.now) (g.P.SectorView.space c.spill_value.new.space) (g.P.SectorView.space c.put_map.new.space) (c.requires.serves.settled tells) (c.in_ok-list.ensures.lists tells) (c.put_map.ensures.put told1).lists c.args.id c.args.name.now (c.requires.site tells)

pub add_record-requires-clause-room : goal.add_record-requires-clause-room
add_record-requires-clause-room g c = make_room c.args.volume.now c.spill_value.new.volume c.in_ok-list.ensures.rest c.saturating_sub-free.result (length c.args.target.now) c.args.blocks (g.P.SectorView.space c.args.space.now) (g.P.SectorView.space c.put_map.new.space) c.requires.room (c.put_map.ensures.within.same.tells ∙ c.in_ok-list.ensures.same.tells) (omega (arith, c.put_map.ensures.spent, few_put c.args.volume.now c.spill_value.new.volume (g.P.SectorView.space c.args.space.now) (g.P.SectorView.space c.spill_value.new.space) (λ t. c.requires.serves.stands.stands t) (λ t. c.requires.serves.settled t) c.args.blocks c.requires.room.free (c.in_ok-list.ensures.rest ∙ ap (λ (m : BlockMap). record c.args.volume.now { map = m }) (c.in_ok-list.ensures.map ∙ ap (λ k. taken k c.args.volume.now.map) (sym c.requires.room.many))) c.requires.unchanged (g.P.SectorView.space c.spill_value.new.space).put, c.in_ok-list.ensures.room.spare))

pub touch-requires-clause-threads : goal.touch-requires-clause-threads
touch-requires-clause-threads g c told =
    let told2 = sym (c.add_record.ensures.edits.ran.touches (g.P.SectorView.space c.args.space.now).content).same.tells ∙ told in
    let told1 = sym c.put_map.ensures.within.same.tells ∙ told2 in
    let tells = sym c.in_ok-list.ensures.same.tells ∙ told1 in
    threads_put c.args.volume.now c.spill_value.new.volume c.add_record.new.volume (g.P.SectorView.space c.args.space.now) (g.P.SectorView.space c.spill_value.new.space) (g.P.SectorView.space c.put_map.new.space) (g.P.SectorView.space c.add_record.new.space) (c.requires.serves.settled tells) c.in_ok-list.ensures.rest (c.in_ok-list.ensures.lists tells) (c.put_map.ensures.put told1).lists c.saturating_sub-free.result c.fork_with-fork.result c.new_link-link.result c.new_link-link.ensures.same c.args.id c.args.name.now (c.requires.site tells) (c.in_ok-add_record.ensures.adds told2)

pub touch-requires-clause-there : goal.touch-requires-clause-there
touch-requires-clause-there g c told =
    let told2 = sym (c.add_record.ensures.edits.ran.touches (g.P.SectorView.space c.args.space.now).content).same.tells ∙ told in
    let told1 = sym c.put_map.ensures.within.same.tells ∙ told2 in
    let tells = sym c.in_ok-list.ensures.same.tells ∙ told1 in
    folder_put c.args.volume.now c.spill_value.new.volume c.add_record.new.volume (g.P.SectorView.space c.args.space.now) (g.P.SectorView.space c.spill_value.new.space) (g.P.SectorView.space c.put_map.new.space) (g.P.SectorView.space c.add_record.new.space) (c.requires.serves.settled tells) c.in_ok-list.ensures.rest (c.in_ok-list.ensures.lists tells) (c.put_map.ensures.put told1).lists c.saturating_sub-free.result c.fork_with-fork.result c.new_link-link.result c.new_link-link.ensures.same c.args.id c.args.name.now (c.requires.site tells) (c.in_ok-add_record.ensures.adds told2) c.requires.room.ids

pub returns-clause-does : goal.returns-clause-does
returns-clause-does g c tells =
    let told1 = c.in_ok-list.ensures.same.tells ∙ tells in
    let told2 = c.put_map.ensures.within.same.tells ∙ told1 in
    let told3 = (c.add_record.ensures.edits.ran.touches (g.P.SectorView.space c.args.space.now).content).same.tells ∙ told2 in
    let last = (c.touch.ensures.edits.ran.touches (g.P.SectorView.space c.args.space.now).content).same.tells ∙ told3 in
    ok_both (StandsOver c.touch.new.self (g.P.SectorView.space c.touch.new.space)) (TouchesFolder c.args.id 1 0 c.add_record.new.volume c.touch.new.self (g.P.SectorView.space c.add_record.new.space).content (g.P.SectorView.space c.touch.new.space).content)
    (IsSettled c.touch.new.self (g.P.SectorView.space c.touch.new.space).content × (tree_of (g.P.SectorView.space c.touch.new.space).content ≡ made_link (free_place c.args.id c.args.name.now) c.args.target.now (tree_of (g.P.SectorView.space c.args.space.now).content)) × LeavesLink (length c.args.target.now) (volume_of (g.P.SectorView.space c.args.space.now).content) (volume_of (g.P.SectorView.space c.touch.new.space).content))
    c.touch.result c.touch.ensures.edits.ran.stands (c.touch.ensures.counts told3)
    (λ stands t. done c.args.volume.now c.spill_value.new.volume c.add_record.new.volume (g.P.SectorView.space c.args.space.now) (g.P.SectorView.space c.spill_value.new.space) (g.P.SectorView.space c.put_map.new.space) (g.P.SectorView.space c.add_record.new.space) (c.requires.serves.settled tells) c.in_ok-list.ensures.rest (c.in_ok-list.ensures.lists tells) (c.put_map.ensures.put told1).lists c.saturating_sub-free.result c.fork_with-fork.result c.new_link-link.result c.new_link-link.ensures.same c.args.id c.args.name.now (c.requires.site tells) (c.in_ok-add_record.ensures.adds told2)
    c.symlink_does_its_step.ensures c.rewrite_puts_its_blocks_alone.ensures (c.requires.serves.stands.stands tells) (c.in_ok-add_record.ensures.edits.ran.stands.stands told3) c.touch.new.self (g.P.SectorView.space c.touch.new.space) (stands.stands last) c.args.blocks c.requires.room.free c.requires.serves.stands.service.marks
    c.requires.serves.stands.service.least c.args.target.now c.requires.room.short c.requires.room.many c.in_ok-list.ensures.map c.in_ok-list.list c.in_ok-list.ensures.blocks c.in_ok-list.ensures.few (c.in_ok-list.ensures.bytes tells) (c.in_ok-list.ensures.touches tells).content
    (c.put_map.ensures.put told1) (omega (arith, c.saturating_sub-free.ensures)) c.fork_with-fork.ensures.same c.new_link-link.ensures.fits (c.requires.good tells) t)

pub returns-clause-spills : goal.returns-clause-spills
returns-clause-spills g c =
    spills_then {n = link_bits c.args.blocks c.args.volume.now} {k = make_load c.args.volume.now} c.args.volume.now (with_free_blocks c.saturating_sub-free.result c.spill_value.new.volume) g.met.P.SectorView.follows_trans (ap (λ (x : Volume). x.header.block_size) c.in_ok-list.ensures.rest) c.in_ok-list.ensures.keeps.used
    (spills_then {n = 0} {k = link_bits c.args.blocks c.args.volume.now} {most = link_bits c.args.blocks c.args.volume.now} c.args.volume.now c.spill_value.new.volume g.met.P.SectorView.follows_trans (ap (λ (x : Volume). x.header.block_size) c.in_ok-list.ensures.rest) c.in_ok-list.ensures.keeps.used (record { below = c.in_ok-list.ensures.below; cause = c.in_ok-list.ensures.cause; service = c.in_ok-list.ensures.service; stands = c.in_ok-list.ensures.stands; holds = λ committed held. holds_put committed c.args.volume.now c.spill_value.new.volume (parts_for (length c.args.target.now) c.args.volume.now.header.block_size) [] tt c.in_ok-list.ensures.map held; touches = c.in_ok-list.ensures.commit; same = c.in_ok-list.ensures.same; spent = λ tells. omega (arith, c.in_ok-list.ensures.room.spare); own = c.in_ok-list.ensures.own; shrunk = ap (λ (x : Volume). x.shrunk) c.in_ok-list.ensures.rest; capacity = ap (λ (x : Volume). x.capacity) c.in_ok-list.ensures.rest }) (map_spills c.spill_value.new.volume c.saturating_sub-free.result (omega (arith, c.saturating_sub-free.ensures, c.requires.serves.stands.service.fits.free_blocks)) c.put_map.ensures.stands c.put_map.ensures.within c.put_map.ensures.below (omega (arith, c.put_map.ensures.spent, few_put c.args.volume.now c.spill_value.new.volume (g.P.SectorView.space c.args.space.now) (g.P.SectorView.space c.spill_value.new.space) (λ t. c.requires.serves.stands.stands t) (λ t. c.requires.serves.settled t) c.args.blocks c.requires.room.free (c.in_ok-list.ensures.rest ∙ ap (λ (m : BlockMap). record c.args.volume.now { map = m }) (c.in_ok-list.ensures.map ∙ ap (λ k. taken k c.args.volume.now.map) (sym c.requires.room.many))) c.requires.unchanged (g.P.SectorView.space c.spill_value.new.space).put))) (λ tells. omega arith))
    (let edits = edits_both g.met.P.SectorView.follows_trans c.in_ok-add_record.ensures.edits c.touch.ensures.edits in
    spills_ran (with_free_blocks c.saturating_sub-free.result c.spill_value.new.volume) (edits_spent {few = make_load c.args.volume.now} edits (λ told2.
    let told3 = (c.add_record.ensures.edits.ran.touches (g.P.SectorView.space c.args.space.now).content).same.tells ∙ told2 in
    omega (arith, c.in_ok-add_record.ensures.edits.ran.spent told2, c.touch.ensures.edits.ran.spent told3, ap (λ k. k / 512) (c.in_ok-add_record.ensures.adds told2).changes.nodes.1, load_still c.args.volume.now c.spill_value.new.volume c.in_ok-list.ensures.rest c.saturating_sub-free.result))).ran
    (used_blocks (with_free_blocks c.saturating_sub-free.result c.spill_value.new.volume) c.touch.new.self edits.blocks) edits.own)
    (λ tells. omega arith)

pub returns-then-shape-lt4096-clause-does : goal.returns-then-shape-lt4096-clause-does
returns-then-shape-lt4096-clause-does g c tells =
    absurd (omega (arith, c.if-shape-lt4096.true, ap (λ (s : TreeShape). s.node_size) c.shape.ensures, node_large c.args.volume.now (g.P.SectorView.space c.args.space.now) c.requires.serves.stands tells))

pub returns-then-shape-lt4096-clause-spills : goal.returns-then-shape-lt4096-clause-spills
returns-then-shape-lt4096-clause-spills g c = spills_none g.met.P.SectorView.follows_refl c.requires.serves.stands

pub returns-in_err-list-clause-spills : goal.returns-in_err-list-clause-spills
returns-in_err-list-clause-spills g c =
    spills_err c.from_residual.ensures.1 (spills_fewer {few = 0} (record { below = c.in_err-list.ensures.below; cause = c.in_err-list.ensures.cause; service = c.in_err-list.ensures.service; stands = c.in_err-list.ensures.stands; holds = λ committed held. tt; touches = c.in_err-list.ensures.commit; same = c.in_err-list.ensures.same; spent = λ tells. omega (arith, c.in_err-list.ensures.room.spare); own = c.in_err-list.ensures.own; shrunk = ap (λ (x : Volume). x.shrunk) c.in_err-list.ensures.rest; capacity = ap (λ (x : Volume). x.capacity) c.in_err-list.ensures.rest }) (λ tells. omega arith))

pub returns-in_err-add_record-clause-spills : goal.returns-in_err-add_record-clause-spills
returns-in_err-add_record-clause-spills g c =
    spills_err c.from_residual-in_err-add_record.ensures.1
    (spills_then {n = link_bits c.args.blocks c.args.volume.now} {k = make_load c.args.volume.now} c.args.volume.now (with_free_blocks c.saturating_sub-free.result c.spill_value.new.volume) g.met.P.SectorView.follows_trans (ap (λ (x : Volume). x.header.block_size) c.in_ok-list.ensures.rest) c.in_ok-list.ensures.keeps.used
    (spills_then {n = 0} {k = link_bits c.args.blocks c.args.volume.now} {most = link_bits c.args.blocks c.args.volume.now} c.args.volume.now c.spill_value.new.volume g.met.P.SectorView.follows_trans (ap (λ (x : Volume). x.header.block_size) c.in_ok-list.ensures.rest) c.in_ok-list.ensures.keeps.used (record { below = c.in_ok-list.ensures.below; cause = c.in_ok-list.ensures.cause; service = c.in_ok-list.ensures.service; stands = c.in_ok-list.ensures.stands; holds = λ committed held. holds_put committed c.args.volume.now c.spill_value.new.volume (parts_for (length c.args.target.now) c.args.volume.now.header.block_size) [] tt c.in_ok-list.ensures.map held; touches = c.in_ok-list.ensures.commit; same = c.in_ok-list.ensures.same; spent = λ tells. omega (arith, c.in_ok-list.ensures.room.spare); own = c.in_ok-list.ensures.own; shrunk = ap (λ (x : Volume). x.shrunk) c.in_ok-list.ensures.rest; capacity = ap (λ (x : Volume). x.capacity) c.in_ok-list.ensures.rest }) (map_spills c.spill_value.new.volume c.saturating_sub-free.result (omega (arith, c.saturating_sub-free.ensures, c.requires.serves.stands.service.fits.free_blocks)) c.put_map.ensures.stands c.put_map.ensures.within c.put_map.ensures.below (omega (arith, c.put_map.ensures.spent, few_put c.args.volume.now c.spill_value.new.volume (g.P.SectorView.space c.args.space.now) (g.P.SectorView.space c.spill_value.new.space) (λ t. c.requires.serves.stands.stands t) (λ t. c.requires.serves.settled t) c.args.blocks c.requires.room.free (c.in_ok-list.ensures.rest ∙ ap (λ (m : BlockMap). record c.args.volume.now { map = m }) (c.in_ok-list.ensures.map ∙ ap (λ k. taken k c.args.volume.now.map) (sym c.requires.room.many))) c.requires.unchanged (g.P.SectorView.space c.spill_value.new.space).put))) (λ tells. omega arith))
    (spills_ran (with_free_blocks c.saturating_sub-free.result c.spill_value.new.volume) (edits_spent {few = make_load c.args.volume.now} c.in_err-add_record.ensures.edits (λ told2. omega (arith, c.in_err-add_record.ensures.edits.ran.spent told2, load_still c.args.volume.now c.spill_value.new.volume c.in_ok-list.ensures.rest c.saturating_sub-free.result))).ran
    (used_blocks (with_free_blocks c.saturating_sub-free.result c.spill_value.new.volume) c.add_record.new.volume c.in_err-add_record.ensures.edits.blocks) c.in_err-add_record.ensures.edits.own)
    (λ tells. omega arith))
