use Rattle.std.proofs.Common.{◌≡◌, inl, ℕ, ◌+◌, ◌-◌, ◌/◌, ◌++◌, List, [], ◌∷◌, length, min, not, refl, sym, ◌∙◌, ap, subst, arith}
use Rattle.std.specs.Prelude.{Contains, IsTrue, Result, Err, OnOk}
use Rattle.std.proofs.lemmas.List.Elements.{Contains-append_right}
use Rattle.std.proofs.lemmas.List.Sums.{count_by-le-length}
use Rattle.std.proofs.lemmas.Result.{err_from_is_err_and}
use Rattle.flag_rows.specs.Bits.{sectors_for}
use Rattle.hx_bytes.specs.declared.extents.Extent.{Extent}
use Rattle.hx_bytes.specs.declared.faults.Trouble.{Trouble}
use Rattle.btree_file.specs.State.{sectors_of_tree}
use Rattle.volume_space.specs.Growing.{blocks_filled, run_load, TakesRun, growth_load}
use Rattle.volume_base.specs.Mapping.{changed_sectors}
use Rattle.volume_space.specs.Spreading.{edits_load}
use Rattle.volume_base.specs.Holding.{HoldsOn}
use Rattle.volume_base.specs.Standing.{attribute_sectors, map_sectors, own_sectors}
use Rattle.volume_base.specs.declared.volume.Tree.{Tree}
use Rattle.volume_base.specs.declared.volume.Volume.{Volume}
use Rattle.volume_base.proofs.Commanding.{touches_both}
use Rattle.volume_base.proofs.Seeing.{cause_on}
use Rattle.volume_base.proofs.Touched.{touches_header, touches_within}
use Rattle.fork_map.specs.Cut.{join}
use Rattle.hfs_volume.specs.Forks.{attributes_id, data_kind}
use Rattle.overflow.specs.Reading.{HasExtents}
use Rattle.hfs_volume.specs.Content.{overflow_in_volume}
use Rattle.volume_base.specs.Lists.{lists_of}
use Rattle.alloc_bitmap.specs.Map.{BlockMap}
use Rattle.volume_space.proofs.SpreadCalls.{edit_room_later, holds_then, touches_as}
use Rattle.volume_space.proofs.SpreadNumbers.{per_block_some, run_some}
use Rattle.volume_space.proofs.SpreadAttributesWhole.{files_whole, grows_whole, head_whole, journal_whole, settled_whole, tree_whole, unchanged_whole}
use Rattle.volume_space.proofs.growing_spread_attributes.grow_attributes_spread.Goals as goal

-- what is said of an answer holds of none
off_ok : {U : Type 0} (P : Type 0) (q : Result U Trouble) (y : Trouble) → q ≡ Err y → OnOk q P
off_ok {U} P q y is = subst (λ (r : Result U Trouble). OnOk r P) (sym is) tt

map_own : (w : Volume) (s : ℕ) → Contains (map_sectors w) s → Contains (own_sectors w) s
map_own w s has = Contains-append_right (2 ∷ sectors_of_tree w.extents.file) (sectors_of_tree w.catalog.file ++ (attribute_sectors w ++ map_sectors w)) s
    (Contains-append_right (sectors_of_tree w.catalog.file) (attribute_sectors w ++ map_sectors w) s (Contains-append_right (attribute_sectors w) (map_sectors w) s has))

-- the bitmap of a volume of which the extents overflow file alone is another
same_map : (w x : Volume) → x ≡ record w { extents = x.extents } → length (changed_sectors x) ≡ length (changed_sectors w)
same_map w x rest = ap (λ (u : Volume). length (changed_sectors u)) rest

-- in how many sectors of the bitmap the run has bits, by the numbers of the calls
sectors_are : (v : Volume) (sectors total blocks filled : ℕ) → sectors ≡ min (sectors_for total) (blocks / 4096 + 2) → total ≡ length v.map.used → blocks ≡ filled → sectors ≡ run_load v filled
sectors_are v sectors total blocks filled is one two = is ∙ (λ i. min (sectors_for (one i)) (two i / 4096 + 2))

pub count_blocks-blocks-requires : goal.count_blocks-blocks-requires
count_blocks-blocks-requires g c = per_block_some c.args.more c.args.volume.now (g.P.SectorView.space c.args.space.now) c.requires.can (record { start = 0; count = blocks_filled c.args.volume.now.attributes.file c.args.more }) refl

pub store_attributes_run-requires-clause-but : goal.store_attributes_run-requires-clause-but
store_attributes_run-requires-clause-but g c = c.in_ok-lengthen_attributes_spread.ensures.but

pub store_attributes_run-requires-clause-service : goal.store_attributes_run-requires-clause-service
store_attributes_run-requires-clause-service g c = c.lengthen_attributes_spread.ensures.service

pub store_attributes_run-requires-clause-records : goal.store_attributes_run-requires-clause-records
store_attributes_run-requires-clause-records g c told = subst (λ (l : List Extent). HasExtents (overflow_in_volume (lists_of c.lengthen_attributes_spread.new.volume (g.P.SectorView.space c.lengthen_attributes_spread.new.space).content)) attributes_id data_kind l) (sym (c.in_ok-before.ensures ∙ c.fork.ensures)) (c.in_ok-lengthen_attributes_spread.ensures.records (sym (c.lengthen_attributes_spread.ensures.touches []).same.tells ∙ told))

pub store_attributes_run-requires-clause-longer : goal.store_attributes_run-requires-clause-longer
store_attributes_run-requires-clause-longer g c told =
    let longer = c.in_ok-lengthen_attributes_spread.ensures.lengthens (sym (c.lengthen_attributes_spread.ensures.touches []).same.tells ∙ told) in
    record {
      run = longer.run;
      some = run_some c.args.more c.args.volume.now (g.P.SectorView.space c.args.space.now) c.requires.can longer.run longer.takes.many;
      is = longer.grown.extents ∙ ap (λ (l : List Extent). join l (longer.run ∷ [])) (sym (c.in_ok-before.ensures ∙ c.fork.ensures));
    }

pub store_attributes_run-requires-clause-head : goal.store_attributes_run-requires-clause-head
store_attributes_run-requires-clause-head g c told = ap (λ (u : Volume). u.header.attributes_fork.extents) (c.in_ok-lengthen_attributes_spread.ensures.lengthens (sym (c.lengthen_attributes_spread.ensures.touches []).same.tells ∙ told)).rest

pub store_attributes_run-requires-clause-one : goal.store_attributes_run-requires-clause-one
store_attributes_run-requires-clause-one g c names told = edit_room_later c.commands_have_room.ensures c.a_load_says_enough.ensures c.a_load_is_of_parts.ensures c.args.volume.now c.lengthen_attributes_spread.new.volume ((g.P.SectorView.space c.args.space.now).spare - growth_load c.args.volume.now c.args.volume.now.attributes.file c.args.more) (g.P.SectorView.space c.lengthen_attributes_spread.new.space) c.requires.records (omega (arith, c.requires.can.room, c.lengthen_attributes_spread.ensures.spent)) c.lengthen_attributes_spread.ensures.extents names told

pub put_map-requires-clause-stands : goal.put_map-requires-clause-stands
put_map-requires-clause-stands g c = c.in_ok-store_attributes_run.ensures.stands

pub put_map-requires-clause-unchanged : goal.put_map-requires-clause-unchanged
put_map-requires-clause-unchanged g c told =
    let tells : IsTrue (g.P.SectorView.space c.args.space.now).tells = sym (c.lengthen_attributes_spread.ensures.touches []).same.tells ∙ (sym c.store_attributes_run.ensures.follows.space.same.tells ∙ told) in
    unchanged_whole c.args.more c.args.volume.now c.lengthen_attributes_spread.new.volume c.store_attributes_run.new.volume (g.P.SectorView.space c.args.space.now) (g.P.SectorView.space c.lengthen_attributes_spread.new.space) (g.P.SectorView.space c.store_attributes_run.new.space) c.requires.stands (c.requires.settled tells) c.requires.there c.requires.can tells (c.in_ok-lengthen_attributes_spread.ensures.lengthens tells) (c.in_ok-lengthen_attributes_spread.ensures.but ((c.lengthen_attributes_spread.ensures.touches []).same.tells ∙ tells)) c.store_attributes_run.ensures.follows c.store_attributes_run.ensures.rest (c.in_ok-store_attributes_run.ensures.tree ((c.lengthen_attributes_spread.ensures.touches []).same.tells ∙ tells)) (c.in_ok-store_attributes_run.ensures.stores ((c.lengthen_attributes_spread.ensures.touches []).same.tells ∙ tells))

pub put_map-requires-clause-room : goal.put_map-requires-clause-room
put_map-requires-clause-room g c = omega (arith, count_by-le-length (λ (s : ℕ). not ((g.P.SectorView.space c.store_attributes_run.new.space).put s)) (changed_sectors c.store_attributes_run.new.volume), same_map c.lengthen_attributes_spread.new.volume c.store_attributes_run.new.volume c.store_attributes_run.ensures.rest, c.in_ok-lengthen_attributes_spread.ensures.map, sectors_are c.args.volume.now c.count_map_sectors-sectors.result c.total.result c.count_blocks-blocks.result (blocks_filled c.args.volume.now.attributes.file c.args.more) c.count_map_sectors-sectors.ensures c.total.ensures c.count_blocks-blocks.ensures, c.if-spare-sectors.false, c.spare.ensures)

pub put_header-requires-clause-stands : goal.put_header-requires-clause-stands
put_header-requires-clause-stands g c = c.put_map.ensures.stands

pub put_header-requires-clause-room : goal.put_header-requires-clause-room
put_header-requires-clause-room g c = inl (omega (arith, c.put_map.ensures.spent, count_by-le-length (λ (s : ℕ). not ((g.P.SectorView.space c.store_attributes_run.new.space).put s)) (changed_sectors c.store_attributes_run.new.volume), same_map c.lengthen_attributes_spread.new.volume c.store_attributes_run.new.volume c.store_attributes_run.ensures.rest, c.in_ok-lengthen_attributes_spread.ensures.map, sectors_are c.args.volume.now c.count_map_sectors-sectors.result c.total.result c.count_blocks-blocks.result (blocks_filled c.args.volume.now.attributes.file c.args.more) c.count_map_sectors-sectors.ensures c.total.ensures c.count_blocks-blocks.ensures, c.if-spare-sectors.false, c.spare.ensures))

pub returns-clause-stands : goal.returns-clause-stands
returns-clause-stands g c = c.put_header.ensures.stands

pub returns-clause-settled : goal.returns-clause-settled
returns-clause-settled g c tells = settled_whole c.args.more c.args.volume.now c.lengthen_attributes_spread.new.volume c.store_attributes_run.new.volume (g.P.SectorView.space c.args.space.now) (g.P.SectorView.space c.lengthen_attributes_spread.new.space) (g.P.SectorView.space c.store_attributes_run.new.space) c.requires.stands (c.requires.settled tells) c.requires.there c.requires.can tells (c.in_ok-lengthen_attributes_spread.ensures.lengthens tells) (c.in_ok-lengthen_attributes_spread.ensures.but ((c.lengthen_attributes_spread.ensures.touches []).same.tells ∙ tells)) c.store_attributes_run.ensures.follows c.store_attributes_run.ensures.rest (c.in_ok-store_attributes_run.ensures.tree ((c.lengthen_attributes_spread.ensures.touches []).same.tells ∙ tells)) (c.in_ok-store_attributes_run.ensures.stores ((c.lengthen_attributes_spread.ensures.touches []).same.tells ∙ tells)) c.growth_keeps_the_tree.ensures (g.P.SectorView.space c.put_map.new.space) (g.P.SectorView.space c.put_header.new.space) (c.put_header.ensures.stands.stands (c.put_header.ensures.within.same.tells ∙ (c.put_map.ensures.within.same.tells ∙ (c.store_attributes_run.ensures.follows.space.same.tells ∙ ((c.lengthen_attributes_spread.ensures.touches []).same.tells ∙ tells))))) (c.put_map.ensures.put (c.store_attributes_run.ensures.follows.space.same.tells ∙ ((c.lengthen_attributes_spread.ensures.touches []).same.tells ∙ tells))) (c.put_header.ensures.put (c.put_map.ensures.within.same.tells ∙ (c.store_attributes_run.ensures.follows.space.same.tells ∙ ((c.lengthen_attributes_spread.ensures.touches []).same.tells ∙ tells)))) c.put_header.ensures.within (c.put_map.ensures.within.same.tells ∙ (c.store_attributes_run.ensures.follows.space.same.tells ∙ ((c.lengthen_attributes_spread.ensures.touches []).same.tells ∙ tells)))

pub returns-clause-tree : goal.returns-clause-tree
returns-clause-tree g c tells = tree_whole c.args.more c.args.volume.now c.lengthen_attributes_spread.new.volume c.store_attributes_run.new.volume (g.P.SectorView.space c.args.space.now) (g.P.SectorView.space c.lengthen_attributes_spread.new.space) (g.P.SectorView.space c.store_attributes_run.new.space) c.requires.stands (c.requires.settled tells) c.requires.there c.requires.can tells (c.in_ok-lengthen_attributes_spread.ensures.lengthens tells) (c.in_ok-lengthen_attributes_spread.ensures.but ((c.lengthen_attributes_spread.ensures.touches []).same.tells ∙ tells)) c.store_attributes_run.ensures.follows c.store_attributes_run.ensures.rest (c.in_ok-store_attributes_run.ensures.tree ((c.lengthen_attributes_spread.ensures.touches []).same.tells ∙ tells)) (c.in_ok-store_attributes_run.ensures.stores ((c.lengthen_attributes_spread.ensures.touches []).same.tells ∙ tells)) c.growth_keeps_the_tree.ensures (g.P.SectorView.space c.put_map.new.space) (g.P.SectorView.space c.put_header.new.space) (c.put_header.ensures.stands.stands (c.put_header.ensures.within.same.tells ∙ (c.put_map.ensures.within.same.tells ∙ (c.store_attributes_run.ensures.follows.space.same.tells ∙ ((c.lengthen_attributes_spread.ensures.touches []).same.tells ∙ tells))))) (c.put_map.ensures.put (c.store_attributes_run.ensures.follows.space.same.tells ∙ ((c.lengthen_attributes_spread.ensures.touches []).same.tells ∙ tells))) (c.put_header.ensures.put (c.put_map.ensures.within.same.tells ∙ (c.store_attributes_run.ensures.follows.space.same.tells ∙ ((c.lengthen_attributes_spread.ensures.touches []).same.tells ∙ tells)))) c.put_header.ensures.within (c.put_map.ensures.within.same.tells ∙ (c.store_attributes_run.ensures.follows.space.same.tells ∙ ((c.lengthen_attributes_spread.ensures.touches []).same.tells ∙ tells)))

pub returns-clause-grows : goal.returns-clause-grows
returns-clause-grows g c tells = grows_whole c.args.more c.args.volume.now c.lengthen_attributes_spread.new.volume c.store_attributes_run.new.volume (g.P.SectorView.space c.args.space.now) (g.P.SectorView.space c.lengthen_attributes_spread.new.space) (g.P.SectorView.space c.store_attributes_run.new.space) c.requires.stands (c.requires.settled tells) c.requires.there c.requires.can tells (c.in_ok-lengthen_attributes_spread.ensures.lengthens tells) (c.in_ok-lengthen_attributes_spread.ensures.but ((c.lengthen_attributes_spread.ensures.touches []).same.tells ∙ tells)) c.store_attributes_run.ensures.follows c.store_attributes_run.ensures.rest (c.in_ok-store_attributes_run.ensures.tree ((c.lengthen_attributes_spread.ensures.touches []).same.tells ∙ tells)) (c.in_ok-store_attributes_run.ensures.stores ((c.lengthen_attributes_spread.ensures.touches []).same.tells ∙ tells)) c.growth_keeps_the_tree.ensures (g.P.SectorView.space c.put_map.new.space) (g.P.SectorView.space c.put_header.new.space) (c.put_header.ensures.stands.stands (c.put_header.ensures.within.same.tells ∙ (c.put_map.ensures.within.same.tells ∙ (c.store_attributes_run.ensures.follows.space.same.tells ∙ ((c.lengthen_attributes_spread.ensures.touches []).same.tells ∙ tells))))) (c.put_map.ensures.put (c.store_attributes_run.ensures.follows.space.same.tells ∙ ((c.lengthen_attributes_spread.ensures.touches []).same.tells ∙ tells))) (c.put_header.ensures.put (c.put_map.ensures.within.same.tells ∙ (c.store_attributes_run.ensures.follows.space.same.tells ∙ ((c.lengthen_attributes_spread.ensures.touches []).same.tells ∙ tells)))) c.put_header.ensures.within (c.put_map.ensures.within.same.tells ∙ (c.store_attributes_run.ensures.follows.space.same.tells ∙ ((c.lengthen_attributes_spread.ensures.touches []).same.tells ∙ tells)))

pub returns-clause-files : goal.returns-clause-files
returns-clause-files g c tells = files_whole c.args.more c.args.volume.now c.lengthen_attributes_spread.new.volume c.store_attributes_run.new.volume (g.P.SectorView.space c.args.space.now) (g.P.SectorView.space c.lengthen_attributes_spread.new.space) (g.P.SectorView.space c.store_attributes_run.new.space) c.requires.stands (c.requires.settled tells) c.requires.there c.requires.can tells (c.in_ok-lengthen_attributes_spread.ensures.lengthens tells) (c.in_ok-lengthen_attributes_spread.ensures.but ((c.lengthen_attributes_spread.ensures.touches []).same.tells ∙ tells)) c.store_attributes_run.ensures.follows c.store_attributes_run.ensures.rest (c.in_ok-store_attributes_run.ensures.tree ((c.lengthen_attributes_spread.ensures.touches []).same.tells ∙ tells)) (c.in_ok-store_attributes_run.ensures.stores ((c.lengthen_attributes_spread.ensures.touches []).same.tells ∙ tells)) c.growth_keeps_the_tree.ensures (g.P.SectorView.space c.put_map.new.space) (g.P.SectorView.space c.put_header.new.space) (c.put_header.ensures.stands.stands (c.put_header.ensures.within.same.tells ∙ (c.put_map.ensures.within.same.tells ∙ (c.store_attributes_run.ensures.follows.space.same.tells ∙ ((c.lengthen_attributes_spread.ensures.touches []).same.tells ∙ tells))))) (c.put_map.ensures.put (c.store_attributes_run.ensures.follows.space.same.tells ∙ ((c.lengthen_attributes_spread.ensures.touches []).same.tells ∙ tells))) (c.put_header.ensures.put (c.put_map.ensures.within.same.tells ∙ (c.store_attributes_run.ensures.follows.space.same.tells ∙ ((c.lengthen_attributes_spread.ensures.touches []).same.tells ∙ tells)))) c.put_header.ensures.within (c.put_map.ensures.within.same.tells ∙ (c.store_attributes_run.ensures.follows.space.same.tells ∙ ((c.lengthen_attributes_spread.ensures.touches []).same.tells ∙ tells)))

pub returns-clause-head : goal.returns-clause-head
returns-clause-head g c tells = head_whole c.args.more c.args.volume.now c.lengthen_attributes_spread.new.volume c.store_attributes_run.new.volume (g.P.SectorView.space c.args.space.now) (g.P.SectorView.space c.lengthen_attributes_spread.new.space) (g.P.SectorView.space c.store_attributes_run.new.space) c.requires.stands (c.requires.settled tells) c.requires.there c.requires.can tells (c.in_ok-lengthen_attributes_spread.ensures.lengthens tells) (c.in_ok-lengthen_attributes_spread.ensures.but ((c.lengthen_attributes_spread.ensures.touches []).same.tells ∙ tells)) c.store_attributes_run.ensures.follows c.store_attributes_run.ensures.rest (c.in_ok-store_attributes_run.ensures.tree ((c.lengthen_attributes_spread.ensures.touches []).same.tells ∙ tells)) (c.in_ok-store_attributes_run.ensures.stores ((c.lengthen_attributes_spread.ensures.touches []).same.tells ∙ tells)) c.growth_keeps_the_tree.ensures (g.P.SectorView.space c.put_map.new.space) (g.P.SectorView.space c.put_header.new.space) (c.put_header.ensures.stands.stands (c.put_header.ensures.within.same.tells ∙ (c.put_map.ensures.within.same.tells ∙ (c.store_attributes_run.ensures.follows.space.same.tells ∙ ((c.lengthen_attributes_spread.ensures.touches []).same.tells ∙ tells))))) (c.put_map.ensures.put (c.store_attributes_run.ensures.follows.space.same.tells ∙ ((c.lengthen_attributes_spread.ensures.touches []).same.tells ∙ tells))) (c.put_header.ensures.put (c.put_map.ensures.within.same.tells ∙ (c.store_attributes_run.ensures.follows.space.same.tells ∙ ((c.lengthen_attributes_spread.ensures.touches []).same.tells ∙ tells)))) c.put_header.ensures.within (c.put_map.ensures.within.same.tells ∙ (c.store_attributes_run.ensures.follows.space.same.tells ∙ ((c.lengthen_attributes_spread.ensures.touches []).same.tells ∙ tells)))

pub returns-clause-journal : goal.returns-clause-journal
returns-clause-journal g c tells = journal_whole c.args.more c.args.volume.now c.lengthen_attributes_spread.new.volume c.store_attributes_run.new.volume (g.P.SectorView.space c.args.space.now) (g.P.SectorView.space c.lengthen_attributes_spread.new.space) (g.P.SectorView.space c.store_attributes_run.new.space) c.requires.stands (c.requires.settled tells) c.requires.there c.requires.can tells (c.in_ok-lengthen_attributes_spread.ensures.lengthens tells) (c.in_ok-lengthen_attributes_spread.ensures.but ((c.lengthen_attributes_spread.ensures.touches []).same.tells ∙ tells)) c.store_attributes_run.ensures.follows c.store_attributes_run.ensures.rest (c.in_ok-store_attributes_run.ensures.tree ((c.lengthen_attributes_spread.ensures.touches []).same.tells ∙ tells)) (c.in_ok-store_attributes_run.ensures.stores ((c.lengthen_attributes_spread.ensures.touches []).same.tells ∙ tells)) c.growth_keeps_the_tree.ensures (g.P.SectorView.space c.put_map.new.space) (g.P.SectorView.space c.put_header.new.space) (c.put_header.ensures.stands.stands (c.put_header.ensures.within.same.tells ∙ (c.put_map.ensures.within.same.tells ∙ (c.store_attributes_run.ensures.follows.space.same.tells ∙ ((c.lengthen_attributes_spread.ensures.touches []).same.tells ∙ tells))))) (c.put_map.ensures.put (c.store_attributes_run.ensures.follows.space.same.tells ∙ ((c.lengthen_attributes_spread.ensures.touches []).same.tells ∙ tells))) (c.put_header.ensures.put (c.put_map.ensures.within.same.tells ∙ (c.store_attributes_run.ensures.follows.space.same.tells ∙ ((c.lengthen_attributes_spread.ensures.touches []).same.tells ∙ tells)))) c.put_header.ensures.within (c.put_map.ensures.within.same.tells ∙ (c.store_attributes_run.ensures.follows.space.same.tells ∙ ((c.lengthen_attributes_spread.ensures.touches []).same.tells ∙ tells)))

pub returns-clause-taken : goal.returns-clause-taken
returns-clause-taken g c tells =
    let longer = c.in_ok-lengthen_attributes_spread.ensures.lengthens tells in
    record {
      run = longer.run;
      takes = subst (λ (m : BlockMap). TakesRun (blocks_filled c.args.volume.now.attributes.file c.args.more) longer.run c.args.volume.now.map m) (sym (ap (λ (u : Volume). u.map) c.store_attributes_run.ensures.rest)) longer.takes;
      block = ap (λ (u : Volume). u.header.block_size) c.store_attributes_run.ensures.rest ∙ ap (λ (u : Volume). u.header.block_size) longer.rest;
    }

pub returns-clause-holds : goal.returns-clause-holds
returns-clause-holds g c committed was = subst (λ (u : Volume). HoldsOn committed u) (sym c.store_attributes_run.ensures.rest) (holds_then committed c.args.volume.now c.lengthen_attributes_spread.new.volume c.lengthen_attributes_spread.ensures.size c.lengthen_attributes_spread.ensures.held c.lengthen_attributes_spread.ensures.still was)

pub returns-clause-same : goal.returns-clause-same
returns-clause-same g c = (ap (λ (u : Volume). u.private) c.store_attributes_run.ensures.rest ∙ c.lengthen_attributes_spread.ensures.same.0, ap (λ (u : Volume). u.shrunk) c.store_attributes_run.ensures.rest ∙ c.lengthen_attributes_spread.ensures.same.1, ap (λ (u : Volume). u.capacity) c.store_attributes_run.ensures.rest ∙ c.lengthen_attributes_spread.ensures.same.2)

pub returns-clause-gained : goal.returns-clause-gained
returns-clause-gained g c tells s has = c.lengthen_attributes_spread.ensures.gained tells s (subst (λ (l : List ℕ). Contains l s) c.store_attributes_run.ensures.own has)

pub returns-in_err-store_attributes_run-clause-holds : goal.returns-in_err-store_attributes_run-clause-holds
returns-in_err-store_attributes_run-clause-holds g c committed was = subst (λ (u : Volume). HoldsOn committed u) (sym c.store_attributes_run.ensures.rest) (holds_then committed c.args.volume.now c.lengthen_attributes_spread.new.volume c.lengthen_attributes_spread.ensures.size c.lengthen_attributes_spread.ensures.held c.lengthen_attributes_spread.ensures.still was)

pub returns-in_err-store_attributes_run-clause-same : goal.returns-in_err-store_attributes_run-clause-same
returns-in_err-store_attributes_run-clause-same g c = (ap (λ (u : Volume). u.private) c.store_attributes_run.ensures.rest ∙ c.lengthen_attributes_spread.ensures.same.0, ap (λ (u : Volume). u.shrunk) c.store_attributes_run.ensures.rest ∙ c.lengthen_attributes_spread.ensures.same.1, ap (λ (u : Volume). u.capacity) c.store_attributes_run.ensures.rest ∙ c.lengthen_attributes_spread.ensures.same.2)

pub returns-in_err-store_attributes_run-clause-gained : goal.returns-in_err-store_attributes_run-clause-gained
returns-in_err-store_attributes_run-clause-gained g c tells s has = c.lengthen_attributes_spread.ensures.gained tells s (subst (λ (l : List ℕ). Contains l s) c.store_attributes_run.ensures.own has)

pub returns-then-spare-sectors-clause-holds : goal.returns-then-spare-sectors-clause-holds
returns-then-spare-sectors-clause-holds g c committed was = subst (λ (u : Volume). HoldsOn committed u) (sym c.store_attributes_run.ensures.rest) (holds_then committed c.args.volume.now c.lengthen_attributes_spread.new.volume c.lengthen_attributes_spread.ensures.size c.lengthen_attributes_spread.ensures.held c.lengthen_attributes_spread.ensures.still was)

pub returns-then-spare-sectors-clause-same : goal.returns-then-spare-sectors-clause-same
returns-then-spare-sectors-clause-same g c = (ap (λ (u : Volume). u.private) c.store_attributes_run.ensures.rest ∙ c.lengthen_attributes_spread.ensures.same.0, ap (λ (u : Volume). u.shrunk) c.store_attributes_run.ensures.rest ∙ c.lengthen_attributes_spread.ensures.same.1, ap (λ (u : Volume). u.capacity) c.store_attributes_run.ensures.rest ∙ c.lengthen_attributes_spread.ensures.same.2)

pub returns-then-spare-sectors-clause-gained : goal.returns-then-spare-sectors-clause-gained
returns-then-spare-sectors-clause-gained g c tells s has = c.lengthen_attributes_spread.ensures.gained tells s (subst (λ (l : List ℕ). Contains l s) c.store_attributes_run.ensures.own has)

pub returns-clause-service : goal.returns-clause-service
returns-clause-service g c = c.put_header.ensures.stands.service

pub returns-in_err-store_attributes_run-clause-service : goal.returns-in_err-store_attributes_run-clause-service
returns-in_err-store_attributes_run-clause-service g c = c.store_attributes_run.ensures.service

pub returns-then-spare-sectors-clause-service : goal.returns-then-spare-sectors-clause-service
returns-then-spare-sectors-clause-service g c = c.store_attributes_run.ensures.service

pub returns-clause-touches : goal.returns-clause-touches
returns-clause-touches g c committed =
    touches_both committed (λ s. Contains (own_sectors c.store_attributes_run.new.volume) s) (g.P.SectorView.space c.args.space.now) (g.P.SectorView.space c.put_map.new.space) (g.P.SectorView.space c.put_header.new.space)
    (touches_both committed (λ s. Contains (own_sectors c.store_attributes_run.new.volume) s) (g.P.SectorView.space c.args.space.now) (g.P.SectorView.space c.store_attributes_run.new.space) (g.P.SectorView.space c.put_map.new.space) (touches_as committed c.store_attributes_run.new.volume c.lengthen_attributes_spread.new.volume (g.P.SectorView.space c.args.space.now) (g.P.SectorView.space c.store_attributes_run.new.space) c.store_attributes_run.ensures.own (touches_both committed (λ s. Contains (own_sectors c.lengthen_attributes_spread.new.volume) s) (g.P.SectorView.space c.args.space.now) (g.P.SectorView.space c.lengthen_attributes_spread.new.space) (g.P.SectorView.space c.store_attributes_run.new.space) (c.lengthen_attributes_spread.ensures.touches committed) (c.store_attributes_run.ensures.touches committed)))
    (touches_within committed (map_sectors c.store_attributes_run.new.volume) (λ s. Contains (own_sectors c.store_attributes_run.new.volume) s) (g.P.SectorView.space c.store_attributes_run.new.space) (g.P.SectorView.space c.put_map.new.space) (λ s has. map_own c.store_attributes_run.new.volume s has) c.put_map.ensures.within))
    (touches_header c.store_attributes_run.new.volume committed (g.P.SectorView.space c.put_map.new.space) (g.P.SectorView.space c.put_header.new.space) c.put_header.ensures.within)

pub returns-in_err-store_attributes_run-clause-touches : goal.returns-in_err-store_attributes_run-clause-touches
returns-in_err-store_attributes_run-clause-touches g c committed = touches_as committed c.store_attributes_run.new.volume c.lengthen_attributes_spread.new.volume (g.P.SectorView.space c.args.space.now) (g.P.SectorView.space c.store_attributes_run.new.space) c.store_attributes_run.ensures.own (touches_both committed (λ s. Contains (own_sectors c.lengthen_attributes_spread.new.volume) s) (g.P.SectorView.space c.args.space.now) (g.P.SectorView.space c.lengthen_attributes_spread.new.space) (g.P.SectorView.space c.store_attributes_run.new.space) (c.lengthen_attributes_spread.ensures.touches committed) (c.store_attributes_run.ensures.touches committed))

pub returns-then-spare-sectors-clause-touches : goal.returns-then-spare-sectors-clause-touches
returns-then-spare-sectors-clause-touches g c committed = touches_as committed c.store_attributes_run.new.volume c.lengthen_attributes_spread.new.volume (g.P.SectorView.space c.args.space.now) (g.P.SectorView.space c.store_attributes_run.new.space) c.store_attributes_run.ensures.own (touches_both committed (λ s. Contains (own_sectors c.lengthen_attributes_spread.new.volume) s) (g.P.SectorView.space c.args.space.now) (g.P.SectorView.space c.lengthen_attributes_spread.new.space) (g.P.SectorView.space c.store_attributes_run.new.space) (c.lengthen_attributes_spread.ensures.touches committed) (c.store_attributes_run.ensures.touches committed))

pub returns-clause-below : goal.returns-clause-below
returns-clause-below g c = g.met.P.SectorView.follows_trans c.args.space.now c.put_map.new.space c.put_header.new.space (g.met.P.SectorView.follows_trans c.args.space.now c.store_attributes_run.new.space c.put_map.new.space (g.met.P.SectorView.follows_trans c.args.space.now c.lengthen_attributes_spread.new.space c.store_attributes_run.new.space c.lengthen_attributes_spread.ensures.below c.store_attributes_run.ensures.below) c.put_map.ensures.below) c.put_header.ensures.below

pub returns-in_err-store_attributes_run-clause-below : goal.returns-in_err-store_attributes_run-clause-below
returns-in_err-store_attributes_run-clause-below g c = g.met.P.SectorView.follows_trans c.args.space.now c.lengthen_attributes_spread.new.space c.store_attributes_run.new.space c.lengthen_attributes_spread.ensures.below c.store_attributes_run.ensures.below

pub returns-then-spare-sectors-clause-below : goal.returns-then-spare-sectors-clause-below
returns-then-spare-sectors-clause-below g c = g.met.P.SectorView.follows_trans c.args.space.now c.lengthen_attributes_spread.new.space c.store_attributes_run.new.space c.lengthen_attributes_spread.ensures.below c.store_attributes_run.ensures.below

pub returns-clause-cause : goal.returns-clause-cause
returns-clause-cause g c = record { later = omega (arith, c.lengthen_attributes_spread.ensures.cause.later, c.store_attributes_run.ensures.cause.later, c.put_map.ensures.faults, c.put_header.ensures.faults); failed = tt }

pub returns-then-spare-sectors-clause-cause : goal.returns-then-spare-sectors-clause-cause
returns-then-spare-sectors-clause-cause g c = record { later = omega (arith, c.lengthen_attributes_spread.ensures.cause.later, c.store_attributes_run.ensures.cause.later); failed = tt }

pub returns-in_err-before-clause-stands : goal.returns-in_err-before-clause-stands
returns-in_err-before-clause-stands g c = let p = err_from_is_err_and c.from_residual.result c.from_residual.ensures.1 in off_ok _ c.from_residual.result p.0 p.1

pub returns-in_err-before-clause-settled : goal.returns-in_err-before-clause-settled
returns-in_err-before-clause-settled g c tells = let p = err_from_is_err_and c.from_residual.result c.from_residual.ensures.1 in off_ok _ c.from_residual.result p.0 p.1

pub returns-in_err-before-clause-tree : goal.returns-in_err-before-clause-tree
returns-in_err-before-clause-tree g c tells = let p = err_from_is_err_and c.from_residual.result c.from_residual.ensures.1 in off_ok _ c.from_residual.result p.0 p.1

pub returns-in_err-before-clause-grows : goal.returns-in_err-before-clause-grows
returns-in_err-before-clause-grows g c tells = let p = err_from_is_err_and c.from_residual.result c.from_residual.ensures.1 in off_ok _ c.from_residual.result p.0 p.1

pub returns-in_err-before-clause-files : goal.returns-in_err-before-clause-files
returns-in_err-before-clause-files g c tells = let p = err_from_is_err_and c.from_residual.result c.from_residual.ensures.1 in off_ok _ c.from_residual.result p.0 p.1

pub returns-in_err-before-clause-head : goal.returns-in_err-before-clause-head
returns-in_err-before-clause-head g c tells = let p = err_from_is_err_and c.from_residual.result c.from_residual.ensures.1 in off_ok _ c.from_residual.result p.0 p.1

pub returns-in_err-before-clause-journal : goal.returns-in_err-before-clause-journal
returns-in_err-before-clause-journal g c tells = let p = err_from_is_err_and c.from_residual.result c.from_residual.ensures.1 in off_ok _ c.from_residual.result p.0 p.1

pub returns-in_err-before-clause-taken : goal.returns-in_err-before-clause-taken
returns-in_err-before-clause-taken g c tells = let p = err_from_is_err_and c.from_residual.result c.from_residual.ensures.1 in off_ok _ c.from_residual.result p.0 p.1

pub returns-in_err-lengthen_attributes_spread-clause-stands : goal.returns-in_err-lengthen_attributes_spread-clause-stands
returns-in_err-lengthen_attributes_spread-clause-stands g c = let p = err_from_is_err_and c.from_residual-in_err-lengthen_attributes_spread.result c.from_residual-in_err-lengthen_attributes_spread.ensures.1 in off_ok _ c.from_residual-in_err-lengthen_attributes_spread.result p.0 p.1

pub returns-in_err-lengthen_attributes_spread-clause-settled : goal.returns-in_err-lengthen_attributes_spread-clause-settled
returns-in_err-lengthen_attributes_spread-clause-settled g c tells = let p = err_from_is_err_and c.from_residual-in_err-lengthen_attributes_spread.result c.from_residual-in_err-lengthen_attributes_spread.ensures.1 in off_ok _ c.from_residual-in_err-lengthen_attributes_spread.result p.0 p.1

pub returns-in_err-lengthen_attributes_spread-clause-tree : goal.returns-in_err-lengthen_attributes_spread-clause-tree
returns-in_err-lengthen_attributes_spread-clause-tree g c tells = let p = err_from_is_err_and c.from_residual-in_err-lengthen_attributes_spread.result c.from_residual-in_err-lengthen_attributes_spread.ensures.1 in off_ok _ c.from_residual-in_err-lengthen_attributes_spread.result p.0 p.1

pub returns-in_err-lengthen_attributes_spread-clause-grows : goal.returns-in_err-lengthen_attributes_spread-clause-grows
returns-in_err-lengthen_attributes_spread-clause-grows g c tells = let p = err_from_is_err_and c.from_residual-in_err-lengthen_attributes_spread.result c.from_residual-in_err-lengthen_attributes_spread.ensures.1 in off_ok _ c.from_residual-in_err-lengthen_attributes_spread.result p.0 p.1

pub returns-in_err-lengthen_attributes_spread-clause-files : goal.returns-in_err-lengthen_attributes_spread-clause-files
returns-in_err-lengthen_attributes_spread-clause-files g c tells = let p = err_from_is_err_and c.from_residual-in_err-lengthen_attributes_spread.result c.from_residual-in_err-lengthen_attributes_spread.ensures.1 in off_ok _ c.from_residual-in_err-lengthen_attributes_spread.result p.0 p.1

pub returns-in_err-lengthen_attributes_spread-clause-head : goal.returns-in_err-lengthen_attributes_spread-clause-head
returns-in_err-lengthen_attributes_spread-clause-head g c tells = let p = err_from_is_err_and c.from_residual-in_err-lengthen_attributes_spread.result c.from_residual-in_err-lengthen_attributes_spread.ensures.1 in off_ok _ c.from_residual-in_err-lengthen_attributes_spread.result p.0 p.1

pub returns-in_err-lengthen_attributes_spread-clause-journal : goal.returns-in_err-lengthen_attributes_spread-clause-journal
returns-in_err-lengthen_attributes_spread-clause-journal g c tells = let p = err_from_is_err_and c.from_residual-in_err-lengthen_attributes_spread.result c.from_residual-in_err-lengthen_attributes_spread.ensures.1 in off_ok _ c.from_residual-in_err-lengthen_attributes_spread.result p.0 p.1

pub returns-in_err-lengthen_attributes_spread-clause-taken : goal.returns-in_err-lengthen_attributes_spread-clause-taken
returns-in_err-lengthen_attributes_spread-clause-taken g c tells = let p = err_from_is_err_and c.from_residual-in_err-lengthen_attributes_spread.result c.from_residual-in_err-lengthen_attributes_spread.ensures.1 in off_ok _ c.from_residual-in_err-lengthen_attributes_spread.result p.0 p.1

pub returns-in_err-store_attributes_run-clause-stands : goal.returns-in_err-store_attributes_run-clause-stands
returns-in_err-store_attributes_run-clause-stands g c = let p = err_from_is_err_and c.from_residual-in_err-store_attributes_run.result c.from_residual-in_err-store_attributes_run.ensures.1 in off_ok _ c.from_residual-in_err-store_attributes_run.result p.0 p.1

pub returns-in_err-store_attributes_run-clause-settled : goal.returns-in_err-store_attributes_run-clause-settled
returns-in_err-store_attributes_run-clause-settled g c tells = let p = err_from_is_err_and c.from_residual-in_err-store_attributes_run.result c.from_residual-in_err-store_attributes_run.ensures.1 in off_ok _ c.from_residual-in_err-store_attributes_run.result p.0 p.1

pub returns-in_err-store_attributes_run-clause-tree : goal.returns-in_err-store_attributes_run-clause-tree
returns-in_err-store_attributes_run-clause-tree g c tells = let p = err_from_is_err_and c.from_residual-in_err-store_attributes_run.result c.from_residual-in_err-store_attributes_run.ensures.1 in off_ok _ c.from_residual-in_err-store_attributes_run.result p.0 p.1

pub returns-in_err-store_attributes_run-clause-grows : goal.returns-in_err-store_attributes_run-clause-grows
returns-in_err-store_attributes_run-clause-grows g c tells = let p = err_from_is_err_and c.from_residual-in_err-store_attributes_run.result c.from_residual-in_err-store_attributes_run.ensures.1 in off_ok _ c.from_residual-in_err-store_attributes_run.result p.0 p.1

pub returns-in_err-store_attributes_run-clause-files : goal.returns-in_err-store_attributes_run-clause-files
returns-in_err-store_attributes_run-clause-files g c tells = let p = err_from_is_err_and c.from_residual-in_err-store_attributes_run.result c.from_residual-in_err-store_attributes_run.ensures.1 in off_ok _ c.from_residual-in_err-store_attributes_run.result p.0 p.1

pub returns-in_err-store_attributes_run-clause-head : goal.returns-in_err-store_attributes_run-clause-head
returns-in_err-store_attributes_run-clause-head g c tells = let p = err_from_is_err_and c.from_residual-in_err-store_attributes_run.result c.from_residual-in_err-store_attributes_run.ensures.1 in off_ok _ c.from_residual-in_err-store_attributes_run.result p.0 p.1

pub returns-in_err-store_attributes_run-clause-journal : goal.returns-in_err-store_attributes_run-clause-journal
returns-in_err-store_attributes_run-clause-journal g c tells = let p = err_from_is_err_and c.from_residual-in_err-store_attributes_run.result c.from_residual-in_err-store_attributes_run.ensures.1 in off_ok _ c.from_residual-in_err-store_attributes_run.result p.0 p.1

pub returns-in_err-store_attributes_run-clause-taken : goal.returns-in_err-store_attributes_run-clause-taken
returns-in_err-store_attributes_run-clause-taken g c tells = let p = err_from_is_err_and c.from_residual-in_err-store_attributes_run.result c.from_residual-in_err-store_attributes_run.ensures.1 in off_ok _ c.from_residual-in_err-store_attributes_run.result p.0 p.1

pub returns-in_err-lengthen_attributes_spread-clause-holds : goal.returns-in_err-lengthen_attributes_spread-clause-holds
returns-in_err-lengthen_attributes_spread-clause-holds g c committed was = holds_then committed c.args.volume.now c.lengthen_attributes_spread.new.volume c.lengthen_attributes_spread.ensures.size c.lengthen_attributes_spread.ensures.held c.lengthen_attributes_spread.ensures.still was

pub returns-in_err-lengthen_attributes_spread-clause-same : goal.returns-in_err-lengthen_attributes_spread-clause-same
returns-in_err-lengthen_attributes_spread-clause-same g c = c.lengthen_attributes_spread.ensures.same

pub returns-in_err-lengthen_attributes_spread-clause-service : goal.returns-in_err-lengthen_attributes_spread-clause-service
returns-in_err-lengthen_attributes_spread-clause-service g c = c.lengthen_attributes_spread.ensures.service

pub returns-in_err-lengthen_attributes_spread-clause-touches : goal.returns-in_err-lengthen_attributes_spread-clause-touches
returns-in_err-lengthen_attributes_spread-clause-touches g c committed = c.lengthen_attributes_spread.ensures.touches committed

pub returns-in_err-lengthen_attributes_spread-clause-gained : goal.returns-in_err-lengthen_attributes_spread-clause-gained
returns-in_err-lengthen_attributes_spread-clause-gained g c tells s has = c.lengthen_attributes_spread.ensures.gained tells s has

pub returns-in_err-lengthen_attributes_spread-clause-below : goal.returns-in_err-lengthen_attributes_spread-clause-below
returns-in_err-lengthen_attributes_spread-clause-below g c = c.lengthen_attributes_spread.ensures.below

pub returns-in_err-lengthen_attributes_spread-clause-cause : goal.returns-in_err-lengthen_attributes_spread-clause-cause
returns-in_err-lengthen_attributes_spread-clause-cause g c = let p = err_from_is_err_and c.from_residual-in_err-lengthen_attributes_spread.result c.from_residual-in_err-lengthen_attributes_spread.ensures.1 in cause_on c.in_err-lengthen_attributes_spread.field-0.0 p.0 (g.P.SectorView.space c.args.space.now).faults (g.P.SectorView.space c.args.space.now).faults (g.P.SectorView.space c.lengthen_attributes_spread.new.space).faults c.from_residual-in_err-lengthen_attributes_spread.result p.1 p.2 (omega arith) c.in_err-lengthen_attributes_spread.ensures.cause

pub returns-in_err-store_attributes_run-clause-cause : goal.returns-in_err-store_attributes_run-clause-cause
returns-in_err-store_attributes_run-clause-cause g c = let p = err_from_is_err_and c.from_residual-in_err-store_attributes_run.result c.from_residual-in_err-store_attributes_run.ensures.1 in cause_on c.in_err-store_attributes_run.field-0.0 p.0 (g.P.SectorView.space c.args.space.now).faults (g.P.SectorView.space c.lengthen_attributes_spread.new.space).faults (g.P.SectorView.space c.store_attributes_run.new.space).faults c.from_residual-in_err-store_attributes_run.result p.1 p.2 c.lengthen_attributes_spread.ensures.cause.later c.in_err-store_attributes_run.ensures.cause

pub returns-clause-spent : goal.returns-clause-spent
returns-clause-spent g c tells = omega (arith, c.lengthen_attributes_spread.ensures.spent, c.store_attributes_run.ensures.spent ((c.lengthen_attributes_spread.ensures.touches []).same.tells ∙ tells), ap (λ (t : Tree). edits_load t.file.shape 1) c.lengthen_attributes_spread.ensures.extents, c.put_map.ensures.spent, c.put_header.ensures.spent, count_by-le-length (λ (s : ℕ). not ((g.P.SectorView.space c.store_attributes_run.new.space).put s)) (changed_sectors c.store_attributes_run.new.volume), same_map c.lengthen_attributes_spread.new.volume c.store_attributes_run.new.volume c.store_attributes_run.ensures.rest, c.in_ok-lengthen_attributes_spread.ensures.map)

pub returns-then-spare-sectors-clause-spent : goal.returns-then-spare-sectors-clause-spent
returns-then-spare-sectors-clause-spent g c tells = omega (arith, c.lengthen_attributes_spread.ensures.spent, c.store_attributes_run.ensures.spent ((c.lengthen_attributes_spread.ensures.touches []).same.tells ∙ tells), ap (λ (t : Tree). edits_load t.file.shape 1) c.lengthen_attributes_spread.ensures.extents)

pub returns-in_err-store_attributes_run-clause-spent : goal.returns-in_err-store_attributes_run-clause-spent
returns-in_err-store_attributes_run-clause-spent g c tells = omega (arith, c.lengthen_attributes_spread.ensures.spent, c.store_attributes_run.ensures.spent ((c.lengthen_attributes_spread.ensures.touches []).same.tells ∙ tells), ap (λ (t : Tree). edits_load t.file.shape 1) c.lengthen_attributes_spread.ensures.extents)

pub returns-in_err-lengthen_attributes_spread-clause-spent : goal.returns-in_err-lengthen_attributes_spread-clause-spent
returns-in_err-lengthen_attributes_spread-clause-spent g c tells = omega (arith, c.lengthen_attributes_spread.ensures.spent)
