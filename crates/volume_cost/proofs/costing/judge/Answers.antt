use Rattle.std.proofs.Common.{◌≡◌, ◌+◌, ◌==◌, ◌&&◌, ℕ, suc, not, nat_lt, false, length, get_or, sym, ◌∙◌, ap, arith}
use Rattle.std.proofs.lemmas.Bool.{lt-leb}
use Rattle.hfs_volume.specs.declared.cost.Cost.TheVariants as cost
use Rattle.hfs_volume.specs.declared.cost.Room.{Room}
use Rattle.hfs_volume.specs.Cost.{tree_at, growth_blocks, load_of}
use Rattle.volume_cost.specs.Sizes.{plan}
use Rattle.volume_cost.proofs.RoomLaws.{grown_few, grow_small}
use Rattle.volume_cost.proofs.JudgeLaws.{pass, list_of_three}
use Rattle.volume_cost.proofs.costing.judge.Goals as goal

pub count_load-sectors-requires-clause-extents : goal.count_load-sectors-requires-clause-extents
count_load-sectors-requires-clause-extents c = grown_few c.args.room.now.block 10 (tree_at c.args.room.now 0) (get_or c.args.edits.now 0 0) (get_or c.args.grow.now 0 0) c.requires.extents c.requires.volume.most (c.is_deep.ensures.need c.if-is_deep.false)

pub count_load-sectors-requires-clause-catalog : goal.count_load-sectors-requires-clause-catalog
count_load-sectors-requires-clause-catalog c = grown_few c.args.room.now.block 516 (tree_at c.args.room.now 1) (get_or c.args.edits.now 1 0) (get_or c.args.grow.now 1 0) c.requires.catalog c.requires.volume.most (c.is_deep-2.ensures.need c.if-is_deep-2.false)

pub count_load-sectors-requires-clause-attributes : goal.count_load-sectors-requires-clause-attributes
count_load-sectors-requires-clause-attributes c = grown_few c.args.room.now.block 266 (tree_at c.args.room.now 2) (get_or c.args.edits.now 2 0) (get_or c.args.grow.now 2 0) c.requires.attributes c.requires.volume.most (c.is_deep-3.ensures.need c.if-is_deep-3.false)

pub overflow_cast-result-2 : goal.overflow_cast-result-2
overflow_cast-result-2 c = omega (
  arith,
  grow_small c.args.room.now.block 10 (tree_at c.args.room.now 0) (get_or c.args.edits.now 0 0) (get_or c.args.grow.now 0 0) c.args.room.now.total c.requires.extents (omega (arith, c.requires.volume.least)) c.requires.volume.most c.requires.volume.bytes
      (omega (arith, c.blocks_at.ensures.count, c.if-room-wanted.false, c.requires.volume.free)),
)

pub overflow_cast-result-3 : goal.overflow_cast-result-3
overflow_cast-result-3 c = omega (
  arith,
  grow_small c.args.room.now.block 516 (tree_at c.args.room.now 1) (get_or c.args.edits.now 1 0) (get_or c.args.grow.now 1 0) c.args.room.now.total c.requires.catalog (omega (arith, c.requires.volume.least)) c.requires.volume.most c.requires.volume.bytes
      (omega (arith, c.blocks_at-2.ensures.count, c.if-room-wanted.false, c.requires.volume.free)),
)

pub overflow_cast-result-4 : goal.overflow_cast-result-4
overflow_cast-result-4 c = omega (
  arith,
  grow_small c.args.room.now.block 266 (tree_at c.args.room.now 2) (get_or c.args.edits.now 2 0) (get_or c.args.grow.now 2 0) c.args.room.now.total c.requires.attributes (omega (arith, c.requires.volume.least)) c.requires.volume.most c.requires.volume.bytes
      (omega (arith, c.blocks_at-3.ensures.count, c.if-room-wanted.false, c.requires.volume.free)),
)

pub returns : goal.returns
returns c =
    let room : Room = c.args.room.now in
    let needs = c.args.needs.now in
    let p = plan c.args.edits.now c.args.grow.now in
    let all : ℕ = growth_blocks p room in
    let load : ℕ = load_of needs room p in
    let sum : c.blocks_at.result + c.blocks_at-2.result + c.blocks_at-3.result ≡ all = λ i. c.blocks_at.ensures.count i + c.blocks_at-2.ensures.count i + c.blocks_at-3.ensures.count i in
    let load_is : c.count_load-sectors.result ≡ load = c.count_load-sectors.ensures in
    let long : length c.args.grow.now ≡ 3 = omega arith in
    let ids : nat_lt 4294967295 (room.next_id + needs.ids) ≡ false = lt-leb 4294967296 (room.next_id + needs.ids) (omega (arith, c.if-room-needs-gt4294967295.false)) in
    let space : nat_lt room.free (needs.new_blocks + all) ≡ false = lt-leb (suc room.free) (needs.new_blocks + all) (omega (arith, sum, c.if-room-wanted.false)) in
    let run : (not (all == 0) && nat_lt room.longest (needs.new_blocks + all)) ≡ false =
    ap (λ n. not (n == 0) && nat_lt room.longest (needs.new_blocks + n)) (sym sum) ∙ sym c.lacks_run.ensures ∙ c.if-lacks_run.false in
    let big : nat_lt room.capacity load ≡ false = lt-leb (suc room.capacity) load (omega (arith, load_is, c.if-room-sectors.false)) in
    pass _ _ _ _ _ _ ids
    (pass _ _ _ _ _ _ (sym c.is_deep.ensures.deep ∙ c.if-is_deep.false)
    (pass _ _ _ _ _ _ (sym c.is_deep-2.ensures.deep ∙ c.if-is_deep-2.false)
    (pass _ _ _ _ _ _ (sym c.is_deep-3.ensures.deep ∙ c.if-is_deep-3.false)
    (pass _ _ _ _ _ _ (sym c.is_full.ensures ∙ c.if-is_full.false)
    (pass _ _ _ _ _ _ space
    (pass _ _ _ _ _ _ run
    (pass _ _ _ _ _ _ big (λ i. cost.Load (load_is i) (list_of_three c.args.grow.now long i)))))))))
