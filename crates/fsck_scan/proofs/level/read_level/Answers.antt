use Rattle.std.proofs.Common.{◌≡◌, ◌+◌, ◌∷◌, ◌++◌, [], ℕ, List, length, sym, ◌∙◌, ap, subst}
use Rattle.std.specs.Prelude.{slice_index}
use Rattle.std.specs.List.{All}
use Rattle.std.proofs.lemmas.List.Elements.{All-append}
use Rattle.btree_node.specs.Node.{items}
use Rattle.fsck_scan.specs.Good.{IsGoodRecord}
use Rattle.jnl_format.specs.Recovery.{Content}
use Rattle.sector_disk.specs.Space.{Space}
use Rattle.btree_node.specs.Levels.{Nodes}
use Rattle.btree_file.specs.FrameLaws.{reads_both}
use Rattle.fork_map.specs.Blocks.{fork_sectors}
use Rattle.hfs_volume.specs.Content.{node_of_fork}
use Rattle.fsck_scan.specs.Level.{IsRight, IsWrong, HasRead, place_in}
use Rattle.fsck_scan.specs.declared.look.Place.{Place}
use Rattle.fsck_scan.proofs.LevelLaws.{read_more, fails_here, some_is, none_is, same_place}
use Rattle.fsck_scan.proofs.level.read_level.Goals as goal

pub returns-in_err-read_node-clause-below : goal.returns-in_err-read_node-clause-below
returns-in_err-read_node-clause-below g c = g.met.V.SectorView.follows_trans c.args.view.now c.loop-k.view c.read_node.new.view c.loop-k.invariant.below c.read_node.ensures.below

pub returns-in_err-read_node-clause-reads : goal.returns-in_err-read_node-clause-reads
returns-in_err-read_node-clause-reads g c =
    reads_both (g.V.SectorView.space c.args.view.now) (g.V.SectorView.space c.loop-k.view) (g.V.SectorView.space c.read_node.new.view) c.loop-k.invariant.reads c.read_node.ensures.reads

pub returns-in_err-fault-clause-below : goal.returns-in_err-fault-clause-below
returns-in_err-fault-clause-below g c = g.met.V.SectorView.follows_trans c.args.view.now c.loop-k.view c.read_node.new.view c.loop-k.invariant.below c.read_node.ensures.below

pub returns-in_err-fault-clause-reads : goal.returns-in_err-fault-clause-reads
returns-in_err-fault-clause-reads g c =
    reads_both (g.V.SectorView.space c.args.view.now) (g.V.SectorView.space c.loop-k.view) (g.V.SectorView.space c.read_node.new.view) c.loop-k.invariant.reads c.read_node.ensures.reads

pub returns-in-Some-clause-below : goal.returns-in-Some-clause-below
returns-in-Some-clause-below g c = g.met.V.SectorView.follows_trans c.args.view.now c.loop-k.view c.read_node.new.view c.loop-k.invariant.below c.read_node.ensures.below

pub returns-in-Some-clause-reads : goal.returns-in-Some-clause-reads
returns-in-Some-clause-reads g c =
    reads_both (g.V.SectorView.space c.args.view.now) (g.V.SectorView.space c.loop-k.view) (g.V.SectorView.space c.read_node.new.view) c.loop-k.invariant.reads c.read_node.ensures.reads

pub returns-in_err-push_end-clause-below : goal.returns-in_err-push_end-clause-below
returns-in_err-push_end-clause-below g c = g.met.V.SectorView.follows_trans c.args.view.now c.loop-k.view c.read_node.new.view c.loop-k.invariant.below c.read_node.ensures.below

pub returns-in_err-push_end-clause-reads : goal.returns-in_err-push_end-clause-reads
returns-in_err-push_end-clause-reads g c =
    reads_both (g.V.SectorView.space c.args.view.now) (g.V.SectorView.space c.loop-k.view) (g.V.SectorView.space c.read_node.new.view) c.loop-k.invariant.reads c.read_node.ensures.reads

pub returns-in-Some-clause-wrong : goal.returns-in-Some-clause-wrong
returns-in-Some-clause-wrong g c tells =
    let old : Space = g.V.SectorView.space c.args.view.now in
    let limit : ℕ = c.args.fork.now.limit in
    let fork : List ℕ = fork_sectors c.args.fork.now.extents.now c.args.fork.now.per_block in
    let nodes : Nodes = λ n. node_of_fork old.content limit fork (length c.args.node.now) n in
    let ns : List ℕ = c.args.nodes.now in
    let k : ℕ = c.loop-k.k in
    let place : Place = record { most = c.args.most; height = c.args.height; next = c.node_at.result; back = c.node_before.result } in
    let is : c.read_node.new.into ≡ nodes (slice_index ns k) =
    c.in_ok-read_node.ensures.value (c.loop-k.invariant.reads.same.tells ∙ tells)
    ∙ ap (λ (content : Content). node_of_fork content limit fork (length c.loop-k.node) (slice_index ns k)) (c.loop-k.invariant.reads.sectors tells).content
    ∙ ap (λ n. node_of_fork old.content limit fork n (slice_index ns k)) c.loop-k.invariant.long in
    let wrong : IsWrong g.K.KeyOrder.is_key g.K.KeyOrder.is_value g.K.KeyOrder.cmp place c.args.names.now k c.read_node.new.into c.loop-k.records c.in-Some.fault =
    some_is c.in_ok-fault.field-0 c.in-Some.fault (IsWrong g.K.KeyOrder.is_key g.K.KeyOrder.is_value g.K.KeyOrder.cmp place c.args.names.now k c.read_node.new.into c.loop-k.records) c.in-Some.is c.in_ok-fault.ensures.wrong in
    fails_here g.K.KeyOrder.is_key g.K.KeyOrder.is_value g.K.KeyOrder.cmp nodes c.args.most c.args.height ns c.args.names.now k c.loop-k.records c.loop-k.ends.items c.in-Some.fault c.loop-k-test.true
    (c.loop-k.invariant.read tells)
    (subst (λ (b : List ℕ). IsWrong g.K.KeyOrder.is_key g.K.KeyOrder.is_value g.K.KeyOrder.cmp (place_in c.args.most c.args.height ns k) c.args.names.now k b c.loop-k.records c.in-Some.fault) is
    (subst (λ (p : Place). IsWrong g.K.KeyOrder.is_key g.K.KeyOrder.is_value g.K.KeyOrder.cmp p c.args.names.now k c.read_node.new.into c.loop-k.records c.in-Some.fault)
    (same_place c.args.most c.args.height c.node_at.result c.node_before.result ns k c.node_at.ensures c.node_before.ensures) wrong))

pub loop-k-preserved : goal.loop-k-preserved
loop-k-preserved g c =
    let old : Space = g.V.SectorView.space c.args.view.now in
    let limit : ℕ = c.args.fork.now.limit in
    let fork : List ℕ = fork_sectors c.args.fork.now.extents.now c.args.fork.now.per_block in
    let nodes : Nodes = λ n. node_of_fork old.content limit fork (length c.args.node.now) n in
    let ns : List ℕ = c.args.nodes.now in
    let k : ℕ = c.loop-k.k in
    let place : Place = record { most = c.args.most; height = c.args.height; next = c.node_at.result; back = c.node_before.result } in
    let right : IsRight g.K.KeyOrder.is_key g.K.KeyOrder.is_value g.K.KeyOrder.cmp place c.args.names.now k c.read_node.new.into c.loop-k.records c.look_at.new.records =
    none_is c.in_ok-fault.field-0 (IsRight g.K.KeyOrder.is_key g.K.KeyOrder.is_value g.K.KeyOrder.cmp place c.args.names.now k c.read_node.new.into c.loop-k.records c.look_at.new.records) c.in_default.is c.in_ok-fault.ensures.right in
    record {
      keys = right.takes.keys;
      good =
          subst (λ (l : List (List ℕ)). All (IsGoodRecord g.K.KeyOrder.is_key g.K.KeyOrder.is_value c.args.most c.args.height) l) (sym right.takes.records)
          (All-append (IsGoodRecord g.K.KeyOrder.is_key g.K.KeyOrder.is_value c.args.most c.args.height) c.loop-k.records (items c.read_node.new.into) c.loop-k.invariant.good right.takes.good);
      rising = right.takes.rising;
      long = c.read_node.ensures.length ∙ c.loop-k.invariant.long;
      below = g.met.V.SectorView.follows_trans c.args.view.now c.loop-k.view c.read_node.new.view c.loop-k.invariant.below c.read_node.ensures.below;
      reads = reads_both old (g.V.SectorView.space c.loop-k.view) (g.V.SectorView.space c.read_node.new.view) c.loop-k.invariant.reads c.read_node.ensures.reads;
      read = λ tells.
          let is : c.read_node.new.into ≡ nodes (slice_index ns k) =
          c.in_ok-read_node.ensures.value (c.loop-k.invariant.reads.same.tells ∙ tells)
          ∙ ap (λ (content : Content). node_of_fork content limit fork (length c.loop-k.node) (slice_index ns k)) (c.loop-k.invariant.reads.sectors tells).content
          ∙ ap (λ n. node_of_fork old.content limit fork n (slice_index ns k)) c.loop-k.invariant.long in
          let ends : c.push_end.new.ends.items ≡ c.loop-k.ends.items ++ length c.look_at.new.records ∷ [] =
          c.in_ok-push_end.ensures ∙ ap (λ n. c.loop-k.ends.items ++ n ∷ []) c.len.ensures in
          subst (λ (l : List ℕ). HasRead g.K.KeyOrder.is_key g.K.KeyOrder.is_value g.K.KeyOrder.cmp nodes c.args.most c.args.height ns c.args.names.now (k + 1) c.look_at.new.records l) (sym ends)
          (read_more g.K.KeyOrder.is_key g.K.KeyOrder.is_value g.K.KeyOrder.cmp nodes c.args.most c.args.height ns c.args.names.now k c.loop-k.records c.look_at.new.records c.loop-k.ends.items c.loop-k-test.true
          (c.loop-k.invariant.read tells)
          (subst (λ (b : List ℕ). IsRight g.K.KeyOrder.is_key g.K.KeyOrder.is_value g.K.KeyOrder.cmp (place_in c.args.most c.args.height ns k) c.args.names.now k b c.loop-k.records c.look_at.new.records) is
          (subst (λ (p : Place). IsRight g.K.KeyOrder.is_key g.K.KeyOrder.is_value g.K.KeyOrder.cmp p c.args.names.now k c.read_node.new.into c.loop-k.records c.look_at.new.records)
          (same_place c.args.most c.args.height c.node_at.result c.node_before.result ns k c.node_at.ensures c.node_before.ensures) right)));
    }
