use Rattle.std.proofs.Common.{◌≡◌, ◌<◌, ◌≤◌, ℕ, ◌+◌, ◌-◌, ◌/◌, List, length, refl, sym, ◌∙◌, ap, subst, arith}
use Rattle.std.specs.Prelude.{IfNone}
use Rattle.std.specs.List.{All}
use Rattle.sector_disk.specs.Space.{Space}
use Rattle.btree_node.specs.Levels.{Nodes}
use Rattle.btree_file.specs.FrameLaws.{reads_none, reads_both}
use Rattle.fork_map.specs.Blocks.{fork_sectors}
use Rattle.hfs_volume.specs.Content.{node_of_fork}
use Rattle.hfs_volume.specs.Broken.{levels_in, IsBrokenTree}
use Rattle.fsck_list.specs.declared.finding.Finding.{Finding}
use Rattle.fsck_scan.specs.Form.{as_found, form_in}
use Rattle.fsck_scan.specs.Good.{IsGoodRecord}
use Rattle.fsck_scan.specs.Scan.{StandsAt, Descends, IsBlankPast}
use Rattle.fsck_scan.proofs.LevelLaws.{some_is, none_is}
use Rattle.fsck_scan.proofs.tree.read_levels.Goals as goal

pub returns-in-Some-clause-wrong : goal.returns-in-Some-clause-wrong
returns-in-Some-clause-wrong g c tells tree nodes root =
    some_is c.in_ok-finding.field-0 c.in-Some.finding (λ (f : Finding). IsBrokenTree (form_in c.args.form.now) g.K.KeyOrder.is_key g.K.KeyOrder.is_value g.K.KeyOrder.cmp c.args.form.now.id tree (as_found f)) c.in-Some.is (c.in_ok-finding.ensures.wrong tree root)

pub loop-above-init : goal.loop-above-init
loop-above-init g c = record {
  within = omega arith;
  long = refl;
  places = none_is c.in_ok-finding.field-0 (length c.take_root.new.marks ≡ length c.args.marks.now) c.in_default.is c.in_ok-finding.ensures.places;
  below = g.met.V.SectorView.follows_refl c.args.view.now;
  reads = reads_none (g.V.SectorView.space c.args.view.now);
  good = none_is c.in_ok-finding.field-0 (All (IsGoodRecord g.K.KeyOrder.is_key g.K.KeyOrder.is_value (length c.args.node.now / 2 - 10) (c.args.height - 0)) c.take_root.new.level.records) c.in_default.is
      (subst (λ h. IfNone c.in_ok-finding.field-0 (All (IsGoodRecord g.K.KeyOrder.is_key g.K.KeyOrder.is_value (length c.args.node.now / 2 - 10) h) c.take_root.new.level.records)) (let is : c.args.height ≡ c.args.height - 0 = omega arith in is) c.in_ok-finding.ensures.good);
  stands = λ tells tree nodes root. none_is c.in_ok-finding.field-0 (StandsAt g.K.KeyOrder.is_key g.K.KeyOrder.is_value g.K.KeyOrder.cmp tree 0 c.take_root.new.marks c.take_root.new.level.nodes.items c.take_root.new.level.records c.take_root.new.level.ends.items) c.in_default.is (c.in_ok-finding.ensures.right tree root);
}

pub returns-in-Some-2-clause-wrong : goal.returns-in-Some-2-clause-wrong
returns-in-Some-2-clause-wrong g c tells tree nodes root =
    let old : Space = g.V.SectorView.space c.args.view.now in
    let now : Space = g.V.SectorView.space c.loop-above.view in
    let limit : ℕ = c.args.fork.now.limit in
    let fork : List ℕ = fork_sectors c.args.fork.now.extents.now c.args.fork.now.per_block in
    let size : ℕ = length c.args.node.now in
    let later : Nodes = λ n. node_of_fork now.content limit fork (length c.loop-above.node) n in
    let same : later ≡ (λ n. node_of_fork old.content limit fork size n) = λ i. λ n. node_of_fork ((c.loop-above.invariant.reads.sectors tells).content i) limit fork (c.loop-above.invariant.long i) n in
    let less : c.loop-above.above < c.args.height - 1 = c.loop-above-test.true in
    let at : Descends g.K.KeyOrder.is_key g.K.KeyOrder.is_value g.K.KeyOrder.cmp tree later (length c.loop-above.node) c.args.total (c.args.height - 1 - c.loop-above.above) c.loop-above.above c.loop-above.marks c.loop-above.level.nodes.items c.loop-above.level.records c.loop-above.level.ends.items =
    record {
      of_tree = record { are = nodes.are ∙ sym same; size_is = nodes.size_is ∙ sym c.loop-above.invariant.long; total_is = nodes.total_is };
      height_is = let is : levels_in tree ≡ c.args.height = root.height_is in let more : levels_in tree - (c.loop-above.above + 1) ≡ c.args.height - 1 - c.loop-above.above = omega (arith, is, less) in more;
      more = omega (arith, root.height_is, less);
      blank = subst (λ n. IsBlankPast tree n) (sym c.loop-above.invariant.places) root.blank;
      stands = c.loop-above.invariant.stands tells tree nodes root;
    } in
    some_is c.in_ok-finding-2.field-0 c.in-Some-2.finding (λ (f : Finding). IsBrokenTree (form_in c.args.form.now) g.K.KeyOrder.is_key g.K.KeyOrder.is_value g.K.KeyOrder.cmp c.args.form.now.id tree (as_found f)) c.in-Some-2.is
    (c.in_ok-finding-2.ensures.wrong (c.loop-above.invariant.reads.same.tells ∙ tells) tree c.loop-above.above at)

pub loop-above-preserved : goal.loop-above-preserved
loop-above-preserved g c = record {
  within = omega arith;
  long = c.descend.ensures.length ∙ c.loop-above.invariant.long;
  places = none_is c.in_ok-finding-2.field-0 (length c.descend.new.marks ≡ length c.loop-above.marks) c.in_default-2.is c.in_ok-finding-2.ensures.places ∙ c.loop-above.invariant.places;
  below = g.met.V.SectorView.follows_trans c.args.view.now c.loop-above.view c.descend.new.view c.loop-above.invariant.below c.descend.ensures.below;
  reads = reads_both (g.V.SectorView.space c.args.view.now) (g.V.SectorView.space c.loop-above.view) (g.V.SectorView.space c.descend.new.view) c.loop-above.invariant.reads c.descend.ensures.reads;
  good = none_is c.in_ok-finding-2.field-0 (All (IsGoodRecord g.K.KeyOrder.is_key g.K.KeyOrder.is_value (length c.args.node.now / 2 - 10) (c.args.height - (c.loop-above.above + 1))) c.descend.new.level.records) c.in_default-2.is
      (subst (λ n. IfNone c.in_ok-finding-2.field-0 (All (IsGoodRecord g.K.KeyOrder.is_key g.K.KeyOrder.is_value (n / 2 - 10) (c.args.height - (c.loop-above.above + 1))) c.descend.new.level.records)) c.loop-above.invariant.long
      (subst (λ h. IfNone c.in_ok-finding-2.field-0 (All (IsGoodRecord g.K.KeyOrder.is_key g.K.KeyOrder.is_value (length c.loop-above.node / 2 - 10) h) c.descend.new.level.records))
      (let is : c.args.height - 1 - c.loop-above.above ≡ c.args.height - (c.loop-above.above + 1) = omega arith in is) c.in_ok-finding-2.ensures.good));
  stands = λ tells tree nodes root.
      let old : Space = g.V.SectorView.space c.args.view.now in
      let now : Space = g.V.SectorView.space c.loop-above.view in
      let limit : ℕ = c.args.fork.now.limit in
      let fork : List ℕ = fork_sectors c.args.fork.now.extents.now c.args.fork.now.per_block in
      let size : ℕ = length c.args.node.now in
      let later : Nodes = λ n. node_of_fork now.content limit fork (length c.loop-above.node) n in
      let same : later ≡ (λ n. node_of_fork old.content limit fork size n) = λ i. λ n. node_of_fork ((c.loop-above.invariant.reads.sectors tells).content i) limit fork (c.loop-above.invariant.long i) n in
      let less : c.loop-above.above < c.args.height - 1 = c.loop-above-test.true in
      let at : Descends g.K.KeyOrder.is_key g.K.KeyOrder.is_value g.K.KeyOrder.cmp tree later (length c.loop-above.node) c.args.total (c.args.height - 1 - c.loop-above.above) c.loop-above.above c.loop-above.marks c.loop-above.level.nodes.items c.loop-above.level.records c.loop-above.level.ends.items =
      record {
        of_tree = record { are = nodes.are ∙ sym same; size_is = nodes.size_is ∙ sym c.loop-above.invariant.long; total_is = nodes.total_is };
        height_is = let is : levels_in tree ≡ c.args.height = root.height_is in let more : levels_in tree - (c.loop-above.above + 1) ≡ c.args.height - 1 - c.loop-above.above = omega (arith, is, less) in more;
        more = omega (arith, root.height_is, less);
        blank = subst (λ n. IsBlankPast tree n) (sym c.loop-above.invariant.places) root.blank;
        stands = c.loop-above.invariant.stands tells tree nodes root;
      } in
      none_is c.in_ok-finding-2.field-0 (StandsAt g.K.KeyOrder.is_key g.K.KeyOrder.is_value g.K.KeyOrder.cmp tree (c.loop-above.above + 1) c.descend.new.marks c.descend.new.level.nodes.items c.descend.new.level.records c.descend.new.level.ends.items) c.in_default-2.is
      (c.in_ok-finding-2.ensures.right (c.loop-above.invariant.reads.same.tells ∙ tells) tree c.loop-above.above at);
}

pub returns-clause-right : goal.returns-clause-right
returns-clause-right g c tells tree nodes root =
    let last : c.loop-above.above ≡ c.args.height - 1 = omega arith in
    subst (λ j. StandsAt g.K.KeyOrder.is_key g.K.KeyOrder.is_value g.K.KeyOrder.cmp tree j c.loop-above.marks c.loop-above.level.nodes.items c.loop-above.level.records c.loop-above.level.ends.items) last (c.loop-above.invariant.stands tells tree nodes root)

pub returns-in_err-finding-2-clause-reads : goal.returns-in_err-finding-2-clause-reads
returns-in_err-finding-2-clause-reads g c =
    reads_both (g.V.SectorView.space c.args.view.now) (g.V.SectorView.space c.loop-above.view) (g.V.SectorView.space c.descend.new.view) c.loop-above.invariant.reads c.descend.ensures.reads

pub returns-in_err-finding-2-clause-below : goal.returns-in_err-finding-2-clause-below
returns-in_err-finding-2-clause-below g c = g.met.V.SectorView.follows_trans c.args.view.now c.loop-above.view c.descend.new.view c.loop-above.invariant.below c.descend.ensures.below

pub returns-in-Some-2-clause-reads : goal.returns-in-Some-2-clause-reads
returns-in-Some-2-clause-reads g c =
    reads_both (g.V.SectorView.space c.args.view.now) (g.V.SectorView.space c.loop-above.view) (g.V.SectorView.space c.descend.new.view) c.loop-above.invariant.reads c.descend.ensures.reads

pub returns-in-Some-2-clause-below : goal.returns-in-Some-2-clause-below
returns-in-Some-2-clause-below g c = g.met.V.SectorView.follows_trans c.args.view.now c.loop-above.view c.descend.new.view c.loop-above.invariant.below c.descend.ensures.below

pub returns-in-Some-clause-reads : goal.returns-in-Some-clause-reads
returns-in-Some-clause-reads g c = reads_none (g.V.SectorView.space c.args.view.now)

pub returns-in-Some-clause-below : goal.returns-in-Some-clause-below
returns-in-Some-clause-below g c = g.met.V.SectorView.follows_refl c.args.view.now

pub returns-in_err-finding-clause-reads : goal.returns-in_err-finding-clause-reads
returns-in_err-finding-clause-reads g c = reads_none (g.V.SectorView.space c.args.view.now)

pub returns-in_err-finding-clause-below : goal.returns-in_err-finding-clause-below
returns-in_err-finding-clause-below g c = g.met.V.SectorView.follows_refl c.args.view.now
