use Rattle.std.proofs.Common.{◌≡◌, ◌<◌, ◌≤◌, ◌+◌, ◌*◌, ◌/◌, ℕ, IsTrue, List, length, drop, slice_get, Option, inl, inr, ⊎_elim, sym, ◌∙◌, ap, subst, arith}
use Rattle.std.proofs.lemmas.Bool.{cases_lt}
use Rattle.sector_disk.specs.Lists.{Content, sector}
use Rattle.sector_disk.specs.Space.{Space}
use Rattle.btree_file.specs.Frame.{ReadsSpace}
use Rattle.btree_node.specs.Node.{IsNodeSize}
use Rattle.fork_map.specs.Blocks.{fork_sectors}
use Rattle.fsck_scan.specs.Read.{sector_or_zeros, IsWhole}
use Rattle.fsck_scan.proofs.Pieces.{Reads, reads_start, reads_more, reads_all, dropped_get}
use Rattle.fsck_scan.proofs.fork.read_node.Goals as goal

-- a node has whole sectors
whole_sectors : (n : ℕ) → IsNodeSize n → n ≡ n / 512 * 512
whole_sectors n (inl is) = omega (arith, is)
whole_sectors n (inr (inl is)) = omega (arith, is)
whole_sectors n (inr (inr (inl is))) = omega (arith, is)
whole_sectors n (inr (inr (inr (inl is)))) = omega (arith, is)
whole_sectors n (inr (inr (inr (inr (inl is))))) = omega (arith, is)
whole_sectors n (inr (inr (inr (inr (inr (inl is)))))) = omega (arith, is)
whole_sectors n (inr (inr (inr (inr (inr (inr is)))))) = omega (arith, is)

-- what was whole before reads is whole
still_whole : (old now : Space) (limit : ℕ) (o : Option ℕ) → IsTrue old.tells → ReadsSpace old now → IsWhole now.content now.sectors limit o → IsWhole old.content old.sectors limit o
still_whole old now limit o tells reads whole at is below inside = ap (λ (ct : Content). length (sector ct at)) (sym (reads.sectors tells).content) ∙ whole at is below (omega (arith, reads.same.sectors, inside))

pub loop-k-init : goal.loop-k-init
loop-k-init g c = record {
  per = ap (λ (b : List ℕ). length b / 512) c.bytes.ensures.value;
  so_far = reads_start (g.V.SectorView.space c.args.view.now) c.args.fork.now.limit (drop (c.args.node * (length c.bytes.result.now / 512)) (fork_sectors c.args.fork.now.extents.now c.args.fork.now.per_block)) c.args.into.now;
  whole = λ tells j none. absurd (omega (arith, none));
  below = g.met.V.SectorView.follows_refl c.args.view.now;
}

pub loop-k-preserved : goal.loop-k-preserved
loop-k-preserved g c =
    let old : Space = g.V.SectorView.space c.args.view.now in
    let now : Space = g.V.SectorView.space c.loop-k.view in
    let new : Space = g.V.SectorView.space c.read_sector.new.view in
    let fork : List ℕ = fork_sectors c.args.fork.now.extents.now c.args.fork.now.per_block in
    let limit : ℕ = c.args.fork.now.limit in
    let per : ℕ = length c.bytes.result.now / 512 in
    let k : ℕ = c.loop-k.k in
    let e : per ≡ length c.args.into.now / 512 = ap (λ (b : List ℕ). length b / 512) c.bytes.ensures.value in
    let low : k < per = c.loop-k-test.true in
    let value : IsTrue now.tells → c.read_sector.new.into ≡ sector_or_zeros now.content limit (slice_get (drop (c.args.node * per) fork) k) =
    λ tells. c.in_ok-read_sector.ensures.value tells ∙ ap (λ (o : Option ℕ). sector_or_zeros now.content limit o) (sym (dropped_get (c.args.node * per) k fork)) in
    record {
      per = e;
      so_far = subst (λ (b : List ℕ). Reads old new limit (drop (c.args.node * per) fork) c.args.into.now b (k + 1)) (sym c.fill.ensures)
          (reads_more old now new limit (drop (c.args.node * per) fork) c.args.into.now c.loop-k.into c.read_sector.new.into k c.loop-k.invariant.so_far c.read_sector.ensures.reads c.read_sector.array_long
          (omega (arith, low, e)) value);
      whole = λ tells j less. ⊎_elim
          (λ (early : j < k). c.loop-k.invariant.whole tells j early)
          (λ (last : k ≤ j). subst (λ n. IsWhole old.content old.sectors limit (slice_get fork (c.args.node * per + n))) {x = k} (omega (arith, less, last))
          (still_whole old now limit (slice_get fork (c.args.node * per + k)) tells c.loop-k.invariant.so_far.reads (c.in_ok-read_sector.ensures.whole (c.loop-k.invariant.so_far.reads.same.tells ∙ tells))))
          (cases_lt j k);
      below = g.met.V.SectorView.follows_trans c.args.view.now c.loop-k.view c.read_sector.new.view c.loop-k.invariant.below c.read_sector.ensures.below;
    }

pub returns-in_err-read_sector-clause-below : goal.returns-in_err-read_sector-clause-below
returns-in_err-read_sector-clause-below g c = g.met.V.SectorView.follows_trans c.args.view.now c.loop-k.view c.read_sector.new.view c.loop-k.invariant.below c.read_sector.ensures.below

pub returns-clause-value : goal.returns-clause-value
returns-clause-value g c tells =
    let old : Space = g.V.SectorView.space c.args.view.now in
    let now : Space = g.V.SectorView.space c.loop-k.view in
    let fork : List ℕ = fork_sectors c.args.fork.now.extents.now c.args.fork.now.per_block in
    let per : ℕ = length c.bytes.result.now / 512 in
    let e : per ≡ length c.args.into.now / 512 = ap (λ (b : List ℕ). length b / 512) c.bytes.ensures.value in
    let all : c.loop-k.k ≡ per = omega (arith, c.loop-k-test.false, c.loop-k.auto.k-end) in
    let size : length c.args.into.now ≡ per * 512 = whole_sectors (length c.args.into.now) c.bytes.ensures.size ∙ ap (λ n. n * 512) (sym e) in
    reads_all old now c.args.fork.now.limit fork c.args.into.now c.loop-k.into per c.args.node
    (subst (λ n. Reads old now c.args.fork.now.limit (drop (c.args.node * per) fork) c.args.into.now c.loop-k.into n) all c.loop-k.invariant.so_far) size e tells

pub returns-clause-whole : goal.returns-clause-whole
returns-clause-whole g c tells =
    let old : Space = g.V.SectorView.space c.args.view.now in
    let fork : List ℕ = fork_sectors c.args.fork.now.extents.now c.args.fork.now.per_block in
    let per : ℕ = length c.bytes.result.now / 512 in
    let e : per ≡ length c.args.into.now / 512 = ap (λ (b : List ℕ). length b / 512) c.bytes.ensures.value in
    subst (λ n. (j : ℕ) → j < n → IsWhole old.content old.sectors c.args.fork.now.limit (slice_get fork (c.args.node * n + j))) e
    (λ j less. c.loop-k.invariant.whole tells j (omega (arith, less, c.loop-k-test.false, c.loop-k.auto.k-end)))
