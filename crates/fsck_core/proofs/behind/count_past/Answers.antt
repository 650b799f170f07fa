use Rattle.std.proofs.Common.{◌≡◌, ◌<◌, ℕ, ◌+◌, ◌-◌, ◌*◌, ◌/◌, ◌^◌, min, max, IsTrue, List, length, get_or, sym, ◌∙◌, ap, subst, arith, ◌≤◌}
use Rattle.sector_disk.specs.Space.{Space}
use Rattle.jnl_format.specs.Recovery.{Content}
use Rattle.hx_bytes.specs.declared.extents.Extent.{Extent}
use Rattle.fork_map.specs.Blocks.{blocks_of, fork_sectors}
use Rattle.fork_map.proofs.SumLaws.{blocks_all}
use Rattle.fork_map.proofs.KeptBlocks.{blocks_more}
use Rattle.btree_file.specs.FrameLaws.{reads_both}
use Rattle.fsck_core.specs.Behind.{set_up_to, HasSums, IsExtentAt}
use Rattle.fsck_core.proofs.BehindSkips.{passed, all_passed}
use Rattle.fsck_core.proofs.behind.count_past.Goals as goal

no_extent : Extent
no_extent = record { start = 0; count = 0 }

pub loop-extent-preserved : goal.loop-extent-preserved
unfolding no_extent
loop-extent-preserved g c =
    let old : Space = g.V.SectorView.space c.args.view.now in
    let now : Space = g.V.SectorView.space c.loop-extent.view in
    let new : Space = g.V.SectorView.space c.count_extent.new.view in
    let limit : ℕ = c.args.fork.now.limit in
    let per : ℕ = c.args.fork.now.per_block in
    let es : List Extent = c.args.fork.now.extents.now in
    let index : ℕ = c.loop-extent.extent-index in
    let e : Extent = get_or c.as_slice-extent-items.result.now index no_extent in
    let is : e ≡ get_or es index no_extent = ap (λ (l : List Extent). get_or l index no_extent) c.as_slice-extent-items.ensures in
    let inside : index < length es = subst (λ (l : List Extent). index < length l) c.as_slice-extent-items.ensures c.loop-extent-test.true in
    let end_is : c.div_ceil-end.result ≡ (c.args.size + 511) / 512 = omega (arith, c.div_ceil-end.ensures) in
    let upto : ℕ = c.place_behind-upto.result in
    let upto_is : upto ≡ min ((c.args.size + 511) / 512) ((c.loop-extent.front + min e.count (c.args.total - e.start)) * per) = c.place_behind-upto.ensures ∙ (λ i. min (end_is i) ((c.loop-extent.front + c.blocks_inside-inside.ensures i) * per)) in
    let behind : ℕ = c.place_behind.result in
    let behind_is : behind ≡ min ((c.args.size + 511) / 512) ((c.loop-extent.front + e.count) * per) = c.place_behind.ensures ∙ ap (λ n. min n ((c.loop-extent.front + e.count) * per)) end_is in
    let here : IsExtentAt es index c.args.total e.start c.blocks_inside-inside.result c.loop-extent.front = record {
      within = inside;
      start_is = ap (λ (x : Extent). x.start) is;
      inside_is = c.blocks_inside-inside.ensures ∙ ap (λ (x : Extent). min x.count (c.args.total - e.start)) is;
      front_is = c.loop-extent.invariant.front;
    } in
    let at_is : max (max c.loop-extent.at upto) behind ≡ c.max-at.result = sym (c.max-at.ensures ∙ ap (λ n. max n behind) c.max.ensures) in
    record {
      count = λ tells sums.
          let told : IsTrue now.tells = c.loop-extent.invariant.reads.same.tells ∙ tells in
          let content : now.content ≡ old.content = (c.loop-extent.invariant.reads.sectors tells).content in
          let before : c.loop-extent.count ≡ min (set_up_to now.content limit (fork_sectors es per) c.args.total (8 * c.args.size) c.loop-extent.at) (2 ^ 64 - 1) =
          c.loop-extent.invariant.count tells sums ∙ ap (λ (ct : Content). min (set_up_to ct limit (fork_sectors es per) c.args.total (8 * c.args.size) c.loop-extent.at) (2 ^ 64 - 1)) (sym content) in
          let after : c.in_ok-count.count ≡ min (set_up_to now.content limit (fork_sectors es per) c.args.total (8 * c.args.size) (max c.loop-extent.at upto)) (2 ^ 64 - 1) = c.in_ok-count.ensures.value told index here (subst (λ (ct : Content). HasSums ct limit c.args.total per c.args.sums.now) (sym content) sums) before in
          after
          ∙ ap (λ (ct : Content). min (set_up_to ct limit (fork_sectors es per) c.args.total (8 * c.args.size) (max c.loop-extent.at upto)) (2 ^ 64 - 1)) content
          ∙ ap (λ n. min n (2 ^ 64 - 1)) (passed old.content limit c.args.total per es c.requires.some c.requires.limit index c.loop-extent.front upto behind (max c.loop-extent.at upto) c.args.size no_extent e inside is c.loop-extent.invariant.front upto_is behind_is (omega arith)
          ∙ ap (λ n. set_up_to old.content limit (fork_sectors es per) c.args.total (8 * c.args.size) n) at_is);
      least = omega (arith, c.loop-extent.invariant.least, at_is);
      front = (λ i. c.loop-extent.invariant.front i + ap (λ (x : Extent). x.count) is i) ∙ sym (blocks_more es index no_extent inside);
      few = omega arith;
      far = omega (arith, at_is, behind_is);
      reads = reads_both old now new c.loop-extent.invariant.reads c.in_ok-count.ensures.reads;
      below = g.met.V.SectorView.follows_trans c.args.view.now c.loop-extent.view c.count_extent.new.view c.loop-extent.invariant.below c.in_ok-count.ensures.below;
    }

pub returns-clause-value : goal.returns-clause-value
returns-clause-value g c tells sums =
    let old : Space = g.V.SectorView.space c.args.view.now in
    let limit : ℕ = c.args.fork.now.limit in
    let per : ℕ = c.args.fork.now.per_block in
    let es : List Extent = c.args.fork.now.extents.now in
    let ended : length es ≤ c.loop-extent.extent-index = subst (λ (l : List Extent). length l ≤ c.loop-extent.extent-index) c.as_slice-extent-items.ensures c.loop-extent-test.false in
    let whole : c.loop-extent.front ≡ length (blocks_of es) = c.loop-extent.invariant.front ∙ blocks_all es c.loop-extent.extent-index ended in
    c.loop-extent.invariant.count tells sums ∙ ap (λ n. min n (2 ^ 64 - 1)) (all_passed old.content limit c.args.total per es c.requires.some c.requires.limit c.loop-extent.front c.loop-extent.at c.args.size whole c.loop-extent.invariant.far)

pub returns-in_err-count-clause-reads : goal.returns-in_err-count-clause-reads
returns-in_err-count-clause-reads g c = reads_both (g.V.SectorView.space c.args.view.now) (g.V.SectorView.space c.loop-extent.view) (g.V.SectorView.space c.count_extent.new.view) c.loop-extent.invariant.reads c.in_err-count.ensures.reads
