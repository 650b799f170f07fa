use Rattle.std.proofs.Common.{◌≡◌, ◌<◌, ◌≤◌, ◌+◌, ◌-◌, ◌*◌, ◌/◌, ℕ, true, List, ◌∷◌, [], length, get_or, min, take, sym, ◌∙◌, ap, arith, ⊎_elim}
use Rattle.std.proofs.lemmas.Bool.{cases_lt}
use Rattle.std.proofs.lemmas.List.{take_all, take_more}
use Rattle.std.proofs.lemmas.List.Sums.{sum_by-append, sum_by-cons}
use Rattle.std.proofs.lemmas.Option.{slice_get-get_or}
use Rattle.flag_rows.specs.Bits.{bit_of}
use Rattle.fork_map.specs.Nodes.{node_of}
use Rattle.sector_disk.specs.Space.{Space}
use Rattle.btree_file.specs.FrameLaws.{reads_both}
use Rattle.btree_file.specs.Map.{used_in, bits_of}
use Rattle.fork_map.specs.Blocks.{fork_sectors}
use Rattle.btree_file.specs.declared.tree.Stretch.{Stretch}
use Rattle.btree_file.proofs.MapLaws.{used_at}
use Rattle.btree_file.proofs.Sizes.{size_most}
use Rattle.btree_file.proofs.marking.find_clear.Goals as goal

pub overflow_mul-stretch : goal.overflow_mul-stretch
overflow_mul-stretch g c = omega (arith, size_most _ c.bytes-bytes.ensures.size, c.requires.low c.loop-place.place (record { node = 0; at = 0; len = 0 }) (omega arith))

pub overflow_mul-start : goal.overflow_mul-start
overflow_mul-start g c = omega (arith, size_most _ c.bytes-bytes.ensures.size, c.requires.low c.loop-place.place (record { node = 0; at = 0; len = 0 }) (omega arith))

pub overflow_add-start : goal.overflow_add-start
overflow_add-start g c = omega (arith, size_most _ c.bytes-bytes.ensures.size, c.requires.low c.loop-place.place (record { node = 0; at = 0; len = 0 }) (omega arith), c.min-count.ensures)

pub overflow_add-start-in-loop-place : goal.overflow_add-start-in-loop-place
overflow_add-start-in-loop-place g c = omega (arith, size_most _ c.bytes-bytes.ensures.size, c.requires.low c.loop-place.place (record { node = 0; at = 0; len = 0 }) (omega arith), c.min-count.ensures)

pub returns-then-found-start-clause-spot : goal.returns-then-found-start-clause-spot
returns-then-found-start-clause-spot g c = record {
  stretch = slice_get-get_or c.args.map.now c.loop-place.place (record { node = 0; at = 0; len = 0 }) (omega arith);
  bit = omega (arith, c.first_clear-found.ensures.from, c.if-found-start.true, c.min-count.ensures);
  node = omega (arith, c.first_clear-found.ensures.from, c.if-found-start.true, c.min-count.ensures, c.loop-place.invariant.before);
  inside = omega (arith, c.first_clear-found.ensures.from, c.if-found-start.true, c.min-count.ensures, c.loop-place.invariant.before);
}

-- one stretch more
more_bits : (map : List Stretch) (k : ℕ) (d : Stretch) → k < length map → bits_of (take (k + 1) map) ≡ bits_of (take k map) + 8 * (get_or map k d).len
more_bits map k d low =
    let joined = ap bits_of (take_more map k d low) ∙ sum_by-append (λ (stretch : Stretch). 8 * stretch.len) (take k map) (get_or map k d ∷ []) in
    let one : bits_of (get_or map k d ∷ []) ≡ 8 * (get_or map k d).len + 0 = sum_by-cons (λ (stretch : Stretch). 8 * stretch.len) (get_or map k d) [] in
    omega (arith, joined, one)

-- its bits are set
module _ (nodes : ℕ → List ℕ) (map : List Stretch) (k : ℕ) (d : Stretch) (page : List ℕ) (before count total found : ℕ) (low : k < length map) (is : page ≡ nodes (get_or map k d).node)
    (so_far : before ≡ min (bits_of (take k map)) total) (many : count ≡ min (8 * (get_or map k d).len) (total - before)) (past : 8 * (get_or map k d).at + count ≤ found)
    (each : (i : ℕ) → 8 * (get_or map k d).at ≤ i → i < found → bit_of page i ≡ true) (was : (n : ℕ) → n < before → used_in nodes map n ≡ true)
  where
    set_here : (n : ℕ) → n < before + count → used_in nodes map n ≡ true
    set_here n less = ⊎_elim
        (λ (lt : n < before). was n lt)
        (λ (ge : before ≤ n).
        let j = n - before in
        let at : n ≡ bits_of (take k map) + (n - before) = omega (arith, ge, less, so_far, many) in
        let inside : n - before < 8 * (get_or map k d).len = omega (arith, ge, less, many) in
        ap (used_in nodes map) at ∙ used_at nodes map k (n - before) d low inside ∙ ap (λ (l : List ℕ). bit_of l (8 * (get_or map k d).at + (n - before))) (sym is)
        ∙ each (8 * (get_or map k d).at + (n - before)) (omega arith) (omega (arith, ge, less, past)))
        (cases_lt n before)

pub loop-place-preserved : goal.loop-place-preserved
loop-place-preserved g c =
    let old : Space = g.V.SectorView.space c.args.space.now in
    let mid : Space = g.V.SectorView.space c.loop-place.space in
    let inv = c.loop-place.invariant in
    let sectors = fork_sectors c.args.fork.now c.args.per_block in
    let low : c.loop-place.place < length c.args.map.now = omega arith in
    record {
      long = c.in_ok-get_node.ensures.length ∙ inv.long;
      before = omega (arith, inv.before, c.min-count.ensures, more_bits c.args.map.now c.loop-place.place (record { node = 0; at = 0; len = 0 }) low);
      set = λ tells.
          let content = ap (λ (x : List (List ℕ)). node_of x sectors (length c.loop-place.page / 512) (get_or c.args.map.now c.loop-place.place (record { node = 0; at = 0; len = 0 })).node) (inv.reads.sectors tells).content in
          let size = ap (λ n. node_of old.content sectors (n / 512) (get_or c.args.map.now c.loop-place.place (record { node = 0; at = 0; len = 0 })).node) inv.long in
          set_here (λ n. node_of old.content sectors (length c.args.page.now / 512) n) c.args.map.now c.loop-place.place (record { node = 0; at = 0; len = 0 }) c.get_node.new.into c.loop-place.before c.min-count.result c.args.total c.first_clear-found.result low
          (c.in_ok-get_node.ensures.value (inv.reads.same.tells ∙ tells) ∙ content ∙ size) inv.before c.min-count.ensures c.if-found-start.false c.first_clear-found.ensures.before (inv.set tells);
      below = g.met.V.SectorView.follows_trans c.args.space.now c.loop-place.space c.get_node.new.space inv.below c.get_node.ensures.below;
      reads = reads_both old mid (g.V.SectorView.space c.get_node.new.space) inv.reads c.in_ok-get_node.ensures.reads;
    }

pub returns-clause-none : goal.returns-clause-none
returns-clause-none g c = λ tells is n low few.
    let all = ap bits_of (take_all c.loop-place.place c.args.map.now (omega arith)) in
    c.loop-place.invariant.set tells n (omega (arith, c.loop-place.invariant.before, all, low, few))
