use Rattle.std.proofs.Common.{◌≡◌, ◌<◌, ◌+◌, ◌-◌, ℕ, List, min, take, drop, length, get_or, set, sym, ◌∙◌, ap, arith}
use Rattle.std.proofs.lemmas.List.{get_or-drop, get_or_default, drop-drop, drop-set-lt, length-set}
use Rattle.fork_map.specs.Blocks.{blocks_of}
use Rattle.hx_bytes.specs.declared.extents.Extent.{Extent}
use Rattle.fork_map.proofs.KeptBlocks.{keep_step, blocks_more, keep_cut}
use Rattle.fork_map.proofs.summed.keep_blocks.Goals as goal

pub returns-then-left-eq0-clause-blocks : goal.returns-then-left-eq0-clause-blocks
returns-then-left-eq0-clause-blocks c = ap blocks_of c.truncate.ensures.items ∙ keep_cut c.args.list.now.items c.loop-i.list.items c.loop-i.i c.args.blocks c.loop-i.invariant.done (omega (arith, c.if-left-eq0.true, c.loop-i.invariant.left))

-- the extent at a place, where the lists are the same from there on
at_same : (xs ys : List Extent) (i : ℕ) (d : Extent) → drop i xs ≡ drop i ys → get_or xs i d ≡ get_or ys i d
at_same xs ys i d same = ap (λ k. get_or xs k d) {x = i} {y = i + 0} (omega arith) ∙ sym (get_or-drop i xs 0 d) ∙ ap (λ (l : List Extent). get_or l 0 d) same ∙ get_or-drop i ys 0 d ∙ ap (λ k. get_or ys k d) {x = i + 0} {y = i} (omega arith)

-- the lists are the same from the next place on, whatever is set here
ahead_set : (xs ys : List Extent) (i : ℕ) (e : Extent) → drop i xs ≡ drop i ys → drop (i + 1) (set xs i e) ≡ drop (i + 1) ys
ahead_set xs ys i e same = drop-set-lt (i + 1) xs i e (omega arith) ∙ sym (drop-drop 1 i xs) ∙ ap (λ (l : List Extent). drop 1 l) same ∙ drop-drop 1 i ys

pub loop-i-preserved : goal.loop-i-preserved
loop-i-preserved c =
    let ys : List Extent = c.args.list.now.items in
    let xs : List Extent = c.loop-i.list.items in
    let i : ℕ = c.loop-i.i in
    let e : Extent = record { start = c.index_mut.result.now.start; count = c.min-count.result } in
    let was = c.loop-i.invariant in
    let low : i < length ys = omega (arith, c.loop-i-test.true, c.loop-i.auto.i-end, c.len-i-end.ensures, was.long) in
    let read : (d : Extent) → c.index.result.now ≡ get_or ys i d = λ d. c.index.ensures ∙ at_same xs ys i c.index.result.now was.ahead ∙ get_or_default ys i c.index.result.now d low in
    let written : (d : Extent) → c.index_mut.result.now ≡ get_or ys i d = λ d. c.index_mut.ensures.value ∙ at_same xs ys i c.index_mut.result.now was.ahead ∙ get_or_default ys i c.index_mut.result.now d low in
    let d : Extent = c.index.result.now in
    let count : c.min-count.result ≡ min (get_or ys i d).count (c.args.blocks - length (blocks_of (take i ys))) = c.min-count.ensures ∙ ap (λ n. min n c.loop-i.left) (c.from.ensures ∙ ap (λ (x : Extent). x.count) (read d)) ∙ ap (λ n. min (get_or ys i d).count n) was.left in
    record {
      long = length-set xs i e ∙ was.long;
      ahead = ahead_set xs ys i e was.ahead;
      done = keep_step ys xs i c.args.blocks d e low was.long was.done (ap (λ (x : Extent). x.start) (written d)) count;
      left = omega (arith, count, was.left, blocks_more ys i d low);
    }
