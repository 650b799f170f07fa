use Rattle.std.proofs.Common.{◌<◌, ◌≤◌, ℕ, IsTrue, List, [], length, sym, ◌∙◌, ap, subst, arith}
use Rattle.std.proofs.lemmas.List.{take_all}
use Rattle.btree_node.specs.Levels.{Pair}
use Rattle.cat_records.specs.Records.{is_catalog}
use Rattle.hfs_volume.specs.Records.{placed_of, placed_in, entries_of}
use Rattle.fsck_core.specs.Kinds.{row_in}
use Rattle.fsck_core.specs.Rows.{rows_of}
use Rattle.fsck_core.proofs.ListingLaws.{rows_more}
use Rattle.fsck_core.proofs.listing.read_rows.Goals as goal

pub read_row-row-requires : goal.read_row-row-requires
read_row-row-requires c = subst (λ (v : List ℕ). IsTrue (is_catalog v)) (sym c.value.ensures) (c.requires c.loop-i.i ([], []) (omega (arith, c.loop-i-test.true, c.len-i-end.ensures)))

pub loop-i-preserved : goal.loop-i-preserved
loop-i-preserved c =
    let pairs : List Pair = c.args.pairs.now in
    let k : ℕ = c.loop-i.i in
    let inside : k < length pairs = omega (arith, c.loop-i-test.true, c.len-i-end.ensures) in
    record {
      rows = λ long. rows_more pairs k c.loop-i.rows.items c.add_row.new.rows.items c.read_row-row.result inside (c.loop-i.invariant.rows long)
          (c.read_row-row.ensures (subst (λ (b : List ℕ). 8 ≤ length b) (sym c.key.ensures) (long k ([], []) inside)) ∙ ap (λ (p : Pair). row_in (placed_of p)) (λ i. (c.key.ensures i, c.value.ensures i))) c.in_ok-add_row.ensures;
    }

pub returns : goal.returns
returns c long = c.loop-i.invariant.rows long ∙ ap (λ (l : List Pair). rows_of (entries_of (placed_in l))) (take_all c.loop-i.i c.args.pairs.now (omega (arith, c.loop-i-test.false, c.len-i-end.ensures)))
