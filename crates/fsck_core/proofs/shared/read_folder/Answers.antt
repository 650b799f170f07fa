use Rattle.hfs_volume.specs.Links.{is_shared}
use Rattle.hfs_volume.specs.Records.{placed_of}
use Rattle.fsck_core.specs.Names.{pair_at, IsSharedAs, AreShared}
use Rattle.std.proofs.Common.{◌≡◌, true, ◌<◌, ◌≤◌, ℕ, IsTrue, List, [], length, sym, subst, arith}
use Rattle.std.specs.Prelude.{Some}
use Rattle.btree_node.specs.Levels.{Pair}
use Rattle.cat_records.specs.Records.{is_catalog}
use Rattle.fsck_core.proofs.SharedLaws.{shared_begins, shared_more, shared_ends}
use Rattle.fsck_core.proofs.shared.read_folder.Goals as goal

pub shared_file-requires : goal.shared_file-requires
shared_file-requires c = subst (λ (v : List ℕ). IsTrue (is_catalog v)) (sym c.value.ensures) (c.requires c.loop-i.i ([], []) (omega (arith, c.loop-i-test.true, c.len-i-end.ensures)))

pub loop-i-init : goal.loop-i-init
loop-i-init c = record { shared = λ long. subst (AreShared (Some c.args.private) []) (sym c.new-files.ensures.items) (shared_begins (Some c.args.private)) }

pub loop-i-preserved : goal.loop-i-preserved
loop-i-preserved c =
    let pairs : List Pair = c.args.pairs.now in
    let k : ℕ = c.loop-i.i in
    let inside : k < length pairs = omega (arith, c.loop-i-test.true, c.len-i-end.ensures) in
    let here : (c.key.result.now, c.value.result.now) ≡ pair_at pairs k = λ i. (c.key.ensures i, c.value.ensures i) in
    record {
      shared = λ long.
          let key_long : 8 ≤ length c.key.result.now = subst (λ (l : List ℕ). 8 ≤ length l) (sym c.key.ensures) (long k ([], []) inside) in
          shared_more (Some c.args.private) pairs k c.loop-i.files.items c.add_shared.new.files.items c.in_ok-found.found inside (c.loop-i.invariant.shared long)
          (λ file is. subst (λ (p : Pair). IsSharedAs (Some c.args.private) (placed_of p) file) here (c.in_ok-found.ensures.is key_long file is))
          (λ reference shared. c.in_ok-found.ensures.whole key_long reference (subst (λ (p : Pair). is_shared (Some c.args.private) reference (placed_of p) ≡ true) (sym here) shared))
          c.in_ok-add_shared.ensures;
    }

pub returns : goal.returns
returns c long = shared_ends (Some c.args.private) c.args.pairs.now c.loop-i.i c.loop-i.files.items (omega (arith, c.loop-i-test.false, c.len-i-end.ensures)) (c.loop-i.invariant.shared long)
