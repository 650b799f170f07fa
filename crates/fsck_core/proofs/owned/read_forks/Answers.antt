use Rattle.std.proofs.Common.{◌++◌, ℕ, IsTrue, List, [], sym, ◌∙◌, ap, subst, arith}
use Rattle.std.proofs.lemmas.List.{append-nil}
use Rattle.btree_node.specs.Levels.{Pair}
use Rattle.cat_records.specs.Records.{is_catalog}
use Rattle.hfs_volume.specs.Records.{placed_of}
use Rattle.hfs_volume.specs.Forks.{special_forks}
use Rattle.fsck_core.specs.Owners.{owned_all}
use Rattle.fsck_core.specs.AllForks.{forks_at}
use Rattle.fsck_core.proofs.AllForkLaws.{forks_more, forks_whole}
use Rattle.fsck_core.proofs.owned.read_forks.Goals as goal

pub add_pair-requires : goal.add_pair-requires
add_pair-requires c = subst (λ (v : List ℕ). IsTrue (is_catalog v)) (sym c.value.ensures) (c.requires c.loop-i.i ([], []) (omega (arith, c.loop-i-test.true, c.len-i-end.ensures)))

pub loop-i-init : goal.loop-i-init
loop-i-init c = record { forks = c.in_ok-forks.ensures ∙ sym (append-nil (special_forks c.args.head.now)) }

pub loop-i-preserved : goal.loop-i-preserved
loop-i-preserved c = record {
  forks = forks_more c.args.pairs.now c.loop-i.i (special_forks c.args.head.now) (owned_all c.loop-i.forks.items) (owned_all c.add_pair.new.forks.items) (omega (arith, c.loop-i-test.true, c.len-i-end.ensures)) c.loop-i.invariant.forks
      (c.in_ok-add_pair.ensures ∙ ap (λ (p : Pair). owned_all c.loop-i.forks.items ++ forks_at (placed_of p)) (λ i. (c.key.ensures i, c.value.ensures i)));
}

pub returns : goal.returns
returns c = forks_whole c.args.head.now c.args.pairs.now c.loop-i.i (owned_all c.loop-i.forks.items) (omega (arith, c.loop-i-test.false, c.len-i-end.ensures)) c.loop-i.invariant.forks
