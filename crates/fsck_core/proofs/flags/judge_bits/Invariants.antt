use Rattle.fsck_core.specs.Judged.{Judged}
use Rattle.fsck_core.proofs.FlagLaws.{bits_upto}
use Rattle.fsck_core.proofs.flags.judge_bits.Given as goal

abbrev pub invariant-loop-block : goal.invariant-loop-block
invariant-loop-block l = record {
  judged : Judged 13 (bits_upto l.flags l.used l.block) l.fn.out l.out l.met;
}
