-- Two readings make one of both.
use Rattle.std.proofs.Common.{◌≡◌, Result, Ok, Err, refl, sym, subst}
use Rattle.hfs_language.specs.declared.refusal.Refusal.{Refusal}
use Rattle.hfs_language.specs.Language.{both}
use Rattle.cmd_lang.specs.declared.fault.LineFault.{LineFault}
use Rattle.cmd_lang.specs.declared.fault.LineFault.TheVariants.{No, Memory}
use Rattle.cmd_lang.specs.Reads.{Reads, both_read}

reads_each : {X Y : Type 0} (wx : Result X Refusal) (wy : Result Y Refusal) (a : Result X LineFault) (b : Result Y LineFault) → Reads wx a → Reads wy b → Reads (both wx wy) (both_read a b)
reads_each wx wy (Ok x) (Ok y) ha hb = rw (ha, hb) refl
reads_each wx wy (Ok x) (Err (No other)) ha hb = rw (ha, hb) refl
reads_each wx wy (Ok x) (Err Memory) ha hb = tt
reads_each wx wy (Err Memory) (Ok y) ha hb = tt
reads_each wx wy (Err Memory) (Err b) ha hb = tt
reads_each wx wy (Err (No one)) (Ok y) ha hb = rw (ha, hb) refl
reads_each wx wy (Err (No one)) (Err (No other)) ha hb = rw (ha, hb) refl
reads_each wx wy (Err (No one)) (Err Memory) ha hb = tt

pub reads_both : {X Y : Type 0} (wx : Result X Refusal) (wy : Result Y Refusal) (a : Result X LineFault) (b : Result Y LineFault) (r : Result (X × Y) LineFault) → Reads wx a → Reads wy b → r ≡ both_read a b → Reads (both wx wy) r
reads_both wx wy a b r ha hb is = subst (λ x. Reads (both wx wy) x) (sym is) (reads_each wx wy a b ha hb)
