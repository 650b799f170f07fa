use Rattle.hfs_language.specs.Language as spec
use Rattle.cmd_lang.specs.Reads.{read_so_far}
use Rattle.std.proofs.Common.{map, Bor, List, ℕ}
use Rattle.cmd_lang.proofs.Paths.{reads_on}
use Rattle.cmd_lang.proofs.path.read_names.Goals as goal

pub loop-component-preserved : goal.loop-component-preserved
loop-component-preserved c =
    reads_on c.args.components.now c.loop-component.component-index _
    (read_so_far c.loop-component.refusal c.loop-component.names)
    (read_so_far c.in_ok-refusal.refusal c.read_next.new.names)
    (spec.names_of (map (λ (component : Bor (List ℕ)). component.now) c.args.components.now))
    c.loop-component-test.true c.in_ok-refusal.ensures.next c.loop-component.invariant
