use Rattle.std.proofs.Common.{◌≡◌, map, drop, List, ℕ, Bor}
use Rattle.hfs_language.specs.Language as spec
use Rattle.cmd_lang.specs.Reads.{with_rest, read_so_far}
use Rattle.cmd_lang.proofs.path.read_names.Given as goal

abbrev pub invariant-loop-component : goal.invariant-loop-component
invariant-loop-component l =
    with_rest (read_so_far l.refusal l.names) (spec.names_of (map (λ (component : Bor (List ℕ)). component.now) (drop l.component-index l.components)))
    ≡ spec.names_of (map (λ (component : Bor (List ℕ)). component.now) l.components)
