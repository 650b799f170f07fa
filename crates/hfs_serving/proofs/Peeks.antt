-- What a peek shows of a disk that was only read since it was made.
use Rattle.std.proofs.Common.{◌≡◌, Bool, sym, ◌∙◌, ap, cond, eq-eqb}
use Rattle.sector_disk.specs.Disk.{Candidates, OnlyReads, State, content, content_of}
use Rattle.sector_disk.specs.Lists.{Content}
use Rattle.jnl_replay.specs.Peeking.{peeked}
use Rattle.jnl_replay.specs.Viewing.{shown}
use Rattle.jnl_replay.specs.declared.index.Peek.{Peek}

pub shown_as : (peek : Peek) (before now : State) (recovered : Content) → OnlyReads before now → peek.sectors ≡ before.sectors → peeked peek (content before) ≡ recovered → shown peek now.sectors (content now) ≡ recovered
shown_as peek before now recovered reads same is =
    ap (λ (d : Candidates). shown peek now.sectors (content_of d)) reads.candidates
    ∙ ap (λ (b : Bool). cond b (peeked peek (content before)) (content before)) (eq-eqb now.sectors peek.sectors (reads.same.sectors ∙ sym same)) ∙ is
