-- What a look stands on: what the image stands for.
use Rattle.std.proofs.Common.{◌≡◌, ◌∙◌, ℕ, ap, subst}
use Rattle.sector_disk.specs.Disk.{Candidates, OnlyReads, State, content, content_of}
use Rattle.jnl_format.specs.Recovery.{Content}
use Rattle.jnl_replay.specs.Viewing.{shown}
use Rattle.jnl_replay.specs.declared.index.Peek.{Peek}
use Rattle.volume_look.specs.Talk.{HearsRight, Talk}

-- the same, of another name of the content and the capacity
pub right_of : (most n : ℕ) (content x : Content) (old new : Talk) → most ≡ n → content ≡ x → HearsRight most content old new → HearsRight n x old new
right_of most n content x old new same is right = subst (λ (y : Content). HearsRight n y old new) is (subst (λ k. HearsRight k content old new) same right)

-- a disk that was only read shows what it showed
pub still_shown : (peek : Peek) (a b : State) → OnlyReads a b → shown peek b.sectors (content b) ≡ shown peek a.sectors (content a)
still_shown peek a b reads = ap (λ n. shown peek n (content b)) reads.same.sectors ∙ ap (λ (d : Candidates). shown peek a.sectors (content_of d)) reads.candidates
