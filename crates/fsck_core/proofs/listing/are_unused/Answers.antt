use Rattle.std.proofs.Common.{◌&&◌, true, ◌∙◌}
use Rattle.hx_bytes.specs.Fork.{extents_at}
use Rattle.fsck_core.proofs.listing.are_unused.Goals as goal

pub returns : goal.returns
unfolding extents_at
returns c =
    let eighth = c.both-eighth.ensures ∙ (λ i. c.is_unused.ensures i && true) in
    let seventh = c.both-seventh.ensures ∙ (λ i. c.is_unused-2.ensures i && eighth i) in
    let sixth = c.both-sixth.ensures ∙ (λ i. c.is_unused-3.ensures i && seventh i) in
    let fifth = c.both-fifth.ensures ∙ (λ i. c.is_unused-4.ensures i && sixth i) in
    let fourth = c.both-fourth.ensures ∙ (λ i. c.is_unused-5.ensures i && fifth i) in
    let third = c.both-third.ensures ∙ (λ i. c.is_unused-6.ensures i && fourth i) in
    let second = c.both-second.ensures ∙ (λ i. c.is_unused-7.ensures i && third i) in
    c.both.ensures ∙ (λ i. c.is_unused-8.ensures i && second i)
