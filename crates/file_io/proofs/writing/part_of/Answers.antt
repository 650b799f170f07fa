use Rattle.std.proofs.Common.{◌≡◌, ◌<◌, ◌-◌, ◌^◌, ℕ, List, length, take, length-take, arith, ap, subst, sym, ◌∙◌}
use Rattle.std.proofs.lemmas.List.Elements.{All-take}
use Rattle.hx_bytes.specs.declared.extents.Extent.{Extent}
use Rattle.fork_map.specs.Blocks.{blocks_of, AreNumbers}
use Rattle.fork_map.specs.Cut.{front, back}
use Rattle.file_io.proofs.writing.part_of.Goals as goal

pub cut_tail-requires-2 : goal.cut_tail-requires-2
cut_tail-requires-2 c = record {
  numbers = subst (λ (l : List ℕ). AreNumbers l) (sym c.in_ok-front.ensures.blocks.0) (All-take (λ b. b < 2 ^ 32) (length (blocks_of c.args.fork.now) - c.min.result) (blocks_of c.args.fork.now) c.requires);
}

pub returns : goal.returns
returns c = λ few order inside.
    let fork : List Extent = c.args.fork.now in
    let total : ℕ = length (blocks_of fork) in
    let all : total - c.min.result ≡ c.args.behind = omega (arith, few, inside, c.min.ensures, c.saturating_sub-tail.ensures, c.blocks_in.ensures, ap (λ (l : List Extent). length (blocks_of l)) c.as_slice.ensures) in
    let first_part : c.in_ok-front.front ≡ front c.args.behind fork = c.in_ok-front.ensures.extents.0 ∙ ap (λ m. front m fork) all in
    let blocks : blocks_of c.in_ok-front.front ≡ take c.args.behind (blocks_of fork) = c.in_ok-front.ensures.blocks.0 ∙ ap (λ m. take m (blocks_of fork)) all in
    let long = ap (λ (l : List ℕ). length l) blocks in
    let stay : length (blocks_of c.in_ok-front.front) - c.saturating_sub.result ≡ c.args.first = omega (arith, long, length-take c.args.behind (blocks_of fork), inside, order, c.saturating_sub.ensures) in
    c.in_ok-_before.ensures.extents.1 ∙ ap (λ m. back m c.in_ok-front.front) stay ∙ ap (λ (l : List Extent). back c.args.first l) first_part
