use Rattle.std.proofs.Common.{◌≡◌, ◌*◌, ◌/◌, sym, ◌∙◌, ap, arith}
use Rattle.std.proofs.lemmas.Bool.{leb-true}
use Rattle.volume_space.specs.Growing.{blocks_filled}
use Rattle.volume_space.proofs.growable_spread.numbers_have_room.Goals as goal

pub returns-clause-room : goal.returns-clause-room
returns-clause-room c is =
    let blocks : c.from.result ≡ blocks_filled c.args.file.now c.args.more = c.from.ensures ∙ c.requires in
    let per : c.from-2.result ≡ c.args.file.now.per_block = c.from-2.ensures ∙ c.per_block.ensures in
    let node : c.from-4.result ≡ c.args.file.now.shape.node_size / 512 = c.from-4.ensures ∙ ap (λ s. s.node_size / 512) c.shape-shape.ensures in
    let size : c.from-9.result * c.from-10.result ≡ blocks_filled c.args.file.now c.args.more * c.args.volume.now.header.block_size = λ i. (c.from-9.ensures ∙ c.requires) i * c.from-10.ensures i in
    record {
      least = omega (arith, c.if-shape-lt512.false, ap (λ s. s.node_size) c.shape-shape.ensures);
      most = omega (arith, c.if-shape-gt32768.false, ap (λ s. s.node_size) c.shape-shape.ensures);
      whole = sym (λ i. blocks i * per i) ∙ c.if-from.false ∙ (λ i. c.from-3.ensures i * node i);
      nodes = omega (arith, c.if-from-gt4294967295.false, c.from-5.ensures, c.from-6.ensures, ap (λ s. s.total) c.shape-shape.ensures);
      blocks = omega (arith, c.if-saturating_add-gt4294967295.false, c.saturating_add.ensures, c.from-7.ensures, c.from-8.ensures, c.requires);
      bytes = omega (arith, c.if-saturating_add-gt18446744073709551615.false, c.saturating_add-2.ensures, c.from-11.ensures, size);
      counted = omega (arith, leb-true c.args.blocks c.from-12.result is, c.from-12.ensures, c.requires);
    }
