use Rattle.std.proofs.Common.{◌+◌, ◌*◌, ◌/◌, [], List, ℕ, length, get_or, slice_range, ◌∙◌, ap, arith}
use Rattle.btree_file.proofs.NodeParts.{sector_part}
use Rattle.btree_file.proofs.putting.sector_of.Goals as goal

pub returns : goal.returns
returns c =
    ap (λ (l : List (List ℕ)). get_or l c.args.k []) c.as_chunks.ensures.front
    ∙ sector_part (length c.bytes.result.now / 512) c.bytes.result.now c.args.k [] (omega (arith, c.requires, ap (λ (l : List ℕ). length l / 512) c.bytes.ensures.value))
    ∙ ap (λ (l : List ℕ). slice_range l (c.args.k * 512) (c.args.k * 512 + 512)) c.bytes.ensures.value
