use Rattle.std.proofs.Common.{◌≡◌, ℕ, List, ◌∙◌, ap}
use Rattle.std.specs.Prelude.{slice_index}
use Rattle.hx_bytes.specs.Field.{big_at}
use Rattle.fsck_scan.proofs.form.read_head.Goals as goal

pub returns : goal.returns
returns c =
    let max_key_is = c.read_be16.ensures ∙ ap (λ (l : List ℕ). big_at 2 l 34) c.bytes-bytes.ensures.value in
    let attributes_are = c.read_be32.ensures ∙ ap (λ (l : List ℕ). big_at 4 l 52) c.bytes-bytes.ensures.value in
    let compare_is = ap (λ (l : List ℕ). slice_index l 51) c.bytes-bytes.ensures.value in
    λ i. record {
      depth = (c.shape.ensures i).depth;
      root = (c.shape.ensures i).root;
      leaf_records = (c.shape.ensures i).leaf_records;
      first = (c.shape.ensures i).first;
      last = (c.shape.ensures i).last;
      node_size = (c.shape.ensures i).node_size;
      max_key = max_key_is i;
      total = (c.shape.ensures i).total;
      free = (c.shape.ensures i).free;
      compare = compare_is i;
      attributes = attributes_are i;
    }
