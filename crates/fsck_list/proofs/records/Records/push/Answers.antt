use Rattle.std.proofs.Common.{◌≡◌, ◌+◌, ◌++◌, ℕ, List, [], ◌∷◌, length, ◌∙◌, ap, arith}
use Rattle.fsck_list.specs.Flat.{cut_at}
use Rattle.fsck_list.proofs.FlatLaws.{cut_more}
use Rattle.fsck_list.proofs.records.Records.push.Goals as goal

pub returns-clause-added : goal.returns-clause-added
returns-clause-added c =
    let bytes : List ℕ = c.self.inside.bytes.items in
    let ends : List ℕ = c.self.inside.ends.items in
    let more : List ℕ = c.args.bytes.now in
    let end : c.len-end.result ≡ length bytes + length more = omega (arith, c.len-end.ensures, c.in_ok-extend_from_slice.ensures.len, c.self.inside.bytes.ok.0) in
    ap (λ (l : List ℕ). cut_at l c.push_reserved.new.self.items) c.in_ok-extend_from_slice.ensures.items
    ∙ ap (λ (l : List ℕ). cut_at (bytes ++ more) l) (c.push_reserved.ensures.items ∙ ap (λ (l : List ℕ). l ++ c.len-end.result ∷ []) c.reserve.ensures.items)
    ∙ cut_more bytes ends more c.len-end.result c.self.invariant end
    ∙ ap (λ (l : List (List ℕ)). l ++ more ∷ []) c.self.view_is
