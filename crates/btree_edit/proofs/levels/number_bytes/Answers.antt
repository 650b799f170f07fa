use Rattle.std.proofs.Common.{refl, ◌≡◌, ◌+◌, ◌++◌, ℕ, List, length, ap, ◌∙◌, arith}
use Rattle.std.proofs.lemmas.List.{append-nil, drop_all}
use Rattle.hx_bytes.specs.Field.{big, put_at}
use Rattle.hx_bytes.specs.declared.fields.Order.TheVariants.{Big}
use Rattle.hx_bytes.proofs.Laws.{length-number_bytes}
use Rattle.btree_edit.proofs.levels.number_bytes.Goals as goal

-- four bytes put over four
over_four : (bytes old : List ℕ) → length bytes ≡ 4 → length old ≡ 4 → put_at old 0 bytes ≡ bytes
over_four bytes old long same = ap (λ (l : List ℕ). bytes ++ l) (drop_all (0 + length bytes) old (omega (arith, long, same))) ∙ append-nil bytes

pub returns : goal.returns
returns c = c.write_be32.ensures ∙ over_four (big 4 c.args.number) _ (length-number_bytes Big 4 c.args.number) refl
