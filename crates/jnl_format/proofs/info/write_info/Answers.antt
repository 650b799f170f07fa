use Rattle.std.proofs.Common.{◌≡◌, ◌∙◌, ap, arith, List, ℕ}
use Rattle.hx_bytes.specs.Field.{big, put_at}
use Rattle.jnl_format.specs.Info.{info_of, with_info}
use Rattle.jnl_format.proofs.InfoBack.{info_back}
use Rattle.jnl_format.proofs.info.write_info.Goals as goal

pub returns-clause-read_back : goal.returns-clause-read_back
returns-clause-read_back c flags offset size =
    let is : c.write_be64-2.new.bytes ≡ with_info c.args.info.now c.args.into.now =
    c.write_be64-2.ensures ∙ ap (λ (b : List ℕ). put_at b 44 (big 8 c.args.info.now.size)) c.write_be64.ensures
    ∙ ap (λ (b : List ℕ). put_at (put_at b 36 (big 8 c.args.info.now.offset)) 44 (big 8 c.args.info.now.size)) c.write_be32.ensures in
    ap (λ (b : List ℕ). info_of b) is ∙ info_back c.args.info.now c.args.into.now (omega (arith, c.told-into)) flags offset size
