use Rattle.std.proofs.Common.{◌≡◌, ◌-◌, ℕ, ◌∙◌, ap, arith}
use Rattle.hfsx_server.specs.Playing.{stream_from}
use Rattle.hfsx_server.proofs.Streams.{text_begins, text_ends, text_goes_on, text_of}
use Rattle.hfsx_server.proofs.playing.lines_between.Goals as goal

pub loop-i-init : goal.loop-i-init
loop-i-init c = text_begins c.args.seed c.args.first c.new-bytes.result.items c.new-bytes.ensures.items

pub loop-i-preserved : goal.loop-i-preserved
loop-i-preserved c = text_goes_on c.args.seed c.args.first c.loop-i.i c.loop-i.bytes.items c.push_line.new.bytes.items (omega (arith, c.loop-i.near-i)) c.loop-i.invariant c.in_ok-push_line.ensures

pub returns : goal.returns
returns c =
    let ended : c.loop-i.i ≡ c.args.end = omega (arith, c.requires, c.loop-i-test.false, c.loop-i.near-i, c.loop-i.far-i) in
    text_ends c.args.seed c.args.first (c.args.end - c.args.first) c.loop-i.bytes.items (c.loop-i.invariant ∙ ap (λ (n : ℕ). text_of (stream_from c.args.seed c.args.first (n - c.args.first))) ended)
