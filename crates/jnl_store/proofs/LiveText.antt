-- The text of the live lists, as it is read in pieces.
use Rattle.std.proofs.Common.{◌≡◌, ℕ, refl, arith}
use Rattle.sector_disk.specs.Lists.{Content}
use Rattle.jnl_format.specs.Recovery.{text_of}
use Rattle.jnl_ring.specs.Span.{IsOnDisk}
use Rattle.jnl_ring.proofs.Wrap.{distance_short}
use Rattle.jnl_replay.specs.Plan.{journal_of}
use Rattle.jnl_replay.specs.Text.{IsText, text_in, words}
use Rattle.jnl_replay.specs.declared.plan.Plan.{Plan}
use Rattle.jnl_store.specs.InUse.{IsInUse}
use Rattle.jnl_store.specs.Plan.{span_of}

pub live_text : (plan : Plan) → IsInUse plan → (sectors : ℕ) → IsOnDisk (span_of plan) sectors → IsText sectors (text_in plan.info plan.header)
live_text plan rest sectors on_disk =
    let h = rest.header in
    let short = distance_short plan.info.size plan.header.start plan.header.end h.start_low h.end_low h.start_high h.end_high in
    record {
      span = record { whole = rest.whole; least = rest.least; most = rest.most };
      low = h.start_low;
      high = h.start_high;
      fits = omega (arith, short);
      blhdr = h.blhdr_low;
      on_disk = on_disk;
    }

pub words_are : (plan : Plan) (c : Content) → words (text_in plan.info plan.header) c ≡ text_of (journal_of plan) c
unfolding words
words_are plan c = refl
