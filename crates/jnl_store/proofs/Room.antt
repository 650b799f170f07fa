-- Room in the ring for what was put.
use Rattle.std.proofs.Common.{◌≡◌, ℕ, ◌+◌, ◌-◌, ◌*◌, ◌/◌, ◌%◌, ◌<◌, ◌≤◌, inl, inr, List, length, sym, ◌∙◌, ap, arith}
use Rattle.std.specs.Prelude.{Result, Ok, Err, OnOk}
use Rattle.jnl_format.specs.Ring.{distance, offset_after}
use Rattle.jnl_format.specs.declared.blocks.Home.{Home}
use Rattle.jnl_format.specs.declared.structures.Info.{Info}
use Rattle.jnl_ring.proofs.Wrap.{distance_after, distance_ahead, distance_reaches, distance_whole, offset_after_header, offset_before, offset_behind, offset_inside, offset_sum}
use Rattle.std.proofs.lemmas.Bool.{cases_lt}
use Rattle.jnl_store.specs.Appending.{longer}
use Rattle.jnl_replay.specs.declared.plan.Plan.{Plan}
use Rattle.jnl_store.specs.InUse.{HasPlaces, IsInUse, used_of}
use Rattle.jnl_store.specs.Lists.{IsCapacity, IsForm, text_sectors}
use Rattle.jnl_store.specs.Plan.{form_of, span_of}
use Rattle.jnl_store.specs.Store.{SameJournal}
use Rattle.jnl_store.specs.declared.puts.Put.{Put}
use Rattle.jnl_store.specs.declared.store.Store.{Store}
use Rattle.jnl_store.proofs.ListsLaws.{sectors_monotone}

-- as many puts as the capacity allows fit into the ring
pub room_by : (plan : Plan) (puts : ℕ) → IsInUse plan → (most : ℕ) × IsCapacity (span_of plan) (form_of plan) most × (puts ≤ most) → text_sectors plan.header.blhdr puts ≤ plan.info.size / 512 - 2
room_by plan puts rest fits =
    let form : IsForm (form_of plan) = record { whole = rest.header.blhdr_whole; least = rest.header.blhdr_low; most = rest.header.blhdr_high } in
    omega (arith, sectors_monotone (form_of plan) form puts fits.0 fits.2, fits.1.fits)

-- and with no list live they do at once
pub room_home : {T E : Type 0} (result : Result T E) (old new : Store) → OnOk result (new.plan.header.start ≡ new.plan.header.end) → SameJournal old new → new.batch.all ≡ old.batch.all
    → (most : ℕ) × IsCapacity (span_of old.plan) (form_of old.plan) most × (length old.batch.all ≤ most)
    → OnOk result (used_of new.plan / 512 + text_sectors new.plan.header.blhdr (length new.batch.all) ≤ new.plan.info.size / 512 - 2)
room_home (Ok x) old new empty journal all fits =
    let used : used_of new.plan ≡ 0 = distance_ahead new.plan.info.size new.plan.header.start new.plan.header.end (omega (arith, empty)) ∙ omega (arith, empty) in
    let size : new.plan.info.size ≡ old.plan.info.size = ap (λ (i : Info). i.size) journal.info in
    let room = room_by old.plan (length old.batch.all) old.rest fits in
    let text : text_sectors new.plan.header.blhdr (length new.batch.all) ≡ text_sectors old.plan.header.blhdr (length old.batch.all) = ap (λ n. text_sectors n (length new.batch.all)) journal.blhdr ∙ ap (λ (l : List Put). text_sectors old.plan.header.blhdr (length l)) all in
    omega (arith, used, size, room, text)
room_home (Err e) old new empty journal all fits = tt

-- the plan with the lists of these puts
pub longer_rest : (plan : Plan) (puts : List Put) → IsInUse plan → used_of plan / 512 + text_sectors plan.header.blhdr (length puts) ≤ plan.info.size / 512 - 2 → IsInUse (longer plan puts)
longer_rest plan puts rest room =
    let more = 512 * text_sectors plan.header.blhdr (length puts) in
    record {
      header = record {
        start_whole = rest.header.start_whole;
        start_low = rest.header.start_low;
        start_high = rest.header.start_high;
        end_whole = elim (cases_lt (plan.header.end + more) plan.info.size) [
          | inl before ↦ ap (λ n. n % 512) (offset_before plan.info.size plan.header.end more before) ∙ omega (arith, rest.header.end_whole)
          | inr behind ↦ ap (λ n. n % 512) (offset_behind plan.info.size plan.header.end more behind) ∙ omega (arith, rest.header.end_whole, rest.whole, behind)
        ];
        end_low = offset_after_header plan.info.size plan.header.end more rest.header.end_low;
        end_high = offset_inside plan.info.size plan.header.end more rest.header.end_low rest.header.end_high (omega (arith, room));
        size = rest.header.size;
        blhdr_whole = rest.header.blhdr_whole;
        blhdr_low = rest.header.blhdr_low;
        blhdr_high = rest.header.blhdr_high;
      };
      least = rest.least;
      most = rest.most;
      whole = rest.whole;
      old = rest.old;
    }

-- its text is longer by theirs
longer_used : (plan : Plan) (puts : List Put) → IsInUse plan → used_of plan / 512 + text_sectors plan.header.blhdr (length puts) ≤ plan.info.size / 512 - 2 → used_of (longer plan puts) ≡ used_of plan + 512 * text_sectors plan.header.blhdr (length puts)
longer_used plan puts rest room =
    let size = plan.info.size in
    let start = plan.header.start in
    let used = used_of plan in
    let more = 512 * text_sectors plan.header.blhdr (length puts) in
    let even : used % 512 ≡ 0 = distance_whole size start plan.header.end rest.whole rest.header.start_whole rest.header.end_whole rest.header.end_low rest.header.start_high in
    let short : used + more < size - 512 = omega (arith, room, even, rest.whole, rest.least) in
    ap (λ n. distance size start (offset_after size n more)) (sym (distance_reaches size start plan.header.end rest.header.end_low rest.header.start_high rest.header.end_high))
    ∙ ap (distance size start) (offset_sum size start used more rest.header.start_low rest.header.start_high (omega (arith, short)))
    ∙ distance_after size start (used + more) rest.header.start_low rest.header.start_high short

-- the places of what was live and of these puts
pub longer_places : (plan : Plan) (puts : List Put) (old new : List Home) (most : ℕ) → IsInUse plan → used_of plan / 512 + text_sectors plan.header.blhdr (length puts) ≤ plan.info.size / 512 - 2 → HasPlaces plan old most
    → length new ≤ length old + length puts → HasPlaces (longer plan puts) new most
longer_places plan puts old new most rest room places few = record {
  few = omega (arith, longer_used plan puts rest room, places.few, few);
  enough = places.enough;
}
