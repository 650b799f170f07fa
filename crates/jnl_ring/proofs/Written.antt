-- The sectors of a list are written into the ring one after another.
use Rattle.std.proofs.Common.{◌≡◌, ◌≢◌, ◌<◌, ◌≤◌, ◌+◌, ◌-◌, ◌*◌, ◌%◌, ℕ, List, [], IsTrue, inl, inr, length, set, refl, sym, ◌∙◌, ap, subst, arith, get_or-set_same, get_or-set_other, length-set}
use Rattle.std.proofs.lemmas.Bool.{cases_lt}
use Rattle.std.proofs.lemmas.List.{length-map}
use Rattle.sector_disk.specs.Lists.{Content, sector, last}
use Rattle.sector_disk.specs.Clock.{TimePasses, WithTold}
use Rattle.sector_disk.specs.Disk.{State, Candidates, IsDisk, CrashesLeave, LeftNow, MayHaveWritten, SameDisk, SameSink, content, content_of, with_candidate}
use Rattle.sector_disk.proofs.Passing.{none_passes}
use Rattle.sector_disk.proofs.Candidates.{content_of-with_candidate, grows_none, grows_maybe, image_mixes}
use Rattle.sector_disk.proofs.Writing.{same_after, sink_after, time_after, leaves_after}
use Rattle.jnl_ring.specs.Span.{InBuffer, IsOnDisk, IsSpan, sector_after}
use Rattle.jnl_ring.specs.Writing.{GrowsInRing, IsPlaced, MixesInRing, PutsInRing}
use Rattle.jnl_ring.specs.declared.span.Span.{Span}
use Rattle.jnl_ring.proofs.Placing.{apart, on_disk}

-- the first k sectors of the list stand in the ring
pub record PutsFront (span : Span) (at : ℕ) (list : Content) (k : ℕ) (old new : Content) : Type 0 where
  pub size : length new ≡ length old
  pub there : (j : ℕ) → j < k → sector new (sector_after span at j) ≡ sector list j
  pub elsewhere : (s : ℕ) → ((j : ℕ) → j < k → s ≢ sector_after span at j) → sector new s ≡ sector old s

-- the first k sectors of the list were written
pub record WroteSo (span : Span) (at : ℕ) (list : Content) (old : State) (k : ℕ) (now : State) : Type 0 where
  pub puts : IsTrue old.tells → PutsFront span at list k (content old) (content now)
  pub grows : GrowsInRing span at list old.candidates now.candidates
  pub time : TimePasses old.clock now.clock (WithTold old.told (MixesInRing span at list old.candidates))
  pub barriers : now.barriers ≡ old.barriers
  pub same : SameDisk old now
  pub sink : SameSink old now
  pub faults : old.faults ≤ now.faults

pub wrote_none : (span : Span) (at : ℕ) (list : Content) (old : State) → WroteSo span at list old 0 old
wrote_none span at list old = record {
  puts = λ tells. record { size = refl; there = λ j below. absurd (omega (arith, below)); elsewhere = λ s other. refl };
  grows = grows_none (IsPlaced span at list) old.candidates;
  time = none_passes old.clock (WithTold old.told (MixesInRing span at list old.candidates));
  barriers = refl;
  same = record { tells = refl; tells_left = refl; names = refl; sectors = refl };
  sink = record { told = refl; faults = refl };
  faults = omega arith;
}

-- one more in its place
put_one : (span : Span) (at : ℕ) (list : Content) (k : ℕ) (old now : Content) → IsSpan span → InBuffer span at → at % 512 ≡ 0 → 512 * k + 512 ≤ span.size - 512 → sector_after span at k < length old
    → PutsFront span at list k old now → PutsFront span at list (k + 1) old (set now (sector_after span at k) (sector list k))
put_one span at list k old now is from whole below inside so_far =
    let place = sector_after span at k in
    record {
      size = length-set now place (sector list k) ∙ so_far.size;
      there = λ j before. elim (cases_lt j k) [
        | inl earlier ↦ get_or-set_other now place (sector_after span at j) (sector list k) [] (apart span at j k is from whole earlier below) ∙ so_far.there j earlier
        | inr last_one ↦
            let here : j ≡ k = omega (arith, before, last_one) in
            ap (λ n. sector (set now place (sector list k)) (sector_after span at n)) here ∙ get_or-set_same now place (sector list k) [] (omega (arith, inside, so_far.size)) ∙ ap (sector list) (sym here)
      ];
      elsewhere = λ s other. get_or-set_other now place s (sector list k) [] (other k (omega arith)) ∙ so_far.elsewhere s (λ j before. other j (omega (arith, before)));
    }

-- one sector more
pub wrote_one : (span : Span) (at : ℕ) (list : Content) (k place : ℕ) (old now new : State) → IsDisk old → IsSpan span → IsOnDisk span old.sectors → InBuffer span at → at % 512 ≡ 0 → 512 * length list ≤ span.size - 512 → k < length list
    → place ≡ sector_after span at k → WroteSo span at list old k now → new.candidates ≡ with_candidate now.candidates place (sector list k)
    → new.barriers ≡ now.barriers → SameDisk now new → SameSink now new → TimePasses now.clock new.clock (LeftNow new) → now.faults ≤ new.faults → WroteSo span at list old (k + 1) new
wrote_one span at list k place old now new disk is fits from whole room inside here so_far adds barriers same sink time faults =
    let added : new.candidates ≡ with_candidate now.candidates (sector_after span at k) (sector list k) = adds ∙ ap (λ n. with_candidate now.candidates n (sector list k)) here in
    let grows : GrowsInRing span at list old.candidates new.candidates = grows_maybe (IsPlaced span at list) old.candidates now.candidates new.candidates (sector_after span at k) (sector list k) so_far.grows (k, inside, refl, refl) (inr (inl added)) in
    record {
      puts = λ tells.
          subst (PutsFront span at list (k + 1) (content old)) (sym (ap content_of added ∙ content_of-with_candidate now.candidates (sector_after span at k) (sector list k)))
          (put_one span at list k (content old) (content now) is from whole (omega (arith, room, inside))
          (omega (arith, on_disk span at k old.sectors is from whole (omega (arith, room, inside)) fits, disk.size tells, length-map old.candidates last)) (so_far.puts tells));
      grows = grows;
      time = time_after (IsPlaced span at list) old now new so_far.time so_far.sink sink grows time;
      barriers = barriers ∙ so_far.barriers;
      same = same_after old now new so_far.same same;
      sink = sink_after old now new so_far.sink sink;
      faults = omega (arith, so_far.faults, faults);
    }

-- a write failed
pub unsure_grows : (span : Span) (at : ℕ) (list : Content) (k : ℕ) (old now new : State) → k < length list → WroteSo span at list old k now → MayHaveWritten now.candidates (sector_after span at k) (sector list k) new.candidates → GrowsInRing span at list old.candidates new.candidates
unsure_grows span at list k old now new inside so_far unsure =
    grows_maybe (IsPlaced span at list) old.candidates now.candidates new.candidates (sector_after span at k) (sector list k) so_far.grows (k, inside, refl, refl) unsure

-- and so it leaves mixtures
pub wrote_leaves : (span : Span) (at : ℕ) (list : Content) (k : ℕ) (old now new : State) → WroteSo span at list old k now → SameSink now new → GrowsInRing span at list old.candidates new.candidates → TimePasses now.clock new.clock (LeftNow new)
    → CrashesLeave old new (MixesInRing span at list old.candidates)
wrote_leaves span at list k old now new so_far sink grows time = leaves_after (IsPlaced span at list) old now new so_far.time so_far.sink sink grows time

pub wrote_all : (span : Span) (at : ℕ) (list : Content) (k : ℕ) (old now : State) → WroteSo span at list old k now → CrashesLeave old now (MixesInRing span at list old.candidates)
wrote_all span at list k old now so_far = record { time = so_far.time; now = λ image is. image_mixes (IsPlaced span at list) old.candidates now.candidates image so_far.grows is }

-- the whole list stands in the ring
pub puts_all : (span : Span) (at : ℕ) (list : Content) (k : ℕ) (old new : Content) → k ≡ length list → PutsFront span at list k old new → PutsInRing span at list old new
puts_all span at list k old new all so_far = record {
  size = so_far.size;
  there = λ j below. so_far.there j (omega (arith, below, all));
  elsewhere = λ s other. so_far.elsewhere s (λ j below. other j (omega (arith, below, all)));
}

-- a value that stands in the list was written
pub written_value : (now new : Candidates) (place k : ℕ) (value : List ℕ) (list : Content) → value ≡ sector list k → new ≡ with_candidate now place value → new ≡ with_candidate now place (sector list k)
written_value now new place k value list is written = written ∙ ap (with_candidate now place) is

-- or may have been
pub unsure_value : (now new : Candidates) (place there k : ℕ) (value : List ℕ) (list : Content) → value ≡ sector list k → place ≡ there → MayHaveWritten now place value new → MayHaveWritten now there (sector list k) new
unsure_value now new place there k value list is here unsure =
    subst (λ n. MayHaveWritten now n (sector list k) new) here (subst (λ (v : List ℕ). MayHaveWritten now place v new) is unsure)

-- one sector more of a list is whole
pub whole_more : (list : Content) (k : ℕ) (value : List ℕ) → value ≡ sector list k → length value ≡ 512 → ((j : ℕ) → j < k → length (sector list j) ≡ 512) → (j : ℕ) → j < k + 1 → length (sector list j) ≡ 512
whole_more list k value is long before j below = elim (cases_lt j k) [
  | inl earlier ↦ before j earlier
  | inr last_one ↦ let here : j ≡ k = omega (arith, below, last_one) in ap (λ n. length (sector list n)) here ∙ ap (λ (v : List ℕ). length v) (sym is) ∙ long
]
