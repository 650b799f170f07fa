-- What the layers above need of the ring: its text where it is read, where a list was written behind it, and in a crash.
use Rattle.std.proofs.Common.{◌≡◌, ◌≢◌, ◌⊎◌, ◌<◌, ◌≤◌, ◌+◌, ◌-◌, ◌*◌, ◌/◌, ◌%◌, ℕ, List, [], ◌∷◌, ◌++◌, Contains, Result, Ok, Err, OnOk, OnErr, inl, inr, ⊎_elim, length, get_or, take, drop, sym, ◌∙◌, ap, subst, arith, length-drop, length-take-le}
use Rattle.std.proofs.lemmas.Bool.{cases_lt}
use Rattle.std.proofs.lemmas.List.{ext_get_or, get_or-take, get_or-drop, get_or-map, get_or_past, length-map, take_all, take_at, take-append-drop, take-take}
use Rattle.std.proofs.lemmas.List.Elements.{Contains-push_cases}
use Rattle.std.specs.List.{concat}
use Rattle.sector_disk.specs.Lists.{Content, last, sector}
use Rattle.sector_disk.specs.Clock.{TimePasses}
use Rattle.sector_disk.specs.Disk.{State, Candidates, IsDisk, IsImage, CrashesLeave, LeftNow, SameSink, candidates_of, content, only}
use Rattle.sector_disk.proofs.Candidates.{settled-each}
use Rattle.sector_disk.proofs.Passing.{both_pass}
use Rattle.jnl_format.specs.Ring.{bytes_from, distance, offset_after, ring_text}
use Rattle.jnl_ring.specs.Span.{InBuffer, IsSpan, sector_after}
use Rattle.jnl_ring.specs.Writing.{MixesInRing, PutsInRing}
use Rattle.jnl_ring.specs.declared.span.Span.{Span}
use Rattle.jnl_ring.proofs.Bytes.{HasJournal, length-concat, length-journal}
use Rattle.jnl_ring.specs.Whole.{AreWhole}
use Rattle.jnl_ring.proofs.Placing.{apart, whole_offset}
use Rattle.jnl_ring.proofs.Texts.{journal_in, ring_byte, text_put}
use Rattle.jnl_ring.proofs.Wrap.{byte_from, distance_after, distance_reaches, distance_short, distance_whole, length-from, offset_after_header, offset_inside, offset_sum}

-- the bytes from an offset on are those of the text from its place there
pub text_read : (journal : List ℕ) (size start end place count : ℕ) → length journal ≡ size → 512 ≤ start → start < size → 512 ≤ end → end < size → place + count ≤ distance size start end
    → take count (bytes_from journal (offset_after size start place)) ≡ take count (drop place (take (distance size start end) (bytes_from journal start)))
text_read journal size start end place count long after inside end_after end_inside short =
    let short_round = distance_short size start end after end_after inside end_inside in
    let far : offset_after size start place < size = offset_inside size start place after inside (omega (arith, short, short_round)) in
    let header : 512 ≤ offset_after size start place = offset_after_header size start place after in
    let there = bytes_from journal (offset_after size start place) in
    let round = bytes_from journal start in
    let text = take (distance size start end) round in
    let there_long : length there ≡ size - 512 = length-from journal size (offset_after size start place) long header far in
    let text_long : length text ≡ distance size start end = length-take-le (distance size start end) round (omega (arith, short_round, length-from journal size start long after inside)) in
    let one : length (take count there) ≡ count = length-take-le count there (omega (arith, there_long, short, short_round)) in
    ext_get_or 0 (take count there) (take count (drop place text)) (one ∙ sym (length-take-le count (drop place text) (omega (arith, text_long, short, length-drop place text))))
    (λ j below.
    let less : j < count = omega (arith, below, one) in
    get_or-take count there j 0 less ∙ byte_from journal size (offset_after size start place) j long header far (omega (arith, less, short, short_round))
    ∙ ap (λ n. get_or journal n 0) (offset_sum size start place j after inside (omega (arith, less, short, short_round)))
    ∙ sym (byte_from journal size start (place + j) long after inside (omega (arith, less, short, short_round)))
    ∙ sym (get_or-take (distance size start end) round (place + j) 0 (omega (arith, less, short))) ∙ sym (get_or-drop place text j 0) ∙ sym (get_or-take count (drop place text) j 0 less))

-- two contents are alike in each sector but those of a list that is written from an offset on
abbrev pub AlikeElsewhere : Span → ℕ → ℕ → Content → Content → Type 0
AlikeElsewhere span at count old new = (s : ℕ) → ((k : ℕ) → k < count → s ≢ sector_after span at k) → sector new s ≡ sector old s

-- the first bytes of the ring from `start` on lie before a list that is written behind them
byte_kept : (span : Span) (start count before : ℕ) (old new : Content) → IsSpan span → HasJournal span.base span.size old → HasJournal span.base span.size new → InBuffer span start → start % 512 ≡ 0 → before % 512 ≡ 0 → before + 512 * count ≤ span.size - 512
    → AlikeElsewhere span (offset_after span.size start before) count old new → (j : ℕ) → j < before → get_or (bytes_from (journal_in new span) start) j 0 ≡ get_or (bytes_from (journal_in old span) start) j 0
byte_kept span start count before old new is had has from whole even room alike j below =
    let steps : 512 * (before / 512) ≡ before = omega (arith, even) in
    let here = j / 512 in
    ring_byte span new start j is has from whole (omega (arith, below, room))
    ∙ ap (λ (v : List ℕ). get_or v (j % 512) 0)
    (alike (sector_after span start here)
    (λ k less same. apart span start here (before / 512 + k) is from whole (omega (arith, below, even)) (omega (arith, less, room, even))
    (same ∙ ap (λ n. span.base + n / 512) (offset_sum span.size start before (512 * k) from.after_header from.inside (omega (arith, less, room)) ∙ ap (offset_after span.size start) (omega (arith, steps))))))
    ∙ sym (ring_byte span old start j is had from whole (omega (arith, below, room)))

-- the text is kept where a list is written behind it
pub text_kept : (span : Span) (start end count : ℕ) (old new : Content) → IsSpan span → HasJournal span.base span.size old → HasJournal span.base span.size new → InBuffer span start → InBuffer span end → start % 512 ≡ 0 → end % 512 ≡ 0
    → distance span.size start end + 512 * count ≤ span.size - 512 → AlikeElsewhere span end count old new → ring_text new span.base span.size start end ≡ ring_text old span.base span.size start end
text_kept span start end count old new is had has from to whole end_whole room alike =
    let before = distance span.size start end in
    let reached : offset_after span.size start before ≡ end = distance_reaches span.size start end to.after_header from.inside to.inside in
    let long : length (bytes_from (journal_in old span) start) ≡ span.size - 512 = length-from (journal_in old span) span.size start (length-journal span.base span.size old had) from.after_header from.inside in
    let long_new : length (bytes_from (journal_in new span) start) ≡ span.size - 512 = length-from (journal_in new span) span.size start (length-journal span.base span.size new has) from.after_header from.inside in
    let one : length (take before (bytes_from (journal_in new span) start)) ≡ before = length-take-le before (bytes_from (journal_in new span) start) (omega (arith, long_new, room)) in
    ext_get_or 0 (take before (bytes_from (journal_in new span) start)) (take before (bytes_from (journal_in old span) start)) (one ∙ sym (length-take-le before (bytes_from (journal_in old span) start) (omega (arith, long, room))))
    (λ j below.
    let less : j < before = omega (arith, below, one) in
    get_or-take before (bytes_from (journal_in new span) start) j 0 less
    ∙ byte_kept span start count before old new is had has from whole (distance_whole span.size start end is.whole whole end_whole to.after_header from.inside) room (subst (λ n. AlikeElsewhere span n count old new) (sym reached) alike) j less
    ∙ sym (get_or-take before (bytes_from (journal_in old span) start) j 0 less))

-- a list that is written behind the text is appended to it
pub text_appended : (span : Span) (start end : ℕ) (list old new : Content) → IsSpan span → HasJournal span.base span.size old → HasJournal span.base span.size new → InBuffer span start → InBuffer span end → start % 512 ≡ 0 → end % 512 ≡ 0 → AreWhole list
    → distance span.size start end + 512 * length list < span.size - 512 → PutsInRing span end list old new
    → ring_text new span.base span.size start (offset_after span.size end (512 * length list)) ≡ ring_text old span.base span.size start end ++ concat list
text_appended span start end list old new is had has from to whole end_whole good room puts =
    let before = distance span.size start end in
    let more = 512 * length list in
    let final = offset_after span.size end more in
    let round = bytes_from (journal_in new span) start in
    let text = ring_text new span.base span.size start final in
    let long : length (journal_in new span) ≡ span.size = length-journal span.base span.size new has in
    let reached : offset_after span.size start before ≡ end = distance_reaches span.size start end to.after_header from.inside to.inside in
    let there : final ≡ offset_after span.size start (before + more) = ap (λ n. offset_after span.size n more) (sym reached) ∙ offset_sum span.size start before more from.after_header from.inside (omega (arith, room)) in
    let total : distance span.size start final ≡ before + more = ap (distance span.size start) there ∙ distance_after span.size start (before + more) from.after_header from.inside room in
    let size : length text ≡ before + more = length-take-le (distance span.size start final) round (omega (arith, total, room, length-from (journal_in new span) span.size start long from.after_header from.inside)) ∙ total in
    let front : take before text ≡ ring_text old span.base span.size start end =
    take-take before (distance span.size start final) round (omega (arith, total))
    ∙ text_kept span start end (length list) old new is had has from to whole end_whole (omega (arith, room)) (λ s other. puts.elsewhere s other) in
    let behind : drop before text ≡ concat list =
    sym (take_all more (drop before text) (omega (arith, size, length-drop before text)))
    ∙ sym (text_read (journal_in new span) span.size start final before more long from.after_header from.inside
    (offset_after_header span.size end more to.after_header) (offset_inside span.size end more to.after_header to.inside (omega (arith, room))) (omega (arith, total)))
    ∙ ap (λ n. take more (bytes_from (journal_in new span) n)) reached
    ∙ ap (take more) (text_put span end list old new is had has to end_whole (omega (arith, room)) good puts)
    ∙ take_at (concat list) (drop more (bytes_from (journal_in old span) end)) more (length-concat list good) in
    sym (take-append-drop before text) ∙ ap (λ (l : List ℕ). l ++ drop before text) front ∙ ap (λ (l : List ℕ). ring_text old span.base span.size start end ++ l) behind

-- the sectors of a list lie in the journal, behind its header
pub in_journal : (span : Span) (at k : ℕ) → IsSpan span → InBuffer span at → at % 512 ≡ 0 → 512 * k ≤ span.size - 512 → (span.base < sector_after span at k) × (sector_after span at k < span.base + span.size / 512)
in_journal span at k is from whole below =
    let there = whole_offset span at k is from whole below in
    (omega (arith, there.after_header), omega (arith, there.inside, there.whole, is.whole))

-- a sector outside the journal's buffer isn't one of them
pub outside : (span : Span) (at count s : ℕ) → IsSpan span → InBuffer span at → at % 512 ≡ 0 → 512 * count ≤ span.size - 512 → (s ≤ span.base) ⊎ (span.base + span.size / 512 ≤ s) → (k : ℕ) → k < count → s ≢ sector_after span at k
outside span at count s is from whole room apart_from k less same =
    let there = in_journal span at k is from whole (omega (arith, room, less)) in
    ⊎_elim (λ before. absurd (omega (arith, before, same, there.0))) (λ behind. absurd (omega (arith, behind, same, there.1))) apart_from

-- where nothing was pending, an image is the content but in the sectors of the list
pub mixes_elsewhere : (span : Span) (at : ℕ) (list : Content) (c image : Content) → MixesInRing span at list (only c) image → AlikeElsewhere span at (length list) c image
mixes_elsewhere span at list c image mixes s other = elim (cases_lt s (length c)) [
  | inl inside ↦
      let one : candidates_of (only c) s ≡ sector c s ∷ [] = get_or-map (λ (v : List ℕ). v ∷ []) c s [] [] inside in
      ⊎_elim
      (λ was. ⊎_elim (λ none. absurd (omega (arith, none.1))) (λ is. sym is) (Contains-push_cases [] (sector c s) (sector image s) (subst (λ (l : List (List ℕ)). Contains l (sector image s)) one was)))
      (λ placed. absurd (other placed.0 placed.1 placed.2))
      (mixes.each s (omega (arith, inside, length-map c (λ (v : List ℕ). v ∷ []))))
  | inr past ↦ get_or_past image s [] (omega (arith, past, mixes.size, length-map c (λ (v : List ℕ). v ∷ []))) ∙ sym (get_or_past c s [] past)
]

-- a barrier leaves no image that there wasn't before it
pub barrier_image : {T E : Type 0} (result : Result T E) (mid new : State) (image : Content) → IsDisk mid → OnOk result (new.candidates ≡ only (content mid)) → OnErr result (new.candidates ≡ mid.candidates) → IsImage new.candidates image → IsImage mid.candidates image
barrier_image (Ok x) mid new image disk settled failed is =
    let image_of : IsImage (only (content mid)) image = subst (λ (d : Candidates). IsImage d image) settled is in
    let long : length (only (content mid)) ≡ length mid.candidates = length-map (content mid) (λ (v : List ℕ). v ∷ []) ∙ length-map mid.candidates last in
    record {
      size = image_of.size ∙ long;
      each = λ s inside. settled-each mid.candidates disk.each s (sector image s) (image_of.each s (omega (arith, inside, long)));
    }
barrier_image (Err e) mid new image disk settled failed is = subst (λ (d : Candidates). IsImage d image) failed is

-- so what held of each image of writes holds over the barrier behind them
pub barrier_leaves : {T E : Type 0} (result : Result T E) (old mid new : State) (P : Content → Type 0) → IsDisk mid → CrashesLeave old mid P → SameSink old mid → SameSink mid new → OnOk result (new.candidates ≡ only (content mid)) → OnErr result (new.candidates ≡ mid.candidates)
    → TimePasses mid.clock new.clock (LeftNow new) → CrashesLeave old new P
barrier_leaves result old mid new P disk first sink same settled failed time = record {
  time =
      both_pass old.clock mid.clock new.clock _ (LeftNow new) _ first.time time (λ image told p. p)
      (λ image told p. (first.now image (barrier_image result mid new image disk settled failed p.0), p.1 ∙ same.told ∙ sink.told));
  now = λ image is. first.now image (barrier_image result mid new image disk settled failed is);
}

-- an image of whole sectors is one too
pub mixes_has : (span : Span) (at : ℕ) (list : Content) (disk : State) (image : Content) → IsDisk disk → AreWhole list → HasJournal span.base span.size (content disk) → MixesInRing span at list disk.candidates image → HasJournal span.base span.size image
mixes_has span at list disk image is good has mixes = record {
  whole = λ s inside.
      ⊎_elim (λ was. (is.whole s (sector image s) was).size)
      (λ placed. ap length placed.3 ∙ good placed.0 placed.1)
      (mixes.each s (omega (arith, inside, mixes.size)));
  fits = omega (arith, has.fits, mixes.size, length-map disk.candidates last);
  sectors = has.sectors;
}
