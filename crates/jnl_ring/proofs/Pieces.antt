-- A buffer is filled piece by piece.
use Rattle.std.proofs.Common.{◌≡◌, ◌<◌, ◌≤◌, ◌+◌, ◌-◌, ◌/◌, ◌%◌, ℕ, List, [], ◌++◌, IsTrue, inl, inr, length, get_or, take, drop, refl, sym, ◌∙◌, ap, subst, arith, length-append, length-drop, length-take-le}
use Rattle.std.proofs.lemmas.Bool.{cases_lt}
use Rattle.std.specs.List.{between}
use borrow.Rule.Slice.PartMut.{put_mid}
use Rattle.std.proofs.lemmas.List.{append-nil, drop_all, ext_get_or, get_or-take, get_or-drop, get_or_append_left, get_or-append_right}
use Rattle.sector_disk.specs.Lists.{Content, sector}
use Rattle.sector_disk.specs.Clock.{TimePasses, WithTold}
use Rattle.sector_disk.specs.Disk.{State, Candidates, IsDisk, IsImage, CrashesLeave, LeftNow, SameDisk, SameSink, content, content_of}
use Rattle.sector_disk.proofs.Passing.{none_passes, both_pass}
use Rattle.sector_disk.proofs.Writing.{same_after, sink_after}
use Rattle.jnl_format.specs.Ring.{bytes_from, journal_bytes, offset_after}
use Rattle.jnl_ring.specs.Span.{InBuffer, IsOnDisk, IsSpan}
use Rattle.jnl_ring.specs.declared.span.Span.{Span}
use Rattle.jnl_ring.proofs.Bytes.{HasJournal, disk_has, journal_byte, length-journal}
use Rattle.jnl_ring.proofs.Wrap.{byte_from, length-from, offset_steps}

-- the journal's bytes on a disk as it reads
abbrev pub journal_of : State → Span → List ℕ
journal_of disk span = journal_bytes (content disk) span.base span.size

-- what was read of one sector
pub piece_bytes : (base size : ℕ) (content : Content) (offset count : ℕ) (bytes part rest : List ℕ) → HasJournal base size content → offset < size → bytes ≡ sector content (base + offset / 512)
    → part ≡ between (offset % 512) (offset % 512 + count) bytes → offset % 512 + count ≤ 512 → (j : ℕ) → j < count → get_or (part ++ rest) j 0 ≡ get_or (journal_bytes content base size) (offset + j) 0
piece_bytes base size content offset count bytes part rest has inside read copied fits j below =
    let same : part ≡ take count (drop (offset % 512) bytes) = copied ∙ ap (λ n. take n (drop (offset % 512) bytes)) (omega arith) in
    let whole : length bytes ≡ 512 = ap length read ∙ has.whole (base + offset / 512) (omega (arith, inside, has.fits, has.sectors)) in
    let long : length part ≡ count = ap length same ∙ length-take-le count (drop (offset % 512) bytes) (omega (arith, whole, fits, length-drop (offset % 512) bytes)) in
    let here : (offset + j) / 512 ≡ offset / 512 = omega (arith, below, fits) in
    let there : (offset + j) % 512 ≡ offset % 512 + j = omega (arith, below, fits) in
    get_or_append_left part rest 0 j (omega (arith, long, below)) ∙ ap (λ (l : List ℕ). get_or l j 0) same ∙ get_or-take count (drop (offset % 512) bytes) j 0 below
    ∙ get_or-drop (offset % 512) bytes j 0 ∙ ap (λ (l : List ℕ). get_or l (offset % 512 + j) 0) read
    ∙ ap (λ n. get_or (sector content (base + n)) (offset % 512 + j) 0) (sym here) ∙ ap (λ n. get_or (sector content (base + (offset + j) / 512)) n 0) (sym there)
    ∙ sym (journal_byte base size content (offset + j) has (omega (arith, inside, below, fits, has.sectors)))

-- so many bytes were read
pub record ReadSo (span : Span) (at : ℕ) (old now : State) (into : List ℕ) (done : ℕ) : Type 0 where
  pub room : done ≤ length into
  pub bytes : IsTrue old.tells → (j : ℕ) → j < done → get_or into j 0 ≡ get_or (bytes_from (journal_of old span) at) j 0
  pub candidates : now.candidates ≡ old.candidates
  pub time : TimePasses old.clock now.clock (WithTold old.told (IsImage old.candidates))
  pub barriers : now.barriers ≡ old.barriers
  pub same : SameDisk old now
  pub sink : SameSink old now
  pub faults : old.faults ≤ now.faults

pub read_none : (span : Span) (at : ℕ) (old : State) (into : List ℕ) → ReadSo span at old old into 0
read_none span at old into = record {
  room = omega arith;
  bytes = λ tells j below. absurd (omega (arith, below));
  candidates = refl;
  time = none_passes old.clock (WithTold old.told (IsImage old.candidates));
  barriers = refl;
  same = record { tells = refl; tells_left = refl; names = refl; sectors = refl };
  sink = record { told = refl; faults = refl };
  faults = omega arith;
}

-- time goes on over a call that leaves the candidates
pub time_read : (old now new : State) → TimePasses old.clock now.clock (WithTold old.told (IsImage old.candidates)) → now.candidates ≡ old.candidates → SameSink old now → new.candidates ≡ now.candidates → SameSink now new
    → TimePasses now.clock new.clock (LeftNow new) → TimePasses old.clock new.clock (WithTold old.told (IsImage old.candidates))
time_read old now new so_far was before same sink time =
    both_pass old.clock now.clock new.clock _ (LeftNow new) _ so_far time (λ image told p. p)
    (λ image told p. (subst (λ (d : Candidates). IsImage d image) (same ∙ was) p.0, p.1 ∙ sink.told ∙ before.told))

-- one piece more
pub read_more : (span : Span) (at : ℕ) (old now new : State) (into part : List ℕ) (done offset count : ℕ) → IsDisk old → IsSpan span → IsOnDisk span old.sectors → InBuffer span at → ReadSo span at old now into done
    → done + count ≤ length into → length into ≤ span.size - 512 → offset ≡ offset_after span.size at done → offset + count ≤ span.size
    → (IsTrue now.tells → (j : ℕ) → j < count → get_or part j 0 ≡ get_or (journal_of now span) (offset + j) 0)
    → length part ≡ length into - done → new.candidates ≡ now.candidates → new.barriers ≡ now.barriers → SameDisk now new → SameSink now new → TimePasses now.clock new.clock (LeftNow new) → now.faults ≤ new.faults
    → ReadSo span at old new (take done into ++ part) (done + count)
read_more span at old now new into part done offset count disk is fits from so_far room short lies inside bytes long candidates barriers same sink time faults =
    let front : length (take done into) ≡ done = length-take-le done into so_far.room in
    record {
      room = omega (arith, room, front, long, length-append (take done into) part);
      bytes = λ tells j below. elim (cases_lt j done) [
        | inl before ↦ get_or_append_left (take done into) part 0 j (omega (arith, before, front)) ∙ get_or-take done into j 0 before ∙ so_far.bytes tells j before
        | inr behind ↦
            let has : HasJournal span.base span.size (content old) = disk_has old span.base span.size disk tells fits is.whole in
            let journal : journal_of now span ≡ journal_of old span = ap (λ (d : Candidates). journal_bytes (content_of d) span.base span.size) so_far.candidates in
            get_or-append_right (take done into) part done j 0 front behind
            ∙ bytes (subst IsTrue (sym so_far.same.tells) tells) (j - done) (omega (arith, below, behind))
            ∙ ap (λ (l : List ℕ). get_or l (offset + (j - done)) 0) journal
            ∙ ap (λ n. get_or (journal_of old span) n 0) (ap (λ n. n + (j - done)) lies ∙ sym (offset_steps span.size at done (j - done) from.inside (omega (arith, lies, inside, below, behind))) ∙ ap (offset_after span.size at) (omega (arith, behind)))
            ∙ sym (byte_from (journal_of old span) span.size at j (length-journal span.base span.size (content old) has) from.after_header from.inside (omega (arith, below, room, short)))
      ];
      candidates = candidates ∙ so_far.candidates;
      time = time_read old now new so_far.time so_far.candidates so_far.sink candidates sink time;
      barriers = barriers ∙ so_far.barriers;
      same = same_after old now new so_far.same same;
      sink = sink_after old now new so_far.sink sink;
      faults = omega (arith, so_far.faults, faults);
    }

-- all of them
pub read_all : (span : Span) (at : ℕ) (old now : State) (into : List ℕ) (done count : ℕ) → IsDisk old → IsSpan span → IsOnDisk span old.sectors → InBuffer span at → ReadSo span at old now into done → length into ≤ done → length into ≡ count → count ≤ span.size - 512
    → IsTrue old.tells → into ≡ take count (bytes_from (journal_of old span) at)
read_all span at old now into done count disk is fits from so_far all long short tells =
    let has : HasJournal span.base span.size (content old) = disk_has old span.base span.size disk tells fits is.whole in
    let round : length (bytes_from (journal_of old span) at) ≡ span.size - 512 = length-from (journal_of old span) span.size at (length-journal span.base span.size (content old) has) from.after_header from.inside in
    ext_get_or 0 into (take count (bytes_from (journal_of old span) at)) (long ∙ sym (length-take-le count (bytes_from (journal_of old span) at) (omega (arith, round, short))))
    (λ j below. so_far.bytes tells j (omega (arith, below, all)) ∙ sym (get_or-take count (bytes_from (journal_of old span) at) j 0 (omega (arith, below, long))))

-- each crash left an image of the candidates as they were
pub read_leaves : (old now : State) → TimePasses old.clock now.clock (WithTold old.told (IsImage old.candidates)) → now.candidates ≡ old.candidates → CrashesLeave old now (IsImage old.candidates)
read_leaves old now time same = record { time = time; now = λ image is. subst (λ (d : Candidates). IsImage d image) same is }

-- the end of a list was written
pub put_end : (into part : List ℕ) (done : ℕ) → done ≤ length into → put_mid done (length into - done) into part ≡ take done into ++ part
put_end into part done room =
    let none : drop (length into - done) (drop done into) ≡ [] = drop_all (length into - done) (drop done into) (omega (arith, length-drop done into)) in
    ap (λ (l : List ℕ). take done into ++ (part ++ l)) none ∙ ap (λ (l : List ℕ). take done into ++ l) (append-nil part)
