-- Sectors that are written again.
use Rattle.std.proofs.Common.{◌≡◌, ◌<◌, ◌+◌, ℕ, List, [], ◌∷◌, ◌++◌, Result, Ok, Err, OnOk, OnErr, IsTrue, Contains, inl, inr, ⊎_elim, length, length-set, length-append, refl, sym, ◌∙◌, ap, subst, arith, add-one}
use Rattle.std.proofs.Math.Seq.{map-set_same}
use Rattle.std.proofs.lemmas.List.{get_or-map, get_or-set_same, length-map}
use Rattle.sector_disk.specs.Lists.{Content, last, sector}
use Rattle.sector_disk.specs.Clock.{TimePasses, WithTold}
use Rattle.sector_disk.specs.Disk.{Candidates, IsDisk, IsImage, LeftNow, MayHaveWritten, SameSink, State, candidates_of, content, content_of, with_candidate}
use Rattle.sector_disk.proofs.Candidates.{Contains-last, last-push, with_candidate-each}
use Rattle.sector_disk.proofs.Passing.{both_pass, none_passes}
use Rattle.sector_disk.proofs.Stages.{leaves_both}
use Rattle.jnl_ring.specs.Span.{sector_after}
use Rattle.jnl_ring.specs.declared.span.Span.{Span}
use Rattle.sector_disk.specs.Disk.{OnlyReads}
use Rattle.jnl_replay.specs.Repeating.{Repeats, repeat_at, repeat_ring}

-- the same values, and the same content
pub record SameValues (old new : Candidates) : Type 0 where
  pub size : length new ≡ length old
  pub content : content_of new ≡ content_of old
  pub each : (at : ℕ) (value : List ℕ) → Contains (candidates_of new at) value → Contains (candidates_of old at) value

pub values_none : (d : Candidates) → SameValues d d
values_none d = record { size = refl; content = refl; each = λ at value there. there }

values_both : (old mid new : Candidates) → SameValues old mid → SameValues mid new → SameValues old new
values_both old mid new a b = record { size = b.size ∙ a.size; content = b.content ∙ a.content; each = λ at value there. a.each at value (b.each at value there) }

pub values_at : (d : Candidates) (at : ℕ) → 0 < length (candidates_of d at) → SameValues d (repeat_at d at)
values_at d at some = record {
  size = length-set d at (candidates_of d at ++ last (candidates_of d at) ∷ []);
  content = map-set_same last d at (candidates_of d at ++ last (candidates_of d at) ∷ []) [] (last-push (candidates_of d at) (last (candidates_of d at)));
  each = λ s v there. ⊎_elim (λ was. was)
      (λ is. subst (λ k. Contains (candidates_of d k) v) (sym is.0) (subst (λ (w : List ℕ). Contains (candidates_of d at) w) (sym is.1) (Contains-last (candidates_of d at) some)))
      (with_candidate-each d at (last (candidates_of d at)) s v there);
}

-- the last candidate is what reads give
pub last_read : (d : Candidates) (at : ℕ) → at < length d → sector (content_of d) at ≡ last (candidates_of d at)
last_read d at inside = get_or-map last d at [] [] inside

pub last_again : (d : Candidates) (at : ℕ) → at < length d → 0 < length (candidates_of d at) → last (candidates_of (repeat_at d at) at) ≡ last (candidates_of d at)
last_again d at inside some =
    let v = values_at d at some in
    sym (last_read (repeat_at d at) at (omega (arith, inside, v.size))) ∙ ap (λ (c : Content). sector c at) v.content ∙ last_read d at inside

some_again : (d : Candidates) (at : ℕ) → at < length d → 0 < length (candidates_of (repeat_at d at) at)
some_again d at inside =
    let all = candidates_of d at ++ last (candidates_of d at) ∷ [] in
    omega (arith, ap (λ (l : List (List ℕ)). length l) (get_or-set_same d at all [] inside), length-append (candidates_of d at) (last (candidates_of d at) ∷ []))

image_again : (old new : Candidates) (image : Content) → SameValues old new → IsImage new image → IsImage old image
image_again old new image same is = record { size = is.size ∙ same.size; each = λ at inside. same.each at (sector image at) (is.each at (omega (arith, inside, same.size))) }

-- a read, and then a write of what was read
module _ (s0 s1 s2 : State) (at : ℕ) (read : List ℕ) (disk : IsDisk s0) (inside : at < s0.sectors) (tells : IsTrue s0.tells) (reads : OnlyReads s0 s1) (value : read ≡ sector (content s0) at) where
  here : at < length s0.candidates
  here = omega (arith, inside, disk.size tells)

  some : 0 < length (candidates_of s0.candidates at)
  some = disk.each at here

  is_last : read ≡ last (candidates_of s0.candidates at)
  is_last = value ∙ last_read s0.candidates at here

  pub repeated_at : with_candidate s1.candidates at read ≡ repeat_at s0.candidates at
  repeated_at = ap (λ (d : Candidates). with_candidate d at read) reads.candidates ∙ ap (λ (v : List ℕ). with_candidate s0.candidates at v) is_last

  maybe : (new : Candidates) → MayHaveWritten s0.candidates at (last (candidates_of s0.candidates at)) new → SameValues s0.candidates new
  maybe new (inl none) = subst (SameValues s0.candidates) (sym none) (values_none s0.candidates)
  maybe new (inr (inl one)) = subst (SameValues s0.candidates) (sym one) (values_at s0.candidates at some)
  maybe new (inr (inr two)) =
      let d = s0.candidates in
      let once = repeat_at d at in
      let v = values_at d at some in
      let still = last_again d at here some in
      let again : SameValues once (repeat_at once at) = values_at once at (some_again d at here) in
      let is : new ≡ repeat_at once at = two.1 ∙ ap (λ (w : List ℕ). with_candidate once at w) (sym still) in
      subst (SameValues d) (sym is) (values_both d once (repeat_at once at) v again)

  pub values_written : {T E : Type 0} (result : Result T E) → OnOk result (s2.candidates ≡ with_candidate s1.candidates at read) → OnErr result (MayHaveWritten s1.candidates at read s2.candidates) → SameValues s0.candidates s2.candidates
  values_written (Ok x) wrote failed = subst (SameValues s0.candidates) (sym (wrote ∙ repeated_at)) (values_at s0.candidates at some)
  values_written (Err e) wrote failed =
      maybe s2.candidates (subst (λ (v : List ℕ). MayHaveWritten s0.candidates at v s2.candidates) is_last (subst (λ (d : Candidates). MayHaveWritten d at read s2.candidates) reads.candidates failed))

-- reads, and then a call that leaves the values
pub repeats_of : (s0 s1 s2 : State) → OnlyReads s0 s1 → TimePasses s1.clock s2.clock (LeftNow s2) → SameSink s1 s2 → SameValues s0.candidates s2.candidates → Repeats s0 s2
repeats_of s0 s1 s2 reads time sink same = record {
  size = same.size;
  content = same.content;
  each = same.each;
  crash = record {
    time = both_pass s0.clock s1.clock s2.clock (LeftNow s1) (LeftNow s2) (WithTold s0.told (IsImage s0.candidates)) reads.time time
        (λ image told a. (subst (λ (d : Candidates). IsImage d image) reads.candidates a.0, a.1 ∙ reads.sink.told))
        (λ image told a. (image_again s0.candidates s2.candidates image same a.0, a.1 ∙ sink.told ∙ reads.sink.told));
    now = λ image is. image_again s0.candidates s2.candidates image same is;
  };
}

pub repeats_read : (s0 s1 : State) → OnlyReads s0 s1 → Repeats s0 s1
repeats_read s0 s1 reads = repeats_of s0 s1 s1 reads (none_passes s1.clock (LeftNow s1)) (record { told = refl; faults = refl }) (subst (SameValues s0.candidates) (sym reads.candidates) (values_none s0.candidates))

pub repeats_none : (s : State) → Repeats s s
repeats_none s = record { size = refl; content = refl; each = λ at value there. there; crash = record { time = none_passes s.clock (WithTold s.told (IsImage s.candidates)); now = λ image is. is } }

pub repeats_both : (s0 s1 s2 : State) → SameSink s0 s1 → Repeats s0 s1 → Repeats s1 s2 → Repeats s0 s2
repeats_both s0 s1 s2 sink a b = record {
  size = b.size ∙ a.size;
  content = b.content ∙ a.content;
  each = λ at value there. a.each at value (b.each at value there);
  crash = leaves_both s0 s1 s2 (IsImage s0.candidates) (IsImage s1.candidates) (IsImage s0.candidates) a.crash sink b.crash (λ image is. is)
      (λ image is. image_again s0.candidates s1.candidates image (record { size = a.size; content = a.content; each = a.each }) is);
}

-- what reads give is what a crash may leave
pub newest : (s : State) → IsDisk s → IsImage s.candidates (content s)
newest s disk = record {
  size = length-map s.candidates last;
  each = λ at inside. subst (λ (v : List ℕ). Contains (candidates_of s.candidates at) v) (sym (last_read s.candidates at inside)) (Contains-last (candidates_of s.candidates at) (disk.each at inside));
}

-- one sector more of the ring
pub ring_more : (d : Candidates) (span : Span) (at k : ℕ) → repeat_ring d span at (k + 1) ≡ repeat_at (repeat_ring d span at k) (sector_after span at k)
unfolding repeat_ring
ring_more d span at k = ap (λ n. repeat_ring d span at n) (add-one k)
