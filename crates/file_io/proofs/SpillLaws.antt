-- What a space is while sectors of a file are made anew.
use Rattle.std.specs.Prelude.{slice_set}
use Rattle.std.proofs.Common.{◌≡◌, ◌≢◌, ◌⊎◌, ℕ, suc, ◌+◌, ◌*◌, ◌/◌, ◌%◌, ◌≤◌, ◌<◌, nat_lt, true, false, IsTrue, List, [], Some, length, get_or, take, slice_get, inl, inr, refl, sym, ◌∙◌, ap, subst, arith, ⊎_elim}
use Rattle.std.proofs.lemmas.Bool.{cases_lt, cases_eq}
use Rattle.std.proofs.lemmas.Bool.Decides.{leb_tells}
use Rattle.std.proofs.lemmas.List.{get_or-set_same, get_or-set_other, length-set}
use Rattle.std.proofs.lemmas.Option.{slice_get-get_or, slice_get_within, get_or_from_slice_get}
use Rattle.sector_disk.specs.Lists.{Content, sector}
use Rattle.sector_disk.specs.Clock.{TimePasses}
use Rattle.sector_disk.specs.Space.{Space, SameSpace, SameRoom, SameSectors, Spills, MayHaveSpilled, AgreesOutside, LeavesDurable}
use Rattle.sector_disk.proofs.Passing.{none_passes, both_pass}
use Rattle.sector_disk.proofs.SpaceLaws.{space_none, space_both, room_both, iff_none, iff_both, time_both}
use Rattle.file_io.specs.Bytes.{sector_bytes, padded, old_byte, new_byte}
use Rattle.file_io.specs.Touching.{IsOneOf, IsOnlyRead, SpillsIn}
use Rattle.file_io.proofs.ByteLaws.{sector_bytes_is}

-- ---- sectors that were spilled
agrees_none : (these : ℕ → Type 0) (content : Content) → AgreesOutside these content content
agrees_none these content = record { size = refl; each = λ at. inl refl }

agrees_both : (these : ℕ → Type 0) (a b c : Content) → AgreesOutside these a b → AgreesOutside these b c → AgreesOutside these a c
agrees_both these a b c p q = record {
  size = q.size ∙ p.size;
  each = λ at. ⊎_elim (λ e. ⊎_elim (λ d. inl (e ∙ d)) (λ t. inr t) (p.each at)) (λ t. inr t) (q.each at);
}

agrees_same : (these : ℕ → Type 0) (a b : Content) → b ≡ a → AgreesOutside these a b
agrees_same these a b is = record { size = ap (λ (l : Content). length l) is; each = λ at. inl (ap (λ (l : Content). sector l at) is) }

agrees_set : (these : ℕ → Type 0) (a b : Content) (at : ℕ) (value : List ℕ) → b ≡ slice_set a at value → these at → AgreesOutside these a b
agrees_set these a b at value is here = record {
  size = ap (λ (l : Content). length l) is ∙ length-set a at value;
  each = λ k. ⊎_elim
      (λ (same : k ≡ at). inr (subst (λ j. these j) (sym same) here))
      (λ (other : k ≢ at). inl (ap (λ (l : Content). sector l k) is ∙ get_or-set_other a at k value [] other))
      (cases_eq k at);
}

agrees_either : (these : ℕ → Type 0) (a b : Content) (at : ℕ) (value : List ℕ) → (b ≡ slice_set a at value) ⊎ (b ≡ a) → these at → AgreesOutside these a b
agrees_either these a b at value is here = ⊎_elim (λ s. agrees_set these a b at value s here) (λ s. agrees_same these a b s) is

pub spills_none : (these : ℕ → Type 0) (space : Space) → SpillsIn these space space
spills_none these space = record {
  content = agrees_none these space.content;
  durable = agrees_none (λ s. these s × space.spilled s) space.durable;
  spilled = λ s p. inl p;
  still = λ s p. p;
  live = λ s. iff_none (space.live s);
  closed = λ s. iff_none (space.closed s);
}

pub spills_both : (these : ℕ → Type 0) (a b c : Space) → SpillsIn these a b → SpillsIn these b c → SpillsIn these a c
spills_both these a b c p q = record {
  content = agrees_both these a.content b.content c.content p.content q.content;
  durable = agrees_both (λ s. these s × c.spilled s) a.durable b.durable c.durable
      (record { size = p.durable.size; each = λ s. ⊎_elim (λ same. inl same) (λ is. inr (is.0, q.still s is.1)) (p.durable.each s) }) q.durable;
  spilled = λ s n. ⊎_elim (λ m. p.spilled s m) (λ t. inr t) (q.spilled s n);
  still = λ s o. q.still s (p.still s o);
  live = λ s. iff_both (a.live s) (b.live s) (c.live s) (p.live s) (q.live s);
  closed = λ s. iff_both (a.closed s) (b.closed s) (c.closed s) (p.closed s) (q.closed s);
}

spills_read : (these : ℕ → Type 0) (a b : Space) → SameSectors a b → SpillsIn these a b
spills_read these a b s = record {
  content = agrees_same these a.content b.content s.content;
  durable = agrees_same (λ k. these k × b.spilled k) a.durable b.durable s.durable;
  spilled = λ k n. inl ((s.spilled k).0 n);
  still = λ k o. (s.spilled k).1 o;
  live = s.live;
  closed = s.closed;
}

spills_one : (these : ℕ → Type 0) (a b : Space) (at : ℕ) (value : List ℕ) → these at → Spills a at value b → SpillsIn these a b
spills_one these a b at value here s = record {
  content = agrees_set these a.content b.content at value s.content here;
  durable = agrees_set (λ k. these k × b.spilled k) a.durable b.durable at value s.durable (here, (s.spilled at).1 (inr refl));
  spilled = λ k n. ⊎_elim (λ o. inl o) (λ same. inr (subst (λ j. these j) (sym same) here)) ((s.spilled k).0 n);
  still = λ k o. (s.spilled k).1 (inl o);
  live = s.live;
  closed = s.closed;
}

spills_maybe : (these : ℕ → Type 0) (a b : Space) (at : ℕ) (value : List ℕ) → these at → MayHaveSpilled a at value b → SpillsIn these a b
spills_maybe these a b at value here s = record {
  content = agrees_either these a.content b.content at value s.content here;
  durable = ⊎_elim
      (λ (set : (b.durable ≡ slice_set a.durable at value) × b.spilled at). agrees_set (λ k. these k × b.spilled k) a.durable b.durable at value set.0 (here, set.1))
      (λ (is : b.durable ≡ a.durable). agrees_same (λ k. these k × b.spilled k) a.durable b.durable is)
      s.durable;
  spilled = λ k n. ⊎_elim (λ o. inl o) (λ same. inr (subst (λ j. these j) (sym same) here)) (s.spilled k n);
  still = s.still;
  live = s.live;
  closed = s.closed;
}

-- what a crash leaves before a spill it leaves after it too
leaves_spilled : (a b : Space) (at : ℕ) (value : List ℕ) (image : Content) (told : List ℕ) → Spills a at value b → b.told ≡ a.told → LeavesDurable a image told → LeavesDurable b image told
leaves_spilled a b at value image told s same l = (
  record {
    size = l.0.size ∙ sym (ap (λ (c : Content). length c) s.durable ∙ length-set a.durable at value);
    each = λ k. ⊎_elim
        (λ (here : k ≡ at). inr (inl ((s.spilled k).1 (inr here))))
        (λ (other : k ≢ at). ⊎_elim
        (λ e. inl (e ∙ sym (ap (λ (c : Content). sector c k) s.durable ∙ get_or-set_other a.durable at k value [] other)))
        (λ these. inr (⊎_elim (λ o. inl ((s.spilled k).1 (inl o))) (λ c. inr ((s.closed k).1 c)) these))
        (l.0.each k))
        (cases_eq k at);
  },
  l.1 ∙ sym same,
)

-- what a crash leaves before a spill that failed it leaves after it too
leaves_unsure : (a b : Space) (at : ℕ) (value : List ℕ) (image : Content) (told : List ℕ) → MayHaveSpilled a at value b → b.told ≡ a.told → LeavesDurable a image told → LeavesDurable b image told
leaves_unsure a b at value image told s same l = (
  ⊎_elim
      (λ (set : (b.durable ≡ slice_set a.durable at value) × b.spilled at). record {
        size = l.0.size ∙ sym (ap (λ (c : Content). length c) set.0 ∙ length-set a.durable at value);
        each = λ k. ⊎_elim
            (λ (here : k ≡ at). inr (inl (subst (λ j. b.spilled j) (sym here) set.1)))
            (λ (other : k ≢ at). ⊎_elim
            (λ e. inl (e ∙ sym (ap (λ (c : Content). sector c k) set.0 ∙ get_or-set_other a.durable at k value [] other)))
            (λ these. inr (⊎_elim (λ o. inl (s.still k o)) (λ c. inr ((s.closed k).1 c)) these))
            (l.0.each k))
            (cases_eq k at);
      })
      (λ (is : b.durable ≡ a.durable). record {
        size = l.0.size ∙ sym (ap (λ (c : Content). length c) is);
        each = λ k. ⊎_elim
            (λ e. inl (e ∙ sym (ap (λ (c : Content). sector c k) is)))
            (λ these. inr (⊎_elim (λ o. inl (s.still k o)) (λ c. inr ((s.closed k).1 c)) these))
            (l.0.each k);
      })
      s.durable,
  l.1 ∙ sym same,
)

-- the same sector has the same bytes
pub same_sector_bytes : (a b : Content) (at : ℕ) → sector b at ≡ sector a at → sector_bytes b at ≡ sector_bytes a at
unfolding sector_bytes
same_sector_bytes a b at is = ap (λ (l : List ℕ). take 512 (padded 512 l)) is

made_place : (fresh : List ℕ) (n i at : ℕ) → i < n → slice_get fresh n ≡ Some at → get_or fresh i 0 ≡ at → slice_get fresh i ≡ Some at
made_place fresh n i at lt place is = slice_get-get_or fresh i 0 (omega (arith, lt, slice_get_within fresh n at place)) ∙ ap (λ s. Some s) is

-- ---- the sectors of a file's fresh blocks from one place up to another are made, and the others are as they were
pub record Made (old now : Space) (from_sectors fresh : List ℕ) (first size from : ℕ) (value : List ℕ) (place n : ℕ) : Type 0 where
  pub same : SameSpace old now
  pub room : SameRoom old now
  pub later : old.faults ≤ now.faults
  pub touches : IsTrue old.tells → SpillsIn (IsOneOf fresh) old now
  pub time : IsTrue old.tells → TimePasses old.clock now.clock (LeavesDurable now)
  pub sizes : IsTrue old.tells → (at : ℕ) → (sector now.content at ≡ sector old.content at) ⊎ (length (sector now.content at) ≡ 512)
  pub bytes : IsTrue old.tells → (m k : ℕ) → place ≤ m → m < n → k < 512 → get_or (sector_bytes now.content (get_or fresh m 0)) k 0 ≡ new_byte old.content from_sectors size from value ((first + m) * 512 + k)
  pub others : IsTrue old.tells → (m : ℕ) → (m < place) ⊎ (n ≤ m) → m < length fresh → sector now.content (get_or fresh m 0) ≡ sector old.content (get_or fresh m 0)

pub made_none : (space : Space) (from_sectors fresh : List ℕ) (first size from : ℕ) (value : List ℕ) (place : ℕ) → Made space space from_sectors fresh first size from value place place
made_none space from_sectors fresh first size from value place = record {
  same = space_none space;
  room = record { put = λ k. refl; spare = refl };
  later = omega arith;
  touches = λ tells. spills_none (IsOneOf fresh) space;
  time = λ tells. none_passes space.clock (LeavesDurable space);
  sizes = λ tells at. inl refl;
  bytes = λ tells m k low lt below. absurd (omega (arith, low, lt));
  others = λ tells m out inside. refl;
}

-- a read keeps what was made
pub made_read : (old now mid : Space) (from_sectors fresh : List ℕ) (first size from : ℕ) (value : List ℕ) (place n : ℕ) → Made old now from_sectors fresh first size from value place n → IsOnlyRead now mid
    → Made old mid from_sectors fresh first size from value place n
made_read old now mid from_sectors fresh first size from value place n m r = record {
  same = space_both old now mid m.same r.same;
  room = room_both old now mid m.room r.room;
  later = omega (arith, m.later, r.later);
  touches = λ tells. spills_both (IsOneOf fresh) old now mid (m.touches tells) (spills_read (IsOneOf fresh) now mid (r.sectors (m.same.tells ∙ tells)));
  time = λ tells. time_both old now mid (r.sectors (m.same.tells ∙ tells)) r.same (m.time tells) (r.time (m.same.tells ∙ tells));
  sizes = λ tells at. let same = ap (λ (c : Content). sector c at) (r.sectors (m.same.tells ∙ tells)).content in ⊎_elim (λ e. inl (same ∙ e)) (λ long. inr (ap (λ (l : List ℕ). length l) same ∙ long)) (m.sizes tells at);
  bytes = λ tells i k low lt below. ap (λ (c : Content). get_or (sector_bytes c (get_or fresh i 0)) k 0) (r.sectors (m.same.tells ∙ tells)).content ∙ m.bytes tells i k low lt below;
  others = λ tells i out inside. ap (λ (c : Content). sector c (get_or fresh i 0)) (r.sectors (m.same.tells ∙ tells)).content ∙ m.others tells i out inside;
}

-- sectors that are none of the fresh ones have the bytes that they had
pub same_old_byte : (old now : Space) (from_sectors fresh : List ℕ) (size q : ℕ) → SpillsIn (IsOneOf fresh) old now → (0 < size → (at : ℕ) → IsOneOf fresh at → IsOneOf from_sectors at → ⊥) → size ≤ length from_sectors * 512
    → old_byte now.content from_sectors size q ≡ old_byte old.content from_sectors size q
same_old_byte old now from_sectors fresh size q s elsewhere holds = ⊎_elim
    (λ (inside : (nat_lt q size ≡ true) × (suc q ≤ size)).
    let there : q / 512 < length from_sectors = omega (arith, inside.1, holds) in
    let at : ℕ = get_or from_sectors (q / 512) 0 in
    let one : IsOneOf from_sectors at = (q / 512, slice_get-get_or from_sectors (q / 512) 0 there) in
    let same : sector now.content at ≡ sector old.content at = ⊎_elim (λ e. e) (λ t. absurd (elsewhere (omega (arith, inside.1)) at t one)) (s.content.each at) in
    rw inside.0 (ap (λ (l : List ℕ). get_or l (q % 512) 0) (same_sector_bytes old.content now.content at same)))
    (λ (past : (nat_lt q size ≡ false) × (size < suc q)). rw past.0 refl)
    (leb_tells (suc q) size)

-- a sector is spilled
pub made_more : (old mid new : Space) (from_sectors fresh : List ℕ) (first size from : ℕ) (value : List ℕ) (place n at : ℕ) (made : List ℕ) → Made old mid from_sectors fresh first size from value place n → place ≤ n → slice_get fresh n ≡ Some at
    → ((i j s : ℕ) → slice_get fresh i ≡ Some s → slice_get fresh j ≡ Some s → i ≡ j) → length made ≡ 512 → (IsTrue mid.tells → at < length mid.content)
    → (IsTrue old.tells → (k : ℕ) → k < 512 → get_or made k 0 ≡ new_byte old.content from_sectors size from value ((first + n) * 512 + k))
    → (IsTrue mid.tells → Spills mid at made new) → (IsTrue mid.tells → TimePasses mid.clock new.clock (LeavesDurable new)) → SameRoom mid new → SameSpace mid new → mid.faults ≤ new.faults
    → Made old new from_sectors fresh first size from value place (n + 1)
made_more old mid new from_sectors fresh first size from value place n at made m low here_at apart long inside right spills time room same later = record {
  same = space_both old mid new m.same same;
  room = room_both old mid new m.room room;
  later = omega (arith, m.later, later);
  touches = λ tells. spills_both (IsOneOf fresh) old mid new (m.touches tells) (spills_one (IsOneOf fresh) mid new at made (n, here_at) (spills (m.same.tells ∙ tells)));
  time = λ tells. let told = m.same.tells ∙ tells in both_pass old.clock mid.clock new.clock (LeavesDurable mid) (LeavesDurable new) (LeavesDurable new) (m.time tells) (time told)
      (λ image bytes l. leaves_spilled mid new at made image bytes (spills told) same.told l) (λ image bytes l. l);
  sizes = λ tells s. let told = m.same.tells ∙ tells in ⊎_elim
      (λ (here : s ≡ at). inr (ap (λ (c : Content). length (sector c s)) (spills told).content ∙ ap (λ j. length (get_or (slice_set mid.content at made) j [])) here ∙ ap (λ (l : List ℕ). length l) (get_or-set_same mid.content at made [] (inside told)) ∙ long))
      (λ (other : s ≢ at).
      let still = ap (λ (c : Content). sector c s) (spills told).content ∙ get_or-set_other mid.content at s made [] other in
      ⊎_elim (λ e. inl (still ∙ e)) (λ is. inr (ap (λ (l : List ℕ). length l) still ∙ is)) (m.sizes tells s))
      (cases_eq s at);
  bytes = λ tells i k least lt below. let told = m.same.tells ∙ tells in let s = spills told in ⊎_elim
      (λ (before : i < n).
      let there : get_or fresh i 0 ≢ at = λ is. absurd (omega (arith, before, apart i n at (made_place fresh n i at before here_at is) here_at)) in
      ap (λ (l : List ℕ). get_or l k 0) (same_sector_bytes mid.content new.content (get_or fresh i 0) (ap (λ (c : Content). sector c (get_or fresh i 0)) s.content ∙ get_or-set_other mid.content at (get_or fresh i 0) made [] there))
      ∙ m.bytes tells i k least before below)
      (λ (here : n ≤ i).
      let same_place : i ≡ n = omega (arith, here, lt) in
      let which : get_or fresh i 0 ≡ at = ap (λ j. get_or fresh j 0) same_place ∙ get_or_from_slice_get fresh n at 0 here_at in
      ap (λ j. get_or (sector_bytes new.content j) k 0) which
      ∙ ap (λ (l : List ℕ). get_or l k 0) (sector_bytes_is new.content at made (ap (λ (c : Content). sector c at) s.content ∙ get_or-set_same mid.content at made [] (inside told)) long)
      ∙ right tells k below ∙ ap (λ j. new_byte old.content from_sectors size from value ((first + j) * 512 + k)) (sym same_place))
      (cases_lt i n);
  others = λ tells i out in_list.
      let s = spills (m.same.tells ∙ tells) in
      let apart_from : get_or fresh i 0 ≢ at = λ is. (let same : i ≡ n = apart i n at (slice_get-get_or fresh i 0 in_list ∙ ap (λ j. Some j) is) here_at in ⊎_elim (λ before. absurd (omega (arith, before, low, same))) (λ behind. absurd (omega (arith, behind, same))) out) in
      ap (λ (c : Content). sector c (get_or fresh i 0)) s.content ∙ get_or-set_other mid.content at (get_or fresh i 0) made [] apart_from
      ∙ m.others tells i (⊎_elim (λ before. inl before) (λ behind. inr (omega (arith, behind))) out) in_list;
}

-- a spill that failed
pub spills_failed : (old mid new : Space) (from_sectors fresh : List ℕ) (first size from : ℕ) (value : List ℕ) (place n at : ℕ) (made : List ℕ) → Made old mid from_sectors fresh first size from value place n → slice_get fresh n ≡ Some at
    → (IsTrue mid.tells → MayHaveSpilled mid at made new) → IsTrue old.tells → SpillsIn (IsOneOf fresh) old new
spills_failed old mid new from_sectors fresh first size from value place n at made m here_at unsure tells =
    spills_both (IsOneOf fresh) old mid new (m.touches tells) (spills_maybe (IsOneOf fresh) mid new at made (n, here_at) (unsure (m.same.tells ∙ tells)))

pub time_failed : (old mid new : Space) (from_sectors fresh : List ℕ) (first size from : ℕ) (value : List ℕ) (place n at : ℕ) (made : List ℕ) → Made old mid from_sectors fresh first size from value place n
    → (IsTrue mid.tells → MayHaveSpilled mid at made new) → (IsTrue mid.tells → TimePasses mid.clock new.clock (LeavesDurable new)) → SameSpace mid new → IsTrue old.tells → TimePasses old.clock new.clock (LeavesDurable new)
time_failed old mid new from_sectors fresh first size from value place n at made m unsure time same tells =
    let told = m.same.tells ∙ tells in
    both_pass old.clock mid.clock new.clock (LeavesDurable mid) (LeavesDurable new) (LeavesDurable new) (m.time tells) (time told)
    (λ image bytes l. leaves_unsure mid new at made image bytes (unsure told) same.told l) (λ image bytes l. l)
