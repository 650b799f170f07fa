-- A walk that writes home after home.
use Rattle.std.proofs.Common.{◌≡◌, ◌⊎◌, ℕ, List, [], ◌∷◌, ◌++◌, Contains, inl, inr, length, take, refl, sym, ◌∙◌, ap, subst, arith, append_assoc}
use Rattle.std.specs.Prelude.{Option, None, Some, MatchOption}
use Rattle.std.proofs.lemmas.List.{append-nil}
use Rattle.std.proofs.lemmas.List.Sums.{fold_push}
use Rattle.sector_disk.specs.Lists.{Content, sector}
use Rattle.sector_disk.specs.Clock.{TimePasses, WithTold}
use Rattle.sector_disk.specs.Disk.{State, Candidates, candidates_of, content, content_of, LeftNow, CrashesLeave, SameSink}
use Rattle.sector_disk.proofs.Passing.{both_pass, none_passes}
use Rattle.jnl_format.specs.Ring.{journal_bytes, bytes_from}
use Rattle.jnl_format.specs.Text.{bad_list_as, are_blocks, block_bytes, sector_homes, entry_homes, text_homes}
use Rattle.jnl_format.specs.Recovery.{with_home, with_homes}
use Rattle.jnl_format.specs.declared.dialect.Dialect.TheVariants.{Wide}
use Rattle.jnl_format.specs.declared.blocks.Home.{Home}
use Rattle.jnl_format.specs.declared.blocks.Volume.{Volume}
use Rattle.jnl_format.specs.Named.{IsGoodHome, Each}
use Rattle.jnl_format.proofs.Alike.{never_own, not_home}
use Rattle.jnl_format.proofs.Lists.{good_text_as}
use Rattle.jnl_format.proofs.Mixing.{mixes_with_homes, same_journal}
use Rattle.jnl_format.specs.Named.{IsHomeOf}
use Rattle.jnl_replay.specs.Homing.{AreHomesOf, GrowsHomes, IsHomeMix}
use Rattle.jnl_replay.specs.Pending.{Pending, Gives}
use Rattle.sector_disk.specs.Disk.{OnlyReads}
use Rattle.jnl_replay.specs.Text.{words}
use Rattle.jnl_replay.specs.declared.homes.Homes.{Homes}
use Rattle.jnl_replay.specs.declared.text.Text.{Text}
use Rattle.sector_disk.proofs.Candidates.{grows_none, grows_both, image_mixes}

mix_cases : (bytes : List ℕ) (homes more : List Home) (old : Candidates) (at : ℕ) (value : List ℕ) → (Contains (candidates_of old at) value ⊎ IsHomeOf bytes homes at value) ⊎ IsHomeOf bytes more at value
    → (IsHomeOf bytes more at value → IsHomeOf bytes homes at value) → Contains (candidates_of old at) value ⊎ IsHomeOf bytes homes at value
mix_cases bytes homes more old at value (inl a) within_all = a
mix_cases bytes homes more old at value (inr b) within_all = inr (within_all b)

mix_both : (bytes : List ℕ) (homes more : List Home) (old now : Candidates) (image : Content) → GrowsHomes bytes homes old now → IsHomeMix bytes more now image
    → ((at : ℕ) (value : List ℕ) → IsHomeOf bytes more at value → IsHomeOf bytes homes at value) → IsHomeMix bytes homes old image
mix_both bytes homes more old now image g m within_all = record {
  size = m.size ∙ g.size;
  each = λ at inside. mix_cases bytes homes more old at (sector image at)
      (elim (m.each at (omega (arith, inside, g.size))) [ inl a ↦ inl (g.each at (sector image at) a) | inr b ↦ inr b ]) (within_all at (sector image at));
}

-- some homes are written, and the others are still to come
pub record Homed (volume : Volume) (bytes : List ℕ) (c : Homes) (homes : List Home) (old now : State) : Type 0 where
  pub done : List Home
  pub rest : List Home
  pub split : homes ≡ done ++ rest
  pub pending : Pending volume bytes c rest
  pub content : content now ≡ with_homes bytes done (content old)
  pub grows : GrowsHomes bytes homes old.candidates now.candidates
  pub time : TimePasses old.clock now.clock (WithTold old.told (IsHomeMix bytes homes old.candidates))

pub all_good : (total : ℕ) (text : Text) (bytes : List ℕ) (volume : Volume) (homes : List Home) → AreHomesOf total text bytes volume homes → Each (IsGoodHome volume bytes) homes
all_good total text bytes volume homes a =
    subst (Each (IsGoodHome volume bytes)) (sym a.homes_are) (good_text_as Wide volume text.order text.blhdr bytes (length bytes) 0 a.good)

each_front : (P : Home → Type 0) (hs gs : List Home) → Each P (hs ++ gs) → Each P hs
each_front P [] gs a = tt
each_front P (h ∷ hs) gs a = (a.0, each_front P hs gs a.1)

pub start_pending : (total : ℕ) (text : Text) (bytes : List ℕ) (volume : Volume) (homes : List Home) (c : Homes) → AreHomesOf total text bytes volume homes → c.text ≡ text → c.sectors ≡ total
    → (c.list ≡ 0) × (c.entry ≡ 0) × (c.entries ≡ 0) × (c.body ≡ 0) × (c.place ≡ 0) × (c.count ≡ 0) × (c.reached ≡ 0) → Pending volume bytes c homes
start_pending total text bytes volume homes c a is size z =
    let entries = z.2 in
    let order = c.text.order in
    record {
      sectors = size ∙ sym a.sectors;
      lists = length bytes;
      enough = omega (arith, z.0);
      good = ap (λ k. bad_list_as Wide volume order c.text.blhdr bytes (length bytes) k) z.0 ∙ ap (λ (t : Text). bad_list_as Wide volume t.order t.blhdr bytes (length bytes) 0) is ∙ a.good;
      blocks = ap (λ k. are_blocks volume order bytes c.entry c.body k) entries;
      bodies = omega (arith, z.0, z.3, ap (λ k. block_bytes order bytes c.entry k) entries);
      inside = omega (arith, z.0);
      heads = omega (arith, z.1, z.2);
      here = omega (arith, z.4, z.5);
      behind = omega (arith, z.6);
      all = all_good total text bytes volume homes a;
      homes_are =
          a.homes_are ∙ ap (λ (t : Text). text_homes t.order t.blhdr bytes (length bytes) 0) (sym is) ∙ ap (λ k. text_homes order c.text.blhdr bytes (length bytes) k) (sym z.0)
          ∙ ap (λ k. entry_homes order bytes c.entry c.body k ++ text_homes order c.text.blhdr bytes (length bytes) c.list) (sym entries)
          ∙ ap (λ k. sector_homes c.sector c.place k ++ (entry_homes order bytes c.entry c.body c.entries ++ text_homes order c.text.blhdr bytes (length bytes) c.list)) (sym z.5);
    }

pub homed_start : (total : ℕ) (text : Text) (bytes : List ℕ) (volume : Volume) (homes : List Home) (c : Homes) (s : State) → AreHomesOf total text bytes volume homes → c.text ≡ text → c.sectors ≡ total
    → (c.list ≡ 0) × (c.entry ≡ 0) × (c.entries ≡ 0) × (c.body ≡ 0) × (c.place ≡ 0) × (c.count ≡ 0) × (c.reached ≡ 0) → Homed volume bytes c homes s s
homed_start total text bytes volume homes c s a is size z =
    record {
      done = [];
      rest = homes;
      split = refl;
      pending = start_pending total text bytes volume homes c a is size z;
      content = refl;
      grows = grows_none (IsHomeOf bytes homes) s.candidates;
      time = none_passes s.clock (WithTold s.told (IsHomeMix bytes homes s.candidates));
    }

-- the journal's text stays readable
pub words_stay : (total : ℕ) (text : Text) (bytes : List ℕ) (volume : Volume) (homes : List Home) (c : Homes) (old now : State) → AreHomesOf total text bytes volume homes → Homed volume bytes c homes old now → words text (content now) ≡ words text (content old)
unfolding words
words_stay total text bytes volume homes c old now a h =
    let all : Each (IsGoodHome volume bytes) h.done = each_front (IsGoodHome volume bytes) h.done h.rest (subst (Each (IsGoodHome volume bytes)) h.split (all_good total text bytes volume homes a)) in
    let m = mixes_with_homes bytes h.done (content old) in
    ap (λ (d : Content). take text.length (bytes_from (journal_bytes d text.span.base text.span.size) text.start)) h.content
    ∙ ap (λ (j : List ℕ). take text.length (bytes_from j text.start))
    (same_journal text.span.base text.span.size (content old) (with_homes bytes h.done (content old)) m.size
    (λ at low high. not_home volume bytes h.done (content old) (with_homes bytes h.done (content old)) at all (λ home good. never_own volume bytes at home (omega (arith, a.first)) (omega (arith, a.first, a.count)) good) (m.each at)))

-- reads change nothing
pub homed_read : (volume : Volume) (bytes : List ℕ) (c : Homes) (homes : List Home) (old now new : State) → Homed volume bytes c homes old now → SameSink old now → OnlyReads now new → Homed volume bytes c homes old new
homed_read volume bytes c homes old now new h sink reads = record {
  done = h.done;
  rest = h.rest;
  split = h.split;
  pending = h.pending;
  content = ap content_of reads.candidates ∙ h.content;
  grows = subst (GrowsHomes bytes homes old.candidates) (sym reads.candidates) h.grows;
  time = both_pass old.clock now.clock new.clock _ (LeftNow new) _ h.time reads.time (λ image told a. a)
      (λ image told a. (image_mixes (IsHomeOf bytes homes) old.candidates new.candidates image (subst (GrowsHomes bytes homes old.candidates) (sym reads.candidates) h.grows) a.0, a.1 ∙ reads.sink.told ∙ sink.told));
}

pub homed_leaves : (volume : Volume) (bytes : List ℕ) (c : Homes) (homes : List Home) (old now : State) → Homed volume bytes c homes old now → CrashesLeave old now (IsHomeMix bytes homes old.candidates)
homed_leaves volume bytes c homes old now h = record { time = h.time; now = λ image is. image_mixes (IsHomeOf bytes homes) old.candidates now.candidates image h.grows is }

within : (bytes : List ℕ) (done rest : List Home) (home : Home) (at : ℕ) (value : List ℕ) → IsHomeOf bytes (home ∷ []) at value → IsHomeOf bytes (done ++ (home ∷ rest)) at value
within bytes [] rest home at value (inl h) = inl h
within bytes [] rest home at value (inr h) = absurd h
within bytes (d ∷ ds) rest home at value h = inr (within bytes ds rest home at value h)

-- a home that comes next is one of all
pub given_home : (bytes : List ℕ) (done rest homes : List Home) (home : Home) → homes ≡ done ++ (home ∷ rest) → (at : ℕ) (value : List ℕ) → IsHomeOf bytes (home ∷ []) at value → IsHomeOf bytes homes at value
given_home bytes done rest homes home is at value h = subst (λ (l : List Home). IsHomeOf bytes l at value) (sym is) (within bytes done rest home at value h)

-- what a walk gives next
pub given_next : (volume : Volume) (bytes now : List ℕ) (old new : Homes) (rest : List Home) (given : Option Home) (home : Home) → now ≡ bytes → given ≡ Some home → Gives now old new given → Pending volume bytes old rest
    → (more : List Home) × (rest ≡ home ∷ more) × Pending volume bytes new more
given_next volume bytes now old new rest given home same is gives p =
    let q = gives volume rest (subst (λ (b : List ℕ). Pending volume b old rest) (sym same) p) in
    let r = subst (λ (o : Option Home). MatchOption o (rest ≡ []) (λ h. (more : List Home) × (rest ≡ h ∷ more) × Pending volume now new more)) is q in
    (r.0, r.1, subst (λ (b : List ℕ). Pending volume b new r.0) same r.2)

pub given_none : (volume : Volume) (bytes now : List ℕ) (old new : Homes) (rest : List Home) (given : Option Home) → now ≡ bytes → given ≡ None → Gives now old new given → Pending volume bytes old rest → rest ≡ []
given_none volume bytes now old new rest given same is gives p =
    let q = gives volume rest (subst (λ (b : List ℕ). Pending volume b old rest) (sym same) p) in
    subst (λ (o : Option Home). MatchOption o (rest ≡ []) (λ h. (more : List Home) × (rest ≡ h ∷ more) × Pending volume now new more)) is q

-- a home was written, or a write of it failed
pub homed_grows : (bytes wrote : List ℕ) (homes done rest : List Home) (home : Home) (old now new : State) → wrote ≡ bytes → homes ≡ done ++ (home ∷ rest) → SameSink old now
    → GrowsHomes bytes homes old.candidates now.candidates → TimePasses old.clock now.clock (WithTold old.told (IsHomeMix bytes homes old.candidates))
    → GrowsHomes wrote (home ∷ []) now.candidates new.candidates → CrashesLeave now new (IsHomeMix wrote (home ∷ []) now.candidates)
    → GrowsHomes bytes homes old.candidates new.candidates × TimePasses old.clock new.clock (WithTold old.told (IsHomeMix bytes homes old.candidates))
homed_grows bytes wrote homes done rest home old now new same is sink grows time more leaves =
    let within_all = given_home bytes done rest homes home is in
    let more_here : GrowsHomes bytes (home ∷ []) now.candidates new.candidates = subst (λ (b : List ℕ). GrowsHomes b (home ∷ []) now.candidates new.candidates) same more in
    let mix : (image : Content) → IsHomeMix wrote (home ∷ []) now.candidates image → IsHomeMix bytes homes old.candidates image =
    λ image m. mix_both bytes homes (home ∷ []) old.candidates now.candidates image grows (subst (λ (b : List ℕ). IsHomeMix b (home ∷ []) now.candidates image) same m) within_all in (
      grows_both (IsHomeOf bytes homes) (IsHomeOf bytes (home ∷ [])) (IsHomeOf bytes homes) old.candidates now.candidates new.candidates grows more_here (λ at value h. h) within_all,
      both_pass old.clock now.clock new.clock _ _ _ time leaves.time (λ image told a. a) (λ image told a. (mix image a.0, a.1 ∙ sink.told)),
    )

-- the walk is one home further
pub homed_step : (volume : Volume) (bytes wrote : List ℕ) (c next : Homes) (homes : List Home) (old now new : State) (h : Homed volume bytes c homes old now) (home : Home) → wrote ≡ bytes → SameSink old now
    → (more : List Home) × (h.rest ≡ home ∷ more) × Pending volume bytes next more
    → content new ≡ with_home wrote (content now) home → GrowsHomes wrote (home ∷ []) now.candidates new.candidates → CrashesLeave now new (IsHomeMix wrote (home ∷ []) now.candidates)
    → Homed volume bytes next homes old new
homed_step volume bytes wrote c next homes old now new h home same sink given written grows leaves =
    let is : homes ≡ h.done ++ (home ∷ given.0) = h.split ∙ ap (λ (l : List Home). h.done ++ l) given.1 in
    let g = homed_grows bytes wrote homes h.done given.0 home old now new same is sink h.grows h.time grows leaves in
    record {
      done = h.done ++ home ∷ [];
      rest = given.0;
      split = is ∙ sym (append_assoc h.done (home ∷ []) given.0);
      pending = given.2;
      content =
          written ∙ ap (λ (b : List ℕ). with_home b (content now) home) same ∙ ap (λ (d : Content). with_home bytes d home) h.content
          ∙ sym (fold_push (with_home bytes) (content old) h.done home);
      grows = g.0;
      time = g.1;
    }

pub homed_failed : (volume : Volume) (bytes wrote : List ℕ) (c next : Homes) (homes : List Home) (old now new : State) (h : Homed volume bytes c homes old now) (home : Home) → wrote ≡ bytes → SameSink old now
    → (more : List Home) × (h.rest ≡ home ∷ more) × Pending volume bytes next more
    → GrowsHomes wrote (home ∷ []) now.candidates new.candidates → CrashesLeave now new (IsHomeMix wrote (home ∷ []) now.candidates)
    → CrashesLeave old new (IsHomeMix bytes homes old.candidates)
homed_failed volume bytes wrote c next homes old now new h home same sink given grows leaves =
    let is : homes ≡ h.done ++ (home ∷ given.0) = h.split ∙ ap (λ (l : List Home). h.done ++ l) given.1 in
    let g = homed_grows bytes wrote homes h.done given.0 home old now new same is sink h.grows h.time grows leaves in
    record { time = g.1; now = λ image im. image_mixes (IsHomeOf bytes homes) old.candidates new.candidates image g.0 im }

-- the walk is at its end
pub homed_end : (volume : Volume) (bytes : List ℕ) (c : Homes) (homes : List Home) (old now : State) (h : Homed volume bytes c homes old now) → h.rest ≡ [] → content now ≡ with_homes bytes homes (content old)
homed_end volume bytes c homes old now h none =
    let is : homes ≡ h.done = h.split ∙ ap (λ (l : List Home). h.done ++ l) none ∙ append-nil h.done in
    h.content ∙ ap (λ (l : List Home). with_homes bytes l (content old)) (sym is)
