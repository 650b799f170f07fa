-- Live sectors brought home, one after another.
use Rattle.std.proofs.Common.{◌≡◌, ◌≢◌, ◌⊎◌, ◌<◌, ◌≤◌, ◌+◌, ℕ, suc, List, [], ◌∷◌, inl, inr, length, get_or, set, take, refl, sym, ◌∙◌, ap, subst, arith, cond, length-set, get_or-set_same, get_or-set_other}
use Rattle.std.specs.Prelude.{IsTrue, Option, None, Some}
use Rattle.std.proofs.lemmas.Bool.{cases_eq, ne_eqb}
use Rattle.std.proofs.lemmas.List.{ext_get_or}
use Rattle.sector_disk.specs.Clock.{TimePasses, WithTold}
use Rattle.sector_disk.specs.Lists.{Content, sector}
use Rattle.sector_disk.specs.Disk.{Candidates, CrashesLeave, IsDisk, SameSink, State, content}
use Rattle.sector_disk.proofs.Candidates.{grows_both, grows_none, image_mixes}
use Rattle.sector_disk.proofs.Passing.{both_pass, none_passes}
use Rattle.jnl_format.specs.Named.{Each, IsGoodHome, IsHomeOf}
use Rattle.jnl_format.specs.Recovery.{homes_of, replayed, text_of, volume_of}
use Rattle.jnl_format.specs.Ring.{bytes_from, distance}
use Rattle.jnl_format.specs.Text.{bytes_at}
use Rattle.jnl_format.specs.declared.blocks.Home.{Home}
use Rattle.jnl_format.proofs.Alike.{never_own, not_home}
use Rattle.jnl_format.proofs.Mixing.{length-with_homes, mixes_with_homes, same_journal}
use Rattle.jnl_replay.specs.Homing.{GrowsHomes, IsHomeMix}
use Rattle.jnl_replay.specs.Plan.{journal_of}
use Rattle.jnl_replay.specs.declared.plan.Plan.{Plan}
use Rattle.jnl_store.specs.Bringing.{IsBrought, IsLiveHome}
use Rattle.jnl_store.specs.InUse.{IsInUse}
use Rattle.jnl_store.specs.Newest.{newest, or_later}
use Rattle.jnl_store.proofs.Newest.{newest_of, own}
use Rattle.jnl_store.proofs.RingKept.{KeepsLists, home_value, live_inside, live_value, on_disk}
use Rattle.jnl_store.proofs.RingStages.{good, has_content, length-c}

abbrev pub nowhere : Home
nowhere = record { sector = 0; place = 0 }

-- The first so many are brought home: each sector has what it will have, or what it had, and is none of these.
pub record IsComing (plan : Plan) (live : List Home) (n : ℕ) (s0 s1 : State) : Type 0 where
  pub size : length (content s1) ≡ length (content s0)
  pub each : (s : ℕ) → s < length (content s0) → (sector (content s1) s ≡ sector (replayed (journal_of plan) (content s0)) s) ⊎ ((sector (content s1) s ≡ sector (content s0) s) × ((j : ℕ) → j < n → (get_or live j nowhere).sector ≢ s))
  pub grows : GrowsHomes (text_of (journal_of plan) (content s0)) (homes_of (journal_of plan) (content s0)) s0.candidates s1.candidates
  pub time : TimePasses s0.clock s1.clock (WithTold s0.told (IsHomeMix (text_of (journal_of plan) (content s0)) (homes_of (journal_of plan) (content s0)) s0.candidates))

-- a sector that none of the homes is of has no place
not_there : (live : List Home) (s : ℕ) → ((j : ℕ) → j < length live → (get_or live j nowhere).sector ≢ s) → newest live s ≡ None
not_there [] s never = refl
not_there (h ∷ hs) s never =
    ap (λ (o : Option ℕ). or_later o (own h s)) (not_there hs s (λ j below. never (suc j) (omega (arith, below))))
    ∙ ap (λ b. cond b (Some h.place) None) (ne_eqb s h.sector (λ e. never 0 (omega arith) (sym e)))

pub coming_none : (plan : Plan) (live : List Home) (s0 : State) → IsComing plan live 0 s0 s0
coming_none plan live s0 = record {
  size = refl;
  each = λ s inside. inr (refl, λ j below. absurd (omega (arith, below)));
  grows = grows_none (IsHomeOf (text_of (journal_of plan) (content s0)) (homes_of (journal_of plan) (content s0))) s0.candidates;
  time = none_passes s0.clock (WithTold s0.told (IsHomeMix (text_of (journal_of plan) (content s0)) (homes_of (journal_of plan) (content s0)) s0.candidates));
}

mix_over : (text : List ℕ) (homes : List Home) (old now : Candidates) (image : Content) → GrowsHomes text homes old now → IsHomeMix text homes now image → IsHomeMix text homes old image
mix_over text homes old now image g m = record {
  size = m.size ∙ g.size;
  each = λ at inside. elim (m.each at (omega (arith, inside, g.size))) [ inl a ↦ g.each at (sector image at) a | inr b ↦ inr b ];
}

module _ (plan : Plan) (rest : IsInUse plan) (live : List Home) (s0 : State) (is : IsDisk s0) (k : KeepsLists plan live s0) where
  -- the journal's text stays readable
  pub text_stays : (n : ℕ) (s1 : State) → IsComing plan live n s0 s1 → text_of (journal_of plan) (content s1) ≡ text_of (journal_of plan) (content s0)
  text_stays n s1 h =
      let c0 = content s0 in
      let text = text_of (journal_of plan) c0 in
      let homes = homes_of (journal_of plan) c0 in
      let volume = volume_of plan.place.info_sector (journal_of plan) c0 in
      let all : Each (IsGoodHome volume text) homes = good plan rest s0 is k.text in
      let own_after : (s : ℕ) → volume.first ≤ s → s < volume.first + volume.count → sector (replayed (journal_of plan) c0) s ≡ sector c0 s =
      λ s low high. not_home volume text homes c0 (replayed (journal_of plan) c0) s all (λ home fine. never_own volume text s home low high fine) ((mixes_with_homes text homes c0).each s) in
      let same : (s : ℕ) → volume.first ≤ s → s < volume.first + volume.count → sector (content s1) s ≡ sector c0 s =
      λ s low high. elim (h.each s (omega (arith, high, (has_content plan rest s0 is k.text).fits))) [ inl e ↦ e ∙ own_after s low high | inr old ↦ old.0 ] in
      ap (λ (bytes : List ℕ). take (distance plan.info.size plan.header.start plan.header.end) (bytes_from bytes plan.header.start)) (same_journal volume.first plan.info.size c0 (content s1) h.size same)

  -- the next home, as the text has it then
  pub next_home : (tells : IsTrue s0.tells) (n sectors : ℕ) (s1 : State) (home : Home) → IsComing plan live n s0 s1 → sectors ≡ s0.sectors → newest live home.sector ≡ Some home.place → home.sector < sectors
      → IsLiveHome plan sectors (text_of (journal_of plan) (content s1)) (homes_of (journal_of plan) (content s0)) home
  next_home tells n sectors s1 home h same some below =
      let homes = homes_of (journal_of plan) (content s0) in
      let inside : home.sector < length (content s0) = omega (arith, below, same, length-c plan rest s0 is k.text, is.size tells) in
      let here : IsLiveHome plan s0.sectors (text_of (journal_of plan) (content s0)) homes home = record {
        on_disk = on_disk plan rest s0 is tells k.text;
        placed = live_inside plan rest live s0 is k home.sector inside home.place some;
        of = newest_of (text_of (journal_of plan) (content s0)) homes home.sector home.place (sym (k.table home.sector inside) ∙ some);
      } in
      subst (λ m. IsLiveHome plan m (text_of (journal_of plan) (content s1)) homes home) (sym same) (subst (λ (t : List ℕ). IsLiveHome plan s0.sectors t homes home) (sym (text_stays n s1 h)) here)

  -- candidates and time after a home was written, or a write of it failed
  grown : (n : ℕ) (s1 s2 : State) → IsComing plan live n s0 s1 → GrowsHomes (text_of (journal_of plan) (content s1)) (homes_of (journal_of plan) (content s0)) s1.candidates s2.candidates
      → GrowsHomes (text_of (journal_of plan) (content s0)) (homes_of (journal_of plan) (content s0)) s0.candidates s2.candidates
  grown n s1 s2 h g =
      let homes = homes_of (journal_of plan) (content s0) in
      let these = IsHomeOf (text_of (journal_of plan) (content s0)) homes in
      grows_both these these these s0.candidates s1.candidates s2.candidates h.grows
      (subst (λ (t : List ℕ). GrowsHomes t homes s1.candidates s2.candidates) (text_stays n s1 h) g) (λ at value p. p) (λ at value p. p)

  passed : (n : ℕ) (s1 s2 : State) → IsComing plan live n s0 s1 → SameSink s0 s1 → CrashesLeave s1 s2 (IsHomeMix (text_of (journal_of plan) (content s1)) (homes_of (journal_of plan) (content s0)) s1.candidates)
      → TimePasses s0.clock s2.clock (WithTold s0.told (IsHomeMix (text_of (journal_of plan) (content s0)) (homes_of (journal_of plan) (content s0)) s0.candidates))
  passed n s1 s2 h sink leaves =
      let homes = homes_of (journal_of plan) (content s0) in
      let text = text_of (journal_of plan) (content s0) in
      both_pass s0.clock s1.clock s2.clock _ _ _ h.time leaves.time (λ image told a. a)
      (λ image told a. (mix_over text homes s0.candidates s1.candidates image h.grows (subst (λ (t : List ℕ). IsHomeMix t homes s1.candidates image) (text_stays n s1 h) a.0), a.1 ∙ sink.told))

  not_yet : (n : ℕ) (home : Home) (s : ℕ) → (get_or live n nowhere).sector ≡ home.sector → s ≢ home.sector → ((j : ℕ) → j < n → (get_or live j nowhere).sector ≢ s) → (j : ℕ) → j < n + 1 → (get_or live j nowhere).sector ≢ s
  not_yet n home s at other before j below e = elim (cases_eq j n) [
    | inl last ↦ other (sym e ∙ ap (λ i. (get_or live i nowhere).sector) last ∙ at)
    | inr less ↦ before j (omega (arith, below, less)) e
  ]

  -- one more is brought home
  pub coming_step : (n : ℕ) (s1 s2 : State) (home : Home) → IsComing plan live n s0 s1 → SameSink s0 s1 → (get_or live n nowhere).sector ≡ home.sector → newest live home.sector ≡ Some home.place
      → IsBrought home.sector (bytes_at (text_of (journal_of plan) (content s1)) home.place 512) (content s1) (content s2)
      → GrowsHomes (text_of (journal_of plan) (content s1)) (homes_of (journal_of plan) (content s0)) s1.candidates s2.candidates
      → CrashesLeave s1 s2 (IsHomeMix (text_of (journal_of plan) (content s1)) (homes_of (journal_of plan) (content s0)) s1.candidates) → IsComing plan live (n + 1) s0 s2
  coming_step n s1 s2 home h sink at some b g leaves = record {
    size = b.size ∙ h.size;
    each = λ s inside. elim (cases_eq s home.sector) [
      | inl same ↦
          let here : home.sector < length (content s0) = omega (arith, inside, same) in
          inl (
          ap (sector (content s2)) same ∙ b.here (omega (arith, here, h.size)) ∙ ap (λ (t : List ℕ). bytes_at t home.place 512) (text_stays n s1 h)
          ∙ sym (live_value plan rest live s0 is k home.sector here home.place some) ∙ ap (sector (replayed (journal_of plan) (content s0))) (sym same)
          )
      | inr other ↦ elim (h.each s inside) [
        | inl e ↦ inl (b.others s other ∙ e)
        | inr old ↦ inr (b.others s other ∙ old.0, not_yet n home s at other old.1)
      ]
    ];
    grows = grown n s1 s2 h g;
    time = passed n s1 s2 h sink leaves;
  }

  pub coming_failed : (n : ℕ) (s1 s2 : State) → IsComing plan live n s0 s1 → SameSink s0 s1
      → GrowsHomes (text_of (journal_of plan) (content s1)) (homes_of (journal_of plan) (content s0)) s1.candidates s2.candidates
      → CrashesLeave s1 s2 (IsHomeMix (text_of (journal_of plan) (content s1)) (homes_of (journal_of plan) (content s0)) s1.candidates)
      → CrashesLeave s0 s2 (IsHomeMix (text_of (journal_of plan) (content s0)) (homes_of (journal_of plan) (content s0)) s0.candidates)
  coming_failed n s1 s2 h sink g leaves = record {
    time = passed n s1 s2 h sink leaves;
    now = λ image im. image_mixes (IsHomeOf (text_of (journal_of plan) (content s0)) (homes_of (journal_of plan) (content s0))) s0.candidates s2.candidates image (grown n s1 s2 h g) im;
  }

  -- all are
  pub all_came : (n : ℕ) (s1 : State) → IsComing plan live n s0 s1 → length live ≤ n → content s1 ≡ replayed (journal_of plan) (content s0)
  all_came n s1 h all =
      let c0 = content s0 in
      ext_get_or [] (content s1) (replayed (journal_of plan) c0) (h.size ∙ sym (length-with_homes (text_of (journal_of plan) c0) (homes_of (journal_of plan) c0) c0)) (λ s below.
      let inside : s < length (content s0) = omega (arith, below, h.size) in
      elim (h.each s inside) [
        | inl e ↦ e
        | inr old ↦ old.0 ∙ sym (home_value plan rest live s0 is k s inside (not_there live s (λ j less. old.1 j (omega (arith, less, all)))))
      ])

-- a write of a sector
pub brought_by : (old new : Content) (at : ℕ) (bytes value : List ℕ) → new ≡ set old at bytes → bytes ≡ value → IsBrought at value old new
brought_by old new at bytes value is same = record {
  size = ap (λ (d : Content). length d) is ∙ length-set old at bytes;
  here = λ inside. ap (λ (d : Content). sector d at) is ∙ get_or-set_same old at bytes [] inside ∙ same;
  others = λ s other. ap (λ (d : Content). sector d s) is ∙ get_or-set_other old at s bytes [] other;
}

pub coming_leaves : (plan : Plan) (live : List Home) (n : ℕ) (s0 s1 : State) → IsComing plan live n s0 s1
    → CrashesLeave s0 s1 (IsHomeMix (text_of (journal_of plan) (content s0)) (homes_of (journal_of plan) (content s0)) s0.candidates)
coming_leaves plan live n s0 s1 h = record {
  time = h.time;
  now = λ image im. image_mixes (IsHomeOf (text_of (journal_of plan) (content s0)) (homes_of (journal_of plan) (content s0))) s0.candidates s1.candidates image h.grows im;
}
