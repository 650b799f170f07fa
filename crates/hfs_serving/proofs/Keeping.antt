-- A keep of a store and an undo, as a space shows them.
use Rattle.std.proofs.Common.{◌≡◌, ◌≢◌, ◌⊎◌, ◌<◌, ◌-◌, ℕ, Bool, true, false, List, [], ◌∷◌, inl, inr, ⊎_elim, length, set, get_or-set_same, get_or-set_other, length-set, refl, sym, ◌∙◌, ap, subst, arith}
use Rattle.std.specs.Prelude.{◌==◌, IsTrue, Option, None, Some, if◌then◌else◌}
use Rattle.std.proofs.lemmas.Bool.{cases_eq, eq-eqb, eqb-true}
use Rattle.sector_disk.specs.Disk.{State, IsDisk, content}
use Rattle.sector_disk.specs.Lists.{sector}
use Rattle.sector_disk.specs.Space.{AgreesOutside}
use Rattle.sector_disk.proofs.Passing.{none_passes}
use Rattle.jnl_format.specs.Named.{Each, IsGoodHome, IsNamed}
use Rattle.jnl_format.specs.Recovery.{Content, homes_of, replayed, text_of, volume_of}
use Rattle.jnl_format.specs.declared.blocks.Home.{Home}
use Rattle.jnl_replay.specs.Plan.{FitsPlan, journal_of}
use Rattle.jnl_replay.specs.declared.plan.Plan.{Plan}
use Rattle.jnl_store.specs.Batch.{names}
use Rattle.jnl_store.specs.Following.{SpaceFollows}
use Rattle.jnl_store.specs.Journal.{IsClosed, IsSpilled}
use Rattle.jnl_store.specs.Overlay.{overlay}
use Rattle.jnl_store.specs.Plan.{IsCapacityOf}
use Rattle.jnl_store.specs.SpaceLaws.{length-durable, length-overlay}
use Rattle.jnl_store.specs.Spaces.{over}
use Rattle.jnl_store.specs.Store.{Keeps, SameButBatch, content_over, durable_of, kept_of, plan_of, puts_of, room_of}
use Rattle.jnl_store.specs.declared.puts.Put.{Put}
use Rattle.jnl_store.specs.declared.store.Store.{Store}
use Rattle.jnl_store.proofs.Images.{overlay_agrees}
use Rattle.jnl_replay.proofs.Checks.{length-content}
use Rattle.jnl_replay.proofs.Texts.{length-piece}
use Rattle.jnl_ring.proofs.Bytes.{content_whole}
use Rattle.jnl_store.specs.Newest.{newest, or_later}
use Rattle.jnl_store.proofs.RingKept.{KeepsLists, home_value, live_inside, live_value, long_text}
use Rattle.jnl_store.proofs.RingStages.{good}
use Rattle.jnl_store.proofs.Settling.{lists_of}
use Rattle.hfs_serving.specs.Grounds.{IsInService}
use Rattle.hfs_serving.specs.Outside.{outside_of}
use Rattle.hfs_serving.specs.Steps.{IsStill}
use Rattle.hfs_serving.specs.Undoing.{IsQuiet, Undoes}
use Rattle.hfs_serving.proofs.Grounding.{tells_still}

same_durable : (store new : Store) (c : Content) → plan_of new ≡ plan_of store → durable_of new c ≡ durable_of store c
unfolding durable_of
same_durable store new c plan = ap (λ (q : Plan). replayed (journal_of q) c) plan

module _ (store new : Store) (disk : State) (same : SameButBatch store new) where
  pub keep_quiet : IsQuiet (outside_of (plan_of store) disk) (outside_of (plan_of new) disk)
  keep_quiet = subst (λ (q : Plan). IsQuiet (outside_of (plan_of store) disk) (outside_of q disk)) (sym same.plan) (record { time = none_passes (outside_of (plan_of store) disk).clock _; leaves = λ recovered left. left; told = refl })

  -- the store stays in service
  pub keep_serves : (capacity : ℕ) → room_of new ≡ room_of store → ((sectors : ℕ) → Keeps store sectors disk.candidates → Keeps new sectors disk.candidates) → IsInService store disk capacity → IsInService new disk capacity
  keep_serves capacity room keeps serves = record {
    fits = subst (λ (q : Plan). FitsPlan disk.sectors q) (sym same.plan) serves.fits;
    holds = subst (λ (q : Plan). IsCapacityOf q capacity) (sym same.plan) serves.holds;
    room = omega (arith, room, serves.room);
    keeps = λ tells. let k = serves.keeps tells in (k.0, keeps disk.sectors k.1);
  }

  -- and its space tells as it did
  pub keep_tells : (a b capacity : ℕ) → ((sectors : ℕ) → Keeps store sectors disk.candidates → Keeps new sectors disk.candidates) → IsInService store disk capacity → (over a b new disk).tells ≡ (over a b store disk).tells
  keep_tells a b capacity keeps serves = tells_still a b store new disk disk refl serves.keeps (λ tells. let k = serves.keeps tells in (k.0, keeps disk.sectors k.1))

  -- what was put is what was put before, and the room for more is the same
  module _ (a b : ℕ) (puts : puts_of new ≡ puts_of store) (room : room_of new ≡ room_of store) (tells : (over a b new disk).tells ≡ (over a b store disk).tells) where
    named_same : (s : ℕ) → names (puts_of new) s ≡ names (puts_of store) s
    named_same s = ap (λ (l : List Put). names l s) puts

    pub keep_still : IsStill (over a b store disk) (over a b new disk)
    keep_still = record {
      tells = tells;
      names = refl;
      sectors = refl;
      content = λ i. overlay (puts i) (same_durable store new (content disk) same.plan i);
      durable = same_durable store new (content disk) same.plan;
      spilled = λ s. (λ is. subst (λ (q : Plan). IsSpilled q disk.candidates s) same.plan is, λ is. subst (λ (q : Plan). IsSpilled q disk.candidates s) (sym same.plan) is);
      live = λ s. (
        λ is. subst (λ (k : List Put × Plan). IsTrue (names k.0 s) ⊎ IsNamed (homes_of (journal_of k.1) (content disk)) s) {x = (puts_of new, plan_of new)} {y = (puts_of store, plan_of store)} (λ i. (puts i, same.plan i)) is,
        λ is. subst (λ (k : List Put × Plan). IsTrue (names k.0 s) ⊎ IsNamed (homes_of (journal_of k.1) (content disk)) s) {x = (puts_of store, plan_of store)} {y = (puts_of new, plan_of new)} (λ i. (sym puts i, sym same.plan i)) is,
      );
      closed = λ s. (λ is. subst (λ (q : Plan). IsClosed q s) same.plan is, λ is. subst (λ (q : Plan). IsClosed q s) (sym same.plan) is);
      put = named_same;
      spare = (λ i. room i - length (puts i));
      faults = refl;
    }

-- ---- each sector has its bytes

set_whole : (p : Put) (c : Content) → ((s : ℕ) → s < length c → length (sector c s) ≡ 512) → (s : ℕ) → s < length (set c p.at p.bytes) → length (sector (set c p.at p.bytes) s) ≡ 512
set_whole p c whole s inside =
    let below : s < length c = omega (arith, inside, length-set c p.at p.bytes) in
    elim (cases_eq s p.at) [
      | inl same ↦ ap (λ k. length (sector (set c p.at p.bytes) k)) same ∙ ap (λ (l : List ℕ). length l) (get_or-set_same c p.at p.bytes [] (omega (arith, below, same))) ∙ p.whole
      | inr other ↦ ap (λ (l : List ℕ). length l) (get_or-set_other c p.at s p.bytes [] other) ∙ whole s below
    ]

over_whole : (puts : List Put) (c : Content) → ((s : ℕ) → s < length c → length (sector c s) ≡ 512) → (s : ℕ) → s < length (overlay puts c) → length (sector (overlay puts c) s) ≡ 512
over_whole [] c whole = whole
over_whole (p ∷ ps) c whole = over_whole ps (set c p.at p.bytes) (set_whole p c whole)

place_or : (o : Option ℕ) → (o ≡ None) ⊎ (p : ℕ) × (o ≡ Some p)
place_or None = inl refl
place_or (Some p) = inr (p, refl)

none_of : (later own : Option ℕ) → or_later later own ≡ None → later ≡ None
none_of None own none = refl
none_of (Some p) own none = absurd (cc none)

own_of : (later own : Option ℕ) → or_later later own ≡ None → own ≡ None
own_of None own none = none
own_of (Some p) own none = absurd (cc none)

chosen : (b : Bool) (p : ℕ) → b ≡ true → (if b then Some p else None) ≡ None → ⊥
chosen true p is none = absurd (cc none)
chosen false p is none = absurd (cc is)

named_newest : (homes : List Home) (s : ℕ) → IsNamed homes s → newest homes s ≡ None → ⊥
named_newest [] s named none = named
named_newest (h ∷ hs) s (inl here) none = chosen (s == h.sector) h.place (eq-eqb s h.sector (sym here)) (own_of (newest hs s) (if s == h.sector then Some h.place else None) none)
named_newest (h ∷ hs) s (inr later) none = named_newest hs s later (none_of (newest hs s) (if s == h.sector then Some h.place else None) none)

newest_named : (homes : List Home) (s p : ℕ) → newest homes s ≡ Some p → IsNamed homes s
newest_named [] s p some = absurd (cc some)
newest_named (h ∷ hs) s p some = by (λ q there. newest_named hs s q there) (place_or (newest hs s)) (s == h.sector) refl
  where
    by : ((q : ℕ) → newest hs s ≡ Some q → IsNamed hs s) → (newest hs s ≡ None) ⊎ (q : ℕ) × (newest hs s ≡ Some q) → (own : Bool) → (s == h.sector) ≡ own → (h.sector ≡ s) ⊎ IsNamed hs s
    by further (inr later) own is = inr (further later.0 later.1)
    by further (inl none) true is = inl (sym (eqb-true s h.sector is))
    by further (inl none) false is =
        let it : or_later None (if false then Some h.place else None) ≡ Some p = (λ i. or_later (sym none i) (if sym is i then Some h.place else None)) ∙ some in
        absurd (cc it)

module _ (a b : ℕ) (store : Store) (disk : State) (is : IsDisk disk) (capacity : ℕ) (serves : IsInService store disk capacity) (tells : IsTrue disk.tells) where
  lists : KeepsLists store.plan store.batch.live disk
  lists = let k = serves.keeps tells in lists_of store disk (k.0, k.1.ring)

  durable_whole : (s : ℕ) → s < length (durable_of store (content disk)) → length (sector (durable_of store (content disk)) s) ≡ 512
  unfolding durable_of
  durable_whole s below =
      let inside : s < length (content disk) = omega (arith, below, length-durable store (content disk)) in
      elim (place_or (newest store.batch.live s)) [
        | inl none ↦ ap (λ (l : List ℕ). length l) (home_value store.plan store.rest store.batch.live disk is lists s inside none) ∙ content_whole disk is s inside
        | inr some ↦
            let text = text_of (journal_of store.plan) (content disk) in
            ap (λ (l : List ℕ). length l) (live_value store.plan store.rest store.batch.live disk is lists s inside some.0 some.1)
            ∙ length-piece text some.0 512 (omega (arith, live_inside store.plan store.rest store.batch.live disk is lists s inside some.0 some.1, long_text store.plan store.rest disk is lists.text))
      ]

  pub space_whole : (s : ℕ) → s < length (over a b store disk).content → length (sector (over a b store disk).content s) ≡ 512
  space_whole = over_whole (puts_of store) (durable_of store (content disk)) durable_whole

  -- a sector that live lists name lies in the content
  live_inside_it : (s : ℕ) → IsNamed (homes_of (journal_of store.plan) (content disk)) s → s < length (content disk)
  live_inside_it s named = inside_of (homes_of (journal_of store.plan) (content disk)) (good store.plan store.rest disk is lists.text) named
    where
      inside_of : (homes : List Home) → Each (IsGoodHome (volume_of store.plan.place.info_sector (journal_of store.plan) (content disk)) (text_of (journal_of store.plan) (content disk))) homes → IsNamed homes s → s < length (content disk)
      inside_of [] each named = absurd named
      inside_of (h ∷ hs) each (inl here) = omega (arith, each.0.inside, here)
      inside_of (h ∷ hs) each (inr later) = inside_of hs each.1 later

  pub live_table : (s : ℕ) → IsNamed (homes_of (journal_of store.plan) (content disk)) s → (newest store.batch.live s ≡ None → ⊥) × (s < length (content disk))
  live_table s named =
      let inside = live_inside_it s named in
      (λ none. named_newest (homes_of (journal_of store.plan) (content disk)) s named (sym (lists.table s inside) ∙ none), inside)

  pub table_live : (s : ℕ) → s < length (content disk) → (newest store.batch.live s ≡ None → ⊥) → IsNamed (homes_of (journal_of store.plan) (content disk)) s
  table_live s inside some = elim (place_or (newest store.batch.live s)) [
    | inl none ↦ absurd (some none)
    | inr there ↦ newest_named (homes_of (journal_of store.plan) (content disk)) s there.0 (sym (lists.table s inside) ∙ there.1)
  ]

-- ---- an undo behind calls of the space

module _ (a b x y : ℕ) (first store new : Store) (before disk : State) (is_first : IsDisk before) (is : IsDisk disk) (capacity : ℕ) (kept : puts_of first ≡ kept_of first) (follows : SpaceFollows first before store disk) (serves : IsInService store disk capacity) (serves_new : IsInService new disk capacity)
    (same : SameButBatch store new) (dropped : puts_of new ≡ kept_of store) (tells : IsTrue disk.tells) where
  tells_first : IsTrue before.tells
  tells_first = subst (λ t. IsTrue t) follows.same.tells tells

  puts_are : puts_of new ≡ puts_of first
  puts_are = dropped ∙ follows.kept ∙ sym kept

  sizes : length (content disk) ≡ length (content before)
  sizes = length-content disk is tells ∙ follows.same.sectors ∙ sym (length-content before is_first tells_first)

  new_durable : durable_of new (content disk) ≡ durable_of store (content disk)
  new_durable = same_durable store new (content disk) same.plan

  durable_sizes : length (durable_of new (content disk)) ≡ length (durable_of first (content before))
  durable_sizes = length-durable new (content disk) ∙ sizes ∙ sym (length-durable first (content before))

  reads_there : (s : ℕ) → sector (durable_of store (content disk)) s ≡ sector (durable_of first (content before)) s → sector (content_over new (content disk)) s ≡ sector (content_over first (content before)) s
  reads_there s given =
      let agrees : AgreesOutside (λ k. k ≢ s) (durable_of first (content before)) (durable_of new (content disk)) = record {
        size = durable_sizes;
        each = λ k. elim (cases_eq k s) [
          | inl here ↦ inl (ap (sector (durable_of new (content disk))) here ∙ ap (λ (c : Content). sector c s) new_durable ∙ given ∙ ap (sector (durable_of first (content before))) (sym here))
          | inr other ↦ inr other
        ];
      } in
      ap (λ (l : List Put). sector (overlay l (durable_of new (content disk))) s) puts_are
      ∙ ⊎_elim (λ same. same) (λ other. absurd (other refl)) ((overlay_agrees (puts_of first) (λ k. k ≢ s) (durable_of first (content before)) (durable_of new (content disk)) agrees).each s)

  pub undo_undoes : IsInService first before capacity → Undoes (over a b first before) (over x y store disk) (over x y new disk)
  undo_undoes serves_first = record {
    size = length-overlay (puts_of new) (durable_of new (content disk)) ∙ durable_sizes ∙ sym (length-overlay (puts_of first) (durable_of first (content before)));
    content = reads_there;
    whole = space_whole x y new disk is capacity serves_new tells;
    durable = new_durable;
    spilled = λ s. (λ p. subst (λ (q : Plan). IsSpilled q disk.candidates s) same.plan p, λ p. subst (λ (q : Plan). IsSpilled q disk.candidates s) (sym same.plan) p);
    live = λ s p. ⊎_elim
        (λ put. inl (subst (λ (l : List Put). IsTrue (names l s)) puts_are put))
        (λ named.
        let t = live_table x y store disk is capacity serves tells s (subst (λ (q : Plan). IsNamed (homes_of (journal_of q) (content disk)) s) same.plan named) in
        inr (table_live a b first before is_first capacity serves_first tells_first s (subst (λ n. s < n) sizes t.1) (subst (λ (l : List Home). newest l s ≡ None → ⊥) follows.live t.0)))
        p;
    closed = λ s. (λ p. subst (λ (q : Plan). IsClosed q s) same.plan p, λ p. subst (λ (q : Plan). IsClosed q s) (sym same.plan) p);
  }
