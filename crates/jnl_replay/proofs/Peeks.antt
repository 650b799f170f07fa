-- The last block of each sector.
use Rattle.std.proofs.Common.{◌≡◌, ◌<◌, ◌≤◌, ◌+◌, ℕ, Bool, true, false, List, [], ◌∷◌, ◌++◌, length, map, set, refl, sym, ◌∙◌, ap, subst, arith, cond, eqb}
use Rattle.std.specs.Prelude.{Option, None, Some}
use Rattle.std.specs.List.{fold, range_with_len}
use Rattle.std.proofs.lemmas.Bool.{eqb-true, eqb-false}
use Rattle.std.proofs.lemmas.List.{ext_get_or, get_or-map, length-map, get_or-set_same, get_or-set_other}
use Rattle.std.proofs.lemmas.List.FromFn.{length-range_with_len, get_or-range_with_len}
use Rattle.std.proofs.Math.ListN.{length-set}
use Rattle.std.proofs.lemmas.List.Sums.{fold_push}
use Rattle.sector_disk.specs.Lists.{Content, sector}
use Rattle.jnl_format.specs.Text.{bytes_at}
use Rattle.jnl_format.specs.Recovery.{with_homes}
use Rattle.jnl_format.specs.declared.blocks.Home.{Home}
use Rattle.jnl_format.proofs.Mixing.{length-with_homes}
use Rattle.std.proofs.Common.{append_assoc}
use Rattle.std.proofs.lemmas.List.{append-nil}
use Rattle.sector_disk.specs.Disk.{State}
use Rattle.jnl_format.specs.declared.blocks.Volume.{Volume}
use Rattle.jnl_replay.specs.Homing.{AreHomesOf}
use Rattle.jnl_replay.specs.Pending.{Pending}
use Rattle.jnl_replay.specs.declared.homes.Homes.{Homes}
use Rattle.jnl_replay.specs.declared.text.Text.{Text}
use Rattle.jnl_replay.proofs.Homed.{start_pending}
use Rattle.jnl_replay.specs.Peeking.{seen}

-- the place of the last home of a sector
abbrev pub later : ℕ → Option ℕ → Home → Option ℕ
later at so_far home = cond (eqb home.sector at) (Some home.place) so_far

abbrev pub last_place : List Home → ℕ → Option ℕ
last_place homes at = fold (later at) None homes

pub last_more : (homes : List Home) (home : Home) (at : ℕ) → last_place (homes ++ home ∷ []) at ≡ later at (last_place homes at) home
last_more homes home at = fold_push (later at) None homes home

later_seen : (text : List ℕ) (first c : Content) (at : ℕ) (so_far : Option ℕ) (home : Home) (b : Bool) → eqb home.sector at ≡ b → at < length c → sector c at ≡ seen text first at so_far
    → sector (set c home.sector (bytes_at text home.place 512)) at ≡ seen text first at (cond b (Some home.place) so_far)
later_seen text first c at so_far home true is inside h =
    let same : home.sector ≡ at = eqb-true home.sector at is in
    subst (λ k. sector (set c home.sector (bytes_at text home.place 512)) k ≡ bytes_at text home.place 512) same (get_or-set_same c home.sector (bytes_at text home.place 512) [] (omega (arith, same)))
later_seen text first c at so_far home false is inside h =
    get_or-set_other c home.sector at (bytes_at text home.place 512) [] (λ e. eqb-false home.sector at is (sym e)) ∙ h

homes_seen : (text : List ℕ) (first c : Content) (at : ℕ) (so_far : Option ℕ) (homes : List Home) → at < length c → sector c at ≡ seen text first at so_far → sector (with_homes text homes c) at ≡ seen text first at (fold (later at) so_far homes)
homes_seen text first c at so_far [] inside h = h
homes_seen text first c at so_far (g ∷ gs) inside h =
    homes_seen text first (set c g.sector (bytes_at text g.place 512)) at (later at so_far g) gs (omega (arith, length-set c g.sector (bytes_at text g.place 512)))
    (later_seen text first c at so_far g (eqb g.sector at) refl inside h)

-- what is shown, sector by sector, is what stands there with all homes written
pub shown_is : (text : List ℕ) (c : Content) (homes : List Home) (place : ℕ → Option ℕ) → ((at : ℕ) → place at ≡ last_place homes at)
    → map (λ at. seen text c at (place at)) (range_with_len 0 (length c)) ≡ with_homes text homes c
shown_is text c homes place same =
    let f : ℕ → List ℕ = λ at. seen text c at (place at) in
    let long : length (map f (range_with_len 0 (length c))) ≡ length c = length-map (range_with_len 0 (length c)) f ∙ length-range_with_len 0 (length c) in
    ext_get_or [] (map f (range_with_len 0 (length c))) (with_homes text homes c) (long ∙ sym (length-with_homes text homes c))
    (λ i below.
    let inside : i < length c = omega (arith, below, long) in
    get_or-map f (range_with_len 0 (length c)) i 0 [] (omega (arith, inside, length-range_with_len 0 (length c)))
    ∙ ap f (get_or-range_with_len 0 (length c) i 0 inside ∙ omega arith)
    ∙ ap (λ (o : Option ℕ). seen text c i o) (same i)
    ∙ sym (homes_seen text c c i None homes inside refl))

-- some homes are indexed, and the others are still to come
pub record Indexed (volume : Volume) (bytes : List ℕ) (c : Homes) (homes : List Home) (place : ℕ → Option ℕ) : Type 0 where
  pub done : List Home
  pub rest : List Home
  pub split : homes ≡ done ++ rest
  pub pending : Pending volume bytes c rest
  pub index : (at : ℕ) → place at ≡ last_place done at

pub indexed_start : (total : ℕ) (text : Text) (bytes : List ℕ) (volume : Volume) (homes : List Home) (c : Homes) (s : State) (place : ℕ → Option ℕ) → AreHomesOf total text bytes volume homes → c.text ≡ text → c.sectors ≡ total
    → (c.list ≡ 0) × (c.entry ≡ 0) × (c.entries ≡ 0) × (c.body ≡ 0) × (c.place ≡ 0) × (c.count ≡ 0) × (c.reached ≡ 0) → ((at : ℕ) → place at ≡ None) → Indexed volume bytes c homes place
indexed_start total text bytes volume homes c s place a is size z none =
    record { done = []; rest = homes; split = refl; pending = start_pending total text bytes volume homes c a is size z; index = none }

later_index : (place next : ℕ → Option ℕ) (done : List Home) (home : Home) (at : ℕ) → place at ≡ last_place done at → next at ≡ later at (place at) home → next at ≡ last_place (done ++ home ∷ []) at
later_index place next done home at was is = is ∙ ap (λ (o : Option ℕ). later at o home) was ∙ sym (last_more done home at)

pub indexed_step : (volume : Volume) (bytes : List ℕ) (c next : Homes) (homes : List Home) (place now : ℕ → Option ℕ) (i : Indexed volume bytes c homes place) (home : Home)
    → (more : List Home) × (i.rest ≡ home ∷ more) × Pending volume bytes next more → ((at : ℕ) → now at ≡ later at (place at) home) → Indexed volume bytes next homes now
indexed_step volume bytes c next homes place now i home given put = record {
  done = i.done ++ home ∷ [];
  rest = given.0;
  split = i.split ∙ ap (λ (l : List Home). i.done ++ l) given.1 ∙ sym (append_assoc i.done (home ∷ []) given.0);
  pending = given.2;
  index = λ at. later_index place now i.done home at (i.index at) (put at);
}

pub indexed_end : (volume : Volume) (bytes : List ℕ) (c : Homes) (homes : List Home) (place : ℕ → Option ℕ) (i : Indexed volume bytes c homes place) → i.rest ≡ [] → (at : ℕ) → place at ≡ last_place homes at
indexed_end volume bytes c homes place i none at =
    i.index at ∙ ap (λ (l : List Home). last_place l at) (sym (i.split ∙ ap (λ (l : List Home). i.done ++ l) none ∙ append-nil i.done))

placed_by : (long : ℕ) (b : Bool) (new : ℕ) (old : Option ℕ) (p : ℕ) → (old ≡ Some p → p + 512 ≤ long) → new + 512 ≤ long → cond b (Some new) old ≡ Some p → p + 512 ≤ long
placed_by long true new old p all fits is = let e : new ≡ p = cc in omega (arith, e, fits)
placed_by long false new old p all fits is = all is

pub still_placed : (long : ℕ) (place now : ℕ → Option ℕ) (home : Home) → ((at p : ℕ) → place at ≡ Some p → p + 512 ≤ long) → home.place + 512 ≤ long → ((at : ℕ) → now at ≡ later at (place at) home) → (at p : ℕ) → now at ≡ Some p → p + 512 ≤ long
still_placed long place now home all new put at p is = placed_by long (eqb home.sector at) home.place (place at) p (all at p) new (sym (put at) ∙ is)
