-- One change more is heard by somebody who watches a folder for another.
use Rattle.std.proofs.Common.{◌≡◌, ◌∷◌, [], ◌++◌, ℕ, List, Bool, true, false, inl, inr, length, refl, sym, ◌∙◌, ap, subst, append_assoc}
use Rattle.std.specs.Prelude.{◌⊎◌, if◌then◌else◌}
use Rattle.std.proofs.lemmas.List.{append-nil}
use Rattle.hfs_language.specs.declared.reply.Change.{Change}
use Rattle.watchers.specs.declared.folders.FolderAt.{FolderAt}
use Rattle.watchers.specs.declared.watcher.Keep.TheVariants.{Stay, Leave}
use Rattle.watchers.specs.Under.{HearsUnder, TellsUnder, Watching, after_change, after_changes, both_leave, both_stay, elsewhere, had_left, if_under, is_crowded, is_under, is_within, no_room, under, with_change}

-- what is known after some changes and one more
after_one : (known : List FolderAt) (changes : List Change) (change : Change) → after_changes known (changes ++ change ∷ []) ≡ after_change (after_changes known changes) change
unfolding after_changes
after_one known [] change = refl
after_one known (told ∷ changes) change = after_one (after_change known told) changes change

-- those of them under a folder
under_one : (top : ℕ) (known : List FolderAt) (changes : List Change) (change : Change) → under top known (changes ++ change ∷ []) ≡ under top known changes ++ if_under top (after_changes known changes) change
unfolding under after_changes
under_one top known [] change = append-nil (if_under top known change)
under_one top known (told ∷ changes) change =
    ap (λ (l : List Change). if_under top known told ++ l) (under_one top (after_change known told) changes change)
    ∙ sym (append_assoc (if_under top known told) (under top (after_change known told) changes) (if_under top (after_changes (after_change known told) changes) change))

-- by whether it lies under it
abbrev one_if : Bool → Change → List Change
one_if b change = if b then change ∷ [] else []

module _ {W : Type 0} (told : W → List Change) (leaves : W → Bool) where
  pub tells_none : (watching : Watching W) → TellsUnder told [] watching watching
  unfolding under after_changes
  tells_none watching = record { heard = sym (append-nil watching.told); passed_on = sym (append-nil (told watching.inner)); known = refl; top = refl; room = refl }

  passes : (changes : List Change) (change : Change) (old mid : Watching W) (is : Bool) → TellsUnder told changes old mid → is_under mid.top mid.known change ≡ is
      → told mid.inner ++ one_if is change ≡ told old.inner ++ under old.top old.known (changes ++ change ∷ [])
  passes changes change old mid is so_far here =
      ap (λ (l : List Change). l ++ one_if is change) so_far.passed_on
      ∙ append_assoc (told old.inner) (under old.top old.known changes) (one_if is change)
      ∙ ap (λ (l : List Change). told old.inner ++ l)
      (ap (λ b. under old.top old.known changes ++ one_if b change) (sym here)
      ∙ ap (λ t. under old.top old.known changes ++ if_under t mid.known change) so_far.top
      ∙ ap (λ k. under old.top old.known changes ++ if_under old.top k change) so_far.known
      ∙ sym (under_one old.top old.known changes change))

  pub tells_next : (changes : List Change) (change : Change) (old mid new : Watching W) → TellsUnder told changes old mid → HearsUnder told leaves change mid new Stay → TellsUnder told (changes ++ change ∷ []) old new
  tells_next changes change old mid new so_far (elsewhere here room out) = record {
    heard = ap (λ (l : List Change). l ++ change ∷ []) so_far.heard ∙ append_assoc old.told changes (change ∷ []);
    passed_on = sym (append-nil (told mid.inner)) ∙ passes changes change old mid false so_far out;
    known = ap (λ k. after_change k change) so_far.known ∙ sym (after_one old.known changes change);
    top = so_far.top;
    room = so_far.room;
  }
  tells_next changes change old mid new so_far (both_stay here room within heard stays) = record {
    heard = ap (λ (l : List Change). l ++ change ∷ []) so_far.heard ∙ append_assoc old.told changes (change ∷ []);
    passed_on = heard ∙ passes changes change old mid true so_far within;
    known = ap (λ k. after_change k change) so_far.known ∙ sym (after_one old.known changes change);
    top = so_far.top;
    room = so_far.room;
  }

-- ---- one change is heard, by somebody who was seen as `first`, and kept it

module _ {W : Type 0} (told : W → List Change) (leaves : W → Bool) (change : Change) (first old : Watching W) (first_is : first ≡ old) where
  pub hear_left : first.has_left ≡ true → HearsUnder told leaves change old old Leave
  hear_left is = had_left (sym (ap (λ (w : Watching W). w.has_left) first_is) ∙ is)

  stays : first.has_left ≡ false → old.has_left ≡ false
  stays is = sym (ap (λ (w : Watching W). w.has_left) first_is) ∙ is

  pub hear_crowded : (new : Watching W) → new ≡ record first { has_left = true } → first.has_left ≡ false → is_crowded old.room old.known change ≡ true → HearsUnder told leaves change old new Leave
  hear_crowded new is still crowded =
      subst (λ (n : Watching W). HearsUnder told leaves change old n Leave) (sym (is ∙ ap (λ (w : Watching W). record w { has_left = true }) first_is)) (no_room (stays still) crowded)

  module _ (still : first.has_left ≡ false) (roomy : is_crowded old.room old.known change ≡ false) (seen kept : Watching W) (seen_is : seen ≡ kept) (kept_is : kept ≡ with_change change old)
      (list : List FolderAt) (list_is : list ≡ seen.known) (within : Bool) (within_is : within ≡ is_within (length list) list seen.top change.parent) where
    is_there : is_under old.top old.known change ≡ within
    is_there = sym (within_is ∙ ap (λ (l : List FolderAt). is_within (length l) l seen.top change.parent) list_is ∙ ap (λ (w : Watching W). is_within (length w.known) w.known w.top change.parent) (seen_is ∙ kept_is))

    pub hear_elsewhere : within ≡ false → HearsUnder told leaves change old kept Stay
    hear_elsewhere is = subst (λ (n : Watching W). HearsUnder told leaves change old n Stay) (sym kept_is) (elsewhere (stays still) roomy (is_there ∙ is))

    was : told seen.inner ≡ told old.inner
    was = ap (λ (w : Watching W). told w.inner) (seen_is ∙ kept_is)

    pub hear_stays : within ≡ true → (inner : W) (new : Watching W) → new ≡ record seen { inner = inner } → told inner ≡ told seen.inner ++ change ∷ [] → leaves inner ≡ false → HearsUnder told leaves change old new Stay
    hear_stays is inner new new_is heard stay =
        subst (λ (n : Watching W). HearsUnder told leaves change old n Stay) (sym (new_is ∙ ap (λ (w : Watching W). record w { inner = inner }) (seen_is ∙ kept_is)))
        (both_stay (stays still) roomy (is_there ∙ is) (heard ∙ ap (λ (l : List Change). l ++ change ∷ []) was) stay)

    pub hear_leaves : within ≡ true → (inner : W) (new : Watching W) → new ≡ record seen { has_left = true; inner = inner } → (told inner ≡ told seen.inner ++ change ∷ []) ⊎ (told inner ≡ told seen.inner) → leaves inner ≡ true → HearsUnder told leaves change old new Leave
    hear_leaves is inner new new_is unsure go =
        subst (λ (n : Watching W). HearsUnder told leaves change old n Leave) (sym (new_is ∙ ap (λ (w : Watching W). record w { has_left = true; inner = inner }) (seen_is ∙ kept_is)))
        (both_leave (stays still) roomy (is_there ∙ is) (either unsure) go)
      where
        either : (told inner ≡ told seen.inner ++ change ∷ []) ⊎ (told inner ≡ told seen.inner) → (told inner ≡ told old.inner ++ change ∷ []) ⊎ (told inner ≡ told old.inner)
        either (inl heard) = inl (heard ∙ ap (λ (l : List Change). l ++ change ∷ []) was)
        either (inr not_heard) = inr (not_heard ∙ was)
