-- `mv` to a free place, and over an entry that stands there.
use Rattle.std.proofs.Common.{◌≡◌, Bool, true, false, List, ℕ, refl, sym, ◌∙◌, ap}
use Rattle.std.specs.Prelude.{is_some, Option, Some, None, Result, Ok, Err, if◌then◌else◌}
use Rattle.std.proofs.lemmas.Bool.{true≢false}
use Rattle.hfs_language.specs.declared.refusal.Refusal.{Refusal}
use Rattle.hfs_language.specs.declared.refusal.Refusal.TheVariants as refusal
use Rattle.hfs_model.specs.Step.{Place, is_below, stands_in_way, then_, to_mv, to_pair, unless}
use Rattle.hfs_model.specs.declared.plain.PlainEntry.{PlainEntry}
use Rattle.hfs_model.specs.declared.plain.PlainTree.{PlainTree}
use Rattle.volume_base.specs.Moving.{to_free}
use Rattle.volume_base.specs.Refusing.{is_exists}

-- one reason alone says that a name is taken
pub exists_is : (why : Refusal) → is_exists why ≡ true → why ≡ refusal.Exists
exists_is refusal.Exists is = refl
exists_is refusal.TooLong is = absurd (true≢false (sym is))
exists_is refusal.BadCommand is = absurd (true≢false (sym is))
exists_is refusal.BadName is = absurd (true≢false (sym is))
exists_is refusal.NameTooLong is = absurd (true≢false (sym is))
exists_is refusal.Private is = absurd (true≢false (sym is))
exists_is refusal.Root is = absurd (true≢false (sym is))
exists_is refusal.NotFound is = absurd (true≢false (sym is))
exists_is refusal.NotFolder is = absurd (true≢false (sym is))
exists_is refusal.IsFolder is = absurd (true≢false (sym is))
exists_is refusal.NotEmpty is = absurd (true≢false (sym is))
exists_is refusal.Inside is = absurd (true≢false (sym is))
exists_is refusal.TooManyLinks is = absurd (true≢false (sym is))
exists_is refusal.TooLarge is = absurd (true≢false (sym is))
exists_is refusal.AttributeTooLarge is = absurd (true≢false (sym is))
exists_is refusal.NoAttribute is = absurd (true≢false (sym is))
exists_is refusal.BadTarget is = absurd (true≢false (sym is))
exists_is refusal.NoTree is = absurd (true≢false (sym is))
exists_is (refusal.NoIds a) is = absurd (true≢false (sym is))
exists_is (refusal.TooDeep a) is = absurd (true≢false (sym is))
exists_is (refusal.OverflowFull a) is = absurd (true≢false (sym is))
exists_is (refusal.NoSpace a b) is = absurd (true≢false (sym is))
exists_is (refusal.NoRun a b) is = absurd (true≢false (sym is))
exists_is (refusal.TooBig a b) is = absurd (true≢false (sym is))
exists_is refusal.OutOfMemory is = absurd (true≢false (sym is))
exists_is refusal.Unsteady is = absurd (true≢false (sym is))

module _ (tree : PlainTree) (from to : List (List ℕ)) where
  abbrev Pair : Type 0
  Pair = PlainEntry × Place

  abbrev tried : Result Pair Refusal → Result Pair Refusal
  tried r = then_ r (λ p. then_ (unless (stands_in_way p.0 p.1.found) refusal.Exists p) (unless (is_below to from) refusal.Inside))

  abbrev tried_free : Result Pair Refusal → Result Pair Refusal
  tried_free r = then_ r (λ p. then_ (unless (is_some p.1.found) refusal.Exists p) (unless (is_below to from) refusal.Inside))

  -- where nothing stands at the place, both are the same
  same_free : (p : Pair) → p.1.found ≡ None → tried (Ok p) ≡ tried_free (Ok p)
  same_free p free =
      ap (λ o. then_ (unless (stands_in_way p.0 o) refusal.Exists p) (unless (is_below to from) refusal.Inside)) free
      ∙ sym (ap (λ (o : Option PlainEntry). then_ (unless (is_some o) refusal.Exists p) (unless (is_below to from) refusal.Inside)) free)

  -- where something does, `mv` to a free place is refused
  taken_is : (p : Pair) (e : PlainEntry) → p.1.found ≡ Some e → tried_free (Ok p) ≡ Err refusal.Exists
  taken_is p e taken = ap (λ (o : Option PlainEntry). then_ (unless (is_some o) refusal.Exists p) (unless (is_below to from) refusal.Inside)) taken

  pub free_mv : (pair : Pair) → to_free tree from to ≡ Ok pair → to_mv tree from to ≡ Ok pair
  free_mv pair is = by (to_pair tree from to) is
    where
      by_found : (p : Pair) (o : Option PlainEntry) → p.1.found ≡ o → tried_free (Ok p) ≡ Ok pair → tried (Ok p) ≡ Ok pair
      by_found p None free same = same_free p free ∙ same
      by_found p (Some e) taken same = absurd (let never : Err refusal.Exists ≡ Ok pair = sym (taken_is p e taken) ∙ same in cc never)

      by : (r : Result Pair Refusal) → tried_free r ≡ Ok pair → tried r ≡ Ok pair
      by (Ok p) same = by_found p p.1.found refl same
      by (Err why) same = same

  abbrev is_taken : Result Pair Refusal → Bool
  is_taken (Ok p) = false
  is_taken (Err why) = is_exists why

  pub free_refused : (why : Refusal) → to_free tree from to ≡ Err why → is_exists why ≡ false → to_mv tree from to ≡ Err why
  free_refused why is other = by (to_pair tree from to) is
    where
      by_found : (p : Pair) (o : Option PlainEntry) → p.1.found ≡ o → tried_free (Ok p) ≡ Err why → tried (Ok p) ≡ Err why
      by_found p None free same = same_free p free ∙ same
      by_found p (Some e) taken same = absurd (true≢false (ap is_taken (sym (taken_is p e taken) ∙ same) ∙ other))

      by : (r : Result Pair Refusal) → tried_free r ≡ Err why → tried r ≡ Err why
      by (Ok p) same = by_found p p.1.found refl same
      by (Err other_why) same = same
