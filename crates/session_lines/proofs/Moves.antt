-- What a move takes a name of, by what stands at both its paths.
use Rattle.std.proofs.Common.{◌≡◌, ◌⊎◌, ℕ, Bool, true, false, List, [], ◌∷◌, inl, inr, refl, sym, ◌∙◌, ap, subst}
use Rattle.std.specs.Prelude.{◌&&◌, ◌||◌, ◌==◌, is_some, Option, Some, None, Result, Ok, Err, if◌then◌else◌}
use Rattle.std.specs.Option.{ok_or}
use Rattle.std.specs.Str.{bytes_eq}
use Rattle.std.proofs.lemmas.Bool.{true≢false}
use Rattle.std.proofs.lemmas.Slice.Eq.{bytes_eq-Decides}
use Rattle.hfs_language.specs.declared.command.Command.TheVariants as command
use Rattle.hfs_language.specs.declared.refusal.Refusal.{Refusal}
use Rattle.hfs_language.specs.declared.refusal.Refusal.TheVariants as refusal
use Rattle.hfs_model.specs.Plain.{entry_at}
use Rattle.hfs_model.specs.Step.{Place, child, front, is_below, is_root, last_name, place, place_in, reached, root_entry, stands_in_way, then_, to_mv, to_pair, unless, walk}
use Rattle.hfs_model.specs.declared.plain.PlainEntry.{PlainEntry}
use Rattle.hfs_model.specs.declared.plain.PlainTree.{PlainTree}
use Rattle.hfs_volume.proofs.Reaching.{ok_same, then_ok}
use Rattle.open_files.specs.Machine.{Taken, replaced, taken_by, taken_entry}

module _ (tree : PlainTree) where
  abbrev pub found_there : Place → Result PlainEntry Refusal
  found_there at = ok_or at.found refusal.NotFound

  -- a path reaches what stands at its place
  at_place : (from : PlainEntry) (name : List ℕ) (path : List (List ℕ)) → walk tree from (name ∷ path) ≡ then_ (then_ (walk tree from (front (name ∷ path))) (place_in tree (last_name (name ∷ path)))) found_there
  at_place from name [] = by from.folder (entry_at tree from.id name)
    where
      by : (b : Bool) (o : Option PlainEntry) → then_ (if b then ok_or o refusal.NotFound else Err refusal.NotFolder) (λ next. Ok next) ≡ then_ (if b then Ok (record { folder = from.id; name = name; found = o }) else Err refusal.NotFolder) found_there
      by true (Some entry) = refl
      by true None = refl
      by false o = refl
  at_place from name (next ∷ path) = by (child tree from name) (λ entry. at_place entry next path)
    where
      by : (r : Result PlainEntry Refusal) → ((entry : PlainEntry) → walk tree entry (next ∷ path) ≡ then_ (then_ (walk tree entry (front (next ∷ path))) (place_in tree (last_name (next ∷ path)))) found_there)
          → then_ r (λ entry. walk tree entry (next ∷ path)) ≡ then_ (then_ (then_ r (λ entry. walk tree entry (front (next ∷ path)))) (place_in tree (last_name (next ∷ path)))) found_there
      by (Ok entry) later = later entry
      by (Err why) later = refl

  pub reached_there : (name : List ℕ) (path : List (List ℕ)) → reached tree (name ∷ path) ≡ then_ (place tree (name ∷ path)) found_there
  reached_there name path = at_place root_entry name path

  -- nothing stands below a file
  nothing_below : (from : PlainEntry) (top path : List (List ℕ)) (at : PlainEntry) → walk tree from top ≡ Ok at → at.folder ≡ false → is_below path top ≡ true → (e : PlainEntry) → walk tree from path ≡ Ok e → ⊥
  nothing_below from top [] at is kind below e reaches = true≢false (sym below)
  nothing_below from [] (name ∷ path) at is kind below e reaches =
      let first = then_ok (child tree from name) (λ next. walk tree next path) e reaches in
      let closed : from.folder ≡ false = ap (λ (x : PlainEntry). x.folder) (ok_same from at is) ∙ kind in
      let refused : child tree from name ≡ Err refusal.NotFolder = ap (λ b. if b then ok_or (entry_at tree from.id name) refusal.NotFound else Err refusal.NotFolder) closed in
      cc (sym refused ∙ first.1)
  nothing_below from (other ∷ top) (name ∷ path) at is kind below e reaches =
      let first = then_ok (child tree from other) (λ next. walk tree next top) at is in
      let same : name ≡ other = (bytes_eq-Decides name other).0 (both (bytes_eq name other) (is_below path top) below).0 in
      let second = then_ok (child tree from name) (λ next. walk tree next path) e reaches in
      let one : second.0 ≡ first.0 = ok_same second.0 first.0 (sym second.1 ∙ ap (child tree from) same ∙ first.1) in
      nothing_below first.0 top path at first.2 kind (both (bytes_eq name other) (is_below path top) below).1 e (subst (λ (x : PlainEntry). walk tree x path ≡ Ok e) one second.2)
    where
      both : (a b : Bool) → (a && b) ≡ true → (a ≡ true) × (b ≡ true)
      both true b is = (refl, is)
      both false b is = absurd (true≢false (sym is))

  pub not_inside : (from to : List (List ℕ)) (at e : PlainEntry) → reached tree from ≡ Ok at → at.folder ≡ false → reached tree to ≡ Ok e → is_below to from ≡ false
  not_inside from to at e is kind reaches = by (is_below to from) refl
    where
      by : (b : Bool) → is_below to from ≡ b → b ≡ false
      by false below = refl
      by true below = absurd (nothing_below root_entry from to at is kind below e reaches)
