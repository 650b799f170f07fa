-- A new folder or file against which nothing stands.
use Rattle.std.proofs.Common.{◌≡◌, ℕ, Bool, true, false, List, [], ◌∷◌, refl, sym, ◌∙◌, ap}
use Rattle.std.proofs.lemmas.Bool.{true≢false}
use Rattle.std.specs.Prelude.{Result, Ok, Err}
use Rattle.sector_disk.specs.Lists.{Content}
use Rattle.hfs_language.specs.Written.{FitsPath}
use Rattle.hfs_language.specs.declared.refusal.Refusal.{Refusal}
use Rattle.hfs_model.specs.Step.{Place, is_private_path, is_refusal, made, refuses, step_line, to_make}
use Rattle.hfs_model.specs.declared.plain.PlainTree.{PlainTree}
use Rattle.hfs_volume.specs.Books.{SoundHasPlainTree}
use Rattle.hfs_volume.specs.TreeOf.{tree_of}
use Rattle.volume_base.specs.Lists.{lists_of}
use Rattle.volume_base.specs.Making.{IsSite, free_place, making, path_to, site_under}
use Rattle.volume_base.specs.Reaching.{folder_in}
use Rattle.volume_base.specs.Standing.{HoldsTrees, IsSettled}
use Rattle.volume_base.specs.declared.volume.Volume.{Volume}
use Rattle.volume_base.proofs.Sited.{is_site, made_line, private_line, refused_line, site_reached, site_told}

module _ (tree : PlainTree) (path : List (List ℕ)) (folder : Bool) (fine : refuses tree (Ok (making folder path)) ≡ false) where
  pub fine_free : is_private_path path ≡ false
  fine_free = by (is_private_path path) refl
    where
      by : (b : Bool) → is_private_path path ≡ b → b ≡ false
      by true own = absurd (true≢false (ap is_refusal (private_line tree path folder own).0 ∙ fine))
      by false free = refl

  pub fine_place : (at : Place) × (to_make tree path ≡ Ok at)
  fine_place = by (to_make tree path) refl
    where
      by : (r : Result Place Refusal) → to_make tree path ≡ r → (at : Place) × (to_make tree path ≡ Ok at)
      by (Ok at) is = (at, is)
      by (Err why) is = absurd (true≢false (ap is_refusal (refused_line tree path folder why fine_free is).0 ∙ fine))

-- a name is made in the folder that the path above it reaches
module _ (law : SoundHasPlainTree) (v : Volume) (content : Content) (holds : HoldsTrees v content) (settled : IsSettled v content) (above : List (List ℕ)) (name : List ℕ) (fits : FitsPath (path_to above name)) (folder : Bool)
    (fine : refuses (tree_of content) (Ok (making folder (path_to above name))) ≡ false) (id : ℕ) (reached : folder_in (lists_of v content).catalog_pairs above ≡ Ok id)
  where
    free : is_private_path (path_to above name) ≡ false
    free = fine_free (tree_of content) (path_to above name) folder fine

    found : site_under (lists_of v content).catalog_pairs above name ≡ Ok id
    found =
        let it = fine_place (tree_of content) (path_to above name) folder fine in
        site_reached law v content holds settled (path_to above name) above name refl free fits (site_under (lists_of v content).catalog_pairs above name) refl it.0 it.1 id reached

    pub fine_site : IsSite (tree_of content) id name
    fine_site = is_site law v content holds settled (path_to above name) above name refl free fits (site_under (lists_of v content).catalog_pairs above name) refl id found

    pub fine_told : to_make (tree_of content) (path_to above name) ≡ Ok (free_place id name)
    fine_told = site_told law v content holds settled (path_to above name) above name refl free fits (site_under (lists_of v content).catalog_pairs above name) refl id found

    pub fine_tree : made folder (free_place id name) (tree_of content) ≡ (step_line (tree_of content) (Ok (making folder (path_to above name)))).1
    fine_tree = (made_line (tree_of content) (path_to above name) folder (free_place id name) free fine_told).1
