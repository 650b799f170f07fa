-- The six records of a volume that was just made have no link, and their entries and threads match.
use Rattle.std.proofs.Common.{◌≡◌, ℕ, false, true≢false, List, [], ◌∷◌, refl, sym, ◌∙◌}
use Rattle.std.specs.List.{All}
use Rattle.std.proofs.lemmas.List.Elements.{All-from_recursion, All-contains}
use Rattle.hx_bytes.specs.Field.{number_at}
use Rattle.hfs_volume.specs.Records.{Placed, entries_of, is_link}
use Rattle.hfs_volume.specs.Links.{AreLinks}
use Rattle.volume_make.specs.declared.layout.Layout.{Layout}
use Rattle.fresh_volume.specs.Fresh.{fresh_records}

-- no entry is a link
no_links : (layout : Layout) (name : List ℕ) → All (λ (placed : Placed). is_link placed ≡ false) (entries_of (fresh_records layout name))
unfolding number_at
no_links layout [] = All-from_recursion (λ (placed : Placed). is_link placed ≡ false) (entries_of (fresh_records layout [])) (refl, (refl, tt))
no_links layout (unit ∷ units) = All-from_recursion (λ (placed : Placed). is_link placed ≡ false) (entries_of (fresh_records layout (unit ∷ units))) (refl, (refl, (refl, tt)))

pub links_good : (layout : Layout) (name : List ℕ) → AreLinks (fresh_records layout name) []
links_good layout name = record {
  good = record {
    private_folder = λ placed found. absurd (cc found);
    links = λ placed stands linked. absurd (true≢false (sym linked ∙ All-contains (λ (p : Placed). is_link p ≡ false) (entries_of (fresh_records layout name)) placed (no_links layout name) stands));
  };
  counts = λ reference file stands shared. absurd (true≢false (sym shared));
}
