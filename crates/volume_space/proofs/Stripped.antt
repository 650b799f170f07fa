-- Where an attribute of a file that waits was deleted, and the blocks of its value were given back, the tree is as it was.
use Rattle.std.proofs.Common.{◌≡◌, ℕ, Bool, List, [], refl, sym, ◌∙◌, ap, subst}
use Rattle.std.specs.Prelude.{◌==◌, ◌&&◌, Option, Some}
use Rattle.std.specs.Str.{bytes_eq}
use Rattle.sector_disk.specs.Lists.{Content}
use Rattle.hfs_volume.specs.Changes.{DropsAttribute, InValues}
use Rattle.hfs_volume.specs.Content.{VolumeState, attributes_of, volume_of}
use Rattle.hfs_volume.specs.Reclaim.{Does, DropAttribute, next_reclaim}
use Rattle.hfs_volume.specs.Reclaiming.{DropIsOfAttribute, HasLastAttribute, OrphanBared}
use Rattle.hfs_volume.specs.Records.{id_of}
use Rattle.hfs_volume.specs.Sound.{IsSoundVolume}
use Rattle.hfs_volume.specs.TreeOf.{bytes_in, tree_in, tree_of}
use Rattle.hfs_volume.specs.Values.{value_blocks}
use Rattle.volume_space.specs.Orphans.{BaresWaiting}
use Rattle.volume_base.specs.Standing.{HoldsTrees, IsSettled}
use Rattle.volume_base.specs.declared.volume.Volume.{Volume}
use Rattle.volume_base.proofs.Rising.{settled_sorted}
use Rattle.volume_base.proofs.ValuesGiven.{IsGiven}

-- the attribute of this name of this folder or file
abbrev pub named_by : ℕ → List ℕ → ℕ → List ℕ → Bool
named_by id name number other = (number == id) && bytes_eq other name

module _ (v x : Volume) (a c : Content) (settled : IsSettled v a) (holds : HoldsTrees v a) (id : ℕ) (name : List ℕ) (freed : List ℕ) (given : IsGiven (named_by id name) freed x a c) (freed_is : freed ≡ value_blocks (attributes_of (volume_of a)) id name)
    (shrunk : Option ℕ) (next : next_reclaim (volume_of a) shrunk ≡ Some (DropAttribute id name)) (is_of : DropIsOfAttribute) (law : OrphanBared)
  where
    last : HasLastAttribute id name (volume_of a)
    last = is_of (volume_of a) shrunk id name settled.sound next

    bares : InValues (DropsAttribute id name) [] (value_blocks (attributes_of (volume_of a)) id name) (volume_of a) (volume_of c)
    bares = subst (λ (l : List ℕ). InValues (DropsAttribute id name) [] l (volume_of a) (volume_of c)) freed_is given.values

    does : IsSoundVolume (volume_of c) × (tree_in (volume_of c) (bytes_in a) ≡ tree_in (volume_of a) (bytes_in a)) × Does (DropAttribute id name) (volume_of a) (volume_of c)
    does =
        let so = law last.entry name (volume_of a) (volume_of c) (bytes_in a) (settled_sorted v a holds settled) settled.sound last.is_orphan
        (subst (λ n. InValues (DropsAttribute n name) [] (value_blocks (attributes_of (volume_of a)) n name) (volume_of a) (volume_of c)) (sym last.is_entry) bares) in
        (so.0, so.1, subst (λ n. Does (DropAttribute n name) (volume_of a) (volume_of c)) last.is_entry so.2)

    tree_same : tree_of c ≡ tree_of a
    unfolding tree_of
    tree_same = given.tree ∙ does.1

    pub bared_one : IsSettled x c × ((waiting : BaresWaiting shrunk a c) × (waiting.id ≡ id) × (waiting.name ≡ name))
    bared_one = (given.settled, (record { id = id; name = name; next = next; bares = bares; does = does.2; tree = tree_same }, refl, refl))
