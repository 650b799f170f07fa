-- A file that went to the private folder, with links at both names: what the counts and the date behind it need, and what they come to.
use Rattle.std.proofs.Common.{◌≡◌, ◌<◌, ℕ, ◌+◌, ◌^◌, true, List}
use Rattle.std.specs.Prelude.{nat_lt, None, Some}
use Rattle.sector_disk.specs.Lists.{Content}
use Rattle.sector_disk.specs.Space.{Space}
use Rattle.hfs_language.specs.declared.command.Command.TheVariants as command
use Rattle.hfs_model.specs.Step.{step}
use Rattle.hfs_model.specs.declared.plain.PlainEntry.{PlainEntry}
use Rattle.hfs_volume.specs.Content.{volume_of}
use Rattle.hfs_volume.specs.Entries.{AreThreaded}
use Rattle.hfs_volume.specs.Links.{node_name}
use Rattle.hfs_volume.specs.Naming.{LinksFirst, LnDoes}
use Rattle.hfs_volume.specs.Records.{placed_in, record_at}
use Rattle.hfs_volume.specs.TreeOf.{tree_of}
use Rattle.volume_base.specs.Changing.{HasFolder, TouchesFolder}
use Rattle.volume_base.specs.Linking.{IsLinking}
use Rattle.volume_base.specs.Lists.{lists_of}
use Rattle.volume_base.specs.Losing.{IsOnlyName}
use Rattle.volume_base.specs.Making.{free_place}
use Rattle.volume_names.specs.Sharing.{LinksBoth}
use Rattle.volume_base.specs.Standing.{IsSettled, IsStanding}
use Rattle.volume_names.specs.Unlinking.{HasShared, SaysLinks}
use Rattle.volume_base.specs.declared.volume.Volume.{Volume}
use Rattle.volume_names.proofs.FirstMade as first

module _ (v : Volume) (a : Space) (settled : IsSettled v a.content) (was : IsStanding v a) (from to : List (List ℕ)) (at : PlainEntry) (parent : ℕ) (old : List ℕ) (id folder : ℕ) (name : List ℕ)
    (linking : IsLinking (tree_of a.content) from to at parent old id folder name) (only : IsOnlyName (record { parent = parent; name = old }) (lists_of v a.content).catalog_pairs) (private : ℕ) (here : v.private ≡ Some private)
    (ids_fit : v.header.next_catalog_id + 2 < 2 ^ 32) (number : ℕ) (low : nat_lt number (2 ^ 32) ≡ true) (free : record_at (placed_in (lists_of v a.content).catalog_pairs) private (node_name number) ≡ None) (created : ℕ)
    (y : Volume) (d : Content) (both : LinksBoth parent old private number folder name created v y a.content d)
  where
    pub threads_linked : AreThreaded (lists_of y d).catalog_pairs
    threads_linked = first.threads_linked v a settled was from to at parent old id folder name linking only private here ids_fit number low free both.moved both.moved_in both.shares both.holds_moved created both.replaced both.replaced_in both.one both.holds_replaced y d both.two both.holds

    pub private_linked : HasFolder private 1 (lists_of y d).catalog_pairs
    private_linked = first.private_after v a settled was from to at parent old id folder name linking only private here ids_fit number low free both.moved both.moved_in both.shares both.holds_moved created both.replaced both.replaced_in both.one both.holds_replaced y d both.two both.holds

    module _ (z : Volume) (e : Content) (fills : TouchesFolder private 1 0 y z d e) where
      pub threads_filled : AreThreaded (lists_of z e).catalog_pairs
      threads_filled = first.threads_filled v a settled was from to at parent old id folder name linking only private here ids_fit number low free both.moved both.moved_in both.shares both.holds_moved created both.replaced both.replaced_in both.one both.holds_replaced y d both.two both.holds z e fills

      pub shared_filled : HasShared id (lists_of z e).catalog_pairs
      shared_filled = first.shared_filled v a settled was from to at parent old id folder name linking only private here ids_fit number low free both.moved both.moved_in both.shares both.holds_moved created both.replaced both.replaced_in both.one both.holds_replaced y d both.two both.holds z e fills

      module _ (t : Volume) (f : Content) (says : (had : ℕ) × SaysLinks id 2 had z t e f) where
        pub threads_said : AreThreaded (lists_of t f).catalog_pairs
        threads_said = first.threads_said v a settled was from to at parent old id folder name linking only private here ids_fit number low free both.moved both.moved_in both.shares both.holds_moved created both.replaced both.replaced_in both.one both.holds_replaced y d both.two both.holds z e fills says.0 t f says.1

        pub goal_said : HasFolder folder 1 (lists_of t f).catalog_pairs
        goal_said = first.goal_after v a settled was from to at parent old id folder name linking only private here ids_fit number low free both.moved both.moved_in both.shares both.holds_moved created both.replaced both.replaced_in both.one both.holds_replaced y d both.two both.holds z e fills says.0 t f says.1

        pub first_done : (u : Volume) (g : Space) → TouchesFolder folder 1 0 t u f g.content → IsStanding u g → LnDoes
            → IsSettled u g.content × (tree_of g.content ≡ (step (tree_of a.content) (command.Ln from to)).1) × LinksFirst at (free_place folder name) (volume_of a.content) (volume_of g.content)
        first_done u g gains stands law = first.first_does v a settled was from to at parent old id folder name linking only private here ids_fit number low free both.moved both.moved_in both.shares both.holds_moved created both.replaced both.replaced_in both.one both.holds_replaced y d both.two both.holds z e fills says.0 t f says.1 u g gains stands law
