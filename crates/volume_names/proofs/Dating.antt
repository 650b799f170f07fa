-- `at`: with another moment in its header, and the header put, the volume is settled again, and its tree is the step's.
use Rattle.std.proofs.Common.{◌≡◌, ℕ, sym, ◌∙◌, ap, subst}
use Rattle.std.specs.Prelude.{Ok}
use Rattle.sector_disk.specs.Space.{Space}
use Rattle.hfs_language.specs.declared.command.Command.TheVariants as command
use Rattle.hfs_model.specs.Step.{step_line}
use Rattle.hfs_volume.specs.Attributing.{AtDoes, at_moment}
use Rattle.hfs_volume.specs.Content.{VolumeState, volume_of}
use Rattle.hfs_volume.specs.Links.{private_id}
use Rattle.hfs_volume.specs.Records.{placed_in}
use Rattle.hfs_volume.specs.Sound.{IsSoundVolume}
use Rattle.hfs_volume.specs.TreeOf.{bytes_in, tree_in, tree_of}
use Rattle.volume_base.specs.Changing.{ChangesCatalog, PutsHeader}
use Rattle.volume_base.specs.Standing.{IsStanding, IsSettled}
use Rattle.volume_base.specs.declared.volume.Volume.{Volume}
use Rattle.volume_base.proofs.HeaderPut.{dated}
use Rattle.volume_base.proofs.ListsAgain.{lists_again}
use Rattle.volume_base.proofs.ListsAfter.{numbers_change, changes_both}
use Rattle.volume_base.proofs.Settling.{lists_then, settles_again, tree_again}

module _ (law : AtDoes) (moment : ℕ) (v : Volume) (a b : Space) (settled : IsSettled v a.content) (was : IsStanding v a) (stands : IsStanding (dated moment v) b) (put : PutsHeader (dated moment v) a.content b.content) where
  changes : ChangesCatalog v (dated moment v) a.content b.content
  changes = changes_both v (dated moment v) (dated moment v) a.content a.content b.content (numbers_change v (record v.header { modify_date = moment }) a.content) put.changes

  told : lists_then a.content (dated moment v) b.content ≡ at_moment moment (volume_of a.content)
  told = (λ i. record (put.lists i) { attributes_tree = (volume_of a.content).attributes_tree }) ∙ sym (λ i. record (settled.lists i) { head = record (settled.lists i).head { modify_date = moment } })

  does : IsSoundVolume (at_moment moment (volume_of a.content)) × (tree_in (at_moment moment (volume_of a.content)) (bytes_in a.content) ≡ (step_line (tree_in (volume_of a.content) (bytes_in a.content)) (Ok (command.At moment))).1)
  does = law moment (volume_of a.content) (bytes_in a.content) settled.sound

  sound : IsSoundVolume (lists_then a.content (dated moment v) b.content)
  sound = subst IsSoundVolume (sym told) does.0

  pub dated_settles : IsSettled (dated moment v) b.content
  dated_settles = settles_again v (dated moment v) a b changes settled was stands put.headed sound (ap (λ (l : VolumeState). private_id (placed_in l.catalog_pairs)) put.lists)

  -- the content's lists have the moment, and nothing else of them is changed
  pub dated_lists : volume_of b.content ≡ at_moment moment (volume_of a.content)
  dated_lists = lists_again v (dated moment v) a b changes settled was dated_settles ∙ told

  pub dated_tree : tree_of b.content ≡ (step_line (tree_of a.content) (Ok (command.At moment))).1
  unfolding tree_of
  dated_tree = tree_again v (dated moment v) a b changes settled was stands put.headed sound ∙ ap (λ (l : VolumeState). tree_in l (bytes_in a.content)) told ∙ does.1
