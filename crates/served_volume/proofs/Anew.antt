-- A volume that comes into service anew, where memory was missing inside a command.
use Rattle.std.proofs.Common.{◌≡◌, ◌⊎◌, ℕ, Bool, true, false, List, [], ◌∷◌, ◌++◌, inl, inr, ⊎_elim, length, refl, sym, ◌∙◌, ap, subst}
use Rattle.std.specs.Prelude.{Contains, IsTrue, Option, if◌then◌else◌}
use Rattle.fork_map.specs.Blocks.{blocks_of, sectors_of}
use Rattle.jnl_format.specs.Recovery.{Content, header_of_volume}
use Rattle.sector_disk.specs.Space.{Space, AgreesOutside}
use Rattle.volume_header.specs.declared.header.VolumeHeader.{VolumeHeader}
use Rattle.hfs_volume.specs.Aside.{AsideIsFree, IsAside, IsFreeSector, NamesJournal}
use Rattle.hfs_volume.specs.Content.{VolumeState, has_attributes, overflow_in_volume, overflow_of_content, sectors_in, volume_of}
use Rattle.hfs_volume.specs.Forks.{extents_of, per_block_of, extents_id, catalog_id, allocation_id, attributes_id, data_kind}
use Rattle.hfs_volume.specs.Records.{Overflow}
use Rattle.hfs_volume.specs.Sound.{IsSound}
use Rattle.hfs_volume.specs.TreeOf.{tree_of}
use Rattle.hfs_serving.specs.Serving.{IsRead}
use Rattle.hfs_serving.specs.Undoing.{Recalls, put_sectors}
use Rattle.hfs_serving.specs.declared.volume.Recalled.{Recalled}
use Rattle.hfs_serving.proofs.Agreeing.{agrees_more}
use Rattle.volume_base.specs.Keeping.{shrunk_of}
use Rattle.volume_base.specs.Lists.{lists_of}
use Rattle.volume_base.specs.Room.{capacity_of}
use Rattle.volume_base.specs.Standing.{IsSettled, IsStanding, attribute_sectors, own_sectors, own_sectors_in}
use Rattle.volume_base.specs.Touching as base
use Rattle.volume_base.specs.declared.volume.Volume.{Volume}
use Rattle.volume_base.specs.Holding.{IsLaidOutAs}
use Rattle.volume_base.specs.Holding.{HoldsOn}
use Rattle.served_volume.specs.Knowing.{Knows}
use Rattle.served_volume.proofs.Heading.{head_is}
use Rattle.served_volume.proofs.Holding.{holds_own}
use Rattle.served_volume.proofs.LaidOut.{laid_out}

-- what a call changed of the durable content lies in blocks that are free in what the volume stands for
pub own_then : (v : Volume) (capacity : ℕ) (committed now : Content) (shrunk : Option ℕ) (these : ℕ → Type 0) (a b : Space) → IsTrue a.tells → Knows v capacity committed now shrunk a → ((c : Content) → HoldsOn c v → IsLaidOutAs c v → base.Touches c these a b) → AgreesOutside (IsFreeSector now) a.durable b.durable
own_then v capacity committed now shrunk these a b tells known touches =
    let own = touches now (holds_own v a.content now known.alike.lists known.settled known.holds.0) (laid_out v a.content now known.alike.lists known.settled) in
    agrees_more (λ s. IsFreeSector now s × b.spilled s) (IsFreeSector now) a.durable b.durable (λ s p. p.0) (own.durable tells)

-- contents with the same lists have the same sectors that are put
overflow_is : (content : Content) → overflow_of_content content ≡ overflow_in_volume (volume_of content)
unfolding overflow_of_content volume_of
overflow_is content = refl

pub same_sectors : (a b : Content) → volume_of a ≡ volume_of b → put_sectors a ≡ own_sectors_in b
same_sectors a b lists =
    let head : header_of_volume a ≡ header_of_volume b = sym (head_is a) ∙ ap (λ (l : VolumeState). l.head) lists ∙ head_is b in
    let overflow : overflow_of_content a ≡ overflow_of_content b = overflow_is a ∙ ap overflow_in_volume lists ∙ sym (overflow_is b) in
    λ i. put_by (head i) (overflow i)
  where
    put_by : VolumeHeader → List Overflow → List ℕ
    put_by head over =
        2 ∷ sectors_of (per_block_of head) (blocks_of (extents_of [] extents_id data_kind head.extents_fork))
        ++ (sectors_of (per_block_of head) (blocks_of (extents_of over catalog_id data_kind head.catalog_fork))
        ++ ((if has_attributes head then sectors_of (per_block_of head) (blocks_of (extents_of over attributes_id data_kind head.attributes_fork)) else [])
        ++ sectors_of (per_block_of head) (blocks_of (extents_of over allocation_id data_kind head.allocation_fork))))

-- what is read is as sound as what is committed, with the same lists and the same tree
pub read_alike : AsideIsFree → (now : Content) (space : Space) → IsSound now → IsRead now space → NamesJournal now space.content → IsSound space.content × (volume_of space.content ≡ volume_of now) × (tree_of space.content ≡ tree_of now)
read_alike law now space sound reads names =
    law now space.content sound (agrees_more (λ s. space.closed s ⊎ IsFreeSector now s) (IsAside now) now space.content (λ s which. ⊎_elim (λ shut. inr (reads.closed s shut)) (λ free. inl free) which) reads.same) names

-- a content's info block names its own journal
names_self : (content : Content) → NamesJournal content content
unfolding volume_of
names_self content = refl

pub names_alike : (now content : Content) → volume_of now ≡ volume_of content → NamesJournal now content
names_alike now content lists = names_self content ∙ sym (ap (λ (l : VolumeState). l.journal) lists)

-- the sectors that a volume puts which stands are those that its content says
module _ (v : Volume) (a : Space) (stands : IsStanding v a) (settled : IsSettled v a.content) where
  header_here : v.header ≡ header_of_volume a.content
  header_here = sym (ap (λ (l : VolumeState). l.head) settled.lists) ∙ head_is a.content

  overflow_here : overflow_in_volume (lists_of v a.content) ≡ overflow_of_content a.content
  overflow_here = sym (ap overflow_in_volume settled.lists) ∙ sym (overflow_is a.content)

  attributes_here : attribute_sectors v ≡ (if has_attributes (header_of_volume a.content) then sectors_in a.content (extents_of (overflow_of_content a.content) attributes_id data_kind (header_of_volume a.content).attributes_fork) else [])
  attributes_here =
      by (has_attributes v.header) (λ has. λ i. sectors_of (stands.forks.attributes_per has i) (blocks_of (stands.forks.attributes has i)))
      ∙ (λ i. if has_attributes (header_here i) then sectors_of (per_block_of (header_here i)) (blocks_of (extents_of (overflow_here i) attributes_id data_kind (header_here i).attributes_fork)) else [])
    where
      by : (b : Bool) → (b ≡ true → sectors_of v.attributes.file.per_block (blocks_of v.attributes.file.fork) ≡ sectors_of (per_block_of v.header) (blocks_of (extents_of (overflow_in_volume (lists_of v a.content)) attributes_id data_kind v.header.attributes_fork)))
          → (if b then sectors_of v.attributes.file.per_block (blocks_of v.attributes.file.fork) else []) ≡ (if b then sectors_of (per_block_of v.header) (blocks_of (extents_of (overflow_in_volume (lists_of v a.content)) attributes_id data_kind v.header.attributes_fork)) else [])
      by true same = same refl
      by false same = refl

  pub own_here : own_sectors v ≡ own_sectors_in a.content
  own_here =
      (λ i. 2 ∷ sectors_of (stands.forks.extents_per i) (blocks_of (stands.forks.extents i)) ++ (sectors_of (stands.forks.catalog_per i) (blocks_of (stands.forks.catalog i)) ++ (attribute_sectors v ++ sectors_of (stands.forks.map_per i) (blocks_of (stands.forks.map i)))))
      ∙ (λ i. 2 ∷ sectors_of (per_block_of (header_here i)) (blocks_of (extents_of [] extents_id data_kind (header_here i).extents_fork))
      ++ (sectors_of (per_block_of (header_here i)) (blocks_of (extents_of (overflow_here i) catalog_id data_kind (header_here i).catalog_fork))
      ++ (attributes_here i
      ++ sectors_of (per_block_of (header_here i)) (blocks_of (extents_of (overflow_here i) allocation_id data_kind (header_here i).allocation_fork)))))

-- what a volume brings back
pub recalled : (v : Volume) (capacity : ℕ) (committed now : Content) (shrunk : Option ℕ) (a : Space) (last : Recalled) → last.capacity ≡ capacity_of v → last.shrunk ≡ shrunk_of v → IsTrue a.tells → Knows v capacity committed now shrunk a → Recalls last capacity now shrunk a
recalled v capacity committed now shrunk a last capacity_is shrunk_is tells known =
    let standing = known.stands.stands tells in
    record {
      capacity_is = capacity_is ∙ known.capacity_is;
      shrunk_is = shrunk_is ∙ known.shrunk_is;
      sound = known.alike.sound;
      names = names_alike now a.content known.alike.lists;
      live = λ s is. subst (λ (l : List ℕ). Contains l s) (own_here v a standing known.settled ∙ sym (same_sectors now a.content known.alike.lists)) (standing.live s is);
    }
