-- Blocks filled ahead of a line, as serving sees it.
use Rattle.std.proofs.Common.{◌≡◌, ◌⊎◌, ◌<◌, ◌≤◌, ◌+◌, ◌/◌, ⊎_elim, ℕ, false, inl, inr, sym, ◌∙◌, ap, subst}
use Rattle.std.specs.Prelude.{Option, Some}
use Rattle.hfs_volume.specs.declared.asked.Asked.{Asked}
use Rattle.jnl_format.specs.Recovery.{Content, header_of_volume, info_sector_of}
use Rattle.sector_disk.specs.Space.{Space, AgreesOutside}
use Rattle.volume_header.specs.declared.header.VolumeHeader.{VolumeHeader}
use Rattle.hfs_model.specs.declared.plain.PlainTree.{PlainTree}
use Rattle.hfs_volume.specs.Aside.{IsAside}
use Rattle.hfs_volume.specs.Content.{VolumeState, is_set, volume_of}
use Rattle.hfs_volume.specs.Forks.{per_block_of}
use Rattle.hfs_volume.specs.Reclaim.{FillsZeros}
use Rattle.hfs_volume.specs.TreeOf.{tree_of}
use Rattle.hfs_volume.specs.Asked.{asked_needs_cut, asked_weight, asked_zero_blocks, is_refused}
use Rattle.hfs_volume.specs.Weight.{most_zeros}
use Rattle.hfs_serving.specs.Serving.{IsRead}
use Rattle.volume_runs.specs.Rest.{FillsFor}
use Rattle.served_volume.specs.Knowing.{IsAlike}
use Rattle.served_volume.proofs.Heading.{head_is}

-- what lies aside of a content lies aside of another one with its lists
aside_alike : (a b : Content) → volume_of b ≡ volume_of a → (at : ℕ) → IsAside a at → IsAside b at
aside_alike a b same at is =
    let head : header_of_volume b ≡ header_of_volume a = sym (head_is b) ∙ ap (λ (l : VolumeState). l.head) same ∙ head_is a in
    subst (λ (k : VolumeHeader × VolumeState).
    ((at / per_block_of k.0 < k.0.total_blocks) × (is_set k.1 (at / per_block_of k.0) ≡ false)) ⊎ ((k.1.journal.offset / 512 ≤ at) × (at < (k.1.journal.offset + k.1.journal.size) / 512) ⊎ (at ≡ info_sector_of k.0)))
    {x = (header_of_volume a, volume_of a)} {y = (header_of_volume b, volume_of b)} (λ i. (sym head i, sym same i)) is

-- the content that is stood for agrees with that of the space but for what lies aside
read_aside : (now : Content) (space : Space) → IsRead now space → AgreesOutside (IsAside now) now space.content
read_aside now space reads = record {
  size = reads.same.size;
  each = λ at. ⊎_elim (λ same. inl same) (λ which. inr (⊎_elim (λ shut. inr (reads.closed at shut)) (λ free. inl free) which)) (reads.same.each at);
}

module _ (now next : Content) (a b : Space) (reads : IsRead now a) (reads_next : IsRead next b) (one : IsAlike now a.content) (two : IsAlike next b.content) (fills : FillsZeros a.content b.content) where
  same_lists : volume_of next ≡ volume_of now
  same_lists = two.lists ∙ fills.volume ∙ sym one.lists

  filled_between : AgreesOutside (IsAside now) now next
  filled_between =
      let first = read_aside now a reads in
      let last = read_aside next b reads_next in
      record {
        size = sym last.size ∙ fills.others.size ∙ first.size;
        each = λ at. ⊎_elim
            (λ here. ⊎_elim
            (λ filled. ⊎_elim
            (λ behind. inl (sym behind ∙ filled ∙ here))
            (λ aside. inr (aside_alike next now (sym same_lists) at aside))
            (last.each at))
            (λ aside. inr (aside_alike a.content now one.lists at aside))
            (fills.others.each at))
            (λ aside. inr aside)
            (first.each at);
      }

  pub fills_alike : FillsZeros now next
  fills_alike = record { volume = same_lists; others = filled_between; keeps = record { sound = two.sound; tree = two.tree ∙ fills.keeps.tree ∙ sym one.tree } }

pub ahead_filled : (capacity : ℕ) (wanted : Option Asked) (asked : Asked) → wanted ≡ Some asked → (now next : Content) (a b : Space) → IsRead now a → IsRead next b → IsAlike now a.content → IsAlike next b.content → FillsFor capacity (Some asked) a.content b.content → FillsFor capacity wanted now next
ahead_filled capacity wanted asked is now next a b reads reads_next one two was = record {
  own = was.own;
  is_own = is ∙ was.is_own;
  no_refusal = ap (λ (t : PlainTree). is_refused t was.own) one.tree ∙ was.no_refusal;
  no_surplus = (λ i. asked_needs_cut (one.lists i) (one.tree i) was.own) ∙ was.no_surplus;
  load = was.load;
  affords = (λ i. asked_weight capacity (one.lists i) (one.tree i) was.own) ∙ was.affords;
  many = subst (λ (k : VolumeState × PlainTree). most_zeros < asked_zero_blocks k.0.head.block_size k.1 was.own) {x = (volume_of a.content, tree_of a.content)} {y = (volume_of now, tree_of now)} (λ i. (sym one.lists i, sym one.tree i)) was.many;
  fills = fills_alike now next a b reads reads_next one two was.fills;
}
