-- Blocks past the size of a file's fork, as its record tells them, and a cut of them ahead of data.
use Rattle.std.proofs.Common.{◌≡◌, ℕ, ◌&&◌, Bool, true, false, List, length, refl, sym, ◌∙◌, ap, subst}
use Rattle.std.specs.Prelude.{Contains, IfOk, IfSome, is_some, nat_lt, Option, None, Some, Result, Ok, Err, if◌then◌else◌}
use Rattle.cat_records.specs.declared.record.CatRecord.TheVariants.{File}
use Rattle.cat_records.specs.declared.record.FileRecord.{FileRecord}
use Rattle.catalog.specs.Pairs.{value_at}
use Rattle.hx_bytes.specs.declared.faults.Trouble.{Trouble}
use Rattle.sector_disk.specs.Lists.{Content}
use Rattle.hfs_language.specs.declared.refusal.Refusal.{Refusal}
use Rattle.hfs_model.specs.Step.{to_file}
use Rattle.hfs_model.specs.declared.plain.PlainNode.{PlainNode}
use Rattle.hfs_volume.specs.Content.{VolumeState, records_of, volume_of}
use Rattle.hfs_volume.specs.Forks.{parts_for}
use Rattle.hfs_volume.specs.Reclaim.{blocks_wanted}
use Rattle.hfs_volume.specs.Records.{Placed, entries_of, id_in, is_thread}
use Rattle.hfs_volume.specs.TreeOf.{tree_of}
use Rattle.hfs_volume.specs.Weight.{cut_cost, free_blocks, room_with}
use Rattle.hfs_volume.specs.declared.cost.Cost.{Cost}
use Rattle.hfs_volume.specs.declared.cost.Cost.TheVariants as cost
use Rattle.hfs_volume.proofs.Flat.{none_or_some, some_same}
use Rattle.volume_base.specs.Cutting.{fork_at, kind_of}
use Rattle.volume_base.specs.Lists.{lists_of}
use Rattle.volume_base.specs.Room.{capacity_of, room_on}
use Rattle.volume_base.specs.Standing.{IsSettled}
use Rattle.volume_base.specs.declared.entries.Entry.{Entry}
use Rattle.volume_base.specs.declared.forks.ForkKind.{ForkKind}
use Rattle.volume_base.specs.declared.room.FreeBlocks.TheVariants as blocks
use Rattle.volume_base.specs.declared.volume.Volume.{Volume}
use Rattle.volume_base.proofs.ForkKinds.{kind_is}
use Rattle.volume_space.specs.Cutting.{surplus_ahead}
use Rattle.volume_space.specs.CuttingAhead.{CutsAhead, CutsAs, CutsNode, CutsSome, cuts_first}
use Rattle.volume_space.specs.Writing.{bytes_at}
use Rattle.volume_space.specs.declared.cutting_ahead.CutAhead.{CutAhead}
use Rattle.volume_space.specs.declared.cutting_ahead.CutAhead.TheVariants as ahead
use Rattle.volume_space.specs.declared.trimming.Surplus.{Surplus}
use Rattle.volume_space.proofs.NextCut.{fork_many, stands_so, wanted_of}

-- ---- a file's record

some_if : {A : Type 0} (b : Bool) (x : A) → is_some (if◌then◌else◌ {A = Option A} b (Some x) None) ≡ b
some_if true x = refl
some_if false x = refl

module _ (v : Volume) (content : Content) (settled : IsSettled v content) (entry : Entry) (there : value_at (lists_of v content).catalog_pairs entry.parent entry.name ≡ Some entry.rec) (file : FileRecord) (is : entry.rec ≡ File file) (k : ForkKind) (end : ℕ) where
  stands : (e : Placed) × Contains (entries_of (records_of (volume_of content))) e × (e.value ≡ entry.rec)
  stands = stands_so v content settled entry (ap is_thread is) there

  block_is : (volume_of content).head.block_size ≡ v.header.block_size
  block_is = ap (λ (l : VolumeState). l.head.block_size) settled.lists

  -- a cut goes first exactly where the fork's record says so
  pub first_is : cuts_first (kind_of k) (volume_of content) file.fields.id (fork_at (kind_of k) file).logical_size end ≡ is_some (surplus_ahead k v.header.block_size (fork_at (kind_of k) file) end)
  first_is =
      (λ i. nat_lt (fork_at (kind_of k) file).logical_size end && nat_lt (parts_for (fork_at (kind_of k) file).logical_size (block_is i)) (fork_many (volume_of content) settled.sound stands.0 stands.1 file (stands.2 ∙ is) (kind_of k) (kind_is k) i))
      ∙ sym (some_if {A = Surplus} (nat_lt (fork_at (kind_of k) file).logical_size end && nat_lt (parts_for (fork_at (kind_of k) file).logical_size v.header.block_size) (fork_at (kind_of k) file).total_blocks) (record { kind = k; keep = parts_for (fork_at (kind_of k) file).logical_size v.header.block_size }))

  -- and then it keeps as many blocks as the fork's bytes take
  pub surplus_is : (surplus : Surplus) → Some surplus ≡ surplus_ahead k v.header.block_size (fork_at (kind_of k) file) end → (surplus.kind ≡ k) × (surplus.keep ≡ blocks_wanted (volume_of content) (id_in entry.rec) (kind_of k))
  surplus_is surplus told = by (nat_lt (fork_at (kind_of k) file).logical_size end && nat_lt (parts_for (fork_at (kind_of k) file).logical_size v.header.block_size) (fork_at (kind_of k) file).total_blocks) (sym told)
    where
      by : (b : Bool) → (if b then Some (record { kind = k; keep = parts_for (fork_at (kind_of k) file).logical_size v.header.block_size }) else None) ≡ Some surplus → (surplus.kind ≡ k) × (surplus.keep ≡ blocks_wanted (volume_of content) (id_in entry.rec) (kind_of k))
      by false none = absurd (none_or_some surplus none)
      by true some =
          let same = some_same (record { kind = k; keep = parts_for (fork_at (kind_of k) file).logical_size v.header.block_size }) surplus some in (
            sym (ap (λ (s : Surplus). s.kind) same),
            sym (ap (λ (s : Surplus). s.keep) same) ∙ ap (parts_for (fork_at (kind_of k) file).logical_size) (sym block_is) ∙ sym (wanted_of (volume_of content) settled.sound stands.0 stands.1 file (stands.2 ∙ is) k)
                ∙ ap (λ n. blocks_wanted (volume_of content) n (kind_of k)) (sym (ap id_in is)),
          )

-- ---- what a cut costs

-- what a cut costs by the room that the volume keeps is what it costs by that of the content
pub cut_refused : (v : Volume) (content : Content) → IsSettled v content → (o : Option Refusal) (found : Cost) → found ≡ cut_cost (room_on blocks.All v) → IfSome o (λ why. found ≡ cost.Refused why)
    → IfSome o (λ why. cut_cost (room_with (capacity_of v) (free_blocks (volume_of content)) (volume_of content)) ≡ cost.Refused why)
unfolding room_with
cut_refused v content settled None found is told = tt
cut_refused v content settled (Some why) found is told = (λ i. cut_cost (room_with (capacity_of v) (free_blocks (volume_of content)) (settled.lists i))) ∙ sym is ∙ told

-- ---- what a cut came to

-- a cut that goes first is one of what goes first
first_as : (came : CutAhead) (capacity kind id : ℕ) (first : Bool) (before after : Content) → first ≡ true → CutsSome came capacity kind id before after → CutsAs came capacity kind id first before after
first_as ahead.NotNeeded capacity kind id first before after is was = absurd was
first_as ahead.Made capacity kind id first before after is was = (is, was)
first_as ahead.CommitFirst capacity kind id first before after is was = (is, was)
first_as (ahead.Refused why) capacity kind id first before after is was = (is, was)

pub first_result : (r : Result CutAhead Trouble) (capacity its kind number id : ℕ) (first : Bool) (before after : Content) → its ≡ kind → number ≡ id → first ≡ true → IfOk r (λ came. CutsSome came capacity its number before after) → IfOk r (λ came. CutsAs came capacity kind id first before after)
first_result (Ok came) capacity its kind number id first before after same one is was =
    first_as came capacity kind id first before after is (subst (λ (k : ℕ × ℕ). CutsSome came capacity k.0 k.1 before after) {x = (its, number)} {y = (kind, id)} (λ i. (same i, one i)) was)
first_result (Err why) capacity its kind number id first before after same one is was = tt

-- the same of the node of the file
pub cuts_node : (r : Result CutAhead Trouble) (capacity kind id size end : ℕ) (node : PlainNode) (before after : Content) → id ≡ node.id → size ≡ length (bytes_at kind node)
    → IfOk r (λ came. CutsAs came capacity kind id (cuts_first kind (volume_of before) id size end) before after) → IfOk r (λ came. CutsNode came capacity kind node end before after)
cuts_node r capacity kind id size end node before after one two was =
    subst (λ (k : ℕ × ℕ). IfOk r (λ (came : CutAhead). CutsAs came capacity kind k.0 (cuts_first kind (volume_of before) k.0 k.1 end) before after)) {x = (id, size)} {y = (node.id, length (bytes_at kind node))} (λ i. (one i, two i)) was

-- the same of the file that a path stands for
pub cuts_path : (r : Result CutAhead Trouble) (capacity kind : ℕ) (path : List (List ℕ)) (end : ℕ) (before after : Content) (node : PlainNode) → to_file (tree_of before) path ≡ Ok node
    → IfOk r (λ came. CutsNode came capacity kind node end before after) → IfOk r (λ came. CutsAhead came capacity kind path end before after)
cuts_path (Ok came) capacity kind path end before after node is was = (node, is, was)
cuts_path (Err why) capacity kind path end before after node is was = tt

-- the same where it begins behind reads
pub node_behind : (r : Result CutAhead Trouble) (kind end : ℕ) (node : PlainNode) (first_capacity capacity : ℕ) (between before after : Content) → between ≡ before → first_capacity ≡ capacity
    → IfOk r (λ came. CutsNode came first_capacity kind node end between after) → IfOk r (λ came. CutsNode came capacity kind node end before after)
node_behind r kind end node first_capacity capacity between before after same one was =
    subst (λ (k : ℕ × Content). IfOk r (λ (came : CutAhead). CutsNode came k.0 kind node end k.1 after)) {x = (first_capacity, between)} {y = (capacity, before)} (λ i. (one i, same i)) was

pub ahead_behind : (r : Result CutAhead Trouble) (kind : ℕ) (path : List (List ℕ)) (end : ℕ) (first_capacity capacity : ℕ) (between before after : Content) → between ≡ before → first_capacity ≡ capacity
    → IfOk r (λ came. CutsAhead came first_capacity kind path end between after) → IfOk r (λ came. CutsAhead came capacity kind path end before after)
ahead_behind r kind path end first_capacity capacity between before after same one was =
    subst (λ (k : ℕ × Content). IfOk r (λ (came : CutAhead). CutsAhead came k.0 kind path end k.1 after)) {x = (first_capacity, between)} {y = (capacity, before)} (λ i. (one i, same i)) was
