-- Calls of a tree file over a space, one after another.
use Rattle.std.proofs.Common.{◌≡◌, ℕ, List, length, inl, inr, ⊎_elim, refl, ◌∙◌, ap, subst, arith}
use Rattle.std.specs.Prelude.{IsTrue}
use Rattle.sector_disk.specs.Lists.{Content, sector}
use Rattle.sector_disk.specs.Clock.{TimePasses}
use Rattle.sector_disk.specs.Space.{Space, SameSpace, Puts, LeavesDurable}
use Rattle.sector_disk.proofs.Passing.{none_passes, both_pass}
use Rattle.sector_disk.proofs.SpaceLaws.{space_none, space_both, iff_none, iff_both, leaves_as_before}
use Rattle.btree_node.specs.MemLaws.{legal_size}
use Rattle.btree_node.specs.Store.{IsWellFormed}
use Rattle.btree_node.specs.TreeFile.{TreeHead, tree_head}
use Rattle.btree_file.specs.State.{sectors_of_tree, state_of}
use Rattle.fork_map.specs.Blocks.{fork_sectors}
use Rattle.btree_file.specs.Frame.{PutsWithin, ReadsSpace, SameForm, SameFile, FollowsOn}
use Rattle.btree_file.specs.declared.tree.TreeFile.{TreeFile}

-- a stretch in which a sector was put
pub time_puts : (a b c : Space) (at : ℕ) (value : List ℕ) → Puts b at value c → SameSpace b c → TimePasses a.clock b.clock (LeavesDurable b) → TimePasses b.clock c.clock (LeavesDurable c) → TimePasses a.clock c.clock (LeavesDurable c)
time_puts a b c at value puts same p q =
    both_pass a.clock b.clock c.clock (LeavesDurable b) (LeavesDurable c) (LeavesDurable c) p q (λ image told l. leaves_as_before b c image told puts.durable puts.spilled puts.closed same.told l) (λ image told l. l)

pub within_none : (these : List ℕ) (s : Space) → PutsWithin these s s
within_none these s = record {
  same = space_none s;
  content = λ tells. record { size = refl; each = λ at. inl refl };
  sizes = λ tells s. inl refl;
  durable = λ tells. refl;
  spilled = λ tells k. iff_none (s.spilled k);
  live = λ tells k l. inl l;
  still_live = λ tells k l. l;
  closed = λ tells k. iff_none (s.closed k);
  put = λ k. inl refl;
  still_put = λ k p. p;
  spare = omega arith;
  faults = omega arith;
  time = λ tells. none_passes s.clock (LeavesDurable s);
}

pub within_both : (these : List ℕ) (a b c : Space) → PutsWithin these a b → PutsWithin these b c → PutsWithin these a c
within_both these a b c p q =
    let told : IsTrue a.tells → IsTrue b.tells = λ tells. p.same.tells ∙ tells in
    record {
      same = space_both a b c p.same q.same;
      content = λ tells. record {
        size = (q.content (told tells)).size ∙ (p.content tells).size;
        each = λ at. ⊎_elim (λ e. ⊎_elim (λ f. inl (e ∙ f)) (λ here. inr here) ((p.content tells).each at)) (λ here. inr here) ((q.content (told tells)).each at);
      };
      sizes = λ tells k. ⊎_elim (λ e. ⊎_elim (λ f. inl (e ∙ f)) (λ full. inr (e ∙ full)) (p.sizes tells k)) (λ full. inr full) (q.sizes (told tells) k);
      durable = λ tells. q.durable (told tells) ∙ p.durable tells;
      spilled = λ tells k. iff_both (a.spilled k) (b.spilled k) (c.spilled k) (p.spilled tells k) (q.spilled (told tells) k);
      live = λ tells k l. ⊎_elim (λ m. p.live tells k m) (λ here. inr here) (q.live (told tells) k l);
      still_live = λ tells k l. q.still_live (told tells) k (p.still_live tells k l);
      closed = λ tells k. iff_both (a.closed k) (b.closed k) (c.closed k) (p.closed tells k) (q.closed (told tells) k);
      put = λ k. ⊎_elim (λ e. ⊎_elim (λ f. inl (e ∙ f)) (λ here. inr here) (p.put k)) (λ here. inr here) (q.put k);
      still_put = λ k l. q.still_put k (p.still_put k l);
      spare = omega (arith, p.spare, q.spare);
      faults = omega (arith, p.faults, q.faults);
      time = λ tells. both_pass a.clock b.clock c.clock (LeavesDurable b) (LeavesDurable c) (LeavesDurable c) (p.time tells) (q.time (told tells))
          (λ image told_bytes l. leaves_as_before b c image told_bytes (q.durable (told tells)) (q.spilled (told tells)) (q.closed (told tells)) q.same.told l) (λ image told_bytes l. l);
    }

-- reads, one after another
pub reads_none : (s : Space) → ReadsSpace s s
reads_none s = record {
  sectors = λ tells. record { content = refl; durable = refl; spilled = λ k. iff_none (s.spilled k); live = λ k. iff_none (s.live k); closed = λ k. iff_none (s.closed k) };
  time = λ tells. none_passes s.clock (LeavesDurable s);
  room = record { put = λ k. refl; spare = refl };
  same = space_none s;
  faults = omega arith;
}

pub reads_both : (a b c : Space) → ReadsSpace a b → ReadsSpace b c → ReadsSpace a c
reads_both a b c p q =
    let told : IsTrue a.tells → IsTrue b.tells = λ tells. p.same.tells ∙ tells in
    record {
      sectors = λ tells. let f = p.sectors tells in let s = q.sectors (told tells) in record {
        content = s.content ∙ f.content;
        durable = s.durable ∙ f.durable;
        spilled = λ k. iff_both (a.spilled k) (b.spilled k) (c.spilled k) (f.spilled k) (s.spilled k);
        live = λ k. iff_both (a.live k) (b.live k) (c.live k) (f.live k) (s.live k);
        closed = λ k. iff_both (a.closed k) (b.closed k) (c.closed k) (f.closed k) (s.closed k);
      };
      time = λ tells. let s = q.sectors (told tells) in both_pass a.clock b.clock c.clock (LeavesDurable b) (LeavesDurable c) (LeavesDurable c) (p.time tells) (q.time (told tells))
          (λ image told_bytes l. leaves_as_before b c image told_bytes s.durable s.spilled s.closed q.same.told l) (λ image told_bytes l. l);
      room = record { put = λ k. q.room.put k ∙ p.room.put k; spare = q.room.spare ∙ p.room.spare };
      same = space_both a b c p.same q.same;
      faults = omega (arith, p.faults, q.faults);
    }

-- reads put nothing
pub reads_within : (these : List ℕ) (a b : Space) → ReadsSpace a b → PutsWithin these a b
reads_within these a b r = record {
  same = r.same;
  content = λ tells. record { size = ap (λ (content : Content). length content) (r.sectors tells).content; each = λ at. inl (ap (λ (content : Content). sector content at) (r.sectors tells).content) };
  sizes = λ tells s. inl (ap (λ (content : Content). length (sector content s)) (r.sectors tells).content);
  durable = λ tells. (r.sectors tells).durable;
  spilled = λ tells. (r.sectors tells).spilled;
  live = λ tells k l. inl (((r.sectors tells).live k).0 l);
  still_live = λ tells k l. ((r.sectors tells).live k).1 l;
  closed = λ tells. (r.sectors tells).closed;
  put = λ k. inl (r.room.put k);
  still_put = λ k p. r.room.put k ∙ p;
  spare = omega (arith, r.room.spare);
  faults = r.faults;
  time = r.time;
}

pub form_none : (head : TreeHead) → SameForm head head
form_none head = record { max_key = refl; compare = refl; attributes = refl }

-- the numbers of a tree over a space go together
pub state_well_formed : (names : List ℕ) (tree : TreeFile) (space : Space) → IsWellFormed (state_of names tree space)
state_well_formed names tree space = record {
  node_size = legal_size tree.shape.node_size tree.kept.size;
  total = tree.kept.small;
  free = tree.kept.free;
  unwritten = refl;
  writes_left = refl;
}

pub follows_none : (tree : TreeFile) (space : Space) → FollowsOn tree tree space space
follows_none tree space = record { file = record { fork = refl; per_block = refl; map = refl; node_size = refl; total = refl }; form = λ tells. form_none (tree_head tree.header); space = within_none (sectors_of_tree tree) space }

pub same_sectors : (a b : TreeFile) → SameFile a b → sectors_of_tree b ≡ sectors_of_tree a
same_sectors a b same = ap (λ f. fork_sectors f b.per_block) same.fork ∙ ap (λ n. fork_sectors a.fork n) same.per_block

pub follows_both : (a b c : TreeFile) (p q r : Space) → FollowsOn a b p q → FollowsOn b c q r → FollowsOn a c p r
follows_both a b c p q r first second = record {
  file = record { fork = second.file.fork ∙ first.file.fork; per_block = second.file.per_block ∙ first.file.per_block; map = second.file.map ∙ first.file.map; node_size = second.file.node_size ∙ first.file.node_size; total = second.file.total ∙ first.file.total };
  form = λ tells. let f = first.form tells in let s = second.form (first.space.same.tells ∙ tells) in record { max_key = s.max_key ∙ f.max_key; compare = s.compare ∙ f.compare; attributes = s.attributes ∙ f.attributes };
  space = within_both (sectors_of_tree a) p q r first.space (subst (λ these. PutsWithin these q r) (same_sectors a b first.file) second.space);
}
