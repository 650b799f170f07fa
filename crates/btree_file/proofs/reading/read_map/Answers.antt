use Rattle.std.proofs.Common.{◌≡◌, ◌<◌, ◌≤◌, ◌+◌, ◌-◌, ◌*◌, ◌/◌, ℕ, true, false, Option, Some, None, List, [], ◌∷◌, ◌++◌, length, get_or, refl, sym, ◌∙◌, ap, subst, arith, length-append}
use Rattle.std.specs.Prelude.{IfSome, IsSome, pos}
use Rattle.std.proofs.lemmas.Bool.{true≢false}
use Rattle.fork_map.specs.Nodes.{node_of}
use Rattle.sector_disk.specs.Space.{Space}
use Rattle.btree_node.specs.Node.{IsNodeOf, next_of, record_count}
use Rattle.btree_node.specs.TreeFile.{map_chain}
use Rattle.btree_file.specs.FrameLaws.{reads_none, reads_both}
use Rattle.btree_file.specs.Map.{is_reserved, IsMapRecord}
use Rattle.fork_map.specs.Blocks.{fork_sectors}
use Rattle.btree_file.specs.Walks.{FitsFile, LeadTo}
use Rattle.btree_file.specs.declared.reading.MapNode.{MapNode}
use Rattle.btree_file.specs.declared.tree.Stretch.{Stretch}
use Rattle.btree_file.proofs.Rooms.{whole_node}
use Rattle.btree_file.proofs.Sizes.{size_least}
use Rattle.btree_file.specs.Walks.{names_of}
use Rattle.btree_file.proofs.Walking.{fits_one, fits_more, leads_one, leads_more, leads_end, chain_more, chain_node, chain_fresh, chain_fewer, chain_end}
use Rattle.btree_file.proofs.reading.read_map.Goals as goal

abbrev one : ℕ → List Stretch
one size = record { node = 0; at = 248; len = size - 256 } ∷ []

-- a node in the content that was read is the one in the content at first
same_node : (a b : List (List ℕ)) (sectors : List ℕ) (n m at : ℕ) → b ≡ a → n ≡ m → node_of b sectors (n / 512) at ≡ node_of a sectors (m / 512) at
same_node a b sectors n m at content long = ap (λ (x : List (List ℕ)). node_of x sectors (n / 512) at) content ∙ ap (λ k. node_of a sectors (k / 512) at) long

record_is : (a b : List ℕ) (found : Option MapNode) (step : MapNode) → b ≡ a → found ≡ Some step → IfSome found (λ s. IsMapRecord b s.stretch) → IsMapRecord a step.stretch
record_is a b found step same is has = subst (λ (l : List ℕ). IsMapRecord l step.stretch) same (subst (λ o. IfSome o (λ s. IsMapRecord b s.stretch)) is has)

next_is : (a b : List ℕ) (found : Option MapNode) (step : MapNode) → b ≡ a → found ≡ Some step → IfSome found (λ s. s.next ≡ next_of b) → step.next ≡ next_of a
next_is a b found step same is has = subst (λ (l : List ℕ). step.next ≡ next_of l) same (subst (λ o. IfSome o (λ s. s.next ≡ next_of b)) is has)

node_is : (n : ℕ) (found : Option MapNode) (step : MapNode) → found ≡ Some step → IfSome found (λ s. s.stretch.node ≡ n) → step.stretch.node ≡ n
node_is n found step is has = subst (λ o. IfSome o (λ s. s.stretch.node ≡ n)) is has

low_is : (n : ℕ) (found : Option MapNode) (step : MapNode) → found ≡ Some step → IfSome found (λ s. s.stretch.at + s.stretch.len ≤ n) → step.stretch.at + step.stretch.len ≤ n
low_is n found step is has = subst (λ o. IfSome o (λ s. s.stretch.at + s.stretch.len ≤ n)) is has

none_is : (found : Option MapNode) → found ≡ None → IsSome found → false ≡ true
none_is found is some = subst (λ (o : Option MapNode). IsSome o) is some

pub loop-read-init : goal.loop-read-init
loop-read-init g c =
    let old : Space = g.V.SectorView.space c.args.view.now in
    let size_is : length c.bytes.result.now ≡ length c.args.page.now = ap (λ (l : List ℕ). length l) c.bytes.ensures.value ∙ c.requires.long in
    let items_is : c.push_stretch.new.map.items ≡ record { node = 0; at = 248; len = length c.args.page.now - 256 } ∷ [] =
    c.in_ok-push_stretch.ensures ∙ ap (λ (l : List Stretch). l ++ record { node = 0; at = 248; len = length c.bytes.result.now - 256 } ∷ []) c.new-map.ensures.items ∙ ap one size_is in
    let large : 512 ≤ length c.args.page.now = omega (arith, size_least (length c.args.header.now) c.bytes.ensures.size, c.requires.long) in
    record {
      long = refl;
      many = ap (λ (l : List Stretch). length l) items_is;
      fits = subst (λ (l : List Stretch). FitsFile c.args.total (length c.args.page.now) l) (sym items_is) (fits_one c.args.total (length c.args.page.now) (record { node = 0; at = 248; len = length c.args.page.now - 256 }) c.requires.some refl refl (omega (arith, large)));
      leads = λ tells.
          subst (λ (l : List Stretch). LeadTo (node_of old.content (fork_sectors c.args.fork.now c.args.per_block) (length c.args.page.now / 512)) (length c.args.page.now) l c.links-next.result.0) (sym items_is)
          (subst (λ n. LeadTo (node_of old.content (fork_sectors c.args.fork.now c.args.per_block) (length c.args.page.now / 512)) (length c.args.page.now) (record { node = 0; at = 248; len = length c.args.page.now - 256 } ∷ []) n) (sym (c.links-next.ensures.next ∙ ap next_of (c.requires.header tells)))
          (leads_one (node_of old.content (fork_sectors c.args.fork.now c.args.per_block) (length c.args.page.now / 512)) (length c.args.page.now)));
      chain = λ tells.
          ap (λ n. map_chain (node_of old.content (fork_sectors c.args.fork.now c.args.per_block) (length c.args.page.now / 512)) c.args.total n) (sym (c.links-next.ensures.next ∙ ap next_of (c.requires.header tells)))
          ∙ ap (λ f. map_chain (node_of old.content (fork_sectors c.args.fork.now c.args.per_block) (length c.args.page.now / 512)) f c.links-next.result.0) {x = c.args.total} {y = c.args.total - 0} (omega arith)
          ∙ ap (λ (l : List ℕ). l ++ map_chain (node_of old.content (fork_sectors c.args.fork.now c.args.per_block) (length c.args.page.now / 512)) (c.args.total - 0) c.links-next.result.0) (sym (ap names_of items_is));
      below = g.met.V.SectorView.follows_refl c.args.view.now;
      reads = reads_none old;
    }

pub loop-read-preserved : goal.loop-read-preserved
loop-read-preserved g c =
    let old : Space = g.V.SectorView.space c.args.view.now in
    let mid : Space = g.V.SectorView.space c.loop-read.view in
    let inv = c.loop-read.invariant in
    let items : c.push_stretch-in-loop-read.new.map.items ≡ c.loop-read.map.items ++ c.in-Some.step.stretch ∷ [] = c.in_ok-push_stretch-2.ensures in
    let at = node_is c.loop-read.next c.in_ok-step.field-0 c.in-Some.step c.in-Some.is c.in_ok-step.ensures.node in
    let fresh : is_reserved c.loop-read.map.items c.in-Some.step.stretch.node ≡ false =
    ap (is_reserved c.loop-read.map.items) at ∙ ap (λ (l : List Stretch). is_reserved l c.loop-read.next) (sym c.deref.ensures.value) ∙ sym c.is_reserved.ensures ∙ c.if-is_reserved.false in
    record {
      long = c.in_ok-step.ensures.length ∙ inv.long;
      many = omega (arith, ap (λ (l : List Stretch). length l) items, length-append c.loop-read.map.items (c.in-Some.step.stretch ∷ []), inv.many);
      fits = subst (λ (l : List Stretch). FitsFile c.args.total (length c.args.page.now) l) (sym items)
          (fits_more c.args.total (length c.args.page.now) c.loop-read.map.items c.in-Some.step.stretch inv.fits (omega (arith, at, c.if-next-total.false)) (omega (arith, low_is (length c.loop-read.page) c.in_ok-step.field-0 c.in-Some.step c.in-Some.is c.in_ok-step.ensures.low, inv.long)) fresh);
      leads = λ tells.
          let told = inv.reads.same.tells ∙ tells in
          let same = same_node old.content mid.content (fork_sectors c.args.fork.now c.args.per_block) (length c.loop-read.page) (length c.args.page.now) c.loop-read.next (inv.reads.sectors tells).content inv.long in
          let read = record_is ((node_of old.content (fork_sectors c.args.fork.now c.args.per_block) (length c.args.page.now / 512)) c.loop-read.next) (node_of mid.content (fork_sectors c.args.fork.now c.args.per_block) (length c.loop-read.page / 512) c.loop-read.next) c.in_ok-step.field-0 c.in-Some.step same c.in-Some.is (c.in_ok-step.ensures.read told) in
          let next = next_is ((node_of old.content (fork_sectors c.args.fork.now c.args.per_block) (length c.args.page.now / 512)) c.loop-read.next) (node_of mid.content (fork_sectors c.args.fork.now c.args.per_block) (length c.loop-read.page / 512) c.loop-read.next) c.in_ok-step.field-0 c.in-Some.step same c.in-Some.is (c.in_ok-step.ensures.next told) in
          subst (λ (l : List Stretch). LeadTo (node_of old.content (fork_sectors c.args.fork.now c.args.per_block) (length c.args.page.now / 512)) (length c.args.page.now) l c.in-Some.step.next) (sym items)
          (subst (λ n. LeadTo (node_of old.content (fork_sectors c.args.fork.now c.args.per_block) (length c.args.page.now / 512)) (length c.args.page.now) (c.loop-read.map.items ++ c.in-Some.step.stretch ∷ []) n) (sym next)
          (leads_more (node_of old.content (fork_sectors c.args.fork.now c.args.per_block) (length c.args.page.now / 512)) (length c.args.page.now) c.loop-read.map.items c.loop-read.next c.in-Some.step.stretch (inv.leads tells) read at));
      chain = λ tells.
          let told = inv.reads.same.tells ∙ tells in
          let same = same_node old.content mid.content (fork_sectors c.args.fork.now c.args.per_block) (length c.loop-read.page) (length c.args.page.now) c.loop-read.next (inv.reads.sectors tells).content inv.long in
          let next = next_is ((node_of old.content (fork_sectors c.args.fork.now c.args.per_block) (length c.args.page.now / 512)) c.loop-read.next) (node_of mid.content (fork_sectors c.args.fork.now c.args.per_block) (length c.loop-read.page / 512) c.loop-read.next) c.in_ok-step.field-0 c.in-Some.step same c.in-Some.is (c.in_ok-step.ensures.next told) in
          let some = (inv.leads tells).some in
          chain_more (node_of old.content (fork_sectors c.args.fork.now c.args.per_block) (length c.args.page.now / 512)) c.loop-read.map.items c.in-Some.step.stretch c.loop-read.next (c.args.total - (c.loop-read._read - 1)) _ some (λ e. c.if-next-eq0.false e) (omega (arith, some, inv.many)) at (inv.chain tells)
          ∙ ap (λ f. names_of (c.loop-read.map.items ++ c.in-Some.step.stretch ∷ []) ++ map_chain (node_of old.content (fork_sectors c.args.fork.now c.args.per_block) (length c.args.page.now / 512)) f (next_of ((node_of old.content (fork_sectors c.args.fork.now c.args.per_block) (length c.args.page.now / 512)) c.loop-read.next))) {x = c.args.total - (c.loop-read._read - 1) - 1} {y = c.args.total - (c.loop-read._read + 1 - 1)} (omega (arith, some, inv.many))
          ∙ ap (λ n. names_of (c.loop-read.map.items ++ c.in-Some.step.stretch ∷ []) ++ map_chain (node_of old.content (fork_sectors c.args.fork.now c.args.per_block) (length c.args.page.now / 512)) (c.args.total - (c.loop-read._read + 1 - 1)) n) (sym next)
          ∙ ap (λ (l : List Stretch). names_of l ++ map_chain (node_of old.content (fork_sectors c.args.fork.now c.args.per_block) (length c.args.page.now / 512)) (c.args.total - (c.loop-read._read + 1 - 1)) c.in-Some.step.next) (sym items);
      below = g.met.V.SectorView.follows_trans c.args.view.now c.loop-read.view c.read_map_node.new.view inv.below c.read_map_node.ensures.below;
      reads = reads_both old mid (g.V.SectorView.space c.read_map_node.new.view) inv.reads c.in_ok-step.ensures.reads;
    }

pub returns-then-next-total-clause-found : goal.returns-then-next-total-clause-found
returns-then-next-total-clause-found g c = λ tells has.
    let old : Space = g.V.SectorView.space c.args.view.now in
    let inv = c.loop-read.invariant in
    let node = chain_node (node_of old.content (fork_sectors c.args.fork.now c.args.per_block) (length c.args.page.now / 512)) c.args.total has c.loop-read.map.items c.loop-read.next (c.args.total - (c.loop-read._read - 1)) (inv.leads tells).some (λ e. c.if-next-eq0.false e) (omega (arith, (inv.leads tells).some, inv.many)) (inv.chain tells) in
    absurd (omega (arith, node.0, c.if-next-total.true))

pub returns-then-is_reserved-clause-found : goal.returns-then-is_reserved-clause-found
returns-then-is_reserved-clause-found g c = λ tells has.
    let old : Space = g.V.SectorView.space c.args.view.now in
    let inv = c.loop-read.invariant in
    let fresh = chain_fresh (node_of old.content (fork_sectors c.args.fork.now c.args.per_block) (length c.args.page.now / 512)) c.args.total has c.loop-read.map.items c.loop-read.next (c.args.total - (c.loop-read._read - 1)) (inv.leads tells).some (λ e. c.if-next-eq0.false e) (omega (arith, (inv.leads tells).some, inv.many)) (inv.chain tells) (λ d. ap (λ (s : Stretch). s.node) ((inv.leads tells).first d)) in
    absurd (true≢false (sym (sym c.is_reserved.ensures ∙ c.if-is_reserved.true) ∙ ap (λ (l : List Stretch). is_reserved l c.loop-read.next) c.deref.ensures.value ∙ fresh))

pub read_map_node-requires-clause-inside : goal.read_map_node-requires-clause-inside
read_map_node-requires-clause-inside g c = λ k low.
    let inv = c.loop-read.invariant in
    subst (λ n. get_or (fork_sectors c.args.fork.now c.args.per_block) k 0 < n) (sym inv.reads.same.sectors) (c.requires.inside k low)

pub read_map_node-requires-clause-whole : goal.read_map_node-requires-clause-whole
read_map_node-requires-clause-whole g c =
    let inv = c.loop-read.invariant in
    subst (λ n. (c.loop-read.next + 1) * (n / 512) ≤ length (fork_sectors c.args.fork.now c.args.per_block)) (sym inv.long) (whole_node c.args.total (length c.args.page.now / 512) c.loop-read.next (length (fork_sectors c.args.fork.now c.args.per_block)) c.requires.whole (omega (arith, c.if-next-total.false)))

pub returns-in_default-clause-found : goal.returns-in_default-clause-found
returns-in_default-clause-found g c = λ tells has.
    let old : Space = g.V.SectorView.space c.args.view.now in
    let mid : Space = g.V.SectorView.space c.loop-read.view in
    let inv = c.loop-read.invariant in
    let node = chain_node (node_of old.content (fork_sectors c.args.fork.now c.args.per_block) (length c.args.page.now / 512)) c.args.total has c.loop-read.map.items c.loop-read.next (c.args.total - (c.loop-read._read - 1)) (inv.leads tells).some (λ e. c.if-next-eq0.false e) (omega (arith, (inv.leads tells).some, inv.many)) (inv.chain tells) in
    let same = same_node old.content mid.content (fork_sectors c.args.fork.now c.args.per_block) (length c.loop-read.page) (length c.args.page.now) c.loop-read.next (inv.reads.sectors tells).content inv.long in
    none_is c.in_ok-step.field-0 c.in_default.is (c.in_ok-step.ensures.found (inv.reads.same.tells ∙ tells) (subst (λ (l : List ℕ). IsNodeOf (pos 2) 0 l) (sym same) node.1) (subst (λ (l : List ℕ). 0 < record_count l) (sym same) node.2))

pub returns-then-next-eq0-clause-stretches : goal.returns-then-next-eq0-clause-stretches
returns-then-next-eq0-clause-stretches g c = λ tells.
    let old : Space = g.V.SectorView.space c.args.view.now in
    let inv = c.loop-read.invariant in
    leads_end (node_of old.content (fork_sectors c.args.fork.now c.args.per_block) (length c.args.page.now / 512)) (length c.args.page.now) c.loop-read.map.items c.loop-read.next (inv.leads tells) c.if-next-eq0.true

pub returns-then-next-eq0-2-clause-stretches : goal.returns-then-next-eq0-2-clause-stretches
returns-then-next-eq0-2-clause-stretches g c = λ tells.
    let old : Space = g.V.SectorView.space c.args.view.now in
    let inv = c.loop-read.invariant in
    leads_end (node_of old.content (fork_sectors c.args.fork.now c.args.per_block) (length c.args.page.now / 512)) (length c.args.page.now) c.loop-read.map.items c.loop-read.next (inv.leads tells) c.if-next-eq0-2.true

pub returns-else-next-eq0-2-clause-found : goal.returns-else-next-eq0-2-clause-found
returns-else-next-eq0-2-clause-found g c = λ tells has.
    let old : Space = g.V.SectorView.space c.args.view.now in
    let inv = c.loop-read.invariant in
    absurd (omega (arith, chain_fewer (node_of old.content (fork_sectors c.args.fork.now c.args.per_block) (length c.args.page.now / 512)) c.args.total has c.loop-read.map.items c.loop-read.next (c.args.total - (c.loop-read._read - 1)) (inv.leads tells).some (λ e. c.if-next-eq0-2.false e) (omega (arith, (inv.leads tells).some, inv.many)) (inv.chain tells), inv.many))

pub returns-in_err-step-clause-below : goal.returns-in_err-step-clause-below
returns-in_err-step-clause-below g c = g.met.V.SectorView.follows_trans c.args.view.now c.loop-read.view c.read_map_node.new.view c.loop-read.invariant.below c.read_map_node.ensures.below

pub returns-in_err-step-clause-reads : goal.returns-in_err-step-clause-reads
returns-in_err-step-clause-reads g c =
    let old : Space = g.V.SectorView.space c.args.view.now in
    let mid : Space = g.V.SectorView.space c.loop-read.view in
    reads_both old mid (g.V.SectorView.space c.read_map_node.new.view) c.loop-read.invariant.reads c.read_map_node.ensures.reads

pub returns-in_default-clause-below : goal.returns-in_default-clause-below
returns-in_default-clause-below g c = g.met.V.SectorView.follows_trans c.args.view.now c.loop-read.view c.read_map_node.new.view c.loop-read.invariant.below c.read_map_node.ensures.below

pub returns-in_default-clause-reads : goal.returns-in_default-clause-reads
returns-in_default-clause-reads g c =
    let old : Space = g.V.SectorView.space c.args.view.now in
    let mid : Space = g.V.SectorView.space c.loop-read.view in
    reads_both old mid (g.V.SectorView.space c.read_map_node.new.view) c.loop-read.invariant.reads c.read_map_node.ensures.reads

pub returns-in_err-push_stretch-2-clause-below : goal.returns-in_err-push_stretch-2-clause-below
returns-in_err-push_stretch-2-clause-below g c = g.met.V.SectorView.follows_trans c.args.view.now c.loop-read.view c.read_map_node.new.view c.loop-read.invariant.below c.read_map_node.ensures.below

pub returns-in_err-push_stretch-2-clause-reads : goal.returns-in_err-push_stretch-2-clause-reads
returns-in_err-push_stretch-2-clause-reads g c =
    let old : Space = g.V.SectorView.space c.args.view.now in
    let mid : Space = g.V.SectorView.space c.loop-read.view in
    reads_both old mid (g.V.SectorView.space c.read_map_node.new.view) c.loop-read.invariant.reads c.read_map_node.ensures.reads

pub returns-then-next-eq0-clause-chain : goal.returns-then-next-eq0-clause-chain
returns-then-next-eq0-clause-chain g c = λ tells.
    let old : Space = g.V.SectorView.space c.args.view.now in
    let inv = c.loop-read.invariant in
    chain_end (node_of old.content (fork_sectors c.args.fork.now c.args.per_block) (length c.args.page.now / 512)) c.loop-read.map.items c.loop-read.next (c.args.total - (c.loop-read._read - 1)) _ c.if-next-eq0.true (inv.chain tells)

pub returns-then-next-eq0-2-clause-chain : goal.returns-then-next-eq0-2-clause-chain
returns-then-next-eq0-2-clause-chain g c = λ tells.
    let old : Space = g.V.SectorView.space c.args.view.now in
    let inv = c.loop-read.invariant in
    chain_end (node_of old.content (fork_sectors c.args.fork.now c.args.per_block) (length c.args.page.now / 512)) c.loop-read.map.items c.loop-read.next (c.args.total - (c.loop-read._read - 1)) _ c.if-next-eq0-2.true (inv.chain tells)
