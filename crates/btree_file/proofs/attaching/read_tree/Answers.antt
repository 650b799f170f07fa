use Rattle.std.proofs.Common.{◌≡◌, ℕ, ◌/◌, List, length, sym, ◌∙◌, ap}
use Rattle.std.proofs.lemmas.Bool.{true≢false}
use Rattle.std.proofs.lemmas.List.{length-replicate}
use Rattle.fork_map.specs.Nodes.{node_of}
use Rattle.sector_disk.specs.Space.{Space}
use Rattle.btree_node.proofs.Items.{length-items}
use Rattle.btree_file.specs.FrameLaws.{reads_both}
use Rattle.fork_map.specs.Blocks.{fork_sectors}
use Rattle.btree_file.specs.Walks.{names_of}
use Rattle.btree_file.proofs.Holding.{stretches_as, chain_as, has_chain_as, header_read, chain_read, settled_read, agrees_read, if_some, is_none}
use Rattle.btree_file.proofs.attaching.read_tree.Goals as goal

pub returns-clause-agrees : goal.returns-clause-agrees
returns-clause-agrees g c = λ tells long same holds.
    let old : Space = g.V.SectorView.space c.args.view.now in
    let sectors : List ℕ = fork_sectors c.args.fork c.args.per_block in
    let size_is : length c.in_ok-header.header ≡ c.args.shape.now.node_size = ap (λ (l : List ℕ). length l) c.in_ok-header.ensures ∙ length-replicate c.args.shape.now.node_size 0 in
    let read : c.get_node.new.into ≡ node_of old.content (fork_sectors c.args.fork c.args.per_block) (c.args.shape.now.node_size / 512) 0 = c.in_ok-get_node.ensures.value tells ∙ ap (λ n. node_of old.content (fork_sectors c.args.fork c.args.per_block) (n / 512) 0) size_is in
    let page_is : length c.in_ok-page.page ≡ c.args.shape.now.node_size = ap (λ (l : List ℕ). length l) c.in_ok-page.ensures ∙ length-replicate c.args.shape.now.node_size 0 in
    let content = (c.in_ok-get_node.ensures.reads.sectors tells).content in
    let told = c.in_ok-get_node.ensures.reads.same.tells ∙ tells in
    let mid : Space = g.V.SectorView.space c.get_node.new.space in
    let are = stretches_as old.content mid.content (fork_sectors c.args.fork c.args.per_block) (length c.in_ok-page.page) c.args.shape.now.node_size c.in-Some.map.items content page_is (if_some _ c.in_ok-found.found c.in-Some.map c.in-Some.is (c.in_ok-found.ensures.stretches told)) in
    let chain = chain_as old.content mid.content (fork_sectors c.args.fork c.args.per_block) (length c.in_ok-page.page) c.args.shape.now.node_size c.args.shape.now.total (names_of c.in-Some.map.items) content page_is (if_some _ c.in_ok-found.found c.in-Some.map c.in-Some.is (c.in_ok-found.ensures.chain told)) in
    agrees_read (fork_sectors c.args.fork c.args.per_block) old.content c.args.shape.now long same holds c.get_node.new.into read c.in-Some.map.items (c.in_ok-get_node.ensures.length ∙ size_is) are chain

pub returns-clause-settled : goal.returns-clause-settled
returns-clause-settled g c = λ tells long same holds.
    let old : Space = g.V.SectorView.space c.args.view.now in
    let sectors : List ℕ = fork_sectors c.args.fork c.args.per_block in
    let size_is : length c.in_ok-header.header ≡ c.args.shape.now.node_size = ap (λ (l : List ℕ). length l) c.in_ok-header.ensures ∙ length-replicate c.args.shape.now.node_size 0 in
    let read : c.get_node.new.into ≡ node_of old.content (fork_sectors c.args.fork c.args.per_block) (c.args.shape.now.node_size / 512) 0 = c.in_ok-get_node.ensures.value tells ∙ ap (λ n. node_of old.content (fork_sectors c.args.fork c.args.per_block) (n / 512) 0) size_is in
    settled_read (fork_sectors c.args.fork c.args.per_block) old.content c.args.shape.now long same holds c.get_node.new.into read

pub returns-then-count-ne3-clause-agrees : goal.returns-then-count-ne3-clause-agrees
returns-then-count-ne3-clause-agrees g c = λ tells long same holds.
    let old : Space = g.V.SectorView.space c.args.view.now in
    let sectors : List ℕ = fork_sectors c.args.fork c.args.per_block in
    let size_is : length c.in_ok-header.header ≡ c.args.shape.now.node_size = ap (λ (l : List ℕ). length l) c.in_ok-header.ensures ∙ length-replicate c.args.shape.now.node_size 0 in
    let read : c.get_node.new.into ≡ node_of old.content (fork_sectors c.args.fork c.args.per_block) (c.args.shape.now.node_size / 512) 0 = c.in_ok-get_node.ensures.value tells ∙ ap (λ n. node_of old.content (fork_sectors c.args.fork c.args.per_block) (n / 512) 0) size_is in
    let head = header_read (fork_sectors c.args.fork c.args.per_block) old.content c.args.shape.now long same holds c.get_node.new.into read in
    absurd (c.if-count-ne3.true (c.count.ensures ∙ length-items c.get_node.new.into ∙ head.1))

pub returns-then-count-ne3-clause-settled : goal.returns-then-count-ne3-clause-settled
returns-then-count-ne3-clause-settled g c = λ tells long same holds.
    let old : Space = g.V.SectorView.space c.args.view.now in
    let sectors : List ℕ = fork_sectors c.args.fork c.args.per_block in
    let size_is : length c.in_ok-header.header ≡ c.args.shape.now.node_size = ap (λ (l : List ℕ). length l) c.in_ok-header.ensures ∙ length-replicate c.args.shape.now.node_size 0 in
    let read : c.get_node.new.into ≡ node_of old.content (fork_sectors c.args.fork c.args.per_block) (c.args.shape.now.node_size / 512) 0 = c.in_ok-get_node.ensures.value tells ∙ ap (λ n. node_of old.content (fork_sectors c.args.fork c.args.per_block) (n / 512) 0) size_is in
    let head = header_read (fork_sectors c.args.fork c.args.per_block) old.content c.args.shape.now long same holds c.get_node.new.into read in
    absurd (c.if-count-ne3.true (c.count.ensures ∙ length-items c.get_node.new.into ∙ head.1))

pub returns-then-count-ne3-clause-file : goal.returns-then-count-ne3-clause-file
returns-then-count-ne3-clause-file g c = λ tells long same holds.
    let old : Space = g.V.SectorView.space c.args.view.now in
    let sectors : List ℕ = fork_sectors c.args.fork c.args.per_block in
    let size_is : length c.in_ok-header.header ≡ c.args.shape.now.node_size = ap (λ (l : List ℕ). length l) c.in_ok-header.ensures ∙ length-replicate c.args.shape.now.node_size 0 in
    let read : c.get_node.new.into ≡ node_of old.content (fork_sectors c.args.fork c.args.per_block) (c.args.shape.now.node_size / 512) 0 = c.in_ok-get_node.ensures.value tells ∙ ap (λ n. node_of old.content (fork_sectors c.args.fork c.args.per_block) (n / 512) 0) size_is in
    let head = header_read (fork_sectors c.args.fork c.args.per_block) old.content c.args.shape.now long same holds c.get_node.new.into read in
    absurd (c.if-count-ne3.true (c.count.ensures ∙ length-items c.get_node.new.into ∙ head.1))

pub returns-in_default-clause-agrees : goal.returns-in_default-clause-agrees
returns-in_default-clause-agrees g c = λ tells long same holds.
    let old : Space = g.V.SectorView.space c.args.view.now in
    let sectors : List ℕ = fork_sectors c.args.fork c.args.per_block in
    let size_is : length c.in_ok-header.header ≡ c.args.shape.now.node_size = ap (λ (l : List ℕ). length l) c.in_ok-header.ensures ∙ length-replicate c.args.shape.now.node_size 0 in
    let read : c.get_node.new.into ≡ node_of old.content (fork_sectors c.args.fork c.args.per_block) (c.args.shape.now.node_size / 512) 0 = c.in_ok-get_node.ensures.value tells ∙ ap (λ n. node_of old.content (fork_sectors c.args.fork c.args.per_block) (n / 512) 0) size_is in
    let page_is : length c.in_ok-page.page ≡ c.args.shape.now.node_size = ap (λ (l : List ℕ). length l) c.in_ok-page.ensures ∙ length-replicate c.args.shape.now.node_size 0 in
    let content = (c.in_ok-get_node.ensures.reads.sectors tells).content in
    let told = c.in_ok-get_node.ensures.reads.same.tells ∙ tells in
    let mid : Space = g.V.SectorView.space c.get_node.new.space in
    let has = chain_read (fork_sectors c.args.fork c.args.per_block) old.content c.args.shape.now long same holds c.get_node.new.into read in
    absurd (true≢false (sym (is_none c.in_ok-found.found c.in_default.is (c.in_ok-found.ensures.found told (has_chain_as old.content mid.content (fork_sectors c.args.fork c.args.per_block) (length c.in_ok-page.page) c.args.shape.now.node_size c.args.shape.now.total content page_is has)))))

pub returns-in_default-clause-settled : goal.returns-in_default-clause-settled
returns-in_default-clause-settled g c = λ tells long same holds.
    let old : Space = g.V.SectorView.space c.args.view.now in
    let sectors : List ℕ = fork_sectors c.args.fork c.args.per_block in
    let size_is : length c.in_ok-header.header ≡ c.args.shape.now.node_size = ap (λ (l : List ℕ). length l) c.in_ok-header.ensures ∙ length-replicate c.args.shape.now.node_size 0 in
    let read : c.get_node.new.into ≡ node_of old.content (fork_sectors c.args.fork c.args.per_block) (c.args.shape.now.node_size / 512) 0 = c.in_ok-get_node.ensures.value tells ∙ ap (λ n. node_of old.content (fork_sectors c.args.fork c.args.per_block) (n / 512) 0) size_is in
    let page_is : length c.in_ok-page.page ≡ c.args.shape.now.node_size = ap (λ (l : List ℕ). length l) c.in_ok-page.ensures ∙ length-replicate c.args.shape.now.node_size 0 in
    let content = (c.in_ok-get_node.ensures.reads.sectors tells).content in
    let told = c.in_ok-get_node.ensures.reads.same.tells ∙ tells in
    let mid : Space = g.V.SectorView.space c.get_node.new.space in
    let has = chain_read (fork_sectors c.args.fork c.args.per_block) old.content c.args.shape.now long same holds c.get_node.new.into read in
    absurd (true≢false (sym (is_none c.in_ok-found.found c.in_default.is (c.in_ok-found.ensures.found told (has_chain_as old.content mid.content (fork_sectors c.args.fork c.args.per_block) (length c.in_ok-page.page) c.args.shape.now.node_size c.args.shape.now.total content page_is has)))))

pub returns-in_default-clause-file : goal.returns-in_default-clause-file
returns-in_default-clause-file g c = λ tells long same holds.
    let old : Space = g.V.SectorView.space c.args.view.now in
    let sectors : List ℕ = fork_sectors c.args.fork c.args.per_block in
    let size_is : length c.in_ok-header.header ≡ c.args.shape.now.node_size = ap (λ (l : List ℕ). length l) c.in_ok-header.ensures ∙ length-replicate c.args.shape.now.node_size 0 in
    let read : c.get_node.new.into ≡ node_of old.content (fork_sectors c.args.fork c.args.per_block) (c.args.shape.now.node_size / 512) 0 = c.in_ok-get_node.ensures.value tells ∙ ap (λ n. node_of old.content (fork_sectors c.args.fork c.args.per_block) (n / 512) 0) size_is in
    let page_is : length c.in_ok-page.page ≡ c.args.shape.now.node_size = ap (λ (l : List ℕ). length l) c.in_ok-page.ensures ∙ length-replicate c.args.shape.now.node_size 0 in
    let content = (c.in_ok-get_node.ensures.reads.sectors tells).content in
    let told = c.in_ok-get_node.ensures.reads.same.tells ∙ tells in
    let mid : Space = g.V.SectorView.space c.get_node.new.space in
    let has = chain_read (fork_sectors c.args.fork c.args.per_block) old.content c.args.shape.now long same holds c.get_node.new.into read in
    absurd (true≢false (sym (is_none c.in_ok-found.found c.in_default.is (c.in_ok-found.ensures.found told (has_chain_as old.content mid.content (fork_sectors c.args.fork c.args.per_block) (length c.in_ok-page.page) c.args.shape.now.node_size c.args.shape.now.total content page_is has)))))

pub returns-in_err-found-clause-below : goal.returns-in_err-found-clause-below
returns-in_err-found-clause-below g c = g.met.V.SectorView.follows_trans c.args.view.now c.get_node.new.space c.read_map.new.view c.get_node.ensures.below c.read_map.ensures.below

pub returns-in_err-found-clause-reads : goal.returns-in_err-found-clause-reads
returns-in_err-found-clause-reads g c =
    reads_both (g.V.SectorView.space c.args.view.now) (g.V.SectorView.space c.get_node.new.space) (g.V.SectorView.space c.read_map.new.view) c.get_node.ensures.reads c.read_map.ensures.reads

pub returns-in_err-empty-3-clause-below : goal.returns-in_err-empty-3-clause-below
returns-in_err-empty-3-clause-below g c = g.met.V.SectorView.follows_trans c.args.view.now c.get_node.new.space c.read_map.new.view c.get_node.ensures.below c.read_map.ensures.below

pub returns-in_err-empty-3-clause-reads : goal.returns-in_err-empty-3-clause-reads
returns-in_err-empty-3-clause-reads g c =
    reads_both (g.V.SectorView.space c.args.view.now) (g.V.SectorView.space c.get_node.new.space) (g.V.SectorView.space c.read_map.new.view) c.get_node.ensures.reads c.read_map.ensures.reads

pub returns-in_default-clause-below : goal.returns-in_default-clause-below
returns-in_default-clause-below g c = g.met.V.SectorView.follows_trans c.args.view.now c.get_node.new.space c.read_map.new.view c.get_node.ensures.below c.read_map.ensures.below

pub returns-in_default-clause-reads : goal.returns-in_default-clause-reads
returns-in_default-clause-reads g c =
    reads_both (g.V.SectorView.space c.args.view.now) (g.V.SectorView.space c.get_node.new.space) (g.V.SectorView.space c.read_map.new.view) c.get_node.ensures.reads c.read_map.ensures.reads

pub returns-clause-below : goal.returns-clause-below
returns-clause-below g c = g.met.V.SectorView.follows_trans c.args.view.now c.get_node.new.space c.read_map.new.view c.get_node.ensures.below c.read_map.ensures.below

pub returns-clause-reads : goal.returns-clause-reads
returns-clause-reads g c =
    reads_both (g.V.SectorView.space c.args.view.now) (g.V.SectorView.space c.get_node.new.space) (g.V.SectorView.space c.read_map.new.view) c.get_node.ensures.reads c.read_map.ensures.reads
